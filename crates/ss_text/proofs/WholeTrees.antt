-- A value whose numbers are not to be wrapped has no float.
use Rattle.std.proofs.Common.{◌≡◌, ℕ, List, ◌++◌, false, Option, Some, None, option_map, option_and_then, refl, sym, ap}
use Rattle.std.proofs.Common.{◌∙◌, subst, append_assoc}
use Rattle.std.specs.Ordering.{nat_cmp, match_ordering}
use Rattle.std.specs.Cmp.Lexicographic.{slice_cmp}
use Rattle.std.specs.declared.cmp.Ordering.{Ordering}
use Rattle.std.specs.declared.cmp.Ordering.TheVariants.{Less, Equal, Greater}
use Rattle.json.specs.Token.{Token}
use Rattle.json.specs.Print.{IsNumber}
use Rattle.json.specs.Tree.{json_tokens, items_tokens, members_tokens}
use Rattle.json.specs.Json as json
use Rattle.serde_json.specs.Data.{Num, Data, number, array, object, Items, item, Members, no_members, member, put}
use Rattle.serde_json.specs.Read.{number_of, of_json, of_items, of_members}
use Rattle.serde_json.specs.Written.{has_float, items_have_float, members_have_float}
use Rattle.ss_text.specs.Decimals.{is_decimal}
use Rattle.ss_text.specs.Tokens.{AreWhole}
use Rattle.ss_text.proofs.Whole.{number_is_whole}
use Rattle.ss_text.proofs.Basics.{some_same, neither_left, neither_right}
use Rattle.std.proofs.lemmas.Bool.{or_from}

abbrev mutual
  JsonWhole : json.Json → Type 0
  JsonWhole json.null = Unit {0}
  JsonWhole (json.boolean b) = Unit {0}
  JsonWhole (json.number s) = IsNumber s × (is_decimal s ≡ false)
  JsonWhole (json.string s) = Unit {0}
  JsonWhole (json.array js) = ItemsWhole js
  JsonWhole (json.object ms) = MembersWhole ms

  ItemsWhole : json.Items → Type 0
  ItemsWhole json.no_items = Unit {0}
  ItemsWhole (json.item j js) = JsonWhole j × ItemsWhole js

  MembersWhole : json.Members → Type 0
  MembersWhole json.no_members = Unit {0}
  MembersWhole (json.member k j ms) = JsonWhole j × MembersWhole ms

mutual
  from_value : (j : json.Json) (r : List Token) → AreWhole (json_tokens j ++ r) → JsonWhole j × AreWhole r
  from_value json.null r h = (tt, h.1)
  from_value (json.boolean b) r h = (tt, h.1)
  from_value (json.number s) r h = (h.0, h.1)
  from_value (json.string s) r h = (tt, h.1)
  from_value (json.array js) r h = from_items js r h.1
  from_value (json.object ms) r h = from_members ms r h.1

  from_items : (js : json.Items) (r : List Token) → AreWhole (items_tokens js ++ r) → ItemsWhole js × AreWhole r
  from_items json.no_items r h = (tt, h.1)
  from_items (json.item j js) r h =
      let first = from_value j (items_tokens js ++ r) (subst AreWhole (append_assoc (json_tokens j) (items_tokens js) r) h) in
      let rest = from_items js r first.1 in
      ((first.0, rest.0), rest.1)

  from_members : (ms : json.Members) (r : List Token) → AreWhole (members_tokens ms ++ r) → MembersWhole ms × AreWhole r
  from_members json.no_members r h = (tt, h.1)
  from_members (json.member k j ms) r h =
      let first = from_value j (members_tokens ms ++ r) (subst AreWhole (append_assoc (json_tokens j) (members_tokens ms) r) h.1) in
      let rest = from_members ms r first.1 in
      ((first.0, rest.0), rest.1)

ordered : (o : Ordering) (a b c : Members) → members_have_float a ≡ false → members_have_float b ≡ false → members_have_float c ≡ false → members_have_float (match_ordering o a b c) ≡ false
ordered Less a b c p q r = p
ordered Equal a b c p q r = q
ordered Greater a b c p q r = r

put_whole : (k : List ℕ) (d : Data) (ms : Members) → has_float d ≡ false → members_have_float ms ≡ false → members_have_float (put k d ms) ≡ false
put_whole k d no_members h g = or_from _ _ h refl
put_whole k d (member l e ms) h g =
    ordered (slice_cmp nat_cmp k l) (member k d (member l e ms)) (member l d ms) (member l e (put k d ms))
    (or_from _ _ h g) (or_from _ _ h (neither_right (has_float e) (members_have_float ms) g))
    (or_from _ _ (neither_left (has_float e) (members_have_float ms) g) (put_whole k d ms h (neither_right (has_float e) (members_have_float ms) g)))

at_number : (o : Option Num) (d : Data) → ((n : Num) → o ≡ Some n → has_float (number n) ≡ false) → option_map number o ≡ Some d → has_float d ≡ false
at_number None d h e = cc
at_number (Some n) d h e = ap has_float (sym (some_same e)) ∙ h n refl

at_array : (o : Option Items) (d : Data) → ((ds : Items) → o ≡ Some ds → items_have_float ds ≡ false) → option_map array o ≡ Some d → has_float d ≡ false
at_array None d h e = cc
at_array (Some ds) d h e = ap has_float (sym (some_same e)) ∙ h ds refl

at_object : (o : Option Members) (d : Data) → ((ms : Members) → o ≡ Some ms → members_have_float ms ≡ false) → option_map object o ≡ Some d → has_float d ≡ false
at_object None d h e = cc
at_object (Some ms) d h e = ap has_float (sym (some_same e)) ∙ h ms refl

at_item : (o : Option Data) (p : Option Items) (ds : Items) → ((d : Data) → o ≡ Some d → has_float d ≡ false) → ((es : Items) → p ≡ Some es → items_have_float es ≡ false)
    → option_and_then (λ d. option_map (item d) p) o ≡ Some ds → items_have_float ds ≡ false
at_item None p ds h g e = cc
at_item (Some d) None ds h g e = cc
at_item (Some d) (Some es) ds h g e = ap items_have_float (sym (some_same e)) ∙ or_from _ _ (h d refl) (g es refl)

at_member : (o : Option Data) (f : Data → Option Members) (out : Members) → ((d : Data) → o ≡ Some d → has_float d ≡ false)
    → ((d : Data) → has_float d ≡ false → f d ≡ Some out → members_have_float out ≡ false) → option_and_then f o ≡ Some out → members_have_float out ≡ false
at_member None f out h g e = cc
at_member (Some d) f out h g e = g d (h d refl) e

mutual
  whole_value : (j : json.Json) (d : Data) → JsonWhole j → of_json j ≡ Some d → has_float d ≡ false
  whole_value json.null d h e = ap has_float (sym (some_same e))
  whole_value (json.boolean b) d h e = ap has_float (sym (some_same e))
  whole_value (json.number s) d h e = at_number (number_of s) d (λ n r. number_is_whole s h.0 h.1 n r) e
  whole_value (json.string s) d h e = ap has_float (sym (some_same e))
  whole_value (json.array js) d h e = at_array (of_items js) d (λ ds r. whole_items js ds h r) e
  whole_value (json.object ms) d h e = at_object (of_members ms no_members) d (λ ds r. whole_members ms no_members ds h refl r) e

  whole_items : (js : json.Items) (ds : Items) → ItemsWhole js → of_items js ≡ Some ds → items_have_float ds ≡ false
  whole_items json.no_items ds h e = ap items_have_float (sym (some_same e))
  whole_items (json.item j js) ds h e = at_item (of_json j) (of_items js) ds (λ d r. whole_value j d h.0 r) (λ es r. whole_items js es h.1 r) e

  whole_members : (ms : json.Members) (found out : Members) → MembersWhole ms → members_have_float found ≡ false → of_members ms found ≡ Some out → members_have_float out ≡ false
  whole_members json.no_members found out h g e = ap members_have_float (sym (some_same e)) ∙ g
  whole_members (json.member k j ms) found out h g e =
      at_member (of_json j) (λ d. of_members ms (put k d found)) out (λ d r. whole_value j d h.0 r) (λ d w r. whole_members ms (put k d found) out h.1 (put_whole k d found w g) r) e

pub whole_tree : (j : json.Json) (r : List Token) (d : Data) → AreWhole (json_tokens j ++ r) → of_json j ≡ Some d → has_float d ≡ false
whole_tree j r d h e = whole_value j d (from_value j r h).0 e
