-- Values whose members are in order, as reading gives them, are read back from their text.
use Rattle.std.proofs.Common.{◌&&◌, is_some, ◌≡◌, ℕ, suc, ◌^◌, ◌<◌, max, pos, negsuc, List, true, nat_lt, refl, sym, ap}
use Rattle.std.proofs.Common.{ap₂, ◌∙◌, subst, arith, Some, option_map, option_and_then, Ordering, Less, Equal, Greater}
use Rattle.std.proofs.Common.{nat_cmp}
use Rattle.std.specs.Bool.{⊤}
use Rattle.std.specs.Ordering.{match_ordering, ordering_reverse}
use Rattle.std.specs.Cmp.Lexicographic.{slice_cmp, nat_list_cmp_total}
use Rattle.std.proofs.lemmas.Bool.{and_parts, false≢true, ltb-true}
use Rattle.json.specs.Json as json
use Rattle.json.specs.Lex.{tokens}
use Rattle.json.specs.Print.{IsNumber}
use Rattle.json.specs.Tree as tree
use Rattle.json.proofs.Printed.Decimals.{IsNumber-decimal, IsNumber-signed_decimal}
use Rattle.serde_json.specs.Data.{Num, unsigned, negative, float, Data, null, boolean, number, string, array, object}
use Rattle.serde_json.specs.Data.{Items, no_items, item, Members, no_members, member, put, depth, items_depth}
use Rattle.serde_json.specs.Data.{members_depth}
use Rattle.serde_json.specs.Read.{read, number_of, of_json, of_items, of_members, max_depth}
use Rattle.serde_json.specs.Written.{outline, items_outline, members_outline, number_text}
use Rattle.serde_json.proofs.Numbers.{number_of-decimal, number_of-negative}
use Rattle.std.specs.Int.Signed.{lt_z}
use Rattle.ss_record.specs.Marks.{said_text, is_plain_number, is_plain, items_plain, members_plain}
use Rattle.ss_text.proofs.Basics.{and_then_some, map_some}

abbrev cmp : List ℕ → List ℕ → Ordering
cmp = slice_cmp nat_cmp

-- ---- members in order

abbrev pub Below : List ℕ → Members → Type 0
Below k no_members = ⊤
Below k (member l d ms) = cmp k l ≡ Less

abbrev mutual
  pub IsSorted : Data → Type 0
  IsSorted null = ⊤
  IsSorted (boolean b) = ⊤
  IsSorted (number n) = ⊤
  IsSorted (string s) = ⊤
  IsSorted (array ds) = ItemsSorted ds
  IsSorted (object ms) = MembersSorted ms

  pub ItemsSorted : Items → Type 0
  ItemsSorted no_items = ⊤
  ItemsSorted (item d ds) = IsSorted d × ItemsSorted ds

  pub MembersSorted : Members → Type 0
  MembersSorted no_members = ⊤
  MembersSorted (member k d ms) = IsSorted d × Below k ms × MembersSorted ms

less_greater : (k l : List ℕ) → cmp k l ≡ Greater → cmp l k ≡ Less
less_greater k l e = nat_list_cmp_total.antisymm l k ∙ ap ordering_reverse e

greater_less : (k l : List ℕ) → cmp l k ≡ Less → cmp k l ≡ Greater
greater_less k l e = nat_list_cmp_total.antisymm k l ∙ ap ordering_reverse e

Below-put : (k l : List ℕ) (d : Data) (ms : Members) → cmp k l ≡ Less → Below k ms → Below k (put l d ms)
Below-put k l d no_members e b = e
Below-put k l d (member m f ms) e b = go (cmp l m)
  where
    go : (o : Ordering) → Below k (match_ordering o (member l d (member m f ms)) (member m d ms) (member m f (put l d ms)))
    go Less = e
    go Equal = b
    go Greater = b

pub Sorted-put : (k : List ℕ) (d : Data) (ms : Members) → IsSorted d → MembersSorted ms → MembersSorted (put k d ms)
Sorted-put k d no_members h s = (h, tt, tt)
Sorted-put k d (member l e ms) h s = go (cmp k l) refl (Sorted-put k d ms h s.2)
  where
    go : (o : Ordering) → cmp k l ≡ o → MembersSorted (put k d ms) → MembersSorted (match_ordering o (member k d (member l e ms)) (member l d ms) (member l e (put k d ms)))
    go Less q ih = (h, q, s)
    go Equal q ih = (h, s.1, s.2)
    go Greater q ih = (s.0, Below-put l k d ms (less_greater k l q) s.1, ih)

-- what is read is in order
mutual
  pub Sorted-of_json : (j : json.Json) (d : Data) → of_json j ≡ Some d → IsSorted d
  Sorted-of_json json.null d e = let q : null ≡ d = cc in subst IsSorted q tt
  Sorted-of_json (json.boolean b) d e = let q : boolean b ≡ d = cc in subst IsSorted q tt
  Sorted-of_json (json.number s) d e = let r = map_some number (number_of s) d e in subst IsSorted r.2 tt
  Sorted-of_json (json.string s) d e = let q : string s ≡ d = cc in subst IsSorted q tt
  Sorted-of_json (json.array js) d e = let r = map_some array (of_items js) d e in subst IsSorted r.2 (Sorted-of_items js r.0 r.1)
  Sorted-of_json (json.object ms) d e = let r = map_some object (of_members ms no_members) d e in subst IsSorted r.2 (Sorted-of_members ms no_members r.0 tt r.1)

  Sorted-of_items : (js : json.Items) (ds : Items) → of_items js ≡ Some ds → ItemsSorted ds
  Sorted-of_items json.no_items ds e = let q : no_items ≡ ds = cc in subst ItemsSorted q tt
  Sorted-of_items (json.item j js) ds e =
      let r = and_then_some (λ d. option_map (item d) (of_items js)) (of_json j) ds e in
      let s = map_some (item r.0) (of_items js) ds r.2 in
      subst ItemsSorted s.2 (Sorted-of_json j r.0 r.1, Sorted-of_items js s.0 s.1)

  Sorted-of_members : (ms : json.Members) (found all : Members) → MembersSorted found → of_members ms found ≡ Some all → MembersSorted all
  Sorted-of_members json.no_members found all s e = let q : found ≡ all = cc in subst MembersSorted q s
  Sorted-of_members (json.member k j ms) found all s e =
      let r = and_then_some (λ d. of_members ms (put k d found)) (of_json j) all e in
      Sorted-of_members ms (put k r.0 found) all (Sorted-put k r.0 found (Sorted-of_json j r.0 r.1) s) r.2

pub Sorted-read : (text : List ℕ) (d : Data) → read text ≡ Some d → IsSorted d
Sorted-read text d e = let r = and_then_some of_json (option_and_then (λ p. json.if_last p.0 p.1) (json.value max_depth (tokens text))) d e in Sorted-of_json r.0 d r.2

-- ---- plain numbers

pub plain_below : (n : ℕ) → nat_lt n 1000000000000000000 ≡ true → n < 10 ^ 18
plain_below n e = let below : n < 1000000000000000000 = ltb-true n 1000000000000000000 e in omega arith

pub no_positive : (n : ℕ) → is_plain_number (negative (pos n)) ≡ true → ⊥
unfolding is_plain_number
no_positive n e = let below : n < 0 = ltb-true n 0 (and_parts (lt_z (negsuc 999999999999999999) (pos n)) (lt_z (pos n) (pos 0)) e).1 in let never : ⊥ = omega arith in never

pub negative_below : (n : ℕ) → is_plain_number (negative (negsuc n)) ≡ true → suc n < 10 ^ 18
unfolding is_plain_number
negative_below n e = let below : n < 999999999999999999 = ltb-true n 999999999999999999 (and_parts (lt_z (negsuc 999999999999999999) (negsuc n)) (lt_z (negsuc n) (pos 0)) e).0 in omega arith

pub HasNumbers-number : (n : Num) → is_plain_number n ≡ true → IsNumber (number_text n)
unfolding is_plain_number
HasNumbers-number (unsigned n) h = let lt : n < 10 ^ 18 = plain_below n h in IsNumber-decimal n (omega arith)
HasNumbers-number (negative (pos n)) h = absurd (no_positive n h)
HasNumbers-number (negative (negsuc n)) h = let lt : suc n < 10 ^ 18 = negative_below n h in IsNumber-signed_decimal (negsuc n) (omega arith)
HasNumbers-number (float x) h = absurd (false≢true h)

number_back : (n : Num) → is_plain_number n ≡ true → number_of (number_text n) ≡ Some n
unfolding is_plain_number
number_back (unsigned n) h = let lt : n < 10 ^ 18 = plain_below n h in number_of-decimal n (omega arith)
number_back (negative (pos n)) h = absurd (no_positive n h)
number_back (negative (negsuc n)) h = let lt : suc n < 10 ^ 18 = negative_below n h in number_of-negative n (omega arith)
number_back (float x) h = absurd (false≢true h)

mutual
  pub HasNumbers-outline : (d : Data) → is_plain d ≡ true → tree.HasNumbers (outline d)
  HasNumbers-outline null h = tt
  HasNumbers-outline (boolean b) h = tt
  HasNumbers-outline (number n) h = HasNumbers-number n h
  HasNumbers-outline (string s) h = tt
  HasNumbers-outline (array ds) h = ItemsHaveNumbers-outline ds h
  HasNumbers-outline (object ms) h = MembersHaveNumbers-outline ms h

  ItemsHaveNumbers-outline : (ds : Items) → items_plain ds ≡ true → tree.ItemsHaveNumbers (items_outline ds)
  ItemsHaveNumbers-outline no_items h = tt
  ItemsHaveNumbers-outline (item d ds) h = let p = and_parts (is_plain d) (items_plain ds) h in (HasNumbers-outline d p.0, ItemsHaveNumbers-outline ds p.1)

  MembersHaveNumbers-outline : (ms : Members) → members_plain ms ≡ true → tree.MembersHaveNumbers (members_outline ms)
  MembersHaveNumbers-outline no_members h = tt
  MembersHaveNumbers-outline (member k d ms) h = let p = and_parts (is_plain d) (members_plain ms) (and_parts (is_some (said_text k)) (is_plain d && members_plain ms) h).1 in (HasNumbers-outline d p.0, MembersHaveNumbers-outline ms p.1)

mutual
  pub depth-outline : (d : Data) → tree.depth (outline d) ≡ depth d
  depth-outline null = refl
  depth-outline (boolean b) = refl
  depth-outline (number n) = refl
  depth-outline (string s) = refl
  depth-outline (array ds) = ap suc (items_depth-outline ds)
  depth-outline (object ms) = ap suc (members_depth-outline ms)

  items_depth-outline : (ds : Items) → tree.items_depth (items_outline ds) ≡ items_depth ds
  items_depth-outline no_items = refl
  items_depth-outline (item d ds) = ap₂ max (depth-outline d) (items_depth-outline ds)

  members_depth-outline : (ms : Members) → tree.members_depth (members_outline ms) ≡ members_depth ms
  members_depth-outline no_members = refl
  members_depth-outline (member k d ms) = ap₂ max (depth-outline d) (members_depth-outline ms)

-- ---- the value of the outline

joined : Members → Members → Members
joined no_members ms = ms
joined (member k d fs) ms = member k d (joined fs ms)

-- members in order: each name before the last ones
before_last : (l : List ℕ) (fs : Members) (k : List ℕ) (d : Data) (ms : Members) → Below l (joined fs (member k d ms)) → MembersSorted (joined fs (member k d ms)) → cmp l k ≡ Less
unfolding joined
before_last l no_members k d ms b s = b
before_last l (member m e fs) k d ms b s = nat_list_cmp_total.trans l m k b (before_last m fs k d ms s.1 s.2)

put_last : (fs : Members) (k : List ℕ) (d e : Data) (ms : Members) → MembersSorted (joined fs (member k e ms)) → put k d fs ≡ joined fs (member k d no_members)
unfolding joined
put_last no_members k d e ms s = refl
put_last (member l f fs) k d e ms s =
    ap (λ o. match_ordering o (member k d (member l f fs)) (member l d fs) (member l f (put k d fs))) (greater_less k l (before_last l fs k e ms s.1 s.2))
    ∙ ap (member l f) (put_last fs k d e ms s.2)

joined_more : (fs : Members) (k : List ℕ) (d : Data) (ms : Members) → joined (joined fs (member k d no_members)) ms ≡ joined fs (member k d ms)
unfolding joined
joined_more no_members k d ms = refl
joined_more (member l e fs) k d ms = ap (member l e) (joined_more fs k d ms)

joined_nil : (fs : Members) → joined fs no_members ≡ fs
unfolding joined
joined_nil no_members = refl
joined_nil (member l e fs) = ap (member l e) (joined_nil fs)

sorted_at : (fs : Members) (k : List ℕ) (d : Data) (ms : Members) → MembersSorted (joined fs (member k d ms)) → IsSorted d
unfolding joined
sorted_at no_members k d ms s = s.0
sorted_at (member l e fs) k d ms s = sorted_at fs k d ms s.2

mutual
  unfolding joined

  pub of_json-outline : (d : Data) → IsSorted d → is_plain d ≡ true → of_json (outline d) ≡ Some d
  of_json-outline null s h = refl
  of_json-outline (boolean b) s h = refl
  of_json-outline (number n) s h = ap (option_map number) (number_back n h)
  of_json-outline (string t) s h = refl
  of_json-outline (array ds) s h = ap (option_map array) (of_items-outline ds s h)
  of_json-outline (object ms) s h = ap (option_map object) (of_members-outline ms no_members s h)

  of_items-outline : (ds : Items) → ItemsSorted ds → items_plain ds ≡ true → of_items (items_outline ds) ≡ Some ds
  of_items-outline no_items s h = refl
  of_items-outline (item d ds) s h =
      let p = and_parts (is_plain d) (items_plain ds) h in
      ap (option_and_then (λ e. option_map (item e) (of_items (items_outline ds)))) (of_json-outline d s.0 p.0) ∙ ap (option_map (item d)) (of_items-outline ds s.1 p.1)

  of_members-outline : (ms found : Members) → MembersSorted (joined found ms) → members_plain ms ≡ true → of_members (members_outline ms) found ≡ Some (joined found ms)
  of_members-outline no_members found s h = ap Some (sym (joined_nil found))
  of_members-outline (member k d ms) found s h =
      let p = and_parts (is_plain d) (members_plain ms) (and_parts (is_some (said_text k)) (is_plain d && members_plain ms) h).1 in
      ap (option_and_then (λ e. of_members (members_outline ms) (put k e found))) (of_json-outline d (sorted_at found k d ms s) p.0)
      ∙ (ap (of_members (members_outline ms)) (put_last found k d d ms s)
      ∙ (of_members-outline ms (joined found (member k d no_members)) (subst MembersSorted (sym (joined_more found k d ms)) s) p.1
      ∙ ap Some (joined_more found k d ms)))
