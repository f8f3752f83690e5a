-- The parts of a reading that is an item.
use Rattle.std.proofs.Common.{is_some, ◌≡◌, ◌≢◌, ℕ, ◌≤◌, List, [], ◌∷◌, Bool, true, false, not, cond, ◌&&◌, ◌||◌}
use Rattle.std.proofs.Common.{nat_le, refl, sym, ap, ap₂, ◌∙◌, subst, arith, Option, Some, None, option_map}
use Rattle.std.proofs.Common.{option_and_then, unwrap_or, bytes_eq, codes, filter, string_bytes, Less, Equal, Greater}
use Rattle.std.proofs.Common.{nat_cmp, Ordering}
use Rattle.std.specs.Ordering.{match_ordering, is_eq}
use Rattle.std.specs.Cmp.Lexicographic.{slice_cmp, nat_list_cmp_total}
use Rattle.std.proofs.lemmas.Bool.{and_parts, and_from, false≢true, leb-true}
use Rattle.std.proofs.lemmas.Map.Text.{is_eq-slice_cmp}
use Rattle.ss_text.specs.Decimals.{marked_text}
use Rattle.serde_json.specs.Data.{unsigned, negative, float, Data, null, boolean, number, string, array, object, Items}
use Rattle.serde_json.specs.Data.{no_items, item, Members, no_members, member, depth, members_depth}
use Rattle.serde_json.specs.Read.{read}
use Rattle.serde_json.specs.Find.{get_member, as_object}
use Rattle.serde_json.specs.Written.{has_float, items_have_float, members_have_float}
use Rattle.ss_record.specs.declared.kinds.Kind.{Kind}
use Rattle.ss_record.specs.declared.kinds.Kind.TheVariants.{Bookmark, Query, Folder, Livemark, Separator}
use Rattle.ss_record.specs.Items.{ItemView, names_of}
use Rattle.ss_record.specs.declared.readings.Reading.{Reading}
use Rattle.ss_record.specs.declared.readings.Reading.TheVariants.{Item, Tombstone, Skipped}
use Rattle.serde_json.specs.View.{view, members_view}
use Rattle.serde_json.proofs.Views.{Entry}
use Rattle.ss_record.specs.Ids.{has, places, roots}
use Rattle.ss_record.specs.Kinds.{is_folder, kind_of}
use Rattle.ss_record.specs.Payloads.{is_json, without, lacks, is_string, is_true, payload_members}
use Rattle.ss_record.specs.Records.{parentid_of, children_of, item_of, members_reading, reading}
use Rattle.ss_record.specs.Marks.{said_text, string_of, is_plain_number, is_plain, items_plain, members_plain}
use Rattle.ss_record.specs.Marks.{plain_text}
use Rattle.ss_record.proofs.Sorted.{Below, MembersSorted}
use Rattle.ss_text.proofs.Basics.{same_text, and_then_some}

-- ---- the parts of a reading that is an item

pub payload_parts : (text : List ℕ) (ms : Members) → payload_members text ≡ Some ms → (read (marked_text text) ≡ Some (object ms)) × (depth (object ms) ≤ 126) × (members_plain ms ≡ true)
unfolding payload_members
payload_parts text ms e = (r.1 ∙ ap Some l.0, l.1, l.2)
  where
    object_of : (d : Data) → as_object d ≡ Some ms → d ≡ object ms
    object_of null f = cc
    object_of (boolean b) f = cc
    object_of (number n) f = cc
    object_of (string s) f = cc
    object_of (array ds) f = cc
    object_of (object ns) f = let same : ns ≡ ms = cc in ap object same

    low : (d : Data) (b c : Bool) → nat_le (depth d) 126 ≡ b → is_plain d ≡ c → cond (b && c) (as_object d) None ≡ Some ms → (d ≡ object ms) × (depth (object ms) ≤ 126) × (members_plain ms ≡ true)
    low d true true q k f = let same = object_of d f in (same, subst (λ w. depth w ≤ 126) same (leb-true (depth d) 126 q), subst (λ w. is_plain w ≡ true) same k)
    low d true false q k f = cc
    low d false c q k f = cc

    tested : (b : Bool) (o : Option Members) → cond b o None ≡ Some ms → o ≡ Some ms
    tested true o f = f
    tested false o f = cc

    r : (d : Data) × (read (marked_text text) ≡ Some d) × (cond (nat_le (depth d) 126 && is_plain d) (as_object d) None ≡ Some ms)
    r = and_then_some (λ d. cond (nat_le (depth d) 126 && is_plain d) (as_object d) None) (read (marked_text text)) ms (tested (is_json text) _ e)

    l : (r.0 ≡ object ms) × (depth (object ms) ≤ 126) × (members_plain ms ≡ true)
    l = low r.0 (nat_le (depth r.0) 126) (is_plain r.0) refl refl r.2

pub item_parts : (id : List ℕ) (ms : Members) (i : ItemView) (p : Option (List ℕ)) (cs : List (List ℕ)) → item_of id ms ≡ Some (Item i p cs)
    → (plain_text (object (without (names_of i.kind) ms)) ≡ i.content) × ((not (has id roots) || is_folder i.kind) ≡ true)
unfolding item_of
item_parts id ms i p cs e =
    let k = and_then_some _ (option_and_then kind_of (option_and_then string_of (get_member (codes "type") ms))) (Item i p cs) e in
    let q = and_then_some _ (parentid_of (get_member (codes "parentid") ms)) (Item i p cs) k.2 in
    let c = and_then_some _ (children_of (is_folder k.0) (get_member (codes "children") ms)) (Item i p cs) q.2 in
    go k.0 q.0 c.0 (has id roots) (is_folder k.0) refl refl c.2
  where
    some_is : (r s : Reading) → Some r ≡ Some s → r ≡ s
    some_is r s f = cc

    item_is : (j : ItemView) (p1 p2 : Option (List ℕ)) (c1 c2 : List (List ℕ)) → Item j p1 c1 ≡ Item i p2 c2 → j ≡ i
    item_is j p1 p2 c1 c2 f = cc

    told : (kind : Kind) (p2 : Option (List ℕ)) (c2 : List (List ℕ)) → (not (has id roots) || is_folder kind) ≡ true → Some (Item (record { id = id; kind = kind; content = plain_text (object (without (names_of kind) ms)) }) p2 c2) ≡ Some (Item i p cs)
        → (plain_text (object (without (names_of i.kind) ms)) ≡ i.content) × ((not (has id roots) || is_folder i.kind) ≡ true)
    told kind p2 c2 h f =
        let same = item_is (record { id = id; kind = kind; content = plain_text (object (without (names_of kind) ms)) }) p2 p c2 cs (some_is _ _ f) in
        (ap (λ w. plain_text (object (without (names_of w.kind) ms))) (sym same) ∙ ap (λ w. w.content) same, ap (λ w. not (has id roots) || is_folder w.kind) (sym same) ∙ h)

    go : (kind : Kind) (p2 : Option (List ℕ)) (c2 : List (List ℕ)) (a b : Bool) → has id roots ≡ a → is_folder kind ≡ b
        → cond (a && not b) None (Some (Item (record { id = id; kind = kind; content = plain_text (object (without (names_of kind) ms)) }) p2 c2)) ≡ Some (Item i p cs)
        → (plain_text (object (without (names_of i.kind) ms)) ≡ i.content) × ((not (has id roots) || is_folder i.kind) ≡ true)
    go kind p2 c2 true true r f e2 = told kind p2 c2 (ap₂ (λ x y. not x || y) r f) e2
    go kind p2 c2 true false r f e2 = cc
    go kind p2 c2 false b r f e2 = told kind p2 c2 (ap (λ x. not x || is_folder kind) r) e2

pub members_parts : (id : List ℕ) (ms : Members) (i : ItemView) (p : Option (List ℕ)) (cs : List (List ℕ)) → members_reading id ms ≡ Item i p cs
    → (is_true (get_member (codes "deleted") ms) ≡ false) × (item_of id ms ≡ Some (Item i p cs))
unfolding members_reading
members_parts id ms i p cs e = go (not (is_string id (get_member (codes "id") ms))) (is_true (get_member (codes "deleted") ms)) (has id roots) refl e
  where
    last : (o : Option Reading) → unwrap_or o Skipped ≡ Item i p cs → o ≡ Some (Item i p cs)
    last None f = cc
    last (Some r) f = ap Some f

    go : (a b c : Bool) → is_true (get_member (codes "deleted") ms) ≡ b → cond a Skipped (cond b (cond c Skipped Tombstone) (unwrap_or (item_of id ms) Skipped)) ≡ Item i p cs
        → (is_true (get_member (codes "deleted") ms) ≡ false) × (item_of id ms ≡ Some (Item i p cs))
    go true b c q f = cc
    go false true true q f = cc
    go false true false q f = cc
    go false false c q f = (q, last (item_of id ms) f)

pub reading_parts : (id text : List ℕ) (i : ItemView) (p : Option (List ℕ)) (cs : List (List ℕ)) → reading id text ≡ Item i p cs → (ms : Members) × (payload_members text ≡ Some ms) × (members_reading id ms ≡ Item i p cs)
unfolding reading
reading_parts id text i p cs e = go (bytes_eq id places) (payload_members text) refl e
  where
    go : (b : Bool) (o : Option Members) → payload_members text ≡ o → cond b Skipped (unwrap_or (option_map (members_reading id) o) Skipped) ≡ Item i p cs → (ms : Members) × (payload_members text ≡ Some ms) × (members_reading id ms ≡ Item i p cs)
    go true o q f = cc
    go false None q f = cc
    go false (Some ms) q f = (ms, q, f)

-- ---- the members that are content

pub without_lacks : (names : List (List ℕ)) (ms : Members) → lacks names (without names ms) ≡ true
without_lacks names no_members = refl
without_lacks names (member k d ms) = go (has k names) refl (without_lacks names ms)
  where
    go : (b : Bool) → has k names ≡ b → lacks names (without names ms) ≡ true → lacks names (cond b (without names ms) (member k d (without names ms))) ≡ true
    go true q ih = ih
    go false q ih = ap₂ (λ a b. not a && b) q ih

pub without_plain : (names : List (List ℕ)) (ms : Members) → members_plain ms ≡ true → members_plain (without names ms) ≡ true
without_plain names no_members h = refl
without_plain names (member k d ms) h = go (has k names) (without_plain names ms rest.1)
  where
    parts : (is_some (said_text k) ≡ true) × ((is_plain d && members_plain ms) ≡ true)
    parts = and_parts (is_some (said_text k)) (is_plain d && members_plain ms) h

    rest : (is_plain d ≡ true) × (members_plain ms ≡ true)
    rest = and_parts (is_plain d) (members_plain ms) parts.1

    go : (b : Bool) → members_plain (without names ms) ≡ true → members_plain (cond b (without names ms) (member k d (without names ms))) ≡ true
    go true ih = ih
    go false ih = and_from _ _ parts.0 (and_from _ _ rest.0 ih)

pub without_depth : (names : List (List ℕ)) (ms : Members) (n : ℕ) → members_depth ms ≤ n → members_depth (without names ms) ≤ n
without_depth names no_members n h = h
without_depth names (member k d ms) n h = go (has k names) (without_depth names ms n (omega arith))
  where
    go : (b : Bool) → members_depth (without names ms) ≤ n → members_depth (cond b (without names ms) (member k d (without names ms))) ≤ n
    go true ih = ih
    go false ih = omega arith

Below-without : (names : List (List ℕ)) (k : List ℕ) (ms : Members) → Below k ms → MembersSorted ms → Below k (without names ms)
Below-without names k no_members b s = tt
Below-without names k (member l d ms) b s = go (has l names) (Below-without names k ms (skip ms s.1) s.2)
  where
    skip : (ns : Members) → Below l ns → Below k ns
    skip no_members c = tt
    skip (member m e ns) c = nat_list_cmp_total.trans k l m b c

    go : (x : Bool) → Below k (without names ms) → Below k (cond x (without names ms) (member l d (without names ms)))
    go true ih = ih
    go false ih = b

pub without_sorted : (names : List (List ℕ)) (ms : Members) → MembersSorted ms → MembersSorted (without names ms)
without_sorted names no_members s = tt
without_sorted names (member k d ms) s = go (has k names) (without_sorted names ms s.2)
  where
    go : (b : Bool) → MembersSorted (without names ms) → MembersSorted (cond b (without names ms) (member k d (without names ms)))
    go true ih = ih
    go false ih = (s.0, Below-without names k ms s.1 s.2, ih)

get-skip : (q k : List ℕ) (d : Data) (ms : Members) → q ≢ k → get_member q (member k d ms) ≡ get_member q ms
get-skip q k d ms ne = go (slice_cmp nat_cmp q k) refl
  where
    go : (o : Ordering) → slice_cmp nat_cmp q k ≡ o → match_ordering o (get_member q ms) (Some d) (get_member q ms) ≡ get_member q ms
    go Less e = refl
    go Equal e = absurd (ne (same_text q k (sym (is_eq-slice_cmp q k) ∙ ap is_eq e)))
    go Greater e = refl

pub get-without : (names : List (List ℕ)) (q : List ℕ) (ms : Members) → has q names ≡ false → get_member q (without names ms) ≡ get_member q ms
get-without names q no_members h = refl
get-without names q (member k d ms) h = go (has k names) refl (get-without names q ms h)
  where
    go : (b : Bool) → has k names ≡ b → get_member q (without names ms) ≡ get_member q ms → get_member q (cond b (without names ms) (member k d (without names ms))) ≡ get_member q (member k d ms)
    go true e ih = ih ∙ sym (get-skip q k d ms (λ same. false≢true (sym h ∙ (ap (λ w. has w names) same ∙ e))))
    go false e ih = ap (λ r. match_ordering (slice_cmp nat_cmp q k) r (Some d) r) ih

pub deleted_kept : (kind : Kind) → has (codes "deleted") (names_of kind) ≡ false
unfolding names_of has
deleted_kept Bookmark = refl
deleted_kept Query = refl
deleted_kept Folder = refl
deleted_kept Livemark = refl
deleted_kept Separator = refl

-- ---- a payload has no float

mutual
  unfolding is_plain_number

  float_plain : (d : Data) → is_plain d ≡ true → has_float d ≡ false
  float_plain null h = refl
  float_plain (boolean b) h = refl
  float_plain (number (unsigned n)) h = refl
  float_plain (number (negative z)) h = refl
  float_plain (number (float x)) h = absurd (false≢true h)
  float_plain (string s) h = refl
  float_plain (array ds) h = float_items ds h
  float_plain (object ms) h = float_members ms h

  float_items : (ds : Items) → items_plain ds ≡ true → items_have_float ds ≡ false
  float_items no_items h = refl
  float_items (item d ds) h = let p = and_parts (is_plain d) (items_plain ds) h in ap₂ (λ a b. a || b) (float_plain d p.0) (float_items ds p.1)

  pub float_members : (ms : Members) → members_plain ms ≡ true → members_have_float ms ≡ false
  float_members no_members h = refl
  float_members (member k d ms) h = let p = and_parts (is_plain d) (members_plain ms) (and_parts (is_some (said_text k)) (is_plain d && members_plain ms) h).1 in ap₂ (λ a b. a || b) (float_plain d p.0) (float_members ms p.1)

pub payload_plain : (text : List ℕ) (ms : Members) → payload_members text ≡ Some ms → members_plain ms ≡ true
payload_plain text ms e = (payload_parts text ms e).2

pub no_float : (text : List ℕ) (ms : Members) → payload_members text ≡ Some ms → members_have_float ms ≡ false
no_float text ms e = float_members ms (payload_plain text ms e)

pub no_float_without : (names : List (List ℕ)) (text : List ℕ) (ms : Members) → payload_members text ≡ Some ms → members_have_float (without names ms) ≡ false
no_float_without names text ms e = float_members (without names ms) (without_plain names ms (payload_plain text ms e))

-- ---- what a look over the members keeps

pub without_kept : (names : List (List ℕ)) (es : List Entry) → members_view (filter (λ e. not (has (string_bytes e.0) names)) es) ≡ without names (members_view es)
without_kept names [] = refl
without_kept names (e ∷ es) = go (has (string_bytes e.0) names) (without_kept names es)
  where
    rest : List Entry
    rest = filter (λ d. not (has (string_bytes d.0) names)) es

    go : (b : Bool) → members_view rest ≡ without names (members_view es) → members_view (cond (not b) (e ∷ rest) rest) ≡ cond b (without names (members_view es)) (member (string_bytes e.0) (view e.1) (without names (members_view es)))
    go true ih = ih
    go false ih = ap (member (string_bytes e.0) (view e.1)) ih
