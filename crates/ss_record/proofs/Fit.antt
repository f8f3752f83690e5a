-- An item passes the test exactly where it is fit.
use Rattle.std.proofs.Common.{is_some, ◌≡◌, ◌≢◌, ℕ, ◌≤◌, List, [], ◌∷◌, Bool, true, false, not, cond, ◌&&◌, ◌||◌, inr}
use Rattle.std.proofs.Common.{refl, sym, ap, ◌∙◌, arith, Option, Some, None, option_map, option_and_then, unwrap_or}
use Rattle.std.proofs.Common.{bytes_eq, codes, ◌↔◌, inl}
use Rattle.std.proofs.lemmas.Bool.{and_parts, and_from, false≢true, not-true}
use Rattle.serde_json.specs.Data.{string, array, object, Members, no_members, put, depth, items_depth, members_depth}
use Rattle.serde_json.specs.Read.{read}
use Rattle.serde_json.specs.Find.{get_member, as_object}
use Rattle.serde_json.specs.Written.{members_have_float}
use Rattle.serde_json.proofs.Views.{get_member-put, get_member-put_other}
use Rattle.ss_record.specs.declared.kinds.Kind.{Kind}
use Rattle.ss_record.specs.Items.{empty_folder, ItemView, names_of, are_content, has_content, is_fit}
use Rattle.ss_record.specs.declared.readings.Reading.TheVariants.{Item, Skipped}
use Rattle.std.specs.Fmt.{digits}
use Rattle.serde_json.proofs.OnLiterals.{serde_json_on_literals}
use Rattle.ss_text.specs.Decimals.{pieces, is_decimal, marked_text}
use Rattle.ss_record.specs.Ids.{has, places, roots}
use Rattle.ss_record.specs.Kinds.{is_folder, kind_name}
use Rattle.ss_record.specs.Payloads.{without, lacks, is_true, payload_members}
use Rattle.ss_record.specs.Records.{children_of, item_of, members_reading, reading, string_items, record_members}
use Rattle.ss_record.specs.Records.{record_of, ReadsBack, IsFit}
use Rattle.ss_record.specs.Marks.{marked_string, said_text, is_string_or_decimal, members_plain, plain_text}
use Rattle.ss_record.proofs.Strings.{said_marked, string_plain, name_plain, kind_said}
use Rattle.ss_record.proofs.IdLists.{bytes_eq-refl, bytes_eq-apart}
use Rattle.ss_record.proofs.OfId.{kind_of-name}
use Rattle.ss_record.proofs.Sorted.{IsSorted, MembersSorted, Sorted-put, Sorted-read}
use Rattle.ss_record.specs.declared.kinds.Kind.TheVariants.{Bookmark, Query, Folder, Livemark, Separator}
use Rattle.ss_record.proofs.Exact.{float_members, payload_plain, payload_parts, item_parts, members_parts}
use Rattle.ss_record.proofs.Exact.{reading_parts, without_lacks, without_plain, without_depth, without_sorted}
use Rattle.ss_record.proofs.Exact.{get-without, deleted_kept}
use Rattle.ss_record.proofs.Unmarked.{lacks-without, without-put, plain-put, depth-put, plain_strings, flat_strings}
use Rattle.ss_record.proofs.Unmarked.{strings_back, payload_back}
use Rattle.ss_text.proofs.Basics.{same_text, bytes_eq-same}

-- ---- the record of an item with such a content

with_names : List ℕ → Kind → Members → List ℕ → Members
with_names id kind ms parent = put (codes "id") (string (marked_string id)) (put (codes "type") (string (kind_name kind)) (put (codes "parentid") (string (marked_string parent)) ms))

pub differ : (x y : List ℕ) → bytes_eq x y ≡ false → x ≢ y
differ x y h e = false≢true (sym h ∙ bytes_eq-same x y e)

get-id : (id : List ℕ) (kind : Kind) (ms : Members) (p : List ℕ) → get_member (codes "id") (with_names id kind ms p) ≡ Some (string (marked_string id))
unfolding with_names
get-id id kind ms p = get_member-put (codes "id") (string (marked_string id)) (put (codes "type") (string (kind_name kind)) (put (codes "parentid") (string (marked_string p)) ms))

get-type : (id : List ℕ) (kind : Kind) (ms : Members) (p : List ℕ) → get_member (codes "type") (with_names id kind ms p) ≡ Some (string (kind_name kind))
unfolding with_names
get-type id kind ms p = get_member-put_other (codes "type") (codes "id") (string (marked_string id)) (put (codes "type") (string (kind_name kind)) (put (codes "parentid") (string (marked_string p)) ms)) (differ (codes "type") (codes "id") refl) ∙ get_member-put (codes "type") (string (kind_name kind)) (put (codes "parentid") (string (marked_string p)) ms)

get-parentid : (id : List ℕ) (kind : Kind) (ms : Members) (p : List ℕ) → get_member (codes "parentid") (with_names id kind ms p) ≡ Some (string (marked_string p))
unfolding with_names
get-parentid id kind ms p =
    get_member-put_other (codes "parentid") (codes "id") (string (marked_string id)) (put (codes "type") (string (kind_name kind)) (put (codes "parentid") (string (marked_string p)) ms)) (differ (codes "parentid") (codes "id") refl)
    ∙ (get_member-put_other (codes "parentid") (codes "type") (string (kind_name kind)) (put (codes "parentid") (string (marked_string p)) ms) (differ (codes "parentid") (codes "type") refl)
    ∙ get_member-put (codes "parentid") (string (marked_string p)) ms)

get-deleted : (id : List ℕ) (kind : Kind) (ms : Members) (p : List ℕ) → get_member (codes "deleted") (with_names id kind ms p) ≡ get_member (codes "deleted") ms
unfolding with_names
get-deleted id kind ms p =
    get_member-put_other (codes "deleted") (codes "id") (string (marked_string id)) (put (codes "type") (string (kind_name kind)) (put (codes "parentid") (string (marked_string p)) ms)) (differ (codes "deleted") (codes "id") refl)
    ∙ (get_member-put_other (codes "deleted") (codes "type") (string (kind_name kind)) (put (codes "parentid") (string (marked_string p)) ms) (differ (codes "deleted") (codes "type") refl)
    ∙ get_member-put_other (codes "deleted") (codes "parentid") (string (marked_string p)) ms (differ (codes "deleted") (codes "parentid") refl))

-- a name other than `children`
get-record : (q : List ℕ) (id : List ℕ) (kind : Kind) (ms : Members) (p : List ℕ) (cs : List (List ℕ)) → q ≢ codes "children" → get_member q (record_members id kind ms p cs) ≡ get_member q (with_names id kind ms p)
unfolding record_members with_names
get-record q id kind ms p cs ne = go (is_folder kind)
  where
    go : (b : Bool) → get_member q (cond b (put (codes "children") (array (string_items cs)) (with_names id kind ms p)) (with_names id kind ms p)) ≡ get_member q (with_names id kind ms p)
    go true = get_member-put_other q (codes "children") (array (string_items cs)) (with_names id kind ms p) ne
    go false = refl

get-children : (id : List ℕ) (kind : Kind) (ms : Members) (p : List ℕ) (cs : List (List ℕ)) → children_of (is_folder kind) (get_member (codes "children") (record_members id kind ms p cs)) ≡ Some (cond (is_folder kind) cs [])
unfolding record_members with_names
get-children id kind ms p cs = go (is_folder kind)
  where
    go : (b : Bool) → children_of b (get_member (codes "children") (cond b (put (codes "children") (array (string_items cs)) (with_names id kind ms p)) (with_names id kind ms p))) ≡ Some (cond b cs [])
    go true = ap (children_of true) (get_member-put (codes "children") (array (string_items cs)) (with_names id kind ms p)) ∙ strings_back cs
    go false = refl

-- what holds of the members and is kept by each put
record_keeps : (P : Members → Type 0) (id : List ℕ) (kind : Kind) (ms : Members) (p : List ℕ) (cs : List (List ℕ))
    → ((k s : List ℕ) (m : Members) → is_some (said_text k) ≡ true → is_string_or_decimal s ≡ true → P m → P (put k (string s) m)) → ((m : Members) → P m → P (put (codes "children") (array (string_items cs)) m)) → P ms → P (record_members id kind ms p cs)
unfolding record_members said_text
record_keeps P id kind ms p cs text list h =
    go (is_folder kind)
    (text (codes "id") (marked_string id) _ refl (string_plain id) (text (codes "type") (kind_name kind) _ refl (name_plain (kind_name kind) (ap is_some (kind_said kind))) (text (codes "parentid") (marked_string p) ms refl (string_plain p) h)))
  where
    go : (b : Bool) → P (put (codes "id") (string (marked_string id)) (put (codes "type") (string (kind_name kind)) (put (codes "parentid") (string (marked_string p)) ms)))
        → P (cond b (put (codes "children") (array (string_items cs)) (put (codes "id") (string (marked_string id)) (put (codes "type") (string (kind_name kind)) (put (codes "parentid") (string (marked_string p)) ms)))) (put (codes "id") (string (marked_string id)) (put (codes "type") (string (kind_name kind)) (put (codes "parentid") (string (marked_string p)) ms))))
    go true q = list _ q
    go false q = q

sorted_strings : (ss : List (List ℕ)) → IsSorted (array (string_items ss))
sorted_strings [] = tt
sorted_strings (s ∷ ss) = (tt, sorted_strings ss)

record_sorted : (id : List ℕ) (kind : Kind) (ms : Members) (p : List ℕ) (cs : List (List ℕ)) → MembersSorted ms → MembersSorted (record_members id kind ms p cs)
record_sorted id kind ms p cs h = record_keeps MembersSorted id kind ms p cs (λ k s m n t q. Sorted-put k (string s) m tt q) (λ m q. Sorted-put (codes "children") (array (string_items cs)) m (sorted_strings cs) q) h

children_name : is_some (said_text (codes "children")) ≡ true
unfolding said_text
children_name = refl

record_plain : (id : List ℕ) (kind : Kind) (ms : Members) (p : List ℕ) (cs : List (List ℕ)) → members_plain ms ≡ true → members_plain (record_members id kind ms p cs) ≡ true
record_plain id kind ms p cs h = record_keeps (λ m. members_plain m ≡ true) id kind ms p cs (λ k s m n t q. plain-put k (string s) m n t q) (λ m q. plain-put (codes "children") (array (string_items cs)) m children_name (plain_strings cs) q) h

record_depth : (id : List ℕ) (kind : Kind) (ms : Members) (p : List ℕ) (cs : List (List ℕ)) → members_depth ms ≤ 125 → members_depth (record_members id kind ms p cs) ≤ 125
record_depth id kind ms p cs h =
    record_keeps (λ m. members_depth m ≤ 125) id kind ms p cs (λ k s m n t q. depth-put k (string s) m 125 (omega arith) q)
    (λ m q. depth-put (codes "children") (array (string_items cs)) m 125 (let e : items_depth (string_items cs) ≡ 0 = flat_strings cs in omega arith) q) h

-- the content of the record is the content
record_content : (id : List ℕ) (kind : Kind) (ms : Members) (p : List ℕ) (cs : List (List ℕ)) → lacks (names_of kind) ms ≡ true → without (names_of kind) (record_members id kind ms p cs) ≡ ms
unfolding record_members names_of has
record_content id kind ms p cs h = go (is_folder kind) h
  where
    go : (b : Bool) → lacks (codes "id" ∷ codes "type" ∷ codes "parentid" ∷ cond b (codes "children" ∷ []) []) ms ≡ true
        → without (codes "id" ∷ codes "type" ∷ codes "parentid" ∷ cond b (codes "children" ∷ []) [])
        (cond b (put (codes "children") (array (string_items cs)) (put (codes "id") (string (marked_string id)) (put (codes "type") (string (kind_name kind)) (put (codes "parentid") (string (marked_string p)) ms)))) (put (codes "id") (string (marked_string id)) (put (codes "type") (string (kind_name kind)) (put (codes "parentid") (string (marked_string p)) ms)))) ≡ ms
    go true l =
        let names : List (List ℕ) = codes "id" ∷ codes "type" ∷ codes "parentid" ∷ codes "children" ∷ [] in
        without-put names (codes "children") (array (string_items cs)) (put (codes "id") (string (marked_string id)) (put (codes "type") (string (kind_name kind)) (put (codes "parentid") (string (marked_string p)) ms))) refl
        ∙ (without-put names (codes "id") (string (marked_string id)) (put (codes "type") (string (kind_name kind)) (put (codes "parentid") (string (marked_string p)) ms)) refl
        ∙ (without-put names (codes "type") (string (kind_name kind)) (put (codes "parentid") (string (marked_string p)) ms) refl
        ∙ (without-put names (codes "parentid") (string (marked_string p)) ms refl ∙ lacks-without names ms l)))
    go false l =
        let names : List (List ℕ) = codes "id" ∷ codes "type" ∷ codes "parentid" ∷ [] in
        without-put names (codes "id") (string (marked_string id)) (put (codes "type") (string (kind_name kind)) (put (codes "parentid") (string (marked_string p)) ms)) refl
        ∙ (without-put names (codes "type") (string (kind_name kind)) (put (codes "parentid") (string (marked_string p)) ms) refl
        ∙ (without-put names (codes "parentid") (string (marked_string p)) ms refl ∙ lacks-without names ms l))

-- ---- the reading of the record

item_given : (id : List ℕ) (ms : Members) (kind : Kind) (p : List ℕ) (cs : List (List ℕ))
    → get_member (codes "id") ms ≡ Some (string (marked_string id)) → is_true (get_member (codes "deleted") ms) ≡ false
    → get_member (codes "type") ms ≡ Some (string (kind_name kind)) → get_member (codes "parentid") ms ≡ Some (string (marked_string p))
    → children_of (is_folder kind) (get_member (codes "children") ms) ≡ Some cs → (has id roots && not (is_folder kind)) ≡ false
    → members_reading id ms ≡ Item (record { id = id; kind = kind; content = plain_text (object (without (names_of kind) ms)) }) (Some p) cs
unfolding members_reading item_of
item_given id ms kind p cs e1 e2 e3 e4 e5 e6 = rw (e1, said_marked id, bytes_eq-refl id, e2, e3, kind_said kind, kind_of-name kind, e4, said_marked p, e5, e6)

-- the parts of the test
record IsContent (i : ItemView) (ms : Members) : Type 0 where
  text : plain_text (object ms) ≡ i.content
  alone : lacks (names_of i.kind) ms ≡ true
  live : is_true (get_member (codes "deleted") ms) ≡ false
  root : (not (has i.id roots) || is_folder i.kind) ≡ true

content_parts : (i : ItemView) (ms : Members) → are_content i ms ≡ true → IsContent i ms
unfolding are_content
content_parts i ms h =
    let a = and_parts (bytes_eq (plain_text (object ms)) i.content) (lacks (names_of i.kind) ms && (not (is_true (get_member (codes "deleted") ms)) && (not (has i.id roots) || is_folder i.kind))) h in
    let b = and_parts (lacks (names_of i.kind) ms) (not (is_true (get_member (codes "deleted") ms)) && (not (has i.id roots) || is_folder i.kind)) a.1 in
    let c = and_parts (not (is_true (get_member (codes "deleted") ms))) (not (has i.id roots) || is_folder i.kind) b.1 in
    record { text = same_text (plain_text (object ms)) i.content a.0; alone = b.0; live = not-true (is_true (get_member (codes "deleted") ms)) c.0; root = c.1 }

pub content_fits : (i : ItemView) (ms : Members) → i.id ≢ places → payload_members i.content ≡ Some ms → are_content i ms ≡ true → (p : List ℕ) (cs : List (List ℕ)) → ReadsBack i p cs
unfolding reading record_of
content_fits i ms ne r h p cs =
    let parts = content_parts i ms h in
    let read_parts = payload_parts i.content ms r in
    let all : Members = record_members i.id i.kind ms p cs in
    let shallow : depth (object ms) ≤ 126 = read_parts.1 in
    let low : members_depth all ≤ 125 = record_depth i.id i.kind ms p cs (omega arith) in
    let plain : members_plain ms ≡ true = read_parts.2 in
    let payload : payload_members (plain_text (object all)) ≡ Some all = payload_back all (record_sorted i.id i.kind ms p cs (Sorted-read (marked_text i.content) (object ms) read_parts.0)) (record_plain i.id i.kind ms p cs plain) (omega arith) in
    let text : unwrap_or (option_map (λ m. plain_text (object (record_members i.id i.kind m p cs))) (option_and_then as_object (read (marked_text i.content)))) [] ≡ plain_text (object all) = ap (λ o. unwrap_or (option_map (λ m. plain_text (object (record_members i.id i.kind m p cs))) (option_and_then as_object o)) []) read_parts.0 in
    let given = item_given i.id all i.kind p (cond (is_folder i.kind) cs [])
    (get-record (codes "id") i.id i.kind ms p cs (differ (codes "id") (codes "children") refl) ∙ get-id i.id i.kind ms p)
    (ap is_true (get-record (codes "deleted") i.id i.kind ms p cs (differ (codes "deleted") (codes "children") refl) ∙ get-deleted i.id i.kind ms p) ∙ parts.live)
    (get-record (codes "type") i.id i.kind ms p cs (differ (codes "type") (codes "children") refl) ∙ get-type i.id i.kind ms p)
    (get-record (codes "parentid") i.id i.kind ms p cs (differ (codes "parentid") (codes "children") refl) ∙ get-parentid i.id i.kind ms p)
    (get-children i.id i.kind ms p cs)
    (no_leaf (has i.id roots) (is_folder i.kind) parts.root) in
    let content : plain_text (object (without (names_of i.kind) all)) ≡ i.content = ap (λ m. plain_text (object m)) (record_content i.id i.kind ms p cs parts.alone) ∙ parts.text in
    ap (λ w. cond (bytes_eq i.id places) Skipped (unwrap_or (option_map (members_reading i.id) (payload_members w)) Skipped)) text
    ∙ (ap (λ w. cond (bytes_eq i.id places) Skipped (unwrap_or (option_map (members_reading i.id) w) Skipped)) payload
    ∙ (ap (λ w. cond w Skipped (members_reading i.id all)) (bytes_eq-apart i.id places ne)
    ∙ (given ∙ ap (λ w. Item (record { id = i.id; kind = i.kind; content = w }) (Some p) (cond (is_folder i.kind) cs [])) content)))
  where
    no_leaf : (a b : Bool) → (not a || b) ≡ true → (a && not b) ≡ false
    no_leaf true true h2 = refl
    no_leaf true false h2 = absurd (false≢true h2)
    no_leaf false b h2 = refl

pub fit_from_test : (i : ItemView) → i.id ≢ places → has_content i ≡ true → IsFit i
unfolding has_content
fit_from_test i ne h = go (payload_members i.content) refl h
  where
    go : (o : Option Members) → payload_members i.content ≡ o → unwrap_or (option_map (are_content i) o) false ≡ true → IsFit i
    go None q k = absurd (false≢true k)
    go (Some ms) q k = inr (λ p cs. content_fits i ms ne q k p cs)

-- ---- what is fit passes the test

-- the content of an item that was read from a payload passes the test
pub read_is_content : (text : List ℕ) (ms : Members) (i : ItemView) → payload_members text ≡ Some ms → is_true (get_member (codes "deleted") ms) ≡ false
    → plain_text (object (without (names_of i.kind) ms)) ≡ i.content → (not (has i.id roots) || is_folder i.kind) ≡ true → has_content i ≡ true
unfolding has_content are_content
read_is_content text ms i r l content root =
    let q = payload_parts text ms r in
    let names : List (List ℕ) = names_of i.kind in
    let kept : Members = without names ms in
    let plain : members_plain kept ≡ true = without_plain names ms (payload_plain text ms r) in
    let sorted : MembersSorted kept = without_sorted names ms (Sorted-read (marked_text text) (object ms) q.0) in
    let shallow : members_depth kept ≤ 125 = without_depth names ms 125 (let d : depth (object ms) ≤ 126 = q.1 in omega arith) in
    let value : payload_members i.content ≡ Some kept = ap payload_members (sym content) ∙ payload_back kept sorted plain (omega arith) in
    let live : is_true (get_member (codes "deleted") kept) ≡ false = ap is_true (get-without names (codes "deleted") ms (deleted_kept i.kind)) ∙ l in
    ap (λ o. unwrap_or (option_map (are_content i) o) false) value
    ∙ and_from _ _ (bytes_eq-same (plain_text (object kept)) i.content content)
    (and_from _ _ (without_lacks names ms)
    (and_from _ _ (ap not live) root))

pub read_is_fit : (text : List ℕ) (ms : Members) (i : ItemView) → payload_members text ≡ Some ms → is_true (get_member (codes "deleted") ms) ≡ false
    → plain_text (object (without (names_of i.kind) ms)) ≡ i.content → (has i.id roots && not (is_folder i.kind)) ≡ false → bytes_eq i.id places ≡ false → is_fit i ≡ true
unfolding is_fit
read_is_fit text ms i r l content root place =
    ap (λ b. cond b (is_folder i.kind && bytes_eq i.content (codes "{}")) (has_content i)) place ∙ read_is_content text ms i r l content (turned (has i.id roots) (is_folder i.kind) root)
  where
    turned : (a b : Bool) → (a && not b) ≡ false → (not a || b) ≡ true
    turned true true h = refl
    turned true false h = absurd (false≢true (sym h))
    turned false b h = refl

pub test_from_fit : (i : ItemView) → i.id ≢ places → IsFit i → has_content i ≡ true
test_from_fit i ne (inl e) = absurd (ne (ap (λ w. w.id) e))
test_from_fit i ne (inr h) =
    let r = reading_parts i.id (record_of i [] []) i (Some []) (cond (is_folder i.kind) [] []) (h [] []) in
    let m = members_parts i.id r.0 i (Some []) (cond (is_folder i.kind) [] []) r.2 in
    let a = item_parts i.id r.0 i (Some []) (cond (is_folder i.kind) [] []) m.1 in
    read_is_content (record_of i [] []) r.0 i r.1 m.0 a.0 a.1

pub folder_kind : (k : Kind) → is_folder k ≡ true → k ≡ Folder
folder_kind Bookmark e = absurd (false≢true e)
folder_kind Query e = absurd (false≢true e)
folder_kind Folder e = refl
folder_kind Livemark e = absurd (false≢true e)
folder_kind Separator e = absurd (false≢true e)

folder_at : List ℕ → Kind → List ℕ → ItemView
folder_at x k c = record { id = x; kind = k; content = c }

skipped_places : (x text : List ℕ) → x ≡ places → reading x text ≡ Skipped
unfolding reading
skipped_places x text e = ap (λ b. cond b Skipped (unwrap_or (option_map (members_reading x) (payload_members text)) Skipped)) (bytes_eq-same x places e)

pub fit_is : (i : ItemView) → (is_fit i ≡ true) ↔ IsFit i
unfolding is_fit folder_at
fit_is i = go (bytes_eq i.id places) refl
  where
    go : (b : Bool) → bytes_eq i.id places ≡ b → (cond (bytes_eq i.id places) (is_folder i.kind && bytes_eq i.content (codes "{}")) (has_content i) ≡ true) ↔ IsFit i
    go true q = (down, up)
      where
        top : i.id ≡ places
        top = same_text i.id places q

        down : cond (bytes_eq i.id places) (is_folder i.kind && bytes_eq i.content (codes "{}")) (has_content i) ≡ true → IsFit i
        down h =
            let p = and_parts (is_folder i.kind) (bytes_eq i.content (codes "{}")) (sym (ap (λ b. cond b (is_folder i.kind && bytes_eq i.content (codes "{}")) (has_content i)) q) ∙ h) in
            inl (ap (λ x. folder_at x i.kind i.content) top ∙ (ap (λ k. folder_at places k i.content) (folder_kind i.kind p.0) ∙ ap (folder_at places Folder) (same_text i.content (codes "{}") p.1)))

        up : IsFit i → cond (bytes_eq i.id places) (is_folder i.kind && bytes_eq i.content (codes "{}")) (has_content i) ≡ true
        up (inl e) = ap (λ b. cond b (is_folder i.kind && bytes_eq i.content (codes "{}")) (has_content i)) q ∙ and_from _ _ (ap (λ w. is_folder w.kind) e) (bytes_eq-same i.content (codes "{}") (ap (λ w. w.content) e))
        up (inr h) = absurd (never (sym (skipped_places i.id (record_of i [] []) top) ∙ h [] []))
          where
            never : Skipped ≡ Item i (Some []) (cond (is_folder i.kind) [] []) → ⊥
            never f = cc
    go false q = (λ h. fit_from_test i ne (sym open_test ∙ h), λ h. open_test ∙ test_from_fit i ne h)
      where
        ne : i.id ≢ places
        ne e = false≢true (sym q ∙ bytes_eq-same i.id places e)

        open_test : cond (bytes_eq i.id places) (is_folder i.kind && bytes_eq i.content (codes "{}")) (has_content i) ≡ has_content i
        open_test = ap (λ b. cond b (is_folder i.kind && bytes_eq i.content (codes "{}")) (has_content i)) q

-- ---- what the record of a fit item is made of

empty_members : payload_members (codes "{}") ≡ Some no_members
unfolding payload_members pieces is_decimal digits serde_json_on_literals
empty_members = refl

pub empty_fit : (x : List ℕ) → is_fit (empty_folder x) ≡ true
unfolding is_fit has_content are_content pieces
empty_fit x = go (bytes_eq x places)
  where
    content : unwrap_or (option_map (are_content (empty_folder x)) (payload_members (codes "{}"))) false ≡ true
    content = ap (λ o. unwrap_or (option_map (are_content (empty_folder x)) o) false) empty_members ∙ last (has x roots)
      where
        last : (b : Bool) → (not b || true) ≡ true
        last true = refl
        last false = refl

    go : (b : Bool) → cond b true (unwrap_or (option_map (are_content (empty_folder x)) (payload_members (codes "{}"))) false) ≡ true
    go true = refl
    go false = content

pub fit_members : (i : ItemView) → is_fit i ≡ true → (ms : Members) × (payload_members i.content ≡ Some ms)
unfolding is_fit has_content
fit_members i h = go (bytes_eq i.id places) h
  where
    found : (o : Option Members) → payload_members i.content ≡ o → unwrap_or (option_map (are_content i) o) false ≡ true → (ms : Members) × (payload_members i.content ≡ Some ms)
    found None q k = absurd (false≢true k)
    found (Some ms) q k = (ms, q)

    go : (b : Bool) → cond b (is_folder i.kind && bytes_eq i.content (codes "{}")) (unwrap_or (option_map (are_content i) (payload_members i.content)) false) ≡ true → (ms : Members) × (payload_members i.content ≡ Some ms)
    go true k = (no_members, ap payload_members (same_text i.content (codes "{}") (and_parts (is_folder i.kind) (bytes_eq i.content (codes "{}")) k).1) ∙ empty_members)
    go false k = found (payload_members i.content) refl k

-- a fit item has members
pub not_without : (i : ItemView) → is_fit i ≡ true → payload_members i.content ≡ None → ⊥
not_without i h e = let m = fit_members i h in never (sym e ∙ m.1)
  where
    never : {ms : Members} → None ≡ Some ms → ⊥
    never f = cc

pub record_text_is : (i : ItemView) (ms : Members) (p : List ℕ) (cs : List (List ℕ)) → payload_members i.content ≡ Some ms → plain_text (object (record_members i.id i.kind ms p cs)) ≡ record_of i p cs
unfolding record_of
record_text_is i ms p cs e = sym (ap (λ o. unwrap_or (option_map (λ m. plain_text (object (record_members i.id i.kind m p cs))) (option_and_then as_object o)) []) (payload_parts i.content ms e).0)

pub no_float_record : (i : ItemView) (ms : Members) (p : List ℕ) (cs : List (List ℕ)) → payload_members i.content ≡ Some ms → members_have_float (record_members i.id i.kind ms p cs) ≡ false
no_float_record i ms p cs e = float_members (record_members i.id i.kind ms p cs) (record_plain i.id i.kind ms p cs (payload_plain i.content ms e))

pub fit_reads_back : (i : ItemView) → is_fit i ≡ true → i.id ≢ places → (p : List ℕ) (cs : List (List ℕ)) → ReadsBack i p cs
fit_reads_back i h ne p cs = go ((fit_is i).0 h)
  where
    go : IsFit i → ReadsBack i p cs
    go (inl e) = absurd (ne (ap (λ w. w.id) e))
    go (inr f) = f p cs
