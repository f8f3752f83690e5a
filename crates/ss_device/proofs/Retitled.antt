-- A content with another title is one with which the item is fit.
use Rattle.std.proofs.Common.{◌≡◌, ℕ, ◌≤◌, List, true, false, not, cond, ◌&&◌, ◌||◌, refl, sym, ap, ap₂, ◌∙◌, arith}
use Rattle.std.proofs.Common.{Some, option_map, unwrap_or, is_some, bytes_eq, codes, Ordering, Less, Equal, Greater}
use Rattle.std.proofs.Common.{nat_cmp}
use Rattle.std.specs.Ordering.{match_ordering}
use Rattle.std.specs.Cmp.Lexicographic.{slice_cmp}
use Rattle.std.proofs.lemmas.Bool.{and_parts, and_from, false≢true}
use Rattle.serde_json.specs.Data.{Data, string, object, Members, no_members, member, put, depth, members_depth}
use Rattle.serde_json.specs.Find.{get_member}
use Rattle.serde_json.specs.Written.{members_have_float}
use Rattle.serde_json.proofs.Views.{get_member-put_other}
use Rattle.ss_text.specs.Decimals.{marked_text}
use Rattle.ss_record.specs.declared.kinds.Kind.{Kind}
use Rattle.ss_record.specs.declared.kinds.Kind.TheVariants.{Bookmark, Query, Folder, Livemark, Separator}
use Rattle.ss_record.specs.Ids.{has, places, roots}
use Rattle.ss_record.specs.Items.{ItemView, names_of, are_content, has_content, is_fit}
use Rattle.ss_record.specs.Kinds.{is_folder}
use Rattle.ss_record.specs.Marks.{marked_string, said_text, members_plain, plain_text}
use Rattle.ss_record.specs.Payloads.{lacks, is_true, payload_members}
use Rattle.ss_record.proofs.Strings.{string_plain}
use Rattle.ss_record.proofs.Sorted.{Sorted-put, Sorted-read}
use Rattle.ss_record.proofs.Exact.{float_members, payload_parts}
use Rattle.ss_record.proofs.Fit.{fit_members}
use Rattle.ss_record.proofs.Unmarked.{plain-put, depth-put, payload_back}
use Rattle.ss_device.specs.Edits.{titled}
use Rattle.ss_text.proofs.Basics.{bytes_eq-same}

lacks-put : (names : List (List ℕ)) (k : List ℕ) (d : Data) (ms : Members) → has k names ≡ false → lacks names ms ≡ true → lacks names (put k d ms) ≡ true
lacks-put names k d no_members h l = ap (λ b. not b && true) h
lacks-put names k d (member j e ms) h l = go (slice_cmp nat_cmp k j) (lacks-put names k d ms h parts.1)
  where
    parts : (not (has j names) ≡ true) × (lacks names ms ≡ true)
    parts = and_parts (not (has j names)) (lacks names ms) l

    go : (o : Ordering) → lacks names (put k d ms) ≡ true → lacks names (match_ordering o (member k d (member j e ms)) (member j d ms) (member j e (put k d ms))) ≡ true
    go Less ih = ap₂ (λ a b. not a && b) h l
    go Equal ih = l
    go Greater ih = and_from (not (has j names)) (lacks names (put k d ms)) parts.0 ih

title_kept : (kind : Kind) → has (codes "title") (names_of kind) ≡ false
unfolding names_of has
title_kept Bookmark = refl
title_kept Query = refl
title_kept Folder = refl
title_kept Livemark = refl
title_kept Separator = refl

title_name : is_some (said_text (codes "title")) ≡ true
unfolding said_text
title_name = refl

abbrev with : List ℕ → Members → Members
with title ms = put (codes "title") (string (marked_string title)) ms

with_plain : (title : List ℕ) (ms : Members) → members_plain ms ≡ true → members_plain (with title ms) ≡ true
with_plain title ms h = plain-put (codes "title") (string (marked_string title)) ms title_name (string_plain title) h

pub no_float_with : (text title : List ℕ) (ms : Members) → payload_members text ≡ Some ms → members_have_float (with title ms) ≡ false
no_float_with text title ms h = float_members (with title ms) (with_plain title ms (payload_parts text ms h).2)

with_back : (text title : List ℕ) (ms : Members) → payload_members text ≡ Some ms → payload_members (plain_text (object (with title ms))) ≡ Some (with title ms)
with_back text title ms h =
    let parts = payload_parts text ms h in
    let shallow : depth (object ms) ≤ 126 = parts.1 in
    let few : members_depth (with title ms) ≤ 125 = depth-put (codes "title") (string (marked_string title)) ms 125 (omega arith) (omega arith) in
    payload_back (with title ms) (Sorted-put (codes "title") (string (marked_string title)) ms tt (Sorted-read (marked_text text) (object ms) parts.0)) (with_plain title ms parts.2) (omega arith)

pub titled_is : (text title : List ℕ) (ms : Members) → payload_members text ≡ Some ms → plain_text (object (with title ms)) ≡ titled title text
unfolding titled
titled_is text title ms h = sym (ap (λ o. unwrap_or (option_map (λ (m : Members). plain_text (object (with title m))) o) text) h)

differ : codes "deleted" ≡ codes "title" → ⊥
differ e = false≢true (bytes_eq-same (codes "deleted") (codes "title") e)

pub retitled_fit : (i : ItemView) (title : List ℕ) → bytes_eq i.id places ≡ false → is_fit i ≡ true → is_fit (record { id = i.id; kind = i.kind; content = titled title i.content }) ≡ true
unfolding is_fit has_content are_content
retitled_fit i title ne fit =
    let m = fit_members i fit in
    let ms : Members = m.0 in
    let old : are_content i ms ≡ true =
    sym (ap (λ o. unwrap_or (option_map (are_content i) o) false) m.1) ∙ (sym (ap (λ b. cond b (is_folder i.kind && bytes_eq i.content (codes "{}")) (has_content i)) ne) ∙ fit) in
    let a = and_parts (bytes_eq (plain_text (object ms)) i.content) (lacks (names_of i.kind) ms && (not (is_true (get_member (codes "deleted") ms)) && (not (has i.id roots) || is_folder i.kind))) old in
    let b = and_parts (lacks (names_of i.kind) ms) (not (is_true (get_member (codes "deleted") ms)) && (not (has i.id roots) || is_folder i.kind)) a.1 in
    let text : plain_text (object (with title ms)) ≡ titled title i.content = titled_is i.content title ms m.1 in
    let back : payload_members (titled title i.content) ≡ Some (with title ms) = ap payload_members (sym text) ∙ with_back i.content title ms m.1 in
    let live : get_member (codes "deleted") (with title ms) ≡ get_member (codes "deleted") ms = get_member-put_other (codes "deleted") (codes "title") (string (marked_string title)) ms differ in
    let new : are_content (record { id = i.id; kind = i.kind; content = titled title i.content }) (with title ms) ≡ true =
    and_from (bytes_eq (plain_text (object (with title ms))) (titled title i.content)) _ (bytes_eq-same (plain_text (object (with title ms))) (titled title i.content) text)
    (and_from (lacks (names_of i.kind) (with title ms)) _ (lacks-put (names_of i.kind) (codes "title") (string (marked_string title)) ms (title_kept i.kind) b.0)
    (ap (λ o. not (is_true o) && (not (has i.id roots) || is_folder i.kind)) live ∙ b.1)) in
    ap (λ c. cond c (is_folder i.kind && bytes_eq (titled title i.content) (codes "{}")) (has_content (record { id = i.id; kind = i.kind; content = titled title i.content }))) ne
    ∙ (ap (λ o. unwrap_or (option_map (are_content (record { id = i.id; kind = i.kind; content = titled title i.content })) o) false) back ∙ new)
