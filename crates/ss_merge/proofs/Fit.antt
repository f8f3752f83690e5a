-- An item stays fit under another id.
use Rattle.std.proofs.Common.{◌≡◌, true, false, cond, not, ◌&&◌, List, ℕ, Option, Some, None, option_map, unwrap_or}
use Rattle.std.proofs.Common.{codes, bytes_eq, sym, ap, ◌∙◌, inl, inr}
use Rattle.serde_json.specs.Data.{object, Members}
use Rattle.serde_json.specs.Find.{get_member}
use Rattle.ss_record.specs.Marks.{plain_text}
use Rattle.ss_record.specs.Ids.{has, places, roots}
use Rattle.ss_record.specs.Kinds.{is_folder}
use Rattle.ss_record.specs.Items.{ItemView, are_content, has_content, is_fit, names_of}
use Rattle.ss_record.specs.Payloads.{payload_members, lacks, is_true}
use Rattle.ss_record.proofs.Fit.{empty_fit, folder_kind}
use Rattle.std.proofs.lemmas.Bool.{cases_Bool, or_left, and_from, or_right, not_from_false}
use Rattle.ss_text.proofs.Basics.{both_left, both_right, same_text}

abbrev with_id : List ℕ → ItemView → ItemView
with_id x i = record { id = x; kind = i.kind; content = i.content }

content-again : (i : ItemView) (x : List ℕ) (ms : Members) → (has x roots ≡ true → is_folder i.kind ≡ true) → are_content i ms ≡ true → are_content (with_id x i) ms ≡ true
unfolding are_content
content-again i x ms root h =
    let rest = both_right (bytes_eq (plain_text (object ms)) i.content) _ h in
    let more = both_right (lacks (names_of i.kind) ms) _ rest in
    and_from (bytes_eq (plain_text (object ms)) i.content) _ (both_left (bytes_eq (plain_text (object ms)) i.content) _ h)
    (and_from (lacks (names_of i.kind) ms) _ (both_left (lacks (names_of i.kind) ms) _ rest)
    (and_from (not (is_true (get_member (codes "deleted") ms))) _ (both_left (not (is_true (get_member (codes "deleted") ms))) _ more)
    (elim (cases_Bool (has x roots)) [ inl r ↦ or_right (not (has x roots)) _ (root r) | inr r ↦ or_left (not (has x roots)) _ (not_from_false (has x roots) r) ])))

has_content-again : (i : ItemView) (x : List ℕ) → (has x roots ≡ true → is_folder i.kind ≡ true) → has_content i ≡ true → has_content (with_id x i) ≡ true
unfolding has_content
has_content-again i x root h = cases (payload_members i.content) h
  where
    cases : (o : Option Members) → unwrap_or (option_map (are_content i) o) false ≡ true → unwrap_or (option_map (are_content (with_id x i)) o) false ≡ true
    cases None k = k
    cases (Some ms) k = content-again i x ms root k

pub fit_again : (i : ItemView) (x : List ℕ) → is_fit i ≡ true → bytes_eq x places ≡ false → (has x roots ≡ true → is_folder i.kind ≡ true) → is_fit (with_id x i) ≡ true
unfolding is_fit
fit_again i x h out root = elim (cases_Bool (bytes_eq i.id places)) [
  | inr other ↦
      ap (λ b. cond b (is_folder i.kind && bytes_eq i.content (codes "{}")) (has_content (with_id x i))) out
      ∙ has_content-again i x root (sym (ap (λ b. cond b (is_folder i.kind && bytes_eq i.content (codes "{}")) (has_content i)) other) ∙ h)
  | inl top ↦
      let k = sym (ap (λ b. cond b (is_folder i.kind && bytes_eq i.content (codes "{}")) (has_content i)) top) ∙ h in
      let kind = folder_kind i.kind (both_left (is_folder i.kind) _ k) in
      let content = same_text i.content (codes "{}") (both_right (is_folder i.kind) _ k) in
      (λ j. is_fit (record { id = x; kind = kind j; content = content j })) ∙ empty_fit x
]
