use Rattle.std.proofs.Common.{◌∙◌, ℕ, List, ap, map}
use Rattle.std.specs.Borrow.{Bor}
use Rattle.ss_text.specs.Texts.{sorted}
use Rattle.ss_dump.specs.Dumps.{comes_before, name_cmp}
use Rattle.ss_audit.proofs.Lists.{decided_by}
use Rattle.ss_audit.proofs.GoingOn.{same_names}
use Rattle.ss_audit.proofs.going_on.same_collections.Goals as goal

pub returns : goal.returns
returns c =
    let by_name : List (List ℕ × ℕ) → List (List ℕ × ℕ) = sorted (comes_before name_cmp) in
    decided_by c.are_lent_equal.result _ _ _ _ c.are_lent_equal.ensures
    (ap (map (λ (entry : Bor (List ℕ × ℕ)). entry.now)) c.as_slice-3.ensures.value ∙ c.in_ok-one.ensures ∙ ap by_name c.as_slice.ensures)
    (ap (map (λ (entry : Bor (List ℕ × ℕ)). entry.now)) c.as_slice-4.ensures.value ∙ c.in_ok-two.ensures ∙ ap by_name c.as_slice-2.ensures)
    (same_names c.args.account.now c.args.other.now c.requires)
