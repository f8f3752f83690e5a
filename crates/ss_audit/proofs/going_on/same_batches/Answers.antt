use Rattle.std.proofs.Common.{◌∙◌, List, ap, filter, map}
use Rattle.std.specs.Borrow.{Bor}
use Rattle.ss_text.specs.Texts.{sorted}
use Rattle.ss_bso.specs.declared.account.Staged.{Staged}
use Rattle.ss_bso.specs.Account.{is_open}
use Rattle.ss_dump.specs.Dumps.{comes_before, number_cmp}
use Rattle.ss_audit.proofs.Lists.{decided_by}
use Rattle.ss_audit.proofs.GoingOn.{same_numbers}
use Rattle.ss_audit.proofs.going_on.same_batches.Goals as goal

pub returns : goal.returns
returns c =
    let by_number : List Staged → List Staged = λ batches. sorted (comes_before number_cmp) (filter (is_open c.args.moment) batches) in
    decided_by c.are_lent_equal.result _ _ _ _ c.are_lent_equal.ensures
    (ap (map (λ (batch : Bor Staged). batch.now)) c.as_slice-3.ensures.value ∙ c.in_ok-one.ensures ∙ ap by_number c.as_slice.ensures)
    (ap (map (λ (batch : Bor Staged). batch.now)) c.as_slice-4.ensures.value ∙ c.in_ok-two.ensures ∙ ap by_number c.as_slice-2.ensures)
    (same_numbers c.args.account.now c.args.other.now c.args.moment c.requires)
