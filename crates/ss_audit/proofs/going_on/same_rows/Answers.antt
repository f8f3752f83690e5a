use Rattle.std.proofs.Common.{◌∙◌, List, ap, filter, map}
use Rattle.std.specs.Borrow.{Bor}
use Rattle.ss_text.specs.Texts.{sorted}
use Rattle.ss_bso.specs.declared.rows.Row.{Row}
use Rattle.ss_bso.specs.Account.{is_alive}
use Rattle.ss_dump.specs.Dumps.{comes_before, place_cmp}
use Rattle.ss_audit.proofs.Lists.{decided_by}
use Rattle.ss_audit.proofs.GoingOn.{same_places}
use Rattle.ss_audit.proofs.going_on.same_rows.Goals as goal

pub returns : goal.returns
returns c =
    let in_place : List Row → List Row = λ rows. sorted (comes_before place_cmp) (filter (is_alive c.args.moment) rows) in
    decided_by c.are_lent_equal.result _ _ _ _ c.are_lent_equal.ensures
    (ap (map (λ (row : Bor Row). row.now)) c.as_slice-3.ensures.value ∙ c.in_ok-one.ensures ∙ ap in_place c.as_slice.ensures)
    (ap (map (λ (row : Bor Row). row.now)) c.as_slice-4.ensures.value ∙ c.in_ok-two.ensures ∙ ap in_place c.as_slice-2.ensures)
    (same_places c.args.account.now c.args.other.now c.args.moment c.requires)
