use Rattle.std.proofs.Common.{rules, ℕ, ◌+◌, ◌≤◌, ◌<◌, ◌-◌, ◌^◌, All, AllPairs, List, arith, length, refl, subst, sym}
use Rattle.std.proofs.Common.{ap, ◌∙◌}
use Rattle.std.specs.Prelude.{IsFalse}
use Rattle.ss_bso.specs.declared.account.Staged.{Staged}
use Rattle.ss_bso.specs.declared.rows.Row.{Row}
use Rattle.ss_bso.specs.Account.{is_at}
use Rattle.ss_bso.specs.Changes.{latest}
use Rattle.ss_bso.specs.Limits.{most_rows_and_collections}
use Rattle.ss_text.specs.Texts.{IsReordering}
use Rattle.ss_index.specs.Shelved.{rows_in}
use Rattle.ss_bso.proofs.Full.{within-number}
use Rattle.ss_bso.proofs.Reordering.{reordered-refl}
use Rattle.ss_batch.specs.Stage.{HasGivenNumber, IsOther, StageView}
use Rattle.ss_account.proofs.Opened.{given-good, numbers-good, valid-plain_of}
use Rattle.ss_account.proofs.state.State.of.Goals as goal

pub from_rows-requires : goal.from_rows-requires
from_rows-requires c =
    let kept = c.args.kept in
    let within : c.latest-moment.result ≤ 999999999999 = search rules in
    let last : latest kept.store kept.batches ≤ 999999999999 = subst (λ (moment : ℕ). moment ≤ 999999999999) (c.latest-moment.ensures ∙ ap (latest kept.store) c.as_slice.ensures) within in
    let valid = valid-plain_of kept last c.requires in
    let all : length kept.rows + length kept.collections ≤ most_rows_and_collections = within-number kept.rows (length kept.collections) valid.limits.within in
    record {
      places = subst (λ (rows : List Row). AllPairs (λ row other. IsFalse (is_at row.collection row.id other)) rows) (sym c.into_vec.ensures) valid.places;
      number = subst (λ (rows : List Row). length rows < 2 ^ 32 - 1) (sym c.into_vec.ensures) (omega (arith, all));
    }

pub from_staged-requires : goal.from_staged-requires
from_staged-requires c = record {
  given = subst (λ (batches : List Staged). All (HasGivenNumber c.args.kept.counter) batches) (sym c.into_vec-3.ensures) (given-good c.args.kept c.requires);
  apart = subst (λ (batches : List Staged). AllPairs IsOther batches) (sym c.into_vec-3.ensures) (numbers-good c.args.kept c.requires);
}

pub returns-clause-account : goal.returns-clause-account
returns-clause-account c =
    let kept = c.args.kept in
    let batches = ap (λ (stage : StageView). stage.batches) c.from_staged.ensures ∙ c.into_vec-3.ensures in
    record {
      rows = subst (λ (rows : List Row). IsReordering rows (rows_in c.in_ok-shelf.shelf)) c.into_vec.ensures c.in_ok-shelf.ensures;
      collections = subst (λ (times : List (List ℕ × ℕ)). IsReordering kept.collections times) (sym c.into_vec-2.ensures) (reordered-refl kept.collections);
      batches = subst (λ (staged : List Staged). IsReordering kept.batches staged) (sym batches) (reordered-refl kept.batches);
      store = refl;
      last_delete = refl;
      moment = sym (c.latest-moment.ensures ∙ ap (latest kept.store) c.as_slice.ensures);
      counter = sym (ap (λ (stage : StageView). stage.counter) c.from_staged.ensures);
    }
