use Rattle.std.proofs.Common.{List, ℕ, sym, ap, arith, ◌∙◌}
use Rattle.std.proofs.lemmas.List.{append-nil}
use Rattle.ss_bso.specs.declared.rows.Row.{Row}
use Rattle.ss_bso.specs.Write.{rows_without, account_after_write}
use Rattle.ss_query.specs.Effect.{is_over}
use Rattle.ss_account.proofs.Stepping.{cut-same}
use Rattle.ss_account.proofs.state.State.delete.Goals as goal

pub returns : goal.returns
returns c =
    let account = c.args.self.now in
    let collection = c.args.collection.now in
    let targets = c.in_ok-targets.targets in
    let same = cut-same collection targets c.args.ids.now account.rows c.in_ok-targets.ensures.named in
    let few = c.in_ok-targets.ensures.few in
    let all = c.requires.few in (
      ap (λ (rows : List Row). is_over (account_after_write account collection c.args.stamp rows)) (sym same ∙ sym (append-nil (rows_without collection targets account.rows)))
          ∙ sym (c.would_be_over.ensures c.args.stamp) ∙ c.if-would_be_over.false,
      ap (λ (name : List ℕ). account_after_write account name c.args.stamp (rows_without name targets account.rows)) c.in_ok-collection.ensures ∙ ap (account_after_write account collection c.args.stamp) same,
      omega (arith, few, all),
    )
