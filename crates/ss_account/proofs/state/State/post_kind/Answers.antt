use Rattle.std.proofs.Common.{List, length, not, sym, ap, ◌∙◌}
use Rattle.std.specs.Prelude.{◌==◌}
use Rattle.ss_bso.specs.declared.parts.Part.{Part}
use Rattle.ss_query.specs.declared.requests.Request.TheVariants.{Post}
use Rattle.ss_query.specs.Effect.{is_write}
use Rattle.ss_text.specs.declared.stamps.Cond.TheVariants.{Free}
use Rattle.ss_account.proofs.Batching.{commit-writes, commit-writes-own}
use Rattle.ss_account.proofs.state.State.post_kind.Goals.{then-has_parts-2, else-has_parts-2}
use Rattle.ss_account.proofs.state.State.post_kind.Goals as goal

pub returns-then-not-is_empty : goal.returns-then-not-is_empty
returns-then-not-is_empty c =
    let account = c.args.self.now in
    let collection = c.args.collection.now in
    let records = c.args.records.now in
    let number = c.in-Commit.batch in
    λ cond. record {
      asks = ap (λ mode. Post collection records mode Free) c.in-Commit.is;
      writes = ap (λ mode. is_write account (Post collection records mode cond)) c.in-Commit.is
          ∙ (elim c.if-has_parts-2.branch [
            | then-has_parts-2 w ↦ commit-writes-own account collection records number cond c.is_empty-has_parts.result (c.is_empty-has_parts.ensures ∙ ap (λ (parts : List Part). length parts == 0) c.as_slice.ensures) (ap not w.if-has_parts-2.true)
            | else-has_parts-2 w ↦ commit-writes account collection records number cond w.staged_parts.result.now w.is_empty.result w.staged_parts.ensures w.is_empty.ensures (sym w.value-is ∙ c.if-not-is_empty.true)
          ]);
    }
