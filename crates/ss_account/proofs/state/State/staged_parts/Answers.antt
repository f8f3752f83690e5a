use Rattle.std.proofs.Common.{sym, ap, ◌∙◌}
use Rattle.ss_batch.specs.Stage.{live_parts}
use Rattle.ss_account.specs.Steps.{stage_of}
use Rattle.ss_account.proofs.Batching.{parts_or_none, staged-reached}
use Rattle.ss_account.proofs.state.State.staged_parts.Goals as goal

pub returns-in-Ok : goal.returns-in-Ok
returns-in-Ok c =
    let account = c.args.self.now in
    let collection = c.args.collection.now in
    let same = ap (λ a. live_parts (stage_of a) c.args.batch collection) (sym c.self.view_is) in
    sym (staged-reached account collection c.args.batch c.requires ∙ ap parts_or_none (same ∙ c.in-Ok.ensures.ok))

pub returns-in-Err : goal.returns-in-Err
returns-in-Err c =
    let account = c.args.self.now in
    let collection = c.args.collection.now in
    let same = ap (λ a. live_parts (stage_of a) c.args.batch collection) (sym c.self.view_is) in
    sym (staged-reached account collection c.args.batch c.requires ∙ ap parts_or_none (same ∙ c.in-Err.ensures.err))
