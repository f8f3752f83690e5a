use Rattle.std.proofs.Common.{◌≡◌, ap, length, subst, sym, ◌∙◌}
use Rattle.std.specs.Prelude.{List, ◌≤◌, IsSomeAnd}
use Rattle.ss_bso.specs.declared.account.Staged.{Staged}
use Rattle.ss_bso.specs.declared.parts.Part.{Part}
use Rattle.ss_batch.specs.Stage.{stage_after_append, live_batch, stage_after_cut}
use Rattle.ss_writes.specs.Pending.{append_changes}
use Rattle.ss_account.specs.Steps.{stage_of, with_stage}
use Rattle.ss_account.proofs.Begun.{appended-back, appended-long}
use Rattle.ss_account.proofs.Keeping.{held_by-append}
use Rattle.ss_account.proofs.state.State.append.Goals as goal

pub shorten-requires : goal.shorten-requires
shorten-requires g c =
    let account = c.args.self.now in
    let parts = c.args.records.now.parts in
    let copied : c.in_ok-copied.copied.items ≡ parts = c.in_ok-copied.ensures ∙ c.as_slice-parts.ensures in
    subst (λ (ps : List Part). IsSomeAnd (live_batch c.args.batch c.add_parts.new.self.batches) (λ (staged : Staged). length ps ≤ length staged.parts)) (sym c.as_slice-parts.ensures)
    (appended-long account c.add_parts.new.self c.args.batch c.args.collection.now parts c.requires.room
    (c.in_ok-add_parts.ensures.ok ∙ ap (λ (ps : List Part). with_stage account (stage_after_append (stage_of account) c.args.batch ps)) copied))

pub returns-in-Ok-clause-held : goal.returns-in-Ok-clause-held
returns-in-Ok-clause-held g c =
    let account = c.args.self.now in
    let parts = c.args.records.now.parts in
    let copied : c.in_ok-copied.copied.items ≡ parts = c.in_ok-copied.ensures ∙ c.as_slice-parts.ensures in
    held_by-append c.args.ledger.now.ended (g.K.Keeper.told c.args.ledger.now.keeper) (g.K.Keeper.told c.commit.new.self.keeper) account c.add_parts.new.self c.args.batch parts c.in_ok-changes.changes
    c.requires.swept (c.in_ok-changes.ensures ∙ ap (append_changes account c.args.ledger.now.ended c.args.batch) c.as_slice-parts.ensures) c.in-Ok.ensures.done
    (c.in_ok-add_parts.ensures.ok ∙ ap (λ (ps : List Part). with_stage account (stage_after_append (stage_of account) c.args.batch ps)) copied) c.requires.told

pub returns-in-Err-clause-err : goal.returns-in-Err-clause-err
returns-in-Err-clause-err g c =
    let account = c.args.self.now in
    let parts = c.args.records.now.parts in
    let copied : c.in_ok-copied.copied.items ≡ parts = c.in_ok-copied.ensures ∙ c.as_slice-parts.ensures in
    appended-back account c.add_parts.new.self c.shorten.new.self c.args.batch parts
    (c.in_ok-add_parts.ensures.ok ∙ ap (λ (ps : List Part). with_stage account (stage_after_append (stage_of account) c.args.batch ps)) copied)
    (c.shorten.ensures ∙ ap (λ (ps : List Part). with_stage c.add_parts.new.self (stage_after_cut (stage_of c.add_parts.new.self) c.args.batch (length ps))) c.as_slice-parts.ensures)
