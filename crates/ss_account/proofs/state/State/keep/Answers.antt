use Rattle.std.proofs.Common.{rules, ◌≡◌, ◌+◌, ◌<◌, ◌-◌, ◌^◌, filter, length, refl, subst, sym, ap, ◌∙◌}
use Rattle.ss_bso.specs.declared.account.Plain.{Plain}
use Rattle.ss_bso.specs.Account.{is_alive}
use Rattle.ss_bso.specs.Changes.{kept_of}
use Rattle.ss_index.specs.Ready.{InTime, rows_left}
use Rattle.ss_index.specs.Shelved.{dropped_names}
use Rattle.ss_writes.specs.Pending.{batches_left, times_left}
use Rattle.ss_account.specs.contracts.state.State.{the_view}
use Rattle.ss_account.proofs.Keeping.{held_by-applied}
use Rattle.ss_account.proofs.Shelving.{kept-applied, shelf-number, shelf-times}
use Rattle.ss_account.proofs.state.State.keep.Goals as goal

pub prepare-requires : goal.prepare-requires
prepare-requires g c =
    let account = c.args.self.now in
    let changes = c.in_ok-changes.changes in
    let ended = c.args.ledger.now.ended in
    record {
      number = subst (λ (a : Plain). length a.rows + length changes.rows < 2 ^ 32 - 1) (sym c.self.view_is)
          (shelf-number account ended c.args.stamp c.args.pending changes c.requires.valid c.requires.ready c.in_ok-changes.ensures);
      times = subst (λ (a : Plain). InTime (rows_left (dropped_names changes.collections) (filter (is_alive changes.moment) a.rows)) changes.rows) (sym c.self.view_is)
          (shelf-times account ended c.args.stamp c.args.pending changes c.requires.valid c.requires.ready c.requires.stamp c.in_ok-changes.ensures);
    }

pub apply-requires : goal.apply-requires
apply-requires g c = c.in_ok-ready.ensures.ready.can

pub returns-in-Ok-clause-ok : goal.returns-in-Ok-clause-ok
returns-in-Ok-clause-ok g c =
    let account = c.args.self.now in
    let stamp = c.args.stamp in
    let pending = c.args.pending in
    let changes = c.in_ok-changes.changes in
    let left : Plain = the_view (record { shelf = c.apply.new.self; collections = c.apply-in-Ok.new.collections; store = stamp; last_delete = changes.last_delete; moment = stamp; stage = c.apply-in-Ok.new.stage }) in
    let rows = ap (λ (a : Plain). a.rows) c.self.view_is in
    let times : left.collections ≡ times_left stamp pending account.collections = search rules in
    let batches : left.batches ≡ batches_left pending account.batches = search rules in
    let counter : left.counter ≡ account.counter = search rules in
    kept-applied account c.args.ledger.now.ended stamp pending changes left c.requires.valid c.requires.ready c.requires.swept c.in_ok-changes.ensures
    (c.apply.ensures.changed (kept_of account) changes c.in_ok-ready.ensures.ready (sym (c.prepare.ensures.rows ∙ rows)))
    times batches refl refl refl counter

pub returns-in-Ok-clause-held : goal.returns-in-Ok-clause-held
returns-in-Ok-clause-held g c =
    let changes = c.in_ok-changes.changes in
    let left : Plain = the_view (record { shelf = c.apply.new.self; collections = c.apply-in-Ok.new.collections; store = c.args.stamp; last_delete = changes.last_delete; moment = c.args.stamp; stage = c.apply-in-Ok.new.stage }) in
    held_by-applied c.args.ledger.now.ended (g.K.Keeper.told c.args.ledger.now.keeper) (g.K.Keeper.told c.commit.new.self.keeper) c.args.self.now left c.args.stamp c.args.pending changes
    c.requires.valid c.requires.ready c.requires.swept c.in_ok-changes.ensures c.in-Ok.ensures.done (returns-in-Ok-clause-ok g c) c.requires.told
