use Rattle.std.proofs.Common.{Err, refl, subst, ◌∙◌}
use Rattle.ss_run_sync.specs.declared.linking.Came.TheVariants as came
use Rattle.ss_run_sync.specs.declared.endings.Trouble.TheVariants as trouble
use Rattle.ss_run_sync.specs.Syncs.{Outside, Loads, Saves}
use Rattle.ss_run_sync.proofs.Ends.{went_undialled, went_done, went_stopped, went_wire, went_memory, ran_of}
use Rattle.ss_run_sync.proofs.running.sync.Goals as goal

pub returns-in_default : goal.returns-in_default
returns-in_default g c =
    let old : Outside = record { asked = g.D.Dial.asked c.args.dial.now; hung = g.D.Dial.hung c.args.dial.now; dial_faults = g.D.Dial.dial_faults c.args.dial.now; held = g.S.Store.held c.args.store.now; store_faults = g.S.Store.store_faults c.args.store.now } in
    went_undialled c.args.command.now trouble.Memory old old (refl, refl) refl refl refl

pub returns-in-Err : goal.returns-in-Err
returns-in-Err g c =
    let old : Outside = record { asked = g.D.Dial.asked c.args.dial.now; hung = g.D.Dial.hung c.args.dial.now; dial_faults = g.D.Dial.dial_faults c.args.dial.now; held = g.S.Store.held c.args.store.now; store_faults = g.S.Store.store_faults c.args.store.now } in
    let new : Outside = record { asked = g.D.Dial.asked c.args.dial.now; hung = g.D.Dial.hung c.args.dial.now; dial_faults = g.D.Dial.dial_faults c.args.dial.now; held = g.S.Store.held c.load.new.store; store_faults = g.S.Store.store_faults c.load.new.store } in
    went_undialled c.args.command.now c.in-Err.trouble old new
    (subst (λ x. Loads x (Err c.in-Err.trouble) old.held new.held old.store_faults new.store_faults) c.as_str.ensures c.in-Err.ensures) refl refl refl

pub returns-in-Done : goal.returns-in-Done
returns-in-Done g c =
    let old : Outside = record { asked = g.D.Dial.asked c.args.dial.now; hung = g.D.Dial.hung c.args.dial.now; dial_faults = g.D.Dial.dial_faults c.args.dial.now; held = g.S.Store.held c.args.store.now; store_faults = g.S.Store.store_faults c.args.store.now } in
    let new : Outside = record { asked = g.D.Dial.asked c.over_links.new.dial; hung = g.D.Dial.hung c.over_links.new.dial; dial_faults = g.D.Dial.dial_faults c.over_links.new.dial; held = g.S.Store.held c.save.new.store; store_faults = g.S.Store.store_faults c.save.new.store } in
    let loaded = c.in-Ok-load.ensures in
    went_done c.args.command.now c.in-Done.device c.in-Done.summary c.save.result old new (g.S.Store.held c.load.new.store) (g.S.Store.store_faults c.load.new.store)
    (ran_of c.args.command.now c.as_str.result.now c.as_str-2.result.now c.in-Ok-load.device c.start-machine.result.0 c.fetch_of.result (came.Done c.in-Done.device c.in-Done.summary) old new c.as_str.ensures
    (c.as_str-2.ensures.value ∙ c.in-Ok.ensures.name) c.start-machine.ensures.machine c.fetch_of.ensures loaded.0 c.in-Done.ensures) loaded.1 loaded.2
    (subst (λ x. Saves x c.in-Done.device c.in-Done.summary c.save.result (g.S.Store.held c.load.new.store) new.held (g.S.Store.store_faults c.load.new.store) new.store_faults) c.as_str-in-Done.ensures c.save.ensures)

pub returns-in-Stop : goal.returns-in-Stop
returns-in-Stop g c =
    let old : Outside = record { asked = g.D.Dial.asked c.args.dial.now; hung = g.D.Dial.hung c.args.dial.now; dial_faults = g.D.Dial.dial_faults c.args.dial.now; held = g.S.Store.held c.args.store.now; store_faults = g.S.Store.store_faults c.args.store.now } in
    let new : Outside = record { asked = g.D.Dial.asked c.over_links.new.dial; hung = g.D.Dial.hung c.over_links.new.dial; dial_faults = g.D.Dial.dial_faults c.over_links.new.dial; held = g.S.Store.held c.load.new.store; store_faults = g.S.Store.store_faults c.load.new.store } in
    let loaded = c.in-Ok-load.ensures in
    went_stopped c.args.command.now c.in-Stop.fault c.stop.result old new
    (ran_of c.args.command.now c.as_str.result.now c.as_str-2.result.now c.in-Ok-load.device c.start-machine.result.0 c.fetch_of.result (came.Stop c.in-Stop.fault) old new c.as_str.ensures
    (c.as_str-2.ensures.value ∙ c.in-Ok.ensures.name) c.start-machine.ensures.machine c.fetch_of.ensures loaded.0 c.in-Stop.ensures) (loaded.1, loaded.2) c.stop.ensures

pub returns-in-Wire : goal.returns-in-Wire
returns-in-Wire g c =
    let old : Outside = record { asked = g.D.Dial.asked c.args.dial.now; hung = g.D.Dial.hung c.args.dial.now; dial_faults = g.D.Dial.dial_faults c.args.dial.now; held = g.S.Store.held c.args.store.now; store_faults = g.S.Store.store_faults c.args.store.now } in
    let new : Outside = record { asked = g.D.Dial.asked c.over_links.new.dial; hung = g.D.Dial.hung c.over_links.new.dial; dial_faults = g.D.Dial.dial_faults c.over_links.new.dial; held = g.S.Store.held c.load.new.store; store_faults = g.S.Store.store_faults c.load.new.store } in
    let loaded = c.in-Ok-load.ensures in
    went_wire c.args.command.now old new
    (ran_of c.args.command.now c.as_str.result.now c.as_str-2.result.now c.in-Ok-load.device c.start-machine.result.0 c.fetch_of.result came.Wire old new c.as_str.ensures
    (c.as_str-2.ensures.value ∙ c.in-Ok.ensures.name) c.start-machine.ensures.machine c.fetch_of.ensures loaded.0 c.in-Wire.ensures) (loaded.1, loaded.2)

pub returns : goal.returns
returns g c =
    let old : Outside = record { asked = g.D.Dial.asked c.args.dial.now; hung = g.D.Dial.hung c.args.dial.now; dial_faults = g.D.Dial.dial_faults c.args.dial.now; held = g.S.Store.held c.args.store.now; store_faults = g.S.Store.store_faults c.args.store.now } in
    let new : Outside = record { asked = g.D.Dial.asked c.over_links.new.dial; hung = g.D.Dial.hung c.over_links.new.dial; dial_faults = g.D.Dial.dial_faults c.over_links.new.dial; held = g.S.Store.held c.load.new.store; store_faults = g.S.Store.store_faults c.load.new.store } in
    let loaded = c.in-Ok-load.ensures in
    went_memory c.args.command.now old new
    (ran_of c.args.command.now c.as_str.result.now c.as_str-2.result.now c.in-Ok-load.device c.start-machine.result.0 c.fetch_of.result came.Memory old new c.as_str.ensures
    (c.as_str-2.ensures.value ∙ c.in-Ok.ensures.name) c.start-machine.ensures.machine c.fetch_of.ensures loaded.0 c.in-Memory.ensures) (loaded.1, loaded.2)
