use Rattle.std.proofs.Common.{◌≡◌, take, subst, ◌∙◌, refl}
use Rattle.std.proofs.lemmas.Bool.{false≢true}
use Rattle.std.proofs.lemmas.List.{take_all}
use Rattle.ss_index.specs.Shelved.{dropped_names, rows_in}
use Rattle.ss_index.proofs.Rising.{Rising, out_of_order, rising-more, rising-none, rising_in_time}
use Rattle.ss_index.proofs.shelf.Shelf.is_in_time.Goals as goal

pub loop-change-init : goal.loop-change-init
loop-change-init c = rising-none (rows_in c.args.self.now)

pub loop-change-preserved : goal.loop-change-preserved
loop-change-preserved c =
    rising-more (rows_in c.args.self.now) c.loop-change.time c.in-Some.later c.as_slice-change-items.result.now c.loop-change.change-index c.change-item.result c.loop-change-test.true c.change-item.is
    c.loop-change.invariant c.in-Some.ensures.last c.in-Some.ensures.not_before c.in-Some.ensures.rises c.in-Some.ensures.within c.in-Some.ensures.time

pub returns-in-None-clause-exact : goal.returns-in-None-clause-exact
returns-in-None-clause-exact c =
    let items = c.as_slice-change-items.result.now in (
      λ t. absurd (false≢true t),
      λ order. absurd (out_of_order (rows_in c.args.self.now) c.loop-change.time items c.loop-change.change-index c.change-item.result c.loop-change-test.true c.change-item.is c.loop-change.invariant c.in-None.ensures.refused
          (rw (← c.as_slice-change-items.ensures) at order)),
    )

pub returns-clause-taken : goal.returns-clause-taken
returns-clause-taken c = λ t.
    let items = c.as_slice-change-items.result.now in
    let whole : take c.loop-change.change-index items ≡ c.args.changes.now.rows = take_all c.loop-change.change-index items c.loop-change-test.false ∙ c.as_slice-change-items.ensures in
    let all = subst (λ l. Rising (rows_in c.args.self.now) c.loop-change.time l) whole c.loop-change.invariant in
    rising_in_time (dropped_names c.args.changes.now.collections) c.args.changes.now.moment (rows_in c.args.self.now) c.args.changes.now.rows all.last all.order

pub returns-clause-exact : goal.returns-clause-exact
returns-clause-exact c =
    let items = c.as_slice-change-items.result.now in
    let whole : take c.loop-change.change-index items ≡ c.args.changes.now.rows = take_all c.loop-change.change-index items c.loop-change-test.false ∙ c.as_slice-change-items.ensures in
    let all = subst (λ l. Rising (rows_in c.args.self.now) c.loop-change.time l) whole c.loop-change.invariant in
    (λ t. (all.last, all.order), λ order. refl)
