use Rattle.std.proofs.Common.{sym, ap, ◌∙◌}
use Rattle.ss_build.specs.Built.{or_else}
use Rattle.ss_device.proofs.Buried.{all_met, at, older_left, older_put}
use Rattle.ss_device.proofs.burials.with_older.Goals as goal

pub loop-id-preserved-in_ok-insert : goal.loop-id-preserved-in_ok-insert
loop-id-preserved-in_ok-insert c = record {
  told = λ y. older_put _ y c.in-Some.id.now c.in_ok-copy.field-0 c.in-Some.time.now c.loop-id.graves.entries c.insert.new.self.entries c.next.new.self c.in_ok-copy.ensures (sym c.contains_key.ensures ∙ c.if-not-contains_key.true) c.in_ok-insert.ensures.updates.0
      (c.loop-id.invariant.told y ∙ ap (λ r. or_else (at y c.loop-id.graves.entries) (at y r)) c.in-Some.ensures.steps);
  ordered = c.in_ok-insert.ensures.ordered;
}

pub loop-id-preserved : goal.loop-id-preserved
loop-id-preserved c = record {
  told = λ y. older_left _ y c.in-Some.id.now c.in-Some.time.now c.loop-id.graves.entries c.next.new.self (sym c.contains_key.ensures ∙ c.if-not-contains_key.false) (c.loop-id.invariant.told y ∙ ap (λ r. or_else (at y c.loop-id.graves.entries) (at y r)) c.in-Some.ensures.steps);
  ordered = c.loop-id.invariant.ordered;
}

pub returns-clause-told : goal.returns-clause-told
returns-clause-told c = λ y. all_met _ y c.loop-id.graves.entries c.loop-id.id-iterator c.in-None.ensures.steps.0 (c.loop-id.invariant.told y)
