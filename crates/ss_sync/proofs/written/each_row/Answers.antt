use Rattle.std.proofs.Common.{rules, sym, ◌∙◌}
use Rattle.std.proofs.lemmas.List.{nil_from_length}
use Rattle.std.specs.Vec.Iter.{into_iter_items}
use Rattle.ss_sync.proofs.Putting.{made_more, made_all}
use Rattle.ss_sync.proofs.written.each_row.Goals as goal

pub loop-id-preserved : goal.loop-id-preserved
loop-id-preserved c = record {
  left = search rules;
  made = made_more _ _ _ _ _ (c.in-Some.id, c.in-Some.told) c.in-Some.ensures.steps.0 c.in_ok-push.ensures.items c.loop-id.invariant.made;
}

pub returns : goal.returns
returns c = made_all _ _ (into_iter_items c.loop-id.id-iterator) (nil_from_length (into_iter_items c.loop-id.id-iterator) (sym c.loop-id.invariant.left ∙ c.in-None.ensures.steps.0)) c.loop-id.invariant.made
