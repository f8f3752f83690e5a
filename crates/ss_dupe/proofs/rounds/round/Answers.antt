use Rattle.std.proofs.Common.{◌<◌, arith, length, refl}
use Rattle.ss_dupe.specs.Plains.{view}
use Rattle.ss_dupe.proofs.Adding.{round_more, added_through}
use Rattle.ss_dupe.proofs.rounds.round.Goals as goal

pub loop-local-preserved : goal.loop-local-preserved
loop-local-preserved c =
    let lt : c.loop-local.local-index < length c.args.current.now = omega arith in
    record {
      nexts = round_more (view c.args.plains.now) c.args.current.now c.loop-local.local-index _ _ c.loop-local-item.result c.loop-local.next.items c.in_ok-like_children.field-0.items c.add.new.next.items lt c.loop-local-item.is refl refl
          c.loop-local.invariant.nexts c.in_ok-like_children.ensures c.in_ok-add.ensures.next;
      founds = added_through c.args.found.now c.loop-local.found c.add.new.found c.loop-local.next.items c.in_ok-like_children.field-0.items c.add.new.next.items c.loop-local.invariant.founds c.in_ok-add.ensures.found c.in_ok-add.ensures.next;
    }
