use Rattle.std.proofs.Common.{◌≤◌, ◌+◌, ℕ, List, arith, length, subst, sym}
use Rattle.ss_bso.specs.Lists.{Pairs}
use Rattle.ss_writes.specs.Parts.{OtherText, with_id}
use Rattle.ss_writes.proofs.Made.{among-more, apart-with, length-with}
use Rattle.ss_writes.proofs.targets.Targets.of_ids.Goals as goal

pub loop-id-preserved : goal.loop-id-preserved
loop-id-preserved c =
    let named = c.loop-id.targets in
    let id = c.id-item.result in
    let more : length (with_id named id) ≤ length named + 1 = length-with named id in
    let few = c.loop-id.invariant.2 in (
      among-more c.args.ids.now c.loop-id.id-index id named c.add.new.self c.loop-id-test.true c.id-item.is c.loop-id.invariant.0 c.in_ok-add.ensures,
      subst (Pairs OtherText) (sym c.in_ok-add.ensures) (apart-with named id c.loop-id.invariant.1),
      subst (λ (ids : List (List ℕ)). length ids ≤ c.loop-id.id-index + 1) (sym c.in_ok-add.ensures) (omega (arith, more, few)),
    )
