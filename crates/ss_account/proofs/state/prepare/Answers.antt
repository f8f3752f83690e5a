use Rattle.std.proofs.Common.{◌≡◌, ℕ, ◌+◌, ◌≤◌, List, length, arith, subst, sym}
use Rattle.ss_bso.specs.Limits.{most_live_batches}
use Rattle.ss_bso.proofs.Reordering.{length-reordered}
use Rattle.ss_account.proofs.Opened.{few-good}
use Rattle.ss_account.proofs.Sound.{opened-sound}
use Rattle.ss_account.proofs.state.prepare.Goals as goal

pub tick-requires : goal.tick-requires
tick-requires g c =
    let kept = c.in_ok-kept.kept in
    let few : length kept.batches ≤ most_live_batches = few-good kept c.in_ok-kept.ensures.good in
    let same : length kept.batches ≡ length c.in_ok-state.state.batches = length-reordered c.in_ok-state.ensures.account.batches in
    subst (λ (ns : List ℕ). length ns + length c.in_ok-state.state.batches ≤ most_live_batches) (sym c.in_ok-ended.ensures) (omega (arith, few, same))

pub returns-clause-opened : goal.returns-clause-opened
returns-clause-opened g c =
    opened-sound (g.K.Keeper.told c.args.keeper.now) c.in_ok-kept.kept c.in_ok-state.state c.tick.new.self c.in_ok-ended.ended c.tick.new.ended
    c.in_ok-kept.ensures.told c.in_ok-kept.ensures.good c.in_ok-state.ensures.moment c.in_ok-state.ensures.account c.in_ok-state.ensures.stands c.in_ok-ended.ensures c.tick.ensures.account c.tick.ensures.ended
