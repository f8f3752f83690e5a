use Rattle.std.proofs.Common.{◌≡◌, ◌≤◌, List, true, sym, subst, arith, length}
use Rattle.ss_dupe.specs.News.{has_pair}
use Rattle.ss_dupe.specs.Looks.{Id}
use Rattle.ss_dupe.specs.Pairs.{ArePairs}
use Rattle.ss_dupe.specs.Plains.{view}
use Rattle.ss_dupe.proofs.Depths.{before_all, one_round, found_all, ok_then}
use Rattle.ss_dupe.proofs.rounds.pair_read.Goals as goal

pub loop-step-init : goal.loop-step-init
loop-step-init c = before_all (view c.args.plains.now) c.in_ok-current.current.items c.new-found.result c.in_ok-current.ensures c.new-found.ensures.empty

pub loop-step-preserved : goal.loop-step-preserved
loop-step-preserved c =
    one_round (view c.args.plains.now) c.requires.shaped c.loop-step.step c.loop-step.current.items c.in_ok-current-2.current.items c.loop-step.found c.round.new.found c.loop-step.invariant
    (λ l r. let n = c.in_ok-current-2.ensures.next l r in (
      λ h. let k = n.0 h in (k.0, k.1, subst (λ (ps : List (Id × Id)). has_pair k.0 k.1 ps ≡ true) c.deref.ensures.value k.2, k.3),
      λ k. n.1 (k.0, k.1, subst (λ (ps : List (Id × Id)). has_pair k.0 k.1 ps ≡ true) (sym c.deref.ensures.value) k.2, k.3),
    ))
    c.in_ok-current-2.ensures.found

pub returns : goal.returns
returns c =
    let le : length c.args.plains.now.local.ids.items ≤ c.loop-step.step = omega arith in
    ok_then _ (λ pairs. ArePairs (view c.args.plains.now) pairs.items) c.into_pairs.result c.into_pairs.ensures.pairs c.into_pairs.ensures.ordered
    (λ pairs is ordered. found_all (view c.args.plains.now) c.requires.shaped c.args.plains.now.local.ids.items c.loop-step.step c.loop-step.current.items c.loop-step.found pairs.items c.requires.ids le c.loop-step.invariant ordered is)
