use Rattle.std.specs.Prelude.{[], ◌∷◌, Result, Ok, Err, IfOk}
use Rattle.std.proofs.Common.{◌≤◌, ◌+◌, ℕ, List, arith}
use Rattle.ss_world.specs.Worlds.{WorldView}
use Rattle.ss_world.specs.Happening.{Step}
use Rattle.ss_rehearse.specs.Scripts.{changes, moves, parting, renamings}
use Rattle.ss_rehearse.specs.Plays.{PlaysChanges}
use Rattle.ss_rehearse.specs.Syncing.{LeadsByActs}
use Rattle.ss_rehearse.proofs.Playing.{changes_played, played_on}
use Rattle.ss_rehearse.proofs.rehearsing.part.Goals as goal

both : {E : Type 0} (items now mid : ℕ) (w v u : WorldView) (r : Result ℕ E) → ((steps : List Step) × PlaysChanges 1 now w (renamings items) steps v mid) → IfOk r (λ next. (steps : List Step) × PlaysChanges 0 mid v (moves items) steps u next)
    → IfOk r (λ next. LeadsByActs w now (parting items) [] u next)
both items now mid w v u (Ok next) h k =
    played_on w v u now mid next (changes 1 (renamings items) ∷ []) (changes 0 (moves items) ∷ []) [] [] (changes_played 1 now w (renamings items) v mid h) (changes_played 0 mid v (moves items) u next k)
both items now mid w v u (Err e) h k = tt

pub returns-clause-played : goal.returns-clause-played
returns-clause-played c =
    both c.args.items c.args.now c.in_ok-renamed.renamed c.args.world.now c.rename_some.new.world c.move_some.new.world c.move_some.result c.in_ok-renamed.ensures.changed c.move_some.ensures.changed

few : {E : Type 0} (now mid : ℕ) (r : Result ℕ E) → now ≤ 30000000 → mid ≤ now + 1500000 → IfOk r (λ next. next ≤ mid + 1500000) → IfOk r (λ next. next ≤ 40000000)
few now mid (Ok next) a b k = let z : next ≤ 40000000 = omega (arith, a, b, k) in z
few now mid (Err e) a b k = tt

pub returns-clause-early : goal.returns-clause-early
returns-clause-early c = few c.args.now c.in_ok-renamed.renamed c.move_some.result c.requires.early c.in_ok-renamed.ensures.early c.move_some.ensures.early
