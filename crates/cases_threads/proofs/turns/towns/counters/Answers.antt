use Rattle.std.specs.Prelude.{ℕ, List}
use Rattle.std.proofs.Common.{subst, sym}
use Rattle.ss_desk.specs.declared.counter.Counter.{Counter}
use Rattle.ss_town.specs.Opening.{AreBare}
use Rattle.ss_town.proofs.Openings.{bare_more}
use Rattle.cases_threads.proofs.turns.towns.counters.Goals as goal

pub loop-uid-preserved : goal.loop-uid-preserved
loop-uid-preserved c =
    subst (λ (l : List (ℕ × Counter)). AreBare (λ (a : Counter). a.additions.items) l) (sym c.in_ok-push.ensures.items)
    (bare_more (λ (a : Counter). a.additions.items) c.loop-uid.accounts.items _ c.in_ok-new.field-0 c.loop-uid.invariant c.in_ok-new.ensures.empty)
