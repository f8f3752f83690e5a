use Rattle.ss_booked.specs.Booked.{journal_of}
use Rattle.ss_serve.specs.Fullness.{IsNamedFull}
use Rattle.ss_serve.specs.Terms.{Smallest}
use Rattle.ss_serve.proofs.fullness.smallest_full.Given as goal

abbrev pub invariant-loop-i : goal.invariant-loop-i
invariant-loop-i g l = Smallest (IsNamedFull (λ b. (journal_of b).entries) l.reports) l.accounts l.i l.found
