use Rattle.std.proofs.Common.{◌-◌, ◌≤◌, drop, length}
use Rattle.ss_bso.specs.declared.changes.Changes.{Changes}
use Rattle.ss_commits.specs.Drafts.{changes_in}
use Rattle.ss_commits.specs.Telling.{Tells, nothing}
use Rattle.ss_commits.proofs.reading.guess.Given as goal

abbrev pub invariant-lines : goal.invariant-lines
invariant-lines l = (l.used ≤ length l.text) × ((c : Changes) → Tells l.text nothing c → Tells (drop l.used l.text) (changes_in l.draft) c)

abbrev pub decreases-lines : goal.decreases-lines
decreases-lines l = length l.text - l.used
