use Rattle.std.proofs.Common.{◌≡◌, ◌≤◌, take}
use Rattle.std.specs.Prelude.{vec_capacity}
use Rattle.ss_laws.proofs.journal.Journal.copy.Given as goal

abbrev pub invariant-loop-entry : goal.invariant-loop-entry
invariant-loop-entry l = (l.entries.items ≡ take l.entry-index l.entry-items) × (l.self-inside.most ≤ vec_capacity l.entries)
