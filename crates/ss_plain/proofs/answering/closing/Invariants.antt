use Rattle.std.proofs.Common.{◌≡◌, take}
use Rattle.ss_laws.specs.Journals.{account_after}
use Rattle.ss_plain.proofs.answering.closing.Given as goal

abbrev pub invariant-loop-entry : goal.invariant-loop-entry
invariant-loop-entry l = l.account ≡ account_after l.fn.opening (take l.entry-index l.entries)
