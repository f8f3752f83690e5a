use Rattle.std.proofs.Common.{◌≡◌, ◌++◌, take}
use Rattle.ss_sync.specs.Fetched.{kept}
use Rattle.ss_sync.proofs.fetched.Fetched.keep.Given as goal

abbrev pub invariant-loop-sheet : goal.invariant-loop-sheet
invariant-loop-sheet l = l.self ≡ l.initial.self ++ kept l.initial.self l.ids (take l.sheet-index l.mirror)
