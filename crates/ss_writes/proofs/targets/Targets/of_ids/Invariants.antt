use Rattle.std.proofs.Common.{◌≡◌, ◌≤◌, ℕ, List, length, take}
use Rattle.ss_bso.specs.Lists.{Pairs}
use Rattle.ss_bso.specs.Write.{is_among}
use Rattle.ss_writes.specs.Parts.{OtherText}
use Rattle.ss_writes.proofs.targets.Targets.of_ids.Given as goal

abbrev pub invariant-loop-id : goal.invariant-loop-id
invariant-loop-id l = ((id : List ℕ) → is_among l.targets id ≡ is_among (take l.id-index l.ids) id) × Pairs OtherText l.targets × (length l.targets ≤ l.id-index)
