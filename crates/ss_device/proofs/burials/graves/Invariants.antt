use Rattle.std.proofs.Common.{◌≡◌, ℕ, List, Some, None, cond, take}
use Rattle.std.specs.BTreeMap.{IsOrdered, get}
use Rattle.ss_text.specs.Texts.{text_cmp}
use Rattle.ss_record.specs.Ids.{has}
use Rattle.ss_device.proofs.burials.graves.Given as goal

abbrev pub invariant-loop-id : goal.invariant-loop-id
invariant-loop-id l = record {
  told : (y : List ℕ) → get text_cmp l.graves y ≡ cond (has y (take l.id-index l.ids)) (Some l.time) None;
  ordered : IsOrdered text_cmp l.graves;
}
