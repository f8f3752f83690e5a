use Rattle.std.proofs.Common.{◌≡◌, ℕ, List}
use Rattle.std.specs.BTreeMap.{IsOrdered, get, is_at}
use Rattle.std.specs.Map.{lookup}
use Rattle.ss_text.specs.Texts.{text_cmp}
use Rattle.ss_build.specs.Built.{or_else}
use Rattle.ss_device.proofs.burials.with_older.Given as goal

abbrev pub invariant-loop-id : goal.invariant-loop-id
invariant-loop-id l = record {
  told : (y : List ℕ) → or_else (get text_cmp l.initial.graves y) (get text_cmp l.older y) ≡ or_else (get text_cmp l.graves y) (lookup (is_at (text_cmp y)) l.id-iterator);
  ordered : IsOrdered text_cmp l.graves;
}
