use Rattle.std.proofs.Common.{subst, sym, List, map}
use Rattle.ss_record.specs.Ids.{Apart}
use Rattle.ss_record.specs.declared.readings.Sheet.{Sheet}
use Rattle.ss_device.proofs.Known.{by_id_apart}
use Rattle.ss_device.proofs.device.Device.mirror.Goals as goal

pub returns-clause-apart : goal.returns-clause-apart
returns-clause-apart c = let P : List Sheet → Type 0 = λ rs. Apart (map (λ (s : Sheet). s.id) rs) in subst P (sym c.as_slice.ensures.value) (by_id_apart _ c.self.invariant.mirror_by_id)
