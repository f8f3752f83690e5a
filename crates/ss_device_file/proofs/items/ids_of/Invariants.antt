use Rattle.std.proofs.Common.{◌≡◌, ◌++◌, drop, option_map}
use Rattle.ss_device_file.specs.Records.{all_ids}
use Rattle.ss_device_file.proofs.items.ids_of.Given as goal

abbrev pub invariant-loop-text : goal.invariant-loop-text
invariant-loop-text l = all_ids l.texts ≡ option_map (λ rest. l.ids.items ++ rest) (all_ids (drop l.text-index l.texts))
