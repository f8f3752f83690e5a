use Rattle.std.proofs.Common.{◌≡◌, ◌++◌, map}
use Rattle.ss_device.proofs.device.Device.dead_ids.Given as goal

abbrev pub invariant-loop-id : goal.invariant-loop-id
invariant-loop-id l = map (λ p. p.0) l.self.dead ≡ l.ids.items ++ map (λ p. p.0) l.id-iterator
