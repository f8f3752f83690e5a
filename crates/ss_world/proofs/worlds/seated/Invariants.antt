use Rattle.std.proofs.Common.{◌≡◌, map}
use Rattle.std.specs.List.{All}
use Rattle.ss_device.specs.Device.{IsDevice}
use Rattle.ss_world.specs.Worlds.{Idle}
use Rattle.ss_world.proofs.worlds.seated.Given as goal

abbrev pub invariant-loop-device : goal.invariant-loop-device
invariant-loop-device l = record {
  seats : l.seats.items ≡ map Idle l.yielded;
  valid : All IsDevice l.yielded;
}
