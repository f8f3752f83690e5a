use Rattle.std.proofs.Common.{[], ◌∷◌, ◌++◌, ap, sym, ◌∙◌}
use Rattle.std.proofs.lemmas.List.{map-append}
use Rattle.std.proofs.lemmas.List.Elements.{All-append, All-cons, All-nil}
use Rattle.ss_device.specs.Device.{IsDevice}
use Rattle.ss_world.specs.Worlds.{Idle}
use Rattle.ss_world.proofs.worlds.seated.Goals as goal

pub loop-device-preserved : goal.loop-device-preserved
loop-device-preserved c = record {
  seats = c.in_ok-push.ensures.items ∙ (ap (λ xs. xs ++ Idle c.in-Some.device ∷ []) c.loop-device.invariant.seats ∙ sym (map-append Idle c.loop-device.yielded (c.in-Some.device ∷ [])));
  valid = All-append IsDevice c.loop-device.yielded (c.in-Some.device ∷ []) c.loop-device.invariant.valid (All-cons IsDevice c.in-Some.device [] c.tree-valid.ensures.device (All-nil IsDevice));
}
