-- What becomes of a device of a world.
use Rattle.ss_device.specs.Device.{DeviceView}
use Rattle.ss_client.specs.declared.summaries.Fetch.{Fetch}
use Rattle.ss_client.specs.declared.runs.Stage.TheVariants.{Asks}
use Rattle.ss_client.specs.Runs.{MachineView, first_run, is_newer}
use Rattle.ss_client.specs.Machine.{Next, Send, Done, Stop}
use Rattle.ss_world.specs.declared.seats.Seat.{Seat}
use Rattle.ss_world.specs.declared.seats.Seat.TheVariants.{Idle, Syncs}

-- the device, as it was started where a sync is under way
abbrev pub device_of : Seat → DeviceView
device_of (Idle device) = device
device_of (Syncs machine) = machine.device

-- what a device is after its machine's step: a stop hands it back as it was started
abbrev pub after : MachineView → Next → Seat
after m (Send run stage) = Syncs (record { device = m.device; run = run; stage = stage })
after m (Done device summary) = Idle device
after m (Stop fault) = Idle m.device

-- a device that has no sync under way begins one
abbrev pub seat_after_start : Fetch → Seat → Seat
seat_after_start fetch (Idle device) = Syncs (record { device = device; run = first_run (is_newer device fetch); stage = Asks })
seat_after_start fetch (Syncs machine) = Syncs machine
