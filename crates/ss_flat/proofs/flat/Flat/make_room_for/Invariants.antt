use Rattle.std.proofs.Common.{◌≤◌, length, take}
use Rattle.ss_bso.specs.Lists.{Each}
use Rattle.ss_flat.specs.Joining.{HasRoom}
use Rattle.ss_flat.specs.States.{KeepsSame}
use Rattle.ss_flat.proofs.flat.Flat.make_room_for.Given as goal

abbrev pub invariant-loop-id : goal.invariant-loop-id
invariant-loop-id l = record {
  same : KeepsSame l.initial.self l.self;
  spare : length l.more ≤ l.self.spare;
  room : Each (λ entry. HasRoom entry.0 (length entry.1.heard.visits) l.self) (take l.id-index l.more);
}
