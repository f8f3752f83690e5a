use Rattle.std.proofs.Common.{◌≡◌, ◌+◌, vec_len}
use Rattle.std.specs.Prelude.{vec_capacity}
use Rattle.crossbeam_channel.specs.Claims.{view, IsSeatAt}
use Rattle.crossbeam_channel.specs.Ends.{receives_on}
use Rattle.ss_town.specs.Town.{uids_of, desks_of}
use Rattle.ss_serve.specs.Crew.{HasWorked, IsGatedWorker, sign}
use Rattle.ss_serve.proofs.rest.serve_rest.Given as goal

abbrev pub invariant-loop : goal.invariant-loop
invariant-loop g l = record {
  next : (goal.iterator-loop g).can_next l.iterator';
  ends : (goal.iterator-loop g).is_finite l.iterator';
  seat : IsSeatAt (receives_on l.receiver) l.place;
  whole : (view l.place).parts ≡ 32;
  put : (view l.place).put ≡ (view l.fn.place).put;
  worked : HasWorked g.L.Told.told g.L.Closable.closed g.C.Clock.coming (uids_of l.town) (desks_of l.town) l.worker;
  sign : sign g.C.Clock.coming l.worker ≡ sign g.C.Clock.coming l.fn.worker;
  gated : IsGatedWorker (g.G.Gate.says l.gate) l.worker;
  count : vec_len l.worker.reports + (view l.fn.place).taken ≡ vec_len l.fn.worker.reports + (view l.place).taken;
  room : vec_capacity l.worker.reports ≡ vec_capacity l.fn.worker.reports;
}
