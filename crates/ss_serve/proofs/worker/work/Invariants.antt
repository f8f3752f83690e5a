use Rattle.std.proofs.Common.{◌≡◌}
use Rattle.crossbeam_channel.specs.Ends.{receives_on}
use Rattle.ss_town.specs.Town.{uids_of, desks_of}
use Rattle.ss_serve.specs.Crew.{IsGatedWorker, IsReady, sign}
use Rattle.ss_serve.proofs.worker.work.Given as goal

abbrev pub invariant-loop : goal.invariant-loop
invariant-loop g l = record {
  next : (goal.iterator-loop g).can_next l.iterator';
  ends : (goal.iterator-loop g).is_finite l.iterator';
  ready : IsReady g.L.Told.told g.L.Closable.closed g.C.Clock.coming (uids_of l.town) (desks_of l.town) (receives_on l.receiver) l.worker;
  sign : sign g.C.Clock.coming l.worker ≡ sign g.C.Clock.coming l.fn.worker;
  gated : IsGatedWorker (g.G.Gate.says l.gate) l.worker;
}
