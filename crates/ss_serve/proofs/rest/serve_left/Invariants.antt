use Rattle.std.proofs.Common.{◌≡◌, ◌+◌, length, vec_len}
use Rattle.std.specs.Prelude.{vec_capacity}
use Rattle.ss_serve.specs.Accepting.{AreUnusedLinks}
use Rattle.ss_town.specs.Town.{uids_of, desks_of}
use Rattle.ss_serve.specs.Crew.{HasWorked, IsGatedWorker, sign}
use Rattle.ss_serve.proofs.rest.serve_left.Given as goal

abbrev pub invariant-loop-link : goal.invariant-loop-link
invariant-loop-link g l = record {
  worked : HasWorked g.L.Told.told g.L.Closable.closed g.C.Clock.coming (uids_of l.town) (desks_of l.town) l.worker;
  sign : sign g.C.Clock.coming l.worker ≡ sign g.C.Clock.coming l.fn.worker;
  gated : IsGatedWorker (g.G.Gate.says l.gate) l.worker;
  count : vec_len l.worker.reports + vec_len l.left ≡ vec_len l.fn.worker.reports + vec_len l.fn.left;
  room : vec_capacity l.worker.reports ≡ vec_capacity l.fn.worker.reports;
  unused : AreUnusedLinks g.L.Told.told l.left.items;
}

abbrev pub decreases-loop-link : goal.decreases-loop-link
decreases-loop-link g l = length l.left.items
