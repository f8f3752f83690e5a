-- Accounts with their journals may go to another thread where the keeper may, and workers where the account, the link and the clock may.
use Rattle.std.proofs.Crossing.{crosses}
use Rattle.std.proofs.MapsCrossing as maps
use denote.RattleType.{RattleType}
use denote.Param.Send.{IsSend, sendable}
use Rattle.atomic_table.proofs.shared.Seat.TheSendSync as seat
use Rattle.atomic_table.proofs.badge.Badge.TheSendSync as badge
use Rattle.ss_desk.specs.declared.journaled.Journaled as journaled
use Rattle.ss_serve.specs.contracts.worker.Worker as Worker
use Rattle.ss_serve.specs.contracts.threads.Crew as Crew
use Rattle.ss_laws.specs.contracts.journal.Entry as Entry
use Rattle.ss_laws.specs.contracts.journal.Journal as Journal
use Rattle.ss_account.specs.contracts.account.Account as Account
use Rattle.ss_index.specs.contracts.shelf.Shelf as Shelf
use Rattle.ss_batch.specs.contracts.stage.Stage as Stage
use Rattle.ss_booked.specs.contracts.booked.Booked as Booked
use Rattle.ss_booked.specs.contracts.booked.Terms as Terms

pub terms_send : IsSend Terms.the_row
terms_send = search (sendable, crosses, maps.crosses) depth 60 fits 200000

pub entry_send : IsSend Entry.the_row
entry_send = search (sendable, crosses, maps.crosses) depth 60 fits 200000

pub journal_send : IsSend Journal.the_row
journal_send = search (sendable, crosses, maps.crosses) depth 100 fits 200000

pub shelf_send : IsSend Shelf.the_row
shelf_send = search (sendable, crosses, maps.crosses) depth 200 fits 200000

pub stage_send : IsSend Stage.the_row
stage_send = search (sendable, crosses, maps.crosses) depth 100 fits 200000

module _ (T F E A R : RattleType) (J : journaled.Ghosts T.Denot F.Denot E.Denot A.Denot R.Denot) (t : IsSend T) where
  pub worker_send : (L C : RattleType) → IsSend L → IsSend C → IsSend (Worker.the_row L C T F E A R J)
  worker_send L C l c = search (badge.the_send, seat.the_send, sendable, crosses, maps.crosses) depth 60 fits 100000

  pub crew_send : (L C : RattleType) → IsSend L → IsSend C → IsSend (Crew.the_row L C T F E A R J)
  crew_send L C l c = search (worker_send, sendable, crosses) depth 60 fits 100000
