-- An account with its journal may go to another thread, where its keeper may, and so may passes to a desk of it.
use Rattle.std.proofs.Crossing.{crosses}
use Rattle.std.proofs.MapsCrossing as maps
use denote.RattleType.{RattleType}
use denote.Param.Send.{IsSend, sendable}
use Rattle.atomic_table.proofs.shared.Seat.TheSendSync as seat
use Rattle.ss_desk.specs.contracts.pass.RawPass as Pass
use Rattle.ss_outside.specs.declared.faults.Faults.{Ghosts as Plans}
use Rattle.ss_bso.specs.contracts.changes.BatchChange as BatchChange
use Rattle.ss_bso.specs.contracts.changes.Changes as Changes
use Rattle.ss_bso.specs.contracts.changes.CollectionChange as CollectionChange
use Rattle.ss_bso.specs.contracts.changes.RowChange as RowChange
use Rattle.ss_keeper.specs.declared.keeper.Keeper.{Ghosts}
use Rattle.ss_keeper.specs.contracts.memory.KeeperUnder as Under
use Rattle.ss_laws.specs.contracts.journal.Entry as Entry
use Rattle.ss_laws.specs.contracts.journal.Journal as Journal
use Rattle.ss_account.proofs.Crossing.{account_send}
use Rattle.ss_booked.specs.contracts.booked.Asked as Asked
use Rattle.ss_booked.specs.contracts.booked.Booked as Booked
use Rattle.ss_booked.specs.contracts.booked.Terms as Terms

pub terms_send : IsSend Terms.the_row
terms_send = search (sendable, crosses, maps.crosses) depth 60 fits 200000

pub entry_send : IsSend Entry.the_row
entry_send = search (sendable, crosses, maps.crosses) depth 60 fits 200000

pub journal_send : IsSend Journal.the_row
journal_send = search (sendable, crosses, maps.crosses) depth 100 fits 200000

pub asked_send : IsSend Asked.the_row
asked_send = search (sendable, crosses, maps.crosses) depth 60 fits 200000

pub booked_send : (K : RattleType) (g : Ghosts K.Denot) → IsSend K → IsSend (Booked.the_row K g)
booked_send K g k = search (account_send, journal_send, sendable, crosses, maps.crosses) depth 100 fits 200000

pub pass_send : (T F E : RattleType) → IsSend T → IsSend (Pass.the_row T F E)
pass_send T F E t = search (seat.the_send, sendable, crosses) depth 60 fits 100000

row_change_send : IsSend RowChange.the_row
row_change_send = search (sendable, crosses) depth 100 fits 200000

collection_change_send : IsSend CollectionChange.the_row
collection_change_send = search (sendable, crosses) depth 100 fits 200000

batch_change_send : IsSend BatchChange.the_row
batch_change_send = search (sendable, crosses) depth 100 fits 200000

pub changes_send : IsSend Changes.the_row
changes_send = search (row_change_send, collection_change_send, batch_change_send, sendable, crosses) depth 100 fits 200000

-- a keeper in memory, where its plan may
pub keeper_send : (F : RattleType) (g : Plans F.Denot) → IsSend F → IsSend (Under.the_row F g)
keeper_send F g f = search (changes_send, sendable, crosses) depth 100 fits 200000
