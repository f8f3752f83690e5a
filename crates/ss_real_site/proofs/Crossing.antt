-- The file of an account may go to another thread.
use Rattle.std.proofs.Crossing.{crosses}
use denote.RattleType.{RattleType}
use denote.Param.Send.{IsSend, sendable, recorded_send, struct_send}
use denote.Struct.Declared.{shape}
use Rattle.sqlite_disk.proofs.modelled.Modelled.TheSendSync as modelled
use Rattle.sqlite_disk.specs.contracts.modelled.Modelled as Modelled
use Rattle.sqlite_disk.specs.contracts.modelled.ModelledDisk.TheImpl as Disk
use Rattle.sqlite_disk.specs.contracts.start.Unknown as Unknown
use Rattle.sqlite_disk.specs.contracts.start.UnknownStart.TheImpl as Start
use Rattle.sqlite_std_file.specs.contracts.host.Host as Host
use Rattle.sqlite_std_file.specs.contracts.host.HostCalls.TheImpl as Calls
use Rattle.sqlite_store.proofs.store.FileStore.TheSendSync as store
use Rattle.sqlite_store.specs.contracts.store.FileStoreStore.TheImpl as Store
use Rattle.ss_keep_sql.proofs.keeper.SqlKeeper.TheSendSync as sql
use Rattle.ss_site.proofs.counted_keeper.CountedKeeper.TheSendSync as counted
use Rattle.ss_real_site.specs.contracts.account_file.AccountFile as AccountFile

host_send : IsSend Host.the_row
host_send = search (sendable, crosses) depth 100 fits 200000

-- a file of the system, as the kit's database has it
abbrev file_row : RattleType
file_row = Modelled.the_row Host.the_row Unknown.the_row Calls.ghosts Start.ghosts

file_send : IsSend file_row
file_send = modelled.the_send Host.the_row Unknown.the_row Calls.ghosts Start.ghosts host_send

pub account_file_send : IsSend AccountFile.the_row
account_file_send =
    let disk = Disk.ghosts Host.the_row Unknown.the_row Calls.ghosts Disk.no_dict Start.ghosts Disk.no_dict Disk.no_dict in
    recorded_send _ _ _ (AccountFile.the_type).to_one
    (struct_send (shape AccountFile.the_type) (counted.the_field_send _ (sql.the_send _ (Store.ghosts file_row disk Store.no_dict) (store.the_send file_row disk file_send)), tt))
