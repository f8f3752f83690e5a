-- An account may cross to another thread, where its keeper may.
use Rattle.std.proofs.Crossing.{crosses}
use Rattle.std.proofs.MapsCrossing as maps
use denote.RattleType.{RattleType}
use denote.Param.Send.{IsSend, sendable}
use Rattle.ss_keeper.specs.declared.keeper.Keeper.{Ghosts}
use Rattle.ss_index.specs.contracts.shelf.Shelf as Shelf
use Rattle.ss_batch.specs.contracts.stage.Stage as Stage
use Rattle.ss_account.specs.contracts.account.Account as Account

pub shelf_send : IsSend Shelf.the_row
shelf_send = search (sendable, crosses, maps.crosses) depth 200 fits 200000

pub stage_send : IsSend Stage.the_row
stage_send = search (sendable, crosses, maps.crosses) depth 100 fits 200000

pub account_send : (K : RattleType) (g : Ghosts K.Denot) → IsSend K → IsSend (Account.the_row K g)
account_send K g k = search (shelf_send, stage_send, sendable, crosses, maps.crosses) depth 100 fits 200000
