use denote.Param.Send.{sendable}
use Rattle.ss_real_site.proofs.Crossing.{account_file_send}
use Rattle.syncstore.proofs.main.Goals as goal

pub run_serve-ending-requires-send-X-Keeper : goal.run_serve-ending-requires-send-X-Keeper
run_serve-ending-requires-send-X-Keeper g c κs within = search (account_file_send, sendable) depth 60 fits 200000
