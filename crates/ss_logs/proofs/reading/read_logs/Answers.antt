use Rattle.ss_logs.proofs.ToTheEnd.{none_read}
use Rattle.ss_logs.proofs.reading.read_logs.Goals as goal

pub logs-init : goal.logs-init
logs-init c = none_read c.args.bytes.now c.new.result.items c.new.ensures.items
