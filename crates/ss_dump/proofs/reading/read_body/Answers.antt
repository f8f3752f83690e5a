use Rattle.std.proofs.Common.{refl}
use Rattle.ss_dump.proofs.ByLines.{start}
use Rattle.ss_dump.proofs.reading.read_body.Goals as goal

pub lines-init : goal.lines-init
lines-init c = record { read = start c.args.bytes.now; going = refl }
