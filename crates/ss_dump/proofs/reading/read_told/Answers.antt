use Rattle.std.proofs.Common.{◌∙◌}
use Rattle.ss_dump.specs.Stages.{stage_state}
use Rattle.ss_dump.proofs.ByLines.{more_behind}
use Rattle.ss_dump.proofs.reading.read_told.Goals as goal

pub returns-then-reading-bytes-clause-bad : goal.returns-then-reading-bytes-clause-bad
returns-then-reading-bytes-clause-bad c =
    more_behind c.args.bytes.now (stage_state c.in_ok-reading.reading.stage) c.in_ok-reading.reading.used c.in_ok-reading.reading.body c.in_ok-reading.reading.count
    c.in_ok-reading.ensures.read (c.in_ok-reading.ensures.end ∙ c.in_ok-closed.ensures.closed) c.if-reading-bytes.true
