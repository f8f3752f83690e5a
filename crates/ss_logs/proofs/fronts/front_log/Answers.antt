use Rattle.ss_dump.proofs.Undumped.{absent, present}
use Rattle.ss_log_lines.specs.LogLines.{IsLogFront, NoLogLineBegins}
use Rattle.ss_logs.proofs.InParts.{bad_head, no_head, other_head}
use Rattle.ss_logs.proofs.fronts.front_log.Goals as goal

pub returns-in_default-clause-bad : goal.returns-in_default-clause-bad
returns-in_default-clause-bad c =
    bad_head c.args.bytes.now (no_head c.args.bytes.now (absent (NoLogLineBegins c.args.bytes.now) c.in_ok-front.field-0 c.in_default.not-Some c.in_ok-front.ensures.none))

pub returns-in_default-line : goal.returns-in_default-line
returns-in_default-line c =
    let front = present (λ f. IsLogFront c.args.bytes.now f.line f.used) c.in_ok-front.field-0 c.in-Some.front c.in-Some.is c.in_ok-front.ensures.front in
    record { front = tt; bad = bad_head c.args.bytes.now (other_head c.args.bytes.now c.in-Some.front.line c.in-Some.front.used front c.in_default-line.not-Log) }
