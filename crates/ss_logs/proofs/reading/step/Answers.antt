use Rattle.std.proofs.Common.{arith}
use Rattle.ss_logs.proofs.AtPlaces.{lines_at, more_at, read_at, refused_at, refused_few}
use Rattle.ss_logs.proofs.reading.step.Goals as goal

pub overflow_add-reading-in-Ok : goal.overflow_add-reading-in-Ok
overflow_add-reading-in-Ok c =
    let few = lines_at c.args.bytes.now c.args.reading.logs.items _ c.args.reading.used c.args.reading.lines c.in-Ok.front.used c.in-Ok.front.lines c.requires.read c.in-Ok.ensures.front in omega (arith, few)

pub returns-in-Ok-clause-read : goal.returns-in-Ok-clause-read
returns-in-Ok-clause-read c =
    read_at c.args.bytes.now c.args.reading.logs.items c.push.new.self.items _ c.args.reading.used c.args.reading.lines c.in-Ok.front.used c.in-Ok.front.lines c.requires.read c.in-Ok.ensures.front
    c.in_ok-push-in-Ok.ensures.items

pub returns-in-Ok-clause-nearer : goal.returns-in-Ok-clause-nearer
returns-in-Ok-clause-nearer c = more_at c.args.bytes.now _ c.args.reading.used c.in-Ok.front.used c.in-Ok.front.lines c.in-Ok.ensures.front

pub overflow_add-result : goal.overflow_add-result
overflow_add-result c =
    let few = refused_few c.args.bytes.now c.args.reading.logs.items c.args.reading.used c.args.reading.lines c.in-Err-BadLine.n c.in-Err-BadLine.field-0 c.requires.read c.in-Err-BadLine.field-0-is c.in-Err-BadLine.ensures.bad in
    omega (arith, few)

pub returns-in-Err-BadLine-clause-bad : goal.returns-in-Err-BadLine-clause-bad
returns-in-Err-BadLine-clause-bad c =
    refused_at c.args.bytes.now c.args.reading.logs.items c.args.reading.used c.args.reading.lines c.in-Err-BadLine.n c.in-Err-BadLine.field-0 c.requires.read c.requires.more c.in-Err-BadLine.field-0-is
    c.in-Err-BadLine.ensures.bad
