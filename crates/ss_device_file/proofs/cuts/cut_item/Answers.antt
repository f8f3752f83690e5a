use Rattle.std.proofs.Common.{arith}
use Rattle.ss_device_file.proofs.Sliced.{behind_front}
use Rattle.ss_device_file.proofs.cuts.cut_item.Goals as goal

pub returns-then-line : goal.returns-then-line
returns-then-line c = λ digits text h is. let b = behind_front digits text _ is in absurd (omega (arith, b.0, c.if-line.true))

pub returns : goal.returns
returns c = λ digits text h is. c.cut_inner.ensures digits text h (behind_front digits text _ is).1
