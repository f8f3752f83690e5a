use Rattle.std.proofs.Common.{ap₂, Some, arith}
use Rattle.ss_device_file.proofs.Sliced.{sliced, not_sliced}
use Rattle.ss_device_file.proofs.cuts.cut_inner.Goals as goal

pub returns-in_err-comma : goal.returns-in_err-comma
returns-in_err-comma c = λ digits text h is. absurd (not_sliced digits text _ h is c.in_err-comma.ensures)

pub returns-then-text-lt2 : goal.returns-then-text-lt2
returns-then-text-lt2 c = λ digits text h is. let s = sliced digits text _ _ h is c.in_ok-comma.ensures in absurd (omega (arith, c.if-text-lt2.true, s.long))

pub returns : goal.returns
returns c = λ digits text h is. let s = sliced digits text _ _ h is c.in_ok-comma.ensures in ap₂ (λ a b. Some (a, b)) s.front s.back
