use Rattle.std.proofs.Common.{Err, ap}
use Rattle.ss_hearing.proofs.Parsing.{json_yes, json_no}
use Rattle.ss_hearing.proofs.bodies.read.Goals as goal

pub returns-in-Ok : goal.returns-in-Ok
returns-in-Ok c = json_yes _ _ c.in-Ok.ensures.ok.0 c.in-Ok.ensures.ok.1

pub returns-in-Err-Invalid : goal.returns-in-Err-Invalid
returns-in-Err-Invalid c = json_no _ (c.in-Err-Invalid.ensures.invalid (ap Err c.in-Err-Invalid.field-0-is))
