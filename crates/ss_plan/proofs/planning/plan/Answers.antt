use Rattle.std.proofs.Common.{◌∙◌, sym}
use Rattle.ss_plan.proofs.planning.plan.Goals as goal

pub returns-in-None-clause-stand : goal.returns-in-None-clause-stand
returns-in-None-clause-stand c = λ sheets after stamp told w. c.in_ok-parts.ensures.stand sheets after stamp (told ∙ sym c.deref.ensures.value) w
