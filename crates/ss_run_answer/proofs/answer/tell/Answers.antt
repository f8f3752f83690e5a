use Rattle.std.proofs.Common.{refl}
use Rattle.ss_query.specs.declared.replies.Mark.TheVariants.{Done}
use Rattle.ss_bso.proofs.Reordering.{same-self}
use Rattle.ss_run_answer.specs.Turns.{entered}
use Rattle.ss_run_answer.proofs.answer.tell.Goals as goal

pub returns : goal.returns
returns c = λ account. record { course = entered Done; rendered = c.to_local.ensures.rendered; is = refl; left = same-self account; sent = c.to_local.ensures.are }
