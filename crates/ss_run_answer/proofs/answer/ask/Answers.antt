use Rattle.std.proofs.Common.{◌∙◌, ap, sym}
use Rattle.std.specs.Prelude.{if◌then◌else◌}
use Rattle.ss_outside.specs.Plans.{fault_count}
use Rattle.ss_query.specs.declared.replies.Reply.{Reply}
use Rattle.ss_query.specs.Marks.{mark_of}
use Rattle.ss_http.specs.Responses.{memory_response}
use Rattle.ss_route.specs.Wire.{wire}
use Rattle.ss_run_answer.specs.Turns.{entered}
use Rattle.ss_run_answer.proofs.answer.ask.Goals as goal
use Rattle.ss_account.proofs.Rising.{never-rose}

pub returns-clause-turn : goal.returns-clause-turn
returns-clause-turn c = record {
  course = entered (mark_of c.step-reply.result);
  rendered = c.to_reply.ensures.rendered;
  is = λ k. never-rose (ap (λ keeper. fault_count keeper.plan) (sym c.keeper.ensures) ∙ c.never_fails.ensures) (c.step-reply.ensures.cause k);
  left = c.step-reply.ensures.account;
  sent = c.to_reply.ensures.are
      ∙ ap (λ (reply : Reply). if c.to_reply.ensures.rendered then wire reply c.args.newlines c.args.last else memory_response reply.moment c.args.last) c.step-reply.ensures.reply;
}
