use Rattle.std.proofs.Common.{◌∙◌, sym, ap, length, drop}
use Rattle.ss_query.specs.Answer.{limited_list, next_offset}
use Rattle.ss_query.proofs.Answered.{answered}
use Rattle.ss_query.proofs.answers.answer_found.Goals as goal

pub returns : goal.returns
returns c =
    answered (λ row. row.now) c.args.query.now c.args.found.items c.in_ok-ordered.ordered.items c.page-page.result.now c.in_ok-copies.field-0 c.next_page.result
    c.in_ok-ordered.ensures
    (c.page-page.ensures ∙ ap (λ l. limited_list c.args.query.now.limit (drop c.args.query.now.offset l)) c.as_slice.ensures.value)
    c.in_ok-copies.ensures (c.next_page.ensures ∙ ap (next_offset c.args.query.now.limit c.args.query.now.offset) (c.len.ensures ∙ sym c.as_slice.ensures.len ∙ ap length c.as_slice.ensures.value))
