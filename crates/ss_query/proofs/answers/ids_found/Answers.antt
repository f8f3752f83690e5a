use Rattle.std.proofs.Common.{◌∙◌, sym, ap, length, drop, map, refl}
use Rattle.ss_query.specs.Answer.{limited_list, next_offset, picked_ids}
use Rattle.ss_query.proofs.Answered.{answered, given_ids}
use Rattle.ss_query.proofs.answers.ids_found.Goals as goal

pub returns : goal.returns
returns c =
    ap (λ ids. given_ids ids c.next_page.result) c.in_ok-copied_ids.ensures
    ∙ ap picked_ids
    (answered (λ row. row.now) c.args.query.now c.args.found.items c.in_ok-ordered.ordered.items c.page-page.result.now (map (λ row. row.now) c.page-page.result.now) c.next_page.result
    c.in_ok-ordered.ensures
    (c.page-page.ensures ∙ ap (λ l. limited_list c.args.query.now.limit (drop c.args.query.now.offset l)) c.as_slice.ensures.value)
    refl (c.next_page.ensures ∙ ap (next_offset c.args.query.now.limit c.args.query.now.offset) (c.len.ensures ∙ sym c.as_slice.ensures.len ∙ ap length c.as_slice.ensures.value)))
