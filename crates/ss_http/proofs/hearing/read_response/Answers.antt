use Rattle.std.proofs.Common.{◌++◌}
use Rattle.std.proofs.lemmas.Result.{err_from_is_err_and}
use Rattle.ss_outside.proofs.Telling.{HasRead-append}
use Rattle.ss_http.proofs.AnswerLemmas.{heard_whole, short_heard}
use Rattle.ss_http.proofs.hearing.read_response.Goals as goal

pub returns-in_err-read_body-clause-takes : goal.returns-in_err-read_body-clause-takes
returns-in_err-read_body-clause-takes g c =
    let p = err_from_is_err_and c.from_residual-in_err-read_body.result c.from_residual-in_err-read_body.ensures.1 in
    let head = c.read_answer.new.head.items in
    let body = c.read_body.new.body.items in (
      head ++ body,
      HasRead-append head body (g.S.Told.told c.args.source.now) (g.S.Told.told c.read_answer.new.source) (g.S.Told.told c.read_body.new.source) c.read_answer.ensures.bytes c.read_body.ensures.bytes,
      rw (p.1, p.2) (short_heard c.in_err-read_body.field-0.0 head body c.in_ok-answer.answer c.in_ok-answer.ensures.answer c.in_ok-answer.ensures.whole c.in_err-read_body.ensures.fault),
    )

pub returns-clause-takes : goal.returns-clause-takes
returns-clause-takes g c =
    let head = c.read_answer.new.head.items in
    let body = c.read_body.new.body.items in
    let answer = c.in_ok-answer.answer in (
      head ++ body,
      HasRead-append head body (g.S.Told.told c.args.source.now) (g.S.Told.told c.read_answer.new.source) (g.S.Told.told c.read_body.new.source) c.read_answer.ensures.bytes c.read_body.ensures.bytes,
      heard_whole head body answer _ c.in_ok-answer.ensures.answer c.in_ok-answer.ensures.whole c.in_ok-read_body.ensures.whole
          (λ i. record { status = answer.status; modified = answer.modified; next = answer.next; body = c.new.ensures i; last = answer.last }),
    )
