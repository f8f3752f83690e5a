use Rattle.std.specs.Prelude.{false}
use Rattle.std.proofs.Common.{ap, ◌∙◌}
use Rattle.ss_query.specs.Api.{api}
use Rattle.ss_route.specs.Wire.{heard_of}
use Rattle.ss_hearing.specs.Hearing.{answer_of}
use Rattle.ss_client.specs.Asking.{ask, awaits}
use Rattle.ss_promises.proofs.Telling.{has_reason, kind_of}
use Rattle.ss_promises.proofs.exchanges.replies_come_back.Goals as goal

pub returns-clause-heard : goal.returns-clause-heard
returns-clause-heard c = λ machine account now last rest ready t.
    let reply = (api account now (ask machine)).reply in
    let sent = c.requests_can_be_sent.ensures.sent machine ready.sound in
    let typed = c.replies_are_typed.ensures account now (ask machine) t.values sent.0 ready.typed (c.requests_stay_readable.ensures.sent machine ready.readable) sent.1 in
    (heard_of reply false last, c.replies_are_heard.ensures reply false last rest typed.0 (has_reason account now (ask machine)) t.whole)

pub returns-clause-told : goal.returns-clause-told
returns-clause-told c = λ machine account now last rest heard left ready t hears.
    let reply = (api account now (ask machine)).reply in
    let sent = c.requests_can_be_sent.ensures.sent machine ready.sound in
    let typed = c.replies_are_typed.ensures account now (ask machine) t.values sent.0 ready.typed (c.requests_stay_readable.ensures.sent machine ready.readable) sent.1 in
    let whole = c.replies_are_heard.ensures reply false last rest typed.0 (has_reason account now (ask machine)) t.whole in
    let same = c.responses_are_heard.ensures.once _ heard (heard_of reply false last) left rest hears whole in (
      ap (answer_of (awaits machine.stage)) same.0
          ∙ c.replies_say_what_is_told.ensures.heard (awaits machine.stage) reply last typed.1 (kind_of c.replies_say_what_is_told.ensures.kinds machine account now),
      same.1,
    )
