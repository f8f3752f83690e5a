use Rattle.std.proofs.Common.{sym, subst}
use Rattle.std.specs.Prelude.{◌≡◌, false}
use Rattle.ss_http.proofs.MessageLemmas.{message_unique}
use Rattle.ss_client.specs.Asking.{ask}
use Rattle.ss_route.specs.declared.routed.Routed.TheVariants.{Ask}
use Rattle.ss_route.specs.Routing.{routing_of_message}
use Rattle.ss_route.specs.Sending.{request_meant}
use Rattle.ss_promises.proofs.Meaning.{meant_absent, meant_as_is, meant_by_the_letter}
use Rattle.ss_promises.proofs.exchanges.requests_come_in.Goals as goal

pub returns-clause-read : goal.returns-clause-read
returns-clause-read c = λ address machine rest a r.
    let sent = c.requests_can_be_sent.ensures.sent machine r.sound in
    c.requests_are_routed.ensures.read address.uid address.host (ask machine) rest a.most a.host r.typed sent.0 (c.requests_stay_readable.ensures.sent machine r.readable)

pub returns-clause-routed : goal.returns-clause-routed
returns-clause-routed c = λ manner address machine rest message left a r reads.
    let sent = c.requests_can_be_sent.ensures.sent machine r.sound in
    let read = c.requests_are_routed.ensures.read address.uid address.host (ask machine) rest a.most a.host r.typed sent.0 (c.requests_stay_readable.ensures.sent machine r.readable) in
    let same = message_unique _ _ _ _ _ read reads in (
      subst (λ m. routing_of_message manner m ≡ Ask address.uid (request_meant manner (ask machine)) false) same.0
          (c.requests_are_routed.ensures.meant manner address.uid address.host (ask machine) a.least a.most r.typed sent.0 sent.1 (c.requests_stay_readable.ensures.sent machine r.readable)),
      sym same.1,
    )

pub returns-clause-by_the_letter : goal.returns-clause-by_the_letter
returns-clause-by_the_letter c = meant_by_the_letter

pub returns-clause-as_browsers : goal.returns-clause-as_browsers
returns-clause-as_browsers c = meant_as_is

pub returns-clause-since_nothing : goal.returns-clause-since_nothing
returns-clause-since_nothing c = meant_absent
