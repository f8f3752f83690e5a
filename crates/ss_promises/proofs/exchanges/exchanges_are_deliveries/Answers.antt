use Rattle.std.proofs.Common.{sym, ◌∙◌}
use Rattle.ss_client.specs.Asking.{ask}
use Rattle.ss_promises.proofs.Delivering.{answered, asked_alike, delivered, followed, lost, uid_is, written}
use Rattle.ss_promises.proofs.Delivering.{written_alike}
use Rattle.ss_laws.specs.Journals.{marked_outcome}
use Rattle.ss_world.specs.Seats.{after}
use Rattle.ss_promises.proofs.Failing.{given_up, is_failure, stopped, ticked}
use Rattle.ss_promises.proofs.Meaning.{meant_alike}
use Rattle.ss_promises.proofs.exchanges.exchanges_are_deliveries.Goals as goal

pub returns-clause-delivers : goal.returns-clause-delivers
returns-clause-delivers c = λ manner address world n now machine server output behind more next a ready there alike tellable r p.
    let account = world.server.account in
    let goes = c.requests_come_in.ensures.routed manner address machine behind r.message r.left a ready r.reads in
    let same = meant_alike manner account now (ask machine) (c.absence_law.ensures account now (ask machine)) alike in
    let answers = answered manner _ output world.server server now address.uid (ask machine) same r goes.0 in
    let heard = followed machine account now r.last output more next (written manner _ output world.server server now address.uid (ask machine) same r goes.0) p
    (c.replies_come_back.ensures.told machine account now r.last more p.heard p.left ready tellable) in
    (delivered world n now machine server next there answers heard.0, uid_is manner _ output world.server server now address.uid (ask machine) same r goes.0, goes.1, heard.1)

pub returns-clause-loses : goal.returns-clause-loses
returns-clause-loses c = λ manner address world n now machine server output behind a ready there alike r.
    let account = world.server.account in
    let goes = c.requests_come_in.ensures.routed manner address machine behind r.message r.left a ready r.reads in
    let same = meant_alike manner account now (ask machine) (c.absence_law.ensures account now (ask machine)) alike in
    let answers = answered manner _ output world.server server now address.uid (ask machine) same r goes.0 in
    (lost world n now machine server there answers, uid_is manner _ output world.server server now address.uid (ask machine) same r goes.0, goes.1)

pub returns-clause-fails : goal.returns-clause-fails
returns-clause-fails c = λ manner address world n now machine mark server output behind more next a ready there valid f p.
    let account = world.server.account in
    let goes = c.requests_come_in.ensures.routed manner address machine behind f.message f.left a ready f.reads in
    let same = asked_alike f.uid address.uid f.request _ f.newlines (sym f.routes ∙ goes.0) in
    let reply = (marked_outcome account now f.request mark).reply in
    let stop = stopped machine reply f.last output more next (is_failure account now f.request mark valid f.fails) (written_alike output account now f.request mark f.newlines f.last f.writes same.1)
    p c.replies_say_what_is_told.ensures.heard c.replies_are_heard.ensures
    (λ one other. c.responses_are_heard.ensures.once _ p.heard _ p.left more one other) in
    (ticked world now server f.ticks, given_up world n machine server (after machine next) there stop.0, same.0, goes.1, stop.1)
