use Rattle.std.proofs.Common.{◌≡◌, Bool, [], None, subst, sym, ◌∙◌}
use Rattle.ss_bso.specs.declared.account.Plain.{Plain}
use Rattle.ss_bso.specs.Account.{fresh}
use Rattle.ss_bso.specs.Changes.{account_at_opening}
use Rattle.ss_bso.specs.Validity.{SameAccount}
use Rattle.ss_http.specs.Buffers.{KeptBytes}
use Rattle.ss_route.specs.Ready.{bytes_of}
use Rattle.ss_run_answer.specs.Turns.{Progress, IsTurn, asked_by_message}
use Rattle.ss_run_answer.proofs.Run.{begun, turned, ended_asking, ended_cut, stopped, ended_counting, ended_early}
use Rattle.ss_run_answer.proofs.Run.{fresh-alone, valid_fresh, unread_further, unread_at_first}
use Rattle.ss_run_answer.proofs.answer.answer.Goals as goal

pub returns-in_default-clause-answered : goal.returns-in_default-clause-answered
returns-in_default-clause-answered g c =
    ended_early c.args.command.uid c.args.command.at (g.S.Told.told c.args.input.now) (g.T.Told.told c.args.output.now) (g.C.Clock.coming c.args.clock.now)

pub returns-in_default-open-clause-answered : goal.returns-in_default-open-clause-answered
returns-in_default-open-clause-answered g c =
    ended_early c.args.command.uid c.args.command.at (g.S.Told.told c.args.input.now) (g.T.Told.told c.args.output.now) (g.C.Clock.coming c.args.clock.now)

pub turns-init : goal.turns-init
turns-init g c =
    let input = g.S.Told.told c.args.input.now in
    let output = g.T.Told.told c.args.output.now in
    let coming = g.C.Clock.coming c.args.clock.now in
    let uid = c.args.command.uid in
    let at = c.args.command.at in
    let account = c.in-Ok-open.account.plain in
    let is : account ≡ fresh = fresh-alone account (subst (λ k. SameAccount (account_at_opening k) account) (c.new-keeper.ensures.kept ∙ c.fresh.ensures) c.in-Ok-open.ensures.opened) in
    let K : KeptBytes → Type 0 = λ k. Progress uid at input input output output coming coming k account 0 in
    let A : Plain → Type 0 = λ a. Progress uid at input input output output coming coming (record { bytes = []; stop = None }) a 0 in
    (subst K (sym c.in-Ok.ensures) (subst A (sym is) (begun uid at input output coming valid_fresh)), unread_at_first at c.args.clock.now)

pub returns-in-Err-clause-answered : goal.returns-in-Err-clause-answered
returns-in-Err-clause-answered g c =
    let p = c.turns.invariant.0 in
    let takes = rw p.going_on at c.in-Err.ensures.takes in
    let ended = rw p.going_on at c.in-Err.ensures.ended in
    let cause = rw p.going_on at c.in-Err.ensures.cause in
    stopped c.args.command.uid c.args.command.at
    (g.S.Told.told c.args.input.now) (g.S.Told.told c.turns.input) (g.S.Told.told c.read_message.new.source)
    (g.T.Told.told c.args.output.now) (g.T.Told.told c.turns.output) (g.T.Told.told c.stop.new.output)
    (g.C.Clock.coming c.args.clock.now) (g.C.Clock.coming c.turns.clock) (g.C.Clock.coming c.stop.new.clock)
    c.turns.buffer c.turns.account.plain c.turns.count c.in-Err.fault takes.0 c.stop.result p c.turns-test.true takes.1 takes.2.2 ended cause c.stop.ensures.stops

pub returns-in-Err-write-clause-unread : goal.returns-in-Err-write-clause-unread
returns-in-Err-write-clause-unread g c =
    unread_further c.args.command.at c.args.clock.now c.turns.clock c.reading-now.new.clock c.turns.invariant.1 c.reading-now.ensures.unread

pub returns-in-Err-write-clause-answered : goal.returns-in-Err-write-clause-answered
returns-in-Err-write-clause-answered g c =
    let p = c.turns.invariant.0 in
    let takes = rw p.going_on at c.in-Ok-read_message.ensures.takes in
    let cause = rw p.going_on at c.in-Ok-read_message.ensures.cause in
    let m = c.in-Ok-read_message.message in
    let T : Bool → Type 0 = λ last. IsTurn (asked_by_message c.args.command.uid m) c.reading-now.result last c.turns.account.plain c.respond-response.new.account.plain (bytes_of c.respond-response.result) in
    ended_cut c.args.command.uid c.args.command.at
    (g.S.Told.told c.args.input.now) (g.S.Told.told c.turns.input) (g.S.Told.told c.read_message.new.source)
    (g.T.Told.told c.args.output.now) (g.T.Told.told c.turns.output) (g.T.Told.told c.write.new.output)
    (g.C.Clock.coming c.args.clock.now) (g.C.Clock.coming c.turns.clock) (g.C.Clock.coming c.reading-now.new.clock)
    c.turns.buffer c.read_message.new.buffer c.turns.account.plain c.respond-response.new.account.plain c.turns.count c.reading-now.result m takes.0 (bytes_of c.respond-response.result)
    p c.turns-test.true takes.1 takes.2.0 cause c.reading-now.ensures.reading (subst T c.closes-last.ensures c.respond-response.ensures.turn) c.in-Err-write.ensures.cut

pub returns-then-message-clause-unread : goal.returns-then-message-clause-unread
returns-then-message-clause-unread g c =
    unread_further c.args.command.at c.args.clock.now c.turns.clock c.reading-now.new.clock c.turns.invariant.1 c.reading-now.ensures.unread

pub returns-then-message-clause-answered : goal.returns-then-message-clause-answered
returns-then-message-clause-answered g c =
    let p = c.turns.invariant.0 in
    let takes = rw p.going_on at c.in-Ok-read_message.ensures.takes in
    let cause = rw p.going_on at c.in-Ok-read_message.ensures.cause in
    let m = c.in-Ok-read_message.message in
    let T : Bool → Type 0 = λ last. IsTurn (asked_by_message c.args.command.uid m) c.reading-now.result last c.turns.account.plain c.respond-response.new.account.plain (bytes_of c.respond-response.result) in
    ended_asking c.args.command.uid c.args.command.at
    (g.S.Told.told c.args.input.now) (g.S.Told.told c.turns.input) (g.S.Told.told c.read_message.new.source)
    (g.T.Told.told c.args.output.now) (g.T.Told.told c.turns.output) (g.T.Told.told c.write.new.output)
    (g.C.Clock.coming c.args.clock.now) (g.C.Clock.coming c.turns.clock) (g.C.Clock.coming c.reading-now.new.clock)
    c.turns.buffer c.read_message.new.buffer c.turns.account.plain c.respond-response.new.account.plain c.turns.count c.reading-now.result m takes.0 (bytes_of c.respond-response.result)
    p c.turns-test.true takes.1 takes.2.0 cause c.reading-now.ensures.reading (subst T c.closes-last.ensures c.respond-response.ensures.turn) c.in-Ok-write.ensures.sent c.if-message.true

pub turns-preserved : goal.turns-preserved
turns-preserved g c =
    let p = c.turns.invariant.0 in
    let takes = rw p.going_on at c.in-Ok-read_message.ensures.takes in
    let cause = rw p.going_on at c.in-Ok-read_message.ensures.cause in
    let m = c.in-Ok-read_message.message in
    let T : Bool → Type 0 = λ last. IsTurn (asked_by_message c.args.command.uid m) c.reading-now.result last c.turns.account.plain c.respond-response.new.account.plain (bytes_of c.respond-response.result) in (
      turned c.args.command.uid c.args.command.at
          (g.S.Told.told c.args.input.now) (g.S.Told.told c.turns.input) (g.S.Told.told c.read_message.new.source)
          (g.T.Told.told c.args.output.now) (g.T.Told.told c.turns.output) (g.T.Told.told c.write.new.output)
          (g.C.Clock.coming c.args.clock.now) (g.C.Clock.coming c.turns.clock) (g.C.Clock.coming c.reading-now.new.clock)
          c.turns.buffer c.read_message.new.buffer c.turns.account.plain c.respond-response.new.account.plain c.turns.count c.reading-now.result m takes.0 (bytes_of c.respond-response.result)
          p c.turns-test.true takes.1 takes.2 cause c.reading-now.ensures.reading (subst T c.closes-last.ensures c.respond-response.ensures.turn) c.respond-response.ensures.valid
          c.in-Ok-write.ensures.sent c.if-message.false,
      unread_further c.args.command.at c.args.clock.now c.turns.clock c.reading-now.new.clock c.turns.invariant.1 c.reading-now.ensures.unread,
    )

pub returns-clause-answered : goal.returns-clause-answered
returns-clause-answered g c =
    ended_counting c.args.command.uid c.args.command.at (g.S.Told.told c.args.input.now) (g.S.Told.told c.turns.input) (g.T.Told.told c.args.output.now) (g.T.Told.told c.turns.output)
    (g.C.Clock.coming c.args.clock.now) (g.C.Clock.coming c.turns.clock) c.turns.buffer c.turns.account.plain c.turns.count c.turns.invariant.0 c.turns-test.false
