use Rattle.std.proofs.Common.{subst}
use Rattle.ss_desk.specs.Passes.{view_at}
use Rattle.ss_booked.specs.declared.booked.Asked.{Asked}
use Rattle.ss_route.specs.declared.routed.Local.{Local}
use Rattle.ss_route.specs.Wire.{local_wire}
use Rattle.ss_route.specs.Ready.{bytes_of, OrMemory}
use Rattle.ss_text.specs.Time.{clamped_reading}
use Rattle.ss_connection.proofs.Passing.{one_steps, entered_steps, denied_steps, called_by, was_full_by, enters_call}
use Rattle.ss_connection.proofs.Passing.{enters_full}
use Rattle.ss_connection.proofs.answering.answer.Goals as goal

pub returns-in-Reply-clause-more : goal.returns-in-Reply-clause-more
returns-in-Reply-clause-more g c =
    let h = c.in-Reply.ensures.says in let ps = c.args.passes.now.passes.items in let qs = c.ask.new.passes.passes.items in
    let asked : Asked = record { now = c.args.now; request = c.in-Ask.request } in
    one_steps ps qs h.0 h.2 (entered_steps (view_at ps h.0) (view_at qs h.0) c.in-Reply.ticket asked c.in-Reply.answered h.3)

pub returns-in-Reply-clause-says : goal.returns-in-Reply-clause-says
returns-in-Reply-clause-says g c =
    let h = c.in-Reply.ensures.says in let ps = c.args.passes.now.passes.items in let qs = c.ask.new.passes.passes.items in
    let asked : Asked = record { now = c.args.now; request = c.in-Ask.request } in
    record {
      asks = record { place = h.0; listed = h.1; request = c.in-Ask.request; newlines = c.in-Ask.newlines; routes = c.in-Ask.ensures.routed };
      reply = c.in-Reply.answered.reply;
      called = called_by ps qs h.0 c.in-Reply.ticket asked c.in-Reply.answered h.3;
      response = c.to_reply.ensures;
    }

pub returns-in-Reply-clause-enters : goal.returns-in-Reply-clause-enters
returns-in-Reply-clause-enters g c =
    let h = c.in-Reply.ensures.says in let ps = c.args.passes.now.passes.items in let qs = c.ask.new.passes.passes.items in
    let asked : Asked = record { now = c.args.now; request = c.in-Ask.request } in
    λ by_gate. enters_call c.args.town.now.uids.items c.args.town.now.rise ps qs h.0 c.in-Ask.uid c.in-Reply.ticket c.args.now by_gate asked c.in-Reply.answered h.1 h.2 h.3

pub returns-in-Full-clause-more : goal.returns-in-Full-clause-more
returns-in-Full-clause-more g c =
    let h = c.in-Full.ensures.says in let ps = c.args.passes.now.passes.items in let qs = c.ask.new.passes.passes.items in
    one_steps ps qs h.0 h.2 (denied_steps (view_at ps h.0) (view_at qs h.0) c.in-Full.full h.3)

pub returns-in-Full-clause-says : goal.returns-in-Full-clause-says
returns-in-Full-clause-says g c =
    let h = c.in-Full.ensures.says in let ps = c.args.passes.now.passes.items in let qs = c.ask.new.passes.passes.items in
    let R : Local → Type 0 = λ local. OrMemory (local_wire local (clamped_reading c.args.now) c.args.last) (clamped_reading c.args.now) c.args.last (bytes_of c.to_local-in-Full.result) in
    record {
      asks = record { place = h.0; listed = h.1; request = c.in-Ask.request; newlines = c.in-Ask.newlines; routes = c.in-Ask.ensures.routed };
      was_full = was_full_by ps qs h.0 c.in-Full.full h.3;
      response = subst R c.term_is_full.ensures c.to_local-in-Full.ensures;
    }

pub returns-in-Full-clause-enters : goal.returns-in-Full-clause-enters
returns-in-Full-clause-enters g c =
    let h = c.in-Full.ensures.says in let ps = c.args.passes.now.passes.items in let qs = c.ask.new.passes.passes.items in
    λ by_gate. enters_full c.args.town.now.uids.items ps qs h.0 c.in-Ask.uid c.args.now by_gate c.in-Full.full h.2 h.3
