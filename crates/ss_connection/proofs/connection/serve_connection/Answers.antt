use Rattle.std.proofs.Common.{◌≡◌, ◌+◌, ◌++◌, ◌∷◌, [], Bool, List, sym, subst}
use Rattle.ss_http.specs.Buffers.{KeptBytes}
use Rattle.ss_connection.specs.Known.{known_by}
use Rattle.ss_route.specs.Ready.{bytes_of}
use Rattle.ss_connection.specs.Turns.{AreGatedTurns, SaysTurn}
use Rattle.ss_connection.specs.Calls.{turns_added, Enters}
use Rattle.ss_connection.specs.Ends.{IsServedConnection}
use Rattle.ss_connection.specs.Progress.{Progress}
use Rattle.ss_connection.specs.declared.notes.End.TheVariants.{WriteFault, Asked, Gate, Memory}
use Rattle.ss_connection.specs.declared.notes.TurnNote.{TurnNote}
use Rattle.ss_connection.proofs.Passing.{see_itself, see_then, knows_more, enters_nothing, enters_push}
use Rattle.ss_connection.proofs.Exchanges.{nothing_added, pushed_on}
use Rattle.ss_connection.proofs.Run.{Answers, begins, begun, ended_asked, ended_by_gate, ended_counting, ended_cut}
use Rattle.ss_connection.proofs.Run.{ended_early, gated_more, goes_on, stopped, unserved}
use Rattle.ss_connection.proofs.connection.serve_connection.Goals as goal

pub returns-in_default-clause-served : goal.returns-in_default-clause-served
returns-in_default-clause-served g c = unserved c.args.manner c.args.town.now.uids.items (known_by c.args.passes.now.passes.items) (g.L.Told.told c.args.link.now) (g.C.Clock.coming c.args.clock.now) c.args.turns.now.items

pub messages-init : goal.messages-init
messages-init g c =
    let manner = c.args.manner in let uids = c.args.town.now.uids.items in let ps = c.args.passes.now.passes.items in let link = g.L.Told.told c.args.link.now in let coming = g.C.Clock.coming c.args.clock.now in
    let K : KeptBytes → Type 0 = λ kept. Progress manner uids (known_by ps) link link coming coming kept c.args.turns.now.items c.args.turns.now.items 0 in
    record {
      of = c.requires.of;
      more = see_itself ps;
      progress = subst K (sym c.in-Ok.ensures) (begun manner uids (known_by ps) link coming c.args.turns.now.items);
      gated = λ k note at. absurd (nothing_added c.args.turns.now.items k note at);
      enters = enters_nothing uids ps c.args.turns.now.items;
    }

pub returns-in-Err-clause-served : goal.returns-in-Err-clause-served
returns-in-Err-clause-served g c =
    let i = c.messages.invariant in let p = i.progress in
    let manner = c.args.manner in let uids = c.args.town.now.uids.items in let qs = c.messages.passes.passes.items in
    let link = g.L.Told.told c.args.link.now in let link' = g.L.Told.told c.messages.link in let link2 = g.L.Told.told c.read_message.new.source in let link3 = g.L.Told.told c.stop.new.link in
    let coming = g.C.Clock.coming c.args.clock.now in let coming' = g.C.Clock.coming c.messages.clock in let coming2 = g.C.Clock.coming c.stop.new.clock in
    let takes = rw p.going_on at c.in-Err.ensures.takes in
    let ended = rw p.going_on at c.in-Err.ensures.ended in
    let cause = rw p.going_on at c.in-Err.ensures.cause in
    subst (λ ts. IsServedConnection manner uids (known_by qs) c.stop.result link link3 coming coming2 (turns_added c.args.turns.now.items ts)) (sym {A = List TurnNote} c.reserve.ensures.items)
    (stopped manner uids (known_by qs) link link' link2 link3 coming coming' coming2 c.messages.buffer c.args.turns.now.items c.messages.turns.items c.messages.count c.in-Err.fault c.stop.result p
    (record { few = c.messages-test.true; got = takes.0; read = takes.1; is = takes.2.2; ended = ended; rises = cause }) c.stop.ensures)

pub returns-in-Err-write-clause-more : goal.returns-in-Err-write-clause-more
returns-in-Err-write-clause-more g c = see_then c.args.passes.now.passes.items c.messages.passes.passes.items c.answer-turn.new.passes.passes.items c.messages.invariant.more c.answer-turn.ensures.more

pub returns-in-Err-write-clause-served : goal.returns-in-Err-write-clause-served
returns-in-Err-write-clause-served g c =
    let i = c.messages.invariant in let p = i.progress in
    let manner = c.args.manner in let uids = c.args.town.now.uids.items in let ps = c.args.passes.now.passes.items in let qs = c.messages.passes.passes.items in let rs = c.answer-turn.new.passes.passes.items in
    let m = c.in-Ok-read_message.message in
    let note : TurnNote = record { now = c.now-now.result; closed_by_gate = c.pass-closed_by_gate.result; turn = c.answer-turn.result.0 } in
    let turns : c.push_reserved.new.self.items ≡ c.messages.turns.items ++ note ∷ [] = pushed_on c.push_reserved.new.self.items c.reserve.new.self.items c.messages.turns.items note c.push_reserved.ensures.items c.reserve.ensures.items in
    let link = g.L.Told.told c.args.link.now in let link' = g.L.Told.told c.messages.link in let link2 = g.L.Told.told c.read_message.new.source in let link3 = g.L.Told.told c.write.new.output in
    let coming = g.C.Clock.coming c.args.clock.now in let coming' = g.C.Clock.coming c.messages.clock in let coming2 = g.C.Clock.coming c.now-now.new.self in
    let takes = rw p.going_on at c.in-Ok-read_message.ensures.takes in
    let cause = rw p.going_on at c.in-Ok-read_message.ensures.cause in
    let S : Bool → Type 0 = λ last. SaysTurn manner uids (known_by rs) m note.now last note.turn (bytes_of c.answer-turn.result.1) in
    let a : Answers manner uids (known_by rs) link' link2 coming' coming2 c.messages.buffer c.read_message.new.buffer c.messages.count m note (bytes_of c.answer-turn.result.1) = record {
      few = c.messages-test.true;
      got = takes.0;
      read = takes.1;
      reads = takes.2.0;
      going_on = takes.2.1;
      quiet = cause;
      spare = rw p.going_on at c.in-Ok-read_message.ensures.ready;
      reading = c.now-now.ensures;
      says = subst S c.closes-last.ensures c.answer-turn.ensures.says;
    } in
    subst (λ ts. IsServedConnection manner uids (known_by rs) WriteFault link link3 coming coming2 (turns_added c.args.turns.now.items ts)) (sym {A = List TurnNote} turns) (ended_cut manner uids (known_by qs) (known_by rs) (knows_more qs rs c.answer-turn.ensures.more) link link' link2 link3 coming coming' coming2 c.messages.buffer c.read_message.new.buffer c.args.turns.now.items c.messages.turns.items c.messages.count m note (bytes_of c.answer-turn.result.1) p a c.in-Err-write.ensures.cut)

pub returns-in-Err-write-clause-enters : goal.returns-in-Err-write-clause-enters
returns-in-Err-write-clause-enters g c =
    let i = c.messages.invariant in let p = i.progress in
    let manner = c.args.manner in let uids = c.args.town.now.uids.items in let ps = c.args.passes.now.passes.items in let qs = c.messages.passes.passes.items in let rs = c.answer-turn.new.passes.passes.items in
    let note : TurnNote = record { now = c.now-now.result; closed_by_gate = c.pass-closed_by_gate.result; turn = c.answer-turn.result.0 } in
    let turns : c.push_reserved.new.self.items ≡ c.messages.turns.items ++ note ∷ [] = pushed_on c.push_reserved.new.self.items c.reserve.new.self.items c.messages.turns.items note c.push_reserved.ensures.items c.reserve.ensures.items in
    subst (λ ts. Enters uids ps rs (turns_added c.args.turns.now.items ts)) (sym {A = List TurnNote} turns)
    (enters_push uids ps qs rs c.args.turns.now.items c.messages.turns.items note (begins manner uids (known_by qs) (g.L.Told.told c.args.link.now) (g.L.Told.told c.messages.link) (g.C.Clock.coming c.args.clock.now) (g.C.Clock.coming c.messages.clock) c.messages.buffer c.args.turns.now.items c.messages.turns.items c.messages.count p) i.enters (c.answer-turn.ensures.enters c.pass-closed_by_gate.result))

pub returns-in-Err-write-clause-gated : goal.returns-in-Err-write-clause-gated
returns-in-Err-write-clause-gated g c =
    let i = c.messages.invariant in let manner = c.args.manner in let uids = c.args.town.now.uids.items in let qs = c.messages.passes.passes.items in
    let note : TurnNote = record { now = c.now-now.result; closed_by_gate = c.pass-closed_by_gate.result; turn = c.answer-turn.result.0 } in
    let turns : c.push_reserved.new.self.items ≡ c.messages.turns.items ++ note ∷ [] = pushed_on c.push_reserved.new.self.items c.reserve.new.self.items c.messages.turns.items note c.push_reserved.ensures.items c.reserve.ensures.items in
    subst (λ ts. AreGatedTurns (g.G.Gate.says c.args.gate.now c.args.worker) (turns_added c.args.turns.now.items ts)) (sym {A = List TurnNote} turns)
    (gated_more manner uids (known_by qs) (g.L.Told.told c.args.link.now) (g.L.Told.told c.messages.link) (g.C.Clock.coming c.args.clock.now) (g.C.Clock.coming c.messages.clock) c.messages.buffer c.args.turns.now.items c.messages.turns.items c.messages.count i.progress
    (g.G.Gate.says c.args.gate.now c.args.worker) note i.gated c.pass-closed_by_gate.ensures.says)

pub returns-then-message-clause-more : goal.returns-then-message-clause-more
returns-then-message-clause-more g c = see_then c.args.passes.now.passes.items c.messages.passes.passes.items c.answer-turn.new.passes.passes.items c.messages.invariant.more c.answer-turn.ensures.more

pub returns-then-message-clause-served : goal.returns-then-message-clause-served
returns-then-message-clause-served g c =
    let i = c.messages.invariant in let p = i.progress in
    let manner = c.args.manner in let uids = c.args.town.now.uids.items in let ps = c.args.passes.now.passes.items in let qs = c.messages.passes.passes.items in let rs = c.answer-turn.new.passes.passes.items in
    let m = c.in-Ok-read_message.message in
    let note : TurnNote = record { now = c.now-now.result; closed_by_gate = c.pass-closed_by_gate.result; turn = c.answer-turn.result.0 } in
    let turns : c.push_reserved.new.self.items ≡ c.messages.turns.items ++ note ∷ [] = pushed_on c.push_reserved.new.self.items c.reserve.new.self.items c.messages.turns.items note c.push_reserved.ensures.items c.reserve.ensures.items in
    let link = g.L.Told.told c.args.link.now in let link' = g.L.Told.told c.messages.link in let link2 = g.L.Told.told c.read_message.new.source in let link3 = g.L.Told.told c.write.new.output in
    let coming = g.C.Clock.coming c.args.clock.now in let coming' = g.C.Clock.coming c.messages.clock in let coming2 = g.C.Clock.coming c.now-now.new.self in
    let takes = rw p.going_on at c.in-Ok-read_message.ensures.takes in
    let cause = rw p.going_on at c.in-Ok-read_message.ensures.cause in
    let S : Bool → Type 0 = λ last. SaysTurn manner uids (known_by rs) m note.now last note.turn (bytes_of c.answer-turn.result.1) in
    let a : Answers manner uids (known_by rs) link' link2 coming' coming2 c.messages.buffer c.read_message.new.buffer c.messages.count m note (bytes_of c.answer-turn.result.1) = record {
      few = c.messages-test.true;
      got = takes.0;
      read = takes.1;
      reads = takes.2.0;
      going_on = takes.2.1;
      quiet = cause;
      spare = rw p.going_on at c.in-Ok-read_message.ensures.ready;
      reading = c.now-now.ensures;
      says = subst S c.closes-last.ensures c.answer-turn.ensures.says;
    } in
    subst (λ ts. IsServedConnection manner uids (known_by rs) Asked link link3 coming coming2 (turns_added c.args.turns.now.items ts)) (sym {A = List TurnNote} turns) (ended_asked manner uids (known_by qs) (known_by rs) (knows_more qs rs c.answer-turn.ensures.more) link link' link2 link3 coming coming' coming2 c.messages.buffer c.read_message.new.buffer c.args.turns.now.items c.messages.turns.items c.messages.count m note (bytes_of c.answer-turn.result.1) p a c.in-Ok-write.ensures.sent c.if-message.true)

pub returns-then-message-clause-enters : goal.returns-then-message-clause-enters
returns-then-message-clause-enters g c =
    let i = c.messages.invariant in let p = i.progress in
    let manner = c.args.manner in let uids = c.args.town.now.uids.items in let ps = c.args.passes.now.passes.items in let qs = c.messages.passes.passes.items in let rs = c.answer-turn.new.passes.passes.items in
    let note : TurnNote = record { now = c.now-now.result; closed_by_gate = c.pass-closed_by_gate.result; turn = c.answer-turn.result.0 } in
    let turns : c.push_reserved.new.self.items ≡ c.messages.turns.items ++ note ∷ [] = pushed_on c.push_reserved.new.self.items c.reserve.new.self.items c.messages.turns.items note c.push_reserved.ensures.items c.reserve.ensures.items in
    subst (λ ts. Enters uids ps rs (turns_added c.args.turns.now.items ts)) (sym {A = List TurnNote} turns)
    (enters_push uids ps qs rs c.args.turns.now.items c.messages.turns.items note (begins manner uids (known_by qs) (g.L.Told.told c.args.link.now) (g.L.Told.told c.messages.link) (g.C.Clock.coming c.args.clock.now) (g.C.Clock.coming c.messages.clock) c.messages.buffer c.args.turns.now.items c.messages.turns.items c.messages.count p) i.enters (c.answer-turn.ensures.enters c.pass-closed_by_gate.result))

pub returns-then-message-clause-gated : goal.returns-then-message-clause-gated
returns-then-message-clause-gated g c =
    let i = c.messages.invariant in let manner = c.args.manner in let uids = c.args.town.now.uids.items in let qs = c.messages.passes.passes.items in
    let note : TurnNote = record { now = c.now-now.result; closed_by_gate = c.pass-closed_by_gate.result; turn = c.answer-turn.result.0 } in
    let turns : c.push_reserved.new.self.items ≡ c.messages.turns.items ++ note ∷ [] = pushed_on c.push_reserved.new.self.items c.reserve.new.self.items c.messages.turns.items note c.push_reserved.ensures.items c.reserve.ensures.items in
    subst (λ ts. AreGatedTurns (g.G.Gate.says c.args.gate.now c.args.worker) (turns_added c.args.turns.now.items ts)) (sym {A = List TurnNote} turns)
    (gated_more manner uids (known_by qs) (g.L.Told.told c.args.link.now) (g.L.Told.told c.messages.link) (g.C.Clock.coming c.args.clock.now) (g.C.Clock.coming c.messages.clock) c.messages.buffer c.args.turns.now.items c.messages.turns.items c.messages.count i.progress
    (g.G.Gate.says c.args.gate.now c.args.worker) note i.gated c.pass-closed_by_gate.ensures.says)

pub returns-then-closed_by_gate-clause-more : goal.returns-then-closed_by_gate-clause-more
returns-then-closed_by_gate-clause-more g c = see_then c.args.passes.now.passes.items c.messages.passes.passes.items c.answer-turn.new.passes.passes.items c.messages.invariant.more c.answer-turn.ensures.more

pub returns-then-closed_by_gate-clause-served : goal.returns-then-closed_by_gate-clause-served
returns-then-closed_by_gate-clause-served g c =
    let i = c.messages.invariant in let p = i.progress in
    let manner = c.args.manner in let uids = c.args.town.now.uids.items in let ps = c.args.passes.now.passes.items in let qs = c.messages.passes.passes.items in let rs = c.answer-turn.new.passes.passes.items in
    let m = c.in-Ok-read_message.message in
    let note : TurnNote = record { now = c.now-now.result; closed_by_gate = c.pass-closed_by_gate.result; turn = c.answer-turn.result.0 } in
    let turns : c.push_reserved.new.self.items ≡ c.messages.turns.items ++ note ∷ [] = pushed_on c.push_reserved.new.self.items c.reserve.new.self.items c.messages.turns.items note c.push_reserved.ensures.items c.reserve.ensures.items in
    let link = g.L.Told.told c.args.link.now in let link' = g.L.Told.told c.messages.link in let link2 = g.L.Told.told c.read_message.new.source in let link3 = g.L.Told.told c.write.new.output in
    let coming = g.C.Clock.coming c.args.clock.now in let coming' = g.C.Clock.coming c.messages.clock in let coming2 = g.C.Clock.coming c.now-now.new.self in
    let takes = rw p.going_on at c.in-Ok-read_message.ensures.takes in
    let cause = rw p.going_on at c.in-Ok-read_message.ensures.cause in
    let S : Bool → Type 0 = λ last. SaysTurn manner uids (known_by rs) m note.now last note.turn (bytes_of c.answer-turn.result.1) in
    let a : Answers manner uids (known_by rs) link' link2 coming' coming2 c.messages.buffer c.read_message.new.buffer c.messages.count m note (bytes_of c.answer-turn.result.1) = record {
      few = c.messages-test.true;
      got = takes.0;
      read = takes.1;
      reads = takes.2.0;
      going_on = takes.2.1;
      quiet = cause;
      spare = rw p.going_on at c.in-Ok-read_message.ensures.ready;
      reading = c.now-now.ensures;
      says = subst S c.closes-last.ensures c.answer-turn.ensures.says;
    } in
    subst (λ ts. IsServedConnection manner uids (known_by rs) Gate link link3 coming coming2 (turns_added c.args.turns.now.items ts)) (sym {A = List TurnNote} turns) (ended_by_gate manner uids (known_by qs) (known_by rs) (knows_more qs rs c.answer-turn.ensures.more) link link' link2 link3 coming coming' coming2 c.messages.buffer c.read_message.new.buffer c.args.turns.now.items c.messages.turns.items c.messages.count m note (bytes_of c.answer-turn.result.1) p a c.in-Ok-write.ensures.sent c.if-message.false c.if-closed_by_gate.true)

pub returns-then-closed_by_gate-clause-enters : goal.returns-then-closed_by_gate-clause-enters
returns-then-closed_by_gate-clause-enters g c =
    let i = c.messages.invariant in let p = i.progress in
    let manner = c.args.manner in let uids = c.args.town.now.uids.items in let ps = c.args.passes.now.passes.items in let qs = c.messages.passes.passes.items in let rs = c.answer-turn.new.passes.passes.items in
    let note : TurnNote = record { now = c.now-now.result; closed_by_gate = c.pass-closed_by_gate.result; turn = c.answer-turn.result.0 } in
    let turns : c.push_reserved.new.self.items ≡ c.messages.turns.items ++ note ∷ [] = pushed_on c.push_reserved.new.self.items c.reserve.new.self.items c.messages.turns.items note c.push_reserved.ensures.items c.reserve.ensures.items in
    subst (λ ts. Enters uids ps rs (turns_added c.args.turns.now.items ts)) (sym {A = List TurnNote} turns)
    (enters_push uids ps qs rs c.args.turns.now.items c.messages.turns.items note (begins manner uids (known_by qs) (g.L.Told.told c.args.link.now) (g.L.Told.told c.messages.link) (g.C.Clock.coming c.args.clock.now) (g.C.Clock.coming c.messages.clock) c.messages.buffer c.args.turns.now.items c.messages.turns.items c.messages.count p) i.enters (c.answer-turn.ensures.enters c.pass-closed_by_gate.result))

pub returns-then-closed_by_gate-clause-gated : goal.returns-then-closed_by_gate-clause-gated
returns-then-closed_by_gate-clause-gated g c =
    let i = c.messages.invariant in let manner = c.args.manner in let uids = c.args.town.now.uids.items in let qs = c.messages.passes.passes.items in
    let note : TurnNote = record { now = c.now-now.result; closed_by_gate = c.pass-closed_by_gate.result; turn = c.answer-turn.result.0 } in
    let turns : c.push_reserved.new.self.items ≡ c.messages.turns.items ++ note ∷ [] = pushed_on c.push_reserved.new.self.items c.reserve.new.self.items c.messages.turns.items note c.push_reserved.ensures.items c.reserve.ensures.items in
    subst (λ ts. AreGatedTurns (g.G.Gate.says c.args.gate.now c.args.worker) (turns_added c.args.turns.now.items ts)) (sym {A = List TurnNote} turns)
    (gated_more manner uids (known_by qs) (g.L.Told.told c.args.link.now) (g.L.Told.told c.messages.link) (g.C.Clock.coming c.args.clock.now) (g.C.Clock.coming c.messages.clock) c.messages.buffer c.args.turns.now.items c.messages.turns.items c.messages.count i.progress
    (g.G.Gate.says c.args.gate.now c.args.worker) note i.gated c.pass-closed_by_gate.ensures.says)

pub messages-preserved : goal.messages-preserved
messages-preserved g c =
    let i = c.messages.invariant in let p = i.progress in
    let manner = c.args.manner in let uids = c.args.town.now.uids.items in let ps = c.args.passes.now.passes.items in let qs = c.messages.passes.passes.items in let rs = c.answer-turn.new.passes.passes.items in
    let m = c.in-Ok-read_message.message in
    let note : TurnNote = record { now = c.now-now.result; closed_by_gate = c.pass-closed_by_gate.result; turn = c.answer-turn.result.0 } in
    let turns : c.push_reserved.new.self.items ≡ c.messages.turns.items ++ note ∷ [] = pushed_on c.push_reserved.new.self.items c.reserve.new.self.items c.messages.turns.items note c.push_reserved.ensures.items c.reserve.ensures.items in
    let link = g.L.Told.told c.args.link.now in let link' = g.L.Told.told c.messages.link in let link2 = g.L.Told.told c.read_message.new.source in let link3 = g.L.Told.told c.write.new.output in
    let coming = g.C.Clock.coming c.args.clock.now in let coming' = g.C.Clock.coming c.messages.clock in let coming2 = g.C.Clock.coming c.now-now.new.self in
    let takes = rw p.going_on at c.in-Ok-read_message.ensures.takes in
    let cause = rw p.going_on at c.in-Ok-read_message.ensures.cause in
    let S : Bool → Type 0 = λ last. SaysTurn manner uids (known_by rs) m note.now last note.turn (bytes_of c.answer-turn.result.1) in
    let a : Answers manner uids (known_by rs) link' link2 coming' coming2 c.messages.buffer c.read_message.new.buffer c.messages.count m note (bytes_of c.answer-turn.result.1) = record {
      few = c.messages-test.true;
      got = takes.0;
      read = takes.1;
      reads = takes.2.0;
      going_on = takes.2.1;
      quiet = cause;
      spare = rw p.going_on at c.in-Ok-read_message.ensures.ready;
      reading = c.now-now.ensures;
      says = subst S c.closes-last.ensures c.answer-turn.ensures.says;
    } in
    record {
      of = c.answer-turn.ensures.of;
      more = see_then ps qs rs i.more c.answer-turn.ensures.more;
      progress = subst (λ ts. Progress manner uids (known_by rs) link link3 coming coming2 c.read_message.new.buffer c.args.turns.now.items ts (c.messages.count + 1)) (sym {A = List TurnNote} turns)
          (goes_on manner uids (known_by qs) (known_by rs) (knows_more qs rs c.answer-turn.ensures.more) link link' link2 link3 coming coming' coming2 c.messages.buffer c.read_message.new.buffer c.args.turns.now.items c.messages.turns.items c.messages.count m note (bytes_of c.answer-turn.result.1) p a c.in-Ok-write.ensures.sent c.if-message.false c.if-closed_by_gate.false);
      gated = subst (λ ts. AreGatedTurns (g.G.Gate.says c.args.gate.now c.args.worker) (turns_added c.args.turns.now.items ts)) (sym {A = List TurnNote} turns)
          (gated_more manner uids (known_by qs) link link' coming coming' c.messages.buffer c.args.turns.now.items c.messages.turns.items c.messages.count p (g.G.Gate.says c.args.gate.now c.args.worker) note i.gated c.pass-closed_by_gate.ensures.says);
      enters = subst (λ ts. Enters uids ps rs (turns_added c.args.turns.now.items ts)) (sym {A = List TurnNote} turns)
          (enters_push uids ps qs rs c.args.turns.now.items c.messages.turns.items note (begins manner uids (known_by qs) (g.L.Told.told c.args.link.now) (g.L.Told.told c.messages.link) (g.C.Clock.coming c.args.clock.now) (g.C.Clock.coming c.messages.clock) c.messages.buffer c.args.turns.now.items c.messages.turns.items c.messages.count p) i.enters (c.answer-turn.ensures.enters c.pass-closed_by_gate.result));
    }

pub returns-then-is_err-clause-served : goal.returns-then-is_err-clause-served
returns-then-is_err-clause-served g c =
    let manner = c.args.manner in let uids = c.args.town.now.uids.items in let qs = c.messages.passes.passes.items in
    let link = g.L.Told.told c.args.link.now in let link' = g.L.Told.told c.messages.link in let coming = g.C.Clock.coming c.args.clock.now in let coming' = g.C.Clock.coming c.messages.clock in
    subst (λ ts. IsServedConnection manner uids (known_by qs) Memory link link' coming coming' (turns_added c.args.turns.now.items ts)) (sym {A = List TurnNote} c.reserve.ensures.items) (ended_early manner uids (known_by qs) link link' coming coming' c.messages.buffer c.args.turns.now.items c.messages.turns.items c.messages.count c.messages.invariant.progress c.messages-test.true)

pub returns-clause-served : goal.returns-clause-served
returns-clause-served g c =
    let manner = c.args.manner in let uids = c.args.town.now.uids.items in let qs = c.messages.passes.passes.items in
    let link = g.L.Told.told c.args.link.now in let link' = g.L.Told.told c.messages.link in let coming = g.C.Clock.coming c.args.clock.now in let coming' = g.C.Clock.coming c.messages.clock in
    ended_counting manner uids (known_by qs) link link' coming coming' c.messages.buffer c.args.turns.now.items c.messages.turns.items c.messages.count c.messages.invariant.progress c.messages-test.false
