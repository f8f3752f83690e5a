use Rattle.std.proofs.Common.{sym, subst, List, refl}
use Rattle.ss_outside.specs.Told.{Meanings}
use Rattle.ss_town.specs.Town.{uids_of, passes_of}
use Rattle.ss_connection.specs.Known.{known_by}
use Rattle.ss_connection.specs.Calls.{Enters, turns_added}
use Rattle.ss_connection.specs.Ends.{IsServedConnection}
use Rattle.ss_connection.specs.Turns.{AreGatedTurns}
use Rattle.ss_connection.specs.declared.notes.TurnNote.{TurnNote}
use Rattle.ss_serve.specs.Crew.{Works}
use Rattle.ss_serve.specs.Reports.{AreAllGated, IsReport}
use Rattle.ss_serve.specs.declared.report.LinkReport.{LinkReport}
use Rattle.ss_serve.proofs.Crews.{all_end}
use Rattle.ss_serve.proofs.Working.{works_more}
use Rattle.ss_serve.proofs.worker.serve_one.Goals as goal

pub returns-clause-worked : goal.returns-clause-worked
returns-clause-worked g c =
    let tells = g.L.Told.told in let closed = g.L.Closable.closed in let coming = g.C.Clock.coming in let w = c.args.worker.now in
    let u = uids_of c.args.town.now in let ps = passes_of w.passes in let s = c.serve_connection-end in let qs = passes_of s.new.passes in let l = c.close.new.self in
    let r : LinkReport _ = record { worker = w.number; link = l; turns = s.new.turns; end = s.result } in
    let served = subst (λ (a : Meanings). IsServedConnection w.manner u (known_by qs) s.result (tells c.args.link) a (coming w.clock) (coming s.new.clock) s.new.turns.items) (sym c.close.ensures.told)
    (subst (λ (ts : List TurnNote). IsServedConnection w.manner u (known_by qs) s.result (tells c.args.link) (tells s.new.link) (coming w.clock) (coming s.new.clock) (turns_added ts s.new.turns.items)) c.new-turns.ensures.items s.ensures.served) in
    let enters = subst (λ (ts : List TurnNote). Enters u ps qs (turns_added ts s.new.turns.items)) c.new-turns.ensures.items s.ensures.enters in
    let is : IsReport w.manner tells closed u (known_by qs) (coming w.clock) (coming s.new.clock) r = record { given = tells c.args.link; unused = c.requires.unused; served = served; is_closed = c.close.ensures.closed } in
    record {
      of = s.ensures.of;
      works = subst (λ (rs : List (LinkReport _)). Works w.manner tells closed u w.number qs rs (coming w.start.value) (coming s.new.clock)) (sym c.push_reserved.ensures.items)
          (works_more w.manner tells closed u w.number ps qs w.reports.items r (coming w.start.value) (coming w.clock) (coming s.new.clock) c.requires.worked.works s.ensures.more enters refl is);
    }

pub returns-clause-gated : goal.returns-clause-gated
returns-clause-gated g c =
    let w = c.args.worker.now in let s = c.serve_connection-end in let says = g.G.Gate.says c.args.gate.now in
    let r : LinkReport _ = record { worker = w.number; link = c.close.new.self; turns = s.new.turns; end = s.result } in
    let asked = subst (λ (ts : List TurnNote). AreGatedTurns (says w.number) (turns_added ts s.new.turns.items)) c.new-turns.ensures.items s.ensures.gated in
    subst (λ (rs : List (LinkReport _)). AreAllGated says rs) (sym c.push_reserved.ensures.items)
    (all_end (λ (x : LinkReport _). AreGatedTurns (says x.worker) x.turns.items) w.reports.items r c.requires.gated asked)
