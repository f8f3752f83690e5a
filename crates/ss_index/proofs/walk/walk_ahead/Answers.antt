use Rattle.std.proofs.Common.{sym, ap, ◌∙◌, map, arith, nat_lt}
use Rattle.std.proofs.lemmas.Bool.Decides.{Decides-ltb}
use Rattle.std.proofs.lemmas.List.{length-map}
use Rattle.ss_index.specs.Walk.{is_past}
use Rattle.ss_index.proofs.Walks.{ahead_on, ahead_count, ahead_past}
use Rattle.ss_index.proofs.walk.walk_ahead.Goals as goal
use Rattle.ss_text.proofs.Basics.{both_left, both_right}

pub returns-then-is_past-clause-rows : goal.returns-then-is_past-clause-rows
returns-then-is_past-clause-rows g c =
    let row = c.get-row.result.now in
    let test = sym c.is_past.ensures ∙ c.if-is_past.true in
    let later = (Decides-ltb c.loop.time row.modified).0 (both_left (nat_lt c.loop.time row.modified) (is_past c.args.end c.len.result) test) in
    let past = both_right (nat_lt c.loop.time row.modified) (is_past c.args.end c.len.result) test in
    ahead_past c.args.rows.now c.loop.invariant.whole c.args.end c.in-Some.here row (rw c.in-Some.is at c.loop.invariant.walked) c.get-row.ensures later
    (ap (is_past c.args.end) (length-map c.loop.found.items (λ row. row.now) ∙ sym c.loop.found.ok.0 ∙ sym c.len.ensures) ∙ past) c.requires.times

pub returns-then-is_past-clause-steps : goal.returns-then-is_past-clause-steps
returns-then-is_past-clause-steps g c = omega (arith, c.loop.invariant.steps, ahead_count c.loop.invariant.walked c.requires.newer)

pub returns-in_err-note-clause-steps : goal.returns-in_err-note-clause-steps
returns-in_err-note-clause-steps g c = omega (arith, c.loop.invariant.steps, ahead_count c.loop.invariant.walked c.requires.newer)

pub returns-clause-steps : goal.returns-clause-steps
returns-clause-steps g c = omega (arith, c.loop.invariant.steps, ahead_count c.loop.invariant.walked c.requires.newer)

pub loop-preserved : goal.loop-preserved
loop-preserved g c = record {
  live = c.next-at.ensures.live;
  whole = c.loop.invariant.whole;
  walked = ahead_on c.args.rows.now c.loop.invariant.whole c.in-Some.here c.get-row.result.now c.next-at.result (map (λ row. row.now) c.note.new.found.items) (rw c.in-Some.is at c.loop.invariant.walked) c.get-row.ensures
      c.next-at.ensures.neighbour c.in_ok-note.ensures c.requires.times;
  steps = omega (arith, c.loop.invariant.steps, c.next-at.ensures.one_step);
}
