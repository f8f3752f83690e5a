use Rattle.std.proofs.Common.{sym, ap, ◌∙◌, map, arith, nat_lt}
use Rattle.std.proofs.lemmas.Bool.Decides.{Decides-ltb}
use Rattle.std.proofs.lemmas.List.{length-map}
use Rattle.ss_index.specs.Walk.{is_past}
use Rattle.ss_index.proofs.Walks.{enough_whole, walk_on, walk_count, walk_below, walk_past}
use Rattle.ss_index.proofs.walk.walk.Goals as goal
use Rattle.ss_text.proofs.Basics.{both_left, both_right}

pub returns-then-not-is_above-clause-rows : goal.returns-then-not-is_above-clause-rows
returns-then-not-is_above-clause-rows g c =
    enough_whole (walk_below c.args.rows.now c.loop.invariant.whole c.in-Some.here c.get-row.result.now (rw c.in-Some.is at c.loop.invariant.walked) c.get-row.ensures (sym c.is_above.ensures ∙ c.if-not-is_above.true) c.requires)

pub returns-then-is_past-clause-rows : goal.returns-then-is_past-clause-rows
returns-then-is_past-clause-rows g c =
    let row = c.get-row.result.now in
    let found = map (λ row. row.now) c.loop.found.items in
    let test = sym c.is_past.ensures ∙ c.if-is_past.true in
    let sooner = (Decides-ltb row.modified c.loop.time).0 (both_left (nat_lt row.modified c.loop.time) (is_past c.args.end c.len.result) test) in
    let past = both_right (nat_lt row.modified c.loop.time) (is_past c.args.end c.len.result) test in
    walk_past c.args.rows.now c.loop.invariant.whole c.args.end c.in-Some.here row (rw c.in-Some.is at c.loop.invariant.walked) c.get-row.ensures sooner
    (ap (is_past c.args.end) (length-map c.loop.found.items (λ row. row.now) ∙ sym c.loop.found.ok.0 ∙ sym c.len.ensures) ∙ past) c.requires

pub returns-then-not-is_above-clause-steps : goal.returns-then-not-is_above-clause-steps
returns-then-not-is_above-clause-steps g c = omega (arith, c.loop.invariant.steps, walk_count c.loop.invariant.walked)

pub returns-then-is_past-clause-steps : goal.returns-then-is_past-clause-steps
returns-then-is_past-clause-steps g c = omega (arith, c.loop.invariant.steps, walk_count c.loop.invariant.walked)

pub returns-in_err-note-clause-steps : goal.returns-in_err-note-clause-steps
returns-in_err-note-clause-steps g c = omega (arith, c.loop.invariant.steps, walk_count c.loop.invariant.walked)

pub returns-clause-steps : goal.returns-clause-steps
returns-clause-steps g c = omega (arith, c.loop.invariant.steps, walk_count c.loop.invariant.walked)

pub loop-preserved : goal.loop-preserved
loop-preserved g c = record {
  live = c.prev-at.ensures.live;
  whole = c.loop.invariant.whole;
  walked = walk_on c.args.rows.now c.loop.invariant.whole c.in-Some.here c.get-row.result.now c.prev-at.result (map (λ row. row.now) c.note.new.found.items) (rw c.in-Some.is at c.loop.invariant.walked) c.get-row.ensures
      (sym c.is_above.ensures ∙ c.if-not-is_above.false) c.prev-at.ensures.neighbour c.in_ok-note.ensures c.requires;
  steps = omega (arith, c.loop.invariant.steps, c.prev-at.ensures.one_step);
}
