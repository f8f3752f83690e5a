use Rattle.std.proofs.Common.{rules, ◌<◌, ◌≤◌, length, arith}
use Rattle.ss_serve.specs.Fullness.{TurnNames}
use Rattle.ss_serve.proofs.Fillings.{yes, not, found, none_next, none_at_all}
use Rattle.ss_serve.proofs.fullness.report_names.Goals as goal

pub loop-k-init : goal.loop-k-init
loop-k-init c = λ k x lt at p. absurd (omega arith)

pub returns-then-turn_names : goal.returns-then-turn_names
returns-then-turn_names c = let l = c.args.turns.now in let lt : c.loop-k.k < length l = search rules in
    found (λ note. TurnNames c.args.uid c.args.entries note.turn) l c.loop-k.k _ lt (yes c.turn_names.result (TurnNames c.args.uid c.args.entries _) c.if-turn_names.true c.turn_names.ensures)

pub loop-k-preserved : goal.loop-k-preserved
loop-k-preserved c = let l = c.args.turns.now in let lt : c.loop-k.k < length l = search rules in
    none_next (λ note. TurnNames c.args.uid c.args.entries note.turn) l c.loop-k.k _ lt (not c.turn_names.result (TurnNames c.args.uid c.args.entries _) c.if-turn_names.false c.turn_names.ensures) c.loop-k.invariant

pub returns : goal.returns
returns c = let l = c.args.turns.now in let le : length l ≤ c.loop-k.k = search rules in none_at_all (λ note. TurnNames c.args.uid c.args.entries note.turn) l c.loop-k.k le c.loop-k.invariant
