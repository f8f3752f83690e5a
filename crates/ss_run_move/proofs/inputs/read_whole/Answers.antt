use Rattle.std.proofs.Common.{List, ℕ, sym, ap, subst, ◌∙◌, arith, rules, length}
use Rattle.ss_input.specs.Inputs.{IsPart}
use Rattle.ss_input.proofs.Pieces.{as_long, gets_more, part_none}
use Rattle.ss_run_move.proofs.Pieces.{all_got, unread_later}
use Rattle.ss_run_move.proofs.inputs.read_whole.Goals as goal

pub pieces-init : goal.pieces-init
pieces-init g c = record {
  part = subst (λ (x : List ℕ). IsPart x (g.S.Told.told c.args.input.now) (g.S.Told.told c.args.input.now)) (sym c.new-text.ensures.items) (part_none (g.S.Told.told c.args.input.now));
  room = search rules;
}

pub pieces-preserved : goal.pieces-preserved
pieces-preserved g c = record {
  part = gets_more c.pieces.text.items c.read_piece.new.text.items c.in-Ok.field-0 (g.S.Told.told c.args.input.now) (g.S.Told.told c.pieces.input) (g.S.Told.told c.read_piece.new.input) c.pieces.invariant.part c.in-Ok.ensures.got;
  room = as_long c.pieces.piece.len 65536 c.read_piece.new.piece c.pieces.piece.items (c.in-Ok.ensures.room ∙ ap length c.as_mut_slice.ensures.value) c.pieces.piece.ok.0 c.pieces.invariant.room;
}

pub returns-in-Ok-eq0-clause-whole : goal.returns-in-Ok-eq0-clause-whole
returns-in-Ok-eq0-clause-whole g c =
    all_got c.pieces.text.items c.read_piece.new.text.items c.in-Ok-eq0.field-0 (g.S.Told.told c.args.input.now) (g.S.Told.told c.pieces.input) (g.S.Told.told c.read_piece.new.input) c.pieces.invariant.part c.in-Ok-eq0.ensures.got c.in-Ok-eq0.field-0-test
    (let few = c.pieces-test.true in let long = c.len.ensures in omega arith)

pub returns-in-Err-clause-unread : goal.returns-in-Err-clause-unread
returns-in-Err-clause-unread g c =
    unread_later c.pieces.text.items c.in-Err.ending (g.S.Told.told c.args.input.now) (g.S.Told.told c.pieces.input) (g.S.Told.told c.read_piece.new.input) c.pieces.invariant.part c.in-Err.ensures.unread
