use Rattle.std.proofs.Common.{sym, ◌∙◌, rules}
use Rattle.std.proofs.lemmas.Bool.{ne_eqb}
use Rattle.ss_text.proofs.Scans.{run_at, byte_at}
use Rattle.ss_text.proofs.decimals.next_piece.Goals as goal

pub slice_bounds-result-end : goal.slice_bounds-result-end
slice_bounds-result-end c =
    let r = run_at c.args.text.now c.args.at c.run_end-end.result c.requires (sym c.is_in_number.ensures ∙ c.if-is_in_number.true) c.run_end-end.ensures in
    search (rules, r.later, r.within)

pub returns-then-is_in_number-clause-cut : goal.returns-then-is_in_number-clause-cut
returns-then-is_in_number-clause-cut c =
    (run_at c.args.text.now c.args.at c.run_end-end.result c.requires (sym c.is_in_number.ensures ∙ c.if-is_in_number.true) c.run_end-end.ensures).cut

pub returns-then-is_in_number-clause-run : goal.returns-then-is_in_number-clause-run
returns-then-is_in_number-clause-run c =
    (run_at c.args.text.now c.args.at c.run_end-end.result c.requires (sym c.is_in_number.ensures ∙ c.if-is_in_number.true) c.run_end-end.ensures).pass

pub returns-else-is_in_number-clause-cut : goal.returns-else-is_in_number-clause-cut
returns-else-is_in_number-clause-cut c = byte_at c.args.text.now c.args.at c.requires (ne_eqb _ 34 c.if-byte-eq34.false) (sym c.is_in_number.ensures ∙ c.if-is_in_number.false)
