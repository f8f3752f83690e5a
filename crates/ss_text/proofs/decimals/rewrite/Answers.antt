use Rattle.std.proofs.Common.{sym, ap, ◌∙◌, ◌++◌, arith, append-nil}
use Rattle.std.specs.List.{flat_map}
use Rattle.ss_text.specs.Decimals.{bytes_of_piece, changed_piece}
use Rattle.ss_text.proofs.Scans.{nothing_left}
use Rattle.ss_text.proofs.decimals.rewrite.Goals as goal

pub returns : goal.returns
returns c =
    let none = nothing_left c.args.text.now c.loop-at.at (omega arith) in
    sym (append-nil c.loop-at.out.items) ∙ ap (λ ps. c.loop-at.out.items ++ flat_map bytes_of_piece (flat_map (changed_piece c.args.change) ps)) (sym none) ∙ c.loop-at.invariant.1
