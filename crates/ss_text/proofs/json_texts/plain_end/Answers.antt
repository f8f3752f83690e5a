use Rattle.std.proofs.Common.{ap, sym, ◌∙◌, arith}
use lib.Count.{count_trailing_zeros}
use Rattle.ss_text.specs.Scan.{is_escaped, is_unescaped}
use Rattle.ss_text.proofs.Strings.{unescaped_is}
use Rattle.ss_text.proofs.Vectors.{run_through, run_stops}
use Rattle.ss_text.proofs.json_texts.plain_end.Goals as goal

pub returns-then-found-ne0 : goal.returns-then-found-ne0
returns-then-found-ne0 c =
    let found = c.escaped-found in
    let run = run_stops is_escaped is_unescaped unescaped_is c.args.text.now c.loop-end.end 32 (omega arith) (omega arith) (omega (arith, found.ensures)) ∙ ap (count_trailing_zeros 64) (sym found.ensures) in
    omega (arith, run, c.loop-end.invariant.1)

pub loop-end-preserved : goal.loop-end-preserved
loop-end-preserved c =
    let run = run_through is_escaped is_unescaped unescaped_is c.args.text.now c.loop-end.end 32 (omega arith) (omega (arith, c.escaped-found.ensures)) in
    (omega arith, omega (arith, run, c.loop-end.invariant.1))
