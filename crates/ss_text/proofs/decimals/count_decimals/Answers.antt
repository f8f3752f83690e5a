use Rattle.std.proofs.Common.{◌≡◌, ap, arith, length, filter}
use Rattle.ss_text.specs.Decimals.{is_wrapped, count_of}
use Rattle.ss_text.proofs.Scans.{nothing_left}
use Rattle.ss_text.proofs.Printed.{kept_stays}
use Rattle.ss_text.proofs.decimals.count_decimals.Goals as goal

pub returns-clause-count : goal.returns-clause-count
returns-clause-count c =
    let none = ap (λ ps. length (filter is_wrapped ps)) (nothing_left c.args.text.now c.loop-at.at (omega arith)) in
    omega (arith, c.loop-at.invariant.2)

pub returns-clause-same : goal.returns-clause-same
returns-clause-same c z =
    let none = ap (λ ps. length (filter is_wrapped ps)) (nothing_left c.args.text.now c.loop-at.at (omega arith)) in
    let zero : count_of c.args.text.now ≡ 0 = omega (arith, c.loop-at.invariant.2) in
    kept_stays c.args.text.now zero
