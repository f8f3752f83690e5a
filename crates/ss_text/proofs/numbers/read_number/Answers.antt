use Rattle.std.proofs.Common.{◌≤◌, ◌<◌, ◌^◌, length, arith, lit<}
use Rattle.std.proofs.Math.Nat.{pow-le-pow_right}
use Rattle.ss_text.proofs.numbers.read_number.Goals as goal

pub returns-then-are_digits-clause-small : goal.returns-then-are_digits-clause-small
returns-then-are_digits-clause-small c =
    let short : length c.args.text.now ≤ c.args.most = c.if-text-most.true in
    let power : 10 ^ length c.args.text.now ≤ 10 ^ c.args.most = pow-le-pow_right (lit< tt) short in
    let small : c.value_of.result < 10 ^ length c.args.text.now = c.value_of.ensures.small in
    omega arith
