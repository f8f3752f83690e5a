use Rattle.std.proofs.Common.{arith}
use Rattle.ss_text.proofs.Digits.{digit_step, whole_small}
use Rattle.ss_text.proofs.numbers.value_of.Goals as goal

pub overflow_mul-number : goal.overflow_mul-number
overflow_mul-number c =
    let s = digit_step c.args.text.now c.loop-digit.digit-index c.loop-digit.number c.requires.digits c.requires.few (omega arith) c.loop-digit.invariant in
    omega (arith, s.small)

pub overflow_add-number : goal.overflow_add-number
overflow_add-number c =
    let s = digit_step c.args.text.now c.loop-digit.digit-index c.loop-digit.number c.requires.digits c.requires.few (omega arith) c.loop-digit.invariant in
    omega (arith, s.small)

pub loop-digit-preserved : goal.loop-digit-preserved
loop-digit-preserved c =
    let s = digit_step c.args.text.now c.loop-digit.digit-index c.loop-digit.number c.requires.digits c.requires.few (omega arith) c.loop-digit.invariant in
    s.next

pub returns-clause-small : goal.returns-clause-small
returns-clause-small c = whole_small c.args.text.now c.loop-digit.digit-index c.loop-digit.number c.requires.digits (omega arith) c.loop-digit.invariant
