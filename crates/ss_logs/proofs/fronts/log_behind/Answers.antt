use Rattle.std.proofs.Common.{◌+◌, Fits, w64, rules, arith, sym, subst}
use Rattle.ss_logs.specs.Fronts.{IsBadFront}
use Rattle.ss_logs.proofs.AtPlaces.{calls_bad, calls_bad_few, front_at, front_at_few, opening_bad, opening_bad_few}
use Rattle.ss_logs.proofs.AtPlaces.{opening_few}
use Rattle.ss_logs.proofs.fronts.log_behind.Goals as goal

pub overflow_add-result : goal.overflow_add-result
overflow_add-result c =
    let few = opening_bad_few c.args.bytes.now c.args.head c.in-Err-BadLine.n c.in-Err-BadLine.field-0 c.in-Err-BadLine.field-0-is c.in-Err-BadLine.ensures.bad in
    subst (λ n. Fits w64 (n + 1)) (sym c.in-Err-BadLine.n-is) (omega (arith, few))

pub returns-in-Err-BadLine-clause-bad : goal.returns-in-Err-BadLine-clause-bad
returns-in-Err-BadLine-clause-bad c =
    subst (λ n. IsBadFront c.args.bytes.now (n + 1)) (sym c.in-Err-BadLine.n-is)
    (opening_bad c.args.bytes.now c.args.moment c.args.most c.args.head c.in-Err-BadLine.n c.in-Err-BadLine.field-0 c.requires c.in-Err-BadLine.field-0-is c.in-Err-BadLine.ensures.bad)

pub overflow_add-result-in-Err-BadLine-front_calls : goal.overflow_add-result-in-Err-BadLine-front_calls
overflow_add-result-in-Err-BadLine-front_calls c =
    let few = opening_few c.args.bytes.now c.args.head c.in-Ok.opening.used c.in-Ok.opening.lines c.in-Ok.opening.kept c.in-Ok.ensures.front in omega (arith, few)

pub overflow_add-result-in-Err-BadLine-front_calls-2 : goal.overflow_add-result-in-Err-BadLine-front_calls-2
overflow_add-result-in-Err-BadLine-front_calls-2 c =
    let few = calls_bad_few c.args.bytes.now c.args.moment c.args.most c.args.head c.in-Ok.opening.used c.in-Ok.opening.lines c.in-Err-BadLine-front_calls.n c.in-Ok.opening.kept c.in-Err-BadLine-front_calls.field-0
    c.requires c.in-Ok.ensures.front c.in-Err-BadLine-front_calls.field-0-is c.in-Err-BadLine-front_calls.ensures.bad in
    subst (λ n. Fits w64 (c.in-Ok.opening.lines + 1 + n)) (sym c.in-Err-BadLine-front_calls.n-is) (omega (arith, few))

pub returns-in-Err-BadLine-front_calls-clause-bad : goal.returns-in-Err-BadLine-front_calls-clause-bad
returns-in-Err-BadLine-front_calls-clause-bad c =
    subst (λ n. IsBadFront c.args.bytes.now (c.in-Ok.opening.lines + 1 + n)) (sym c.in-Err-BadLine-front_calls.n-is)
    (calls_bad c.args.bytes.now c.args.moment c.args.most c.args.head c.in-Ok.opening.used c.in-Ok.opening.lines c.in-Err-BadLine-front_calls.n c.in-Ok.opening.kept c.in-Err-BadLine-front_calls.field-0
    c.requires c.in-Ok.ensures.front c.in-Err-BadLine-front_calls.field-0-is c.in-Err-BadLine-front_calls.ensures.bad)

pub overflow_add-result-3 : goal.overflow_add-result-3
overflow_add-result-3 c =
    let few = front_at_few c.args.bytes.now c.args.moment c.args.most c.args.head c.in-Ok.opening.used c.in-Ok.opening.lines c.in-Ok-front_calls.calls.used c.len-entries.result c.in-Ok.opening.kept
    c.in-Ok-front_calls.calls.entries.items c.requires c.in-Ok.ensures.front c.in-Ok-front_calls.ensures.calls (search rules) in
    omega (arith, few)

pub overflow_add-result-4 : goal.overflow_add-result-4
overflow_add-result-4 c =
    let few = front_at_few c.args.bytes.now c.args.moment c.args.most c.args.head c.in-Ok.opening.used c.in-Ok.opening.lines c.in-Ok-front_calls.calls.used c.len-entries.result c.in-Ok.opening.kept
    c.in-Ok-front_calls.calls.entries.items c.requires c.in-Ok.ensures.front c.in-Ok-front_calls.ensures.calls (search rules) in
    omega (arith, few)

pub returns-clause-front : goal.returns-clause-front
returns-clause-front c =
    front_at c.args.bytes.now c.args.moment c.args.most c.args.head c.in-Ok.opening.used c.in-Ok.opening.lines c.in-Ok-front_calls.calls.used c.len-entries.result c.in-Ok.opening.kept c.account_at.result
    c.in-Ok-front_calls.calls.entries.items c.requires c.in-Ok.ensures.front c.in-Ok-front_calls.ensures.calls (search rules) c.account_at.ensures
