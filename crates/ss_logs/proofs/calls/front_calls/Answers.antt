use Rattle.std.proofs.Common.{[], ◌∷◌, ◌++◌, ap, ◌∙◌, rules}
use Rattle.ss_logs.proofs.AtPlaces.{call_at, end_at, none_at, over_at}
use Rattle.ss_logs.proofs.InParts.{no_calls}
use Rattle.ss_logs.proofs.calls.front_calls.Goals as goal

pub calls-init : goal.calls-init
calls-init c = no_calls c.args.bytes.now c.new-entries.result.items c.new-entries.ensures.items

pub returns-in_default-clause-bad : goal.returns-in_default-clause-bad
returns-in_default-clause-bad c =
    none_at c.args.bytes.now c.calls.entries.items c.calls.used c.len.result c.in_ok-front.field-0 c.calls.invariant (search rules) c.in_default.not-Some c.in_ok-front.ensures.none

pub calls-preserved : goal.calls-preserved
calls-preserved c =
    call_at c.args.bytes.now c.calls.entries.items c.push.new.self.items c.in-Call.entry c.calls.used c.in_ok-front.field-0 c.in-Some.front c.calls.invariant c.in-Some.is c.in-Call.is c.in_ok-front.ensures.front
    (c.in_ok-push-in-Call.ensures.items ∙ ap (λ e. c.calls.entries.items ++ e ∷ []) c.in-Call.entry-is)

pub returns-in-End-clause-calls : goal.returns-in-End-clause-calls
returns-in-End-clause-calls c =
    end_at c.args.bytes.now c.calls.entries.items c.calls.used c.in_ok-front.field-0 c.in-Some.front c.calls.invariant c.in-Some.is c.in-End.is c.in_ok-front.ensures.front

pub returns-clause-bad : goal.returns-clause-bad
returns-clause-bad c = over_at c.args.bytes.now c.calls.entries.items c.calls.used c.len-2.result c.calls.invariant (search rules) c.calls-test.false
