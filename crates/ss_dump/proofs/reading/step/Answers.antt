use Rattle.std.proofs.Common.{◌+◌, ◌-◌, length, take, drop, option_map, sym, ap, ◌∙◌, subst}
use Rattle.std.proofs.lemmas.List.{take_rest}
use Rattle.ss_lines.specs.Lines.{IsFront, NoneBegins}
use Rattle.ss_dump.specs.Stages.{IsReadTo, stage_state}
use Rattle.ss_dump.proofs.ByLines.{end_of, none_next, none_there, read_more}
use Rattle.ss_dump.proofs.Undumped.{absent, present}
use Rattle.ss_dump.proofs.reading.step.Goals as goal

pub returns-in_default-clause-bad : goal.returns-in_default-clause-bad
returns-in_default-clause-bad c =
    none_there c.args.bytes.now (stage_state c.args.reading.stage) c.args.reading.used c.args.reading.body c.args.reading.count c.requires
    (subst NoneBegins (take_rest c.args.bytes.now c.args.reading.used)
    (absent (NoneBegins (take (length c.args.bytes.now - c.args.reading.used) (drop c.args.reading.used c.args.bytes.now))) c.in_ok-front.field-0 c.in_default.not-Some c.in_ok-front.ensures.none))

pub returns-in-Some-2-clause-read : goal.returns-in-Some-2-clause-read
returns-in-Some-2-clause-read c =
    let rest = take_rest c.args.bytes.now c.args.reading.used in
    let front = present (λ f. IsFront (take (length c.args.bytes.now - c.args.reading.used) (drop c.args.reading.used c.args.bytes.now)) f.line f.used) c.in_ok-front.field-0 c.in-Some.front c.in-Some.is c.in_ok-front.ensures.front in
    subst (λ body. IsReadTo c.args.bytes.now (stage_state c.in-Some-2.stage) (c.args.reading.used + c.in-Some.front.used) body (c.args.reading.count + 1)) (sym c.body_with-body.ensures)
    (read_more c.args.bytes.now (stage_state c.args.reading.stage) (stage_state c.in-Some-2.stage) c.args.reading.used c.args.reading.body c.args.reading.count c.in-Some.front.line c.in-Some.front.used
    c.requires (subst (λ r. IsFront r c.in-Some.front.line c.in-Some.front.used) rest front) (sym c.in_ok-stage.ensures ∙ ap (option_map stage_state) c.in-Some-2.is))

pub returns-in-Some-2-clause-next : goal.returns-in-Some-2-clause-next
returns-in-Some-2-clause-next c = (c.in-Some.front.line, sym c.in_ok-stage.ensures ∙ ap (option_map stage_state) c.in-Some-2.is)

pub returns-in-Some-2-clause-end : goal.returns-in-Some-2-clause-end
returns-in-Some-2-clause-end c =
    end_of (stage_state c.args.reading.stage) c.in-Some.front.line (stage_state c.in-Some-2.stage) (sym c.in_ok-stage.ensures ∙ ap (option_map stage_state) c.in-Some-2.is)

pub returns-in-None-clause-bad : goal.returns-in-None-clause-bad
returns-in-None-clause-bad c =
    let rest = take_rest c.args.bytes.now c.args.reading.used in
    let front = present (λ f. IsFront (take (length c.args.bytes.now - c.args.reading.used) (drop c.args.reading.used c.args.bytes.now)) f.line f.used) c.in_ok-front.field-0 c.in-Some.front c.in-Some.is c.in_ok-front.ensures.front in
    none_next c.args.bytes.now (stage_state c.args.reading.stage) c.args.reading.used c.args.reading.body c.args.reading.count c.in-Some.front.line c.in-Some.front.used
    c.requires (subst (λ r. IsFront r c.in-Some.front.line c.in-Some.front.used) rest front) (sym (ap (option_map stage_state) c.in-None.is) ∙ c.in_ok-stage.ensures)
