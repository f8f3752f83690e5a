use Rattle.std.proofs.Common.{refl, sym, ap, ◌∙◌}
use Rattle.std.proofs.lemmas.Bool.{true≢false}
use Rattle.ss_device_file.specs.Lines.{may_come}
use Rattle.ss_device_file.proofs.Chained.{cut_short, refused}
use Rattle.ss_device_file.proofs.front.next_line.Goals as goal
use Rattle.ss_device_file.proofs.front.next_line.Goals.{in_default-2-via-in-Some-2+else-may_come}
use Rattle.ss_device_file.proofs.front.next_line.Goals.{in_default-2-via-in_default-2}
use Rattle.ss_text.proofs.Basics.{some_same}

pub returns-in_default-clause-stopped : goal.returns-in_default-clause-stopped
returns-in_default-clause-stopped c = cut_short c.args.lines.now c.args.rest.now c.in_default.ensures _ refl

pub returns-in_default-2-clause-stopped : goal.returns-in_default-2-clause-stopped
returns-in_default-2-clause-stopped c =
    elim c.in_default-2.branch [
      | in_default-2-via-in-Some-2+else-may_come w ↦ refused c.args.lines.now c.args.rest.now c.in-Some.end c.in-Some.ensures
          (λ l line is may. let same = some_same (sym (c.in_ok-line.ensures.all l line is) ∙ w.in-Some-2.is) in
          true≢false (sym may ∙ (ap (may_come c.args.lines.now) same ∙ (sym w.may_come.ensures ∙ w.if-may_come.false)))) _ refl
      | in_default-2-via-in_default-2 w ↦ refused c.args.lines.now c.args.rest.now c.in-Some.end c.in-Some.ensures
          (λ l line is may. w.in_default-2.not-Some l (c.in_ok-line.ensures.all l line is)) _ refl
    ]
