use Rattle.ss_commits.proofs.Fronts.{no_end, no_note, one_note}
use Rattle.ss_commits.proofs.cutting.next_note.Goals as goal

pub returns-in_default-clause-front : goal.returns-in_default-clause-front
returns-in_default-clause-front c = λ n back h is. absurd (no_end c.args.text.now c.in_default.ensures n back h is)

pub returns-in-Some-2-clause-front : goal.returns-in-Some-2-clause-front
returns-in-Some-2-clause-front c =
    one_note c.args.text.now c.in-Some.end c.in_ok-note.field-0 c.in-Some-2.note c.in-Some.ensures c.in_ok-note.ensures c.in-Some-2.is

pub returns-in-None-clause-front : goal.returns-in-None-clause-front
returns-in-None-clause-front c = λ n back h is.
    absurd (no_note c.args.text.now c.in-Some.end c.in_ok-note.field-0 c.in-Some.ensures c.in_ok-note.ensures c.in-None.is n back h is)
