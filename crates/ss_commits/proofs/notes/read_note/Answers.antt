use Rattle.std.proofs.Common.{sym, ◌∙◌}
use Rattle.ss_commits.proofs.Fronts.{read_marked, read_unmarked}
use Rattle.ss_commits.proofs.notes.read_note.Goals as goal

pub returns-in_ok-mark : goal.returns-in_ok-mark
returns-in_ok-mark c = λ n h is. c.beside.ensures ∙ read_marked c.args.line.now c.in_ok-mark.mark (sym c.is_marked.ensures ∙ c.if-is_marked.true) c.in_ok-mark.ensures n h is

pub returns-in_ok-found : goal.returns-in_ok-found
returns-in_ok-found c = λ n h is. c.of.ensures ∙ read_unmarked c.args.line.now c.in_ok-found.found (sym c.is_marked.ensures ∙ c.if-is_marked.false) c.in_ok-found.ensures.all n h is
