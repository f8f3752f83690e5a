use Rattle.ss_log_lines.proofs.Fronts.{told_apart}
use Rattle.ss_log_lines.proofs.laws.log_lines_are_told_apart.Goals as goal

pub returns : goal.returns
returns c = λ l m behind other h k e. told_apart l m behind other h k e
