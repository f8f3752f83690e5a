use Rattle.ss_log_lines.proofs.arrays.push_array.Goals as goal

pub returns-in-Some : goal.returns-in-Some
returns-in-Some g c = rw c.in-Some.ensures.cases.0 c.push_some.ensures
