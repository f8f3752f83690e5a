use Rattle.ss_run_flat.proofs.Unique.{one_refusal, unrefused}
use Rattle.ss_run_flat.proofs.laws.one_ending.Goals as goal

pub returns-clause-unrefused : goal.returns-clause-unrefused
returns-clause-unrefused c = λ kind text out ending is no_file. unrefused text is.rows ending is.file no_file

pub returns-clause-refused : goal.returns-clause-refused
returns-clause-refused c = one_refusal
