use Rattle.ss_text.proofs.Pieces.{run_is_text}
use Rattle.ss_text.proofs.decimals.is_number_text.Goals as goal

pub returns-in-Err : goal.returns-in-Err
returns-in-Err c = absurd (c.in-Err.ensures.cases.0 (run_is_text c.args.run.now c.requires))
