use Rattle.ss_laws.proofs.Reading.{write_law, rows_written-joined}
use Rattle.ss_laws.proofs.laws.write_law.Goals as goal

pub returns : goal.returns
returns c = record { rows = write_law; joined = rows_written-joined }
