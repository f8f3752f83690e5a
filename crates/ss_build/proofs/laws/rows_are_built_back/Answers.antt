use Rattle.ss_build.proofs.OfSheets.{sheets_built_back}
use Rattle.ss_build.proofs.laws.rows_are_built_back.Goals as goal

pub returns : goal.returns
returns c = sheets_built_back
