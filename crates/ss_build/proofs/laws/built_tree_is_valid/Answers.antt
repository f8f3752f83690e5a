use Rattle.ss_build.proofs.OfSheets.{sheets_built_valid}
use Rattle.ss_build.proofs.laws.built_tree_is_valid.Goals as goal

pub returns : goal.returns
returns c = sheets_built_valid
