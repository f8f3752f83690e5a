use Rattle.ss_build.specs.Built.{claims}
use Rattle.ss_build.specs.Rows.{rows_of}
use Rattle.ss_build.proofs.Bounded.{comes_back_is}
use Rattle.ss_build.proofs.OfSheets.{sheets_are_rows}
use Rattle.ss_build.proofs.OfRows.{claims_are}
use Rattle.ss_build.proofs.laws.circles_are_bounded.Goals as goal

pub returns : goal.returns
returns c = λ sheets a x h. comes_back_is (claims (rows_of sheets)) (claims_are (rows_of sheets) (sheets_are_rows sheets a)) x h
