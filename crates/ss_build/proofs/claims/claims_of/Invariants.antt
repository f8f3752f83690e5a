use Rattle.std.proofs.Common.{◌≡◌, take, filter_map}
use Rattle.ss_build.specs.Rows.{claim_of}
use Rattle.ss_build.proofs.claims.claims_of.Given as goal

abbrev pub invariant-loop-row : goal.invariant-loop-row
invariant-loop-row l = l.claims.items ≡ filter_map claim_of (take l.row-index l.rows)
