use Rattle.ss_build.proofs.Kept.{claims_more}
use Rattle.ss_build.proofs.claims.claims_of.Goals as goal

pub loop-row-preserved : goal.loop-row-preserved
loop-row-preserved c = claims_more c.args.rows.now c.loop-row.row-index c.row-item.result c.loop-row.claims.items c.push_some.new.claims.items _ c.loop-row-test.true c.row-item.is c.in_ok-claim_of.ensures c.loop-row.invariant c.in_ok-push_some.ensures
