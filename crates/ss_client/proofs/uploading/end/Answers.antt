use Rattle.std.proofs.Common.{subst}
use Rattle.ss_plan.specs.Written.{AreRowsAfter}
use Rattle.ss_client.proofs.uploading.end.Goals as goal

pub new-requires-clause-known : goal.new-requires-clause-known
new-requires-clause-known c =
    let after = c.in_ok-mirror.mirror.items in
    c.requires after c.args.stamp
    (subst (λ parts. AreRowsAfter c.args.rows parts c.args.stamp after) c.as_slice.ensures (subst (λ rows. AreRowsAfter rows c.as_slice.result.now c.args.stamp after) c.into_vec.ensures c.in_ok-mirror.ensures.written))
