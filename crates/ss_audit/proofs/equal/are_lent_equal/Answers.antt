use Rattle.std.proofs.Common.{◌≡◌, ◌<◌, true, length, arith}
use Rattle.ss_audit.proofs.Alike.{seen_alike}
use Rattle.ss_audit.proofs.equal.are_lent_equal.Goals as goal

pub returns-then-not-is_equal : goal.returns-then-not-is_equal
returns-then-not-is_equal g c = (
  λ e. cc,
  λ e.
      let within : c.loop-i.i < length c.args.others.now = omega arith in
      let t : c.is_equal.result ≡ true =
      c.is_equal.ensures.1 (seen_alike (λ item. item.now) c.args.items.now c.args.others.now c.loop-i.i c.index-items-i.result c.index-others-i.result c.loop-i-test.true within c.index-items-i.is c.index-others-i.is e) in
      cc,
)
