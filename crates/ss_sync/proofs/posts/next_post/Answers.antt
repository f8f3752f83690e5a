use Rattle.std.proofs.Common.{◌≡◌, ◌+◌, take, inl, arith, ◌∙◌}
use Rattle.ss_sync.specs.Posts.{fits}
use Rattle.ss_sync.proofs.Sizes.{counts_none, counts_more, counts_fit, next_full, next_room, next_whole}
use Rattle.ss_sync.proofs.posts.next_post.Goals as goal

pub loop-count-init : goal.loop-count-init
loop-count-init c = record { counts = counts_none c.args.parts.now; within = inl (omega arith); few = omega arith; short = omega arith }

pub loop-count-preserved : goal.loop-count-preserved
loop-count-preserved c =
    let at = c.loop-count in
    let more =
    counts_more c.args.parts.now at.count c.index-parts-count.result at.payloads at.body c.from.result c.from-in-loop-count.result c.loop-count-test.true c.index-parts-count.is (c.from.ensures ∙ c.payload_bytes.ensures)
    (c.from-in-loop-count.ensures ∙ c.in_ok-object_bytes.ensures) at.invariant.counts in
    let fit : c.are_within.result ≡ fits c.args.limits.now (take (at.count + 1) c.args.parts.now) = counts_fit c.args.limits.now c.args.parts.now (at.count + 1) _ _ c.are_within.result (omega arith) (omega arith) more c.are_within.ensures in
    record {
      counts = more;
      within = next_room c.args.limits.now c.args.parts.now at.count c.are_within.result (c.is_full.ensures.room c.if-is_full.false) fit;
      few = omega arith;
      short = omega arith;
    }

pub returns-then-is_full : goal.returns-then-is_full
returns-then-is_full c =
    let at = c.loop-count in
    let more =
    counts_more c.args.parts.now at.count c.index-parts-count.result at.payloads at.body c.from.result c.from-in-loop-count.result c.loop-count-test.true c.index-parts-count.is (c.from.ensures ∙ c.payload_bytes.ensures)
    (c.from-in-loop-count.ensures ∙ c.in_ok-object_bytes.ensures) at.invariant.counts in
    let fit : c.are_within.result ≡ fits c.args.limits.now (take (at.count + 1) c.args.parts.now) = counts_fit c.args.limits.now c.args.parts.now (at.count + 1) _ _ c.are_within.result (omega arith) (omega arith) more c.are_within.ensures in
    next_full c.args.limits.now c.args.parts.now at.count c.are_within.result c.loop-count-test.true (c.is_full.ensures.full c.if-is_full.true) fit at.invariant.within

pub returns : goal.returns
returns c = next_whole c.args.limits.now c.args.parts.now c.loop-count.count c.requires (omega arith) (omega arith) c.loop-count.invariant.within
