use Rattle.std.proofs.Common.{◌≡◌, ◌<◌, ◌∙◌, sym, length, subst}
use Rattle.ss_text.proofs.Basics.{of_not, same_text}
use Rattle.ss_tree.specs.Entries.{id_at}
use Rattle.ss_sync.proofs.Untimed.{ids_more}
use Rattle.ss_sync.proofs.alike.are_same_ids.Goals as goal

pub loop-i-preserved : goal.loop-i-preserved
loop-i-preserved c =
    let at = c.loop-i in
    let other : at.i < length c.args.others.now = subst (λ n. at.i < n) at.invariant.long c.loop-i-test.true in
    let same : id_at c.args.tree.now c.index-nodes-i.result ≡ id_at c.args.other.now c.index-others-i.result =
    sym c.id_at.ensures ∙ same_text c.id_at.result.now c.id_at-in-loop-i.result.now (of_not _ _ c.ne.ensures c.if-ne.false) ∙ c.id_at-in-loop-i.ensures in
    record {
      long = at.invariant.long;
      same = ids_more c.args.tree.now c.args.other.now c.args.nodes.now c.args.others.now at.i c.index-nodes-i.result c.index-others-i.result c.loop-i-test.true other c.index-nodes-i.is c.index-others-i.is at.invariant.same same;
    }
