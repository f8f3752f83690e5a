use Rattle.std.proofs.Common.{◌≡◌, ◌∙◌, ap, arith, refl, sym}
use Rattle.ss_tree.specs.Entries.{kids}
use Rattle.ss_sync.specs.Equal.{ids_at}
use Rattle.ss_sync.proofs.Untimed.{untimed_at}
use Rattle.ss_sync.proofs.alike.is_untimed_at.Goals as goal

pub returns : goal.returns
returns c told =
    let nodes : c.deref.result.now ≡ kids c.args.node c.args.tree.now = c.deref.ensures.value ∙ c.in_ok-nodes.ensures.nodes in
    let others : c.deref-2.result.now ≡ kids c.args.at c.args.other.now = c.deref-2.ensures.value ∙ c.in_ok-others.ensures.nodes in
    untimed_at c.args.tree.now c.args.other.now c.args.node c.args.at c.item.result.now c.item-else-get-ne0.result.now c.time.result c.requires.tree c.requires.other c.requires.node c.requires.at
    c.time.ensures (omega arith)
    c.item.ensures c.item-else-get-ne0.ensures (c.if-not-is_same_item.ensures refl) (c.if-not-is_same_parent.ensures refl)
    (ap (ids_at c.args.tree.now) (sym nodes) ∙ c.are_same_ids.ensures told ∙ ap (ids_at c.args.other.now) others)
