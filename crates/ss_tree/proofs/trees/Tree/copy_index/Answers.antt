use Rattle.std.proofs.Common.{◌≡◌, Some, cond, sym, ap, ap₂, ◌∙◌, arith, bytes_eq}
use Rattle.std.specs.HashMap.{get}
use Rattle.ss_record.specs.Items.{ItemView}
use Rattle.ss_tree.specs.Entries.{entry, node_of}
use Rattle.ss_tree.proofs.Copied.{low, item_entry, no_entry, low_item, low_blank, low_all}
use Rattle.ss_tree.proofs.trees.Tree.copy_index.Goals.{in-Some+in_ok-enter, in_default}
use Rattle.ss_tree.proofs.trees.Tree.copy_index.Goals as goal

pub loop-place-preserved : goal.loop-place-preserved
loop-place-preserved c =
    let es = c.args.self.now in
    let k = c.loop-place.place in
    let v = c.loop-place.invariant in
    record {
      valid = v.valid;
      below = v.below;
      ids = λ x. elim c.match-item_of.branch [
        | in-Some+in_ok-enter w ↦
            let got = rw (w.in-Some.is, c.new-node.ensures) at c.item_of.ensures in
            let e = item_entry (entry k es) w.in-Some.item.now (sym got) in
            let step = rw (w.id.ensures.id, c.new-node.ensures) at (w.in_ok-enter.ensures.entered x) in
            ap (λ m. get bytes_eq m x) w.index-is ∙ (step ∙ (ap₂ (λ i o. cond (bytes_eq i x) (Some k) o) (sym (ap (λ (i : ItemView). i.id) e.2)) (v.ids x) ∙ low_item es v.valid x k e.0 e.1))
        | in_default w ↦
            let got = rw (w.in_default.is, c.new-node.ensures) at c.item_of.ensures in
            ap (λ m. get bytes_eq m x) w.index-is ∙ (v.ids x ∙ low_blank es v.valid x k (no_entry (entry k es) (sym got)))
      ];
    }

pub returns : goal.returns
returns c =
    let v = c.loop-place.invariant in
    let is : c.loop-place.place ≡ c.len-place-end.result = omega (arith, c.loop-place-test.false) in
    λ x. v.ids x ∙ (ap (λ n. low n (node_of x c.args.self.now)) is ∙ low_all c.args.self.now v.valid x c.len-place-end.result v.below)
