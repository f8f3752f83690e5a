use Rattle.std.proofs.Common.{◌≡◌, ◌∙◌, ap, ap₂, sym, subst}
use Rattle.ss_tree.specs.Entries.{tree}
use Rattle.ss_tree.specs.Trees.{IsSame}
use Rattle.ss_dupe.specs.Pairs.{ArePairs}
use Rattle.ss_dupe.specs.Plains.{view}
use Rattle.ss_dupe.specs.Sides.{sides_asked}
use Rattle.ss_dupe.specs.Renaming.{renamed_sides}
use Rattle.ss_merge.specs.Merged.{all_ids, gone_of, entries_merged, origins}
use Rattle.ss_merge.proofs.Whole.{are_merging, gathered, survivors}
use Rattle.ss_merge.proofs.merging.merge.Goals as goal

pub tree_of-requires : goal.tree_of-requires
tree_of-requires c =
    let pairs = c.in_ok-paired.paired.renamed.items in
    let s = c.args.sides.now in
    let same : view c.in_ok-paired.paired.plains ≡ renamed_sides pairs s = c.in_ok-paired.ensures.same in
    are_merging pairs s (view c.in_ok-paired.paired.plains) c.deref.result.now same c.in_ok-paired.ensures.shaped (c.deref.ensures.value ∙ gathered pairs s (view c.in_ok-paired.paired.plains) c.in_ok-ids.ids.items same c.in_ok-ids.ensures)

pub returns-clause-tree : goal.returns-clause-tree
returns-clause-tree c =
    let pairs = c.in_ok-paired.paired.renamed.items in
    let s = c.args.sides.now in
    let same : view c.in_ok-paired.paired.plains ≡ renamed_sides pairs s = c.in_ok-paired.ensures.same in
    let ids : c.deref.result.now ≡ all_ids pairs s = c.deref.ensures.value ∙ gathered pairs s (view c.in_ok-paired.paired.plains) c.in_ok-ids.ids.items same c.in_ok-ids.ensures in
    subst (IsSame (tree c.in_ok-tree.tree)) (ap₂ entries_merged same ids) c.in_ok-tree.ensures.same

pub returns-clause-survivors : goal.returns-clause-survivors
returns-clause-survivors c =
    let pairs = c.in_ok-paired.paired.renamed.items in
    let s = c.args.sides.now in
    let same : view c.in_ok-paired.paired.plains ≡ renamed_sides pairs s = c.in_ok-paired.ensures.same in
    let m = are_merging pairs s (view c.in_ok-paired.paired.plains) c.deref.result.now same c.in_ok-paired.ensures.shaped (c.deref.ensures.value ∙ gathered pairs s (view c.in_ok-paired.paired.plains) c.in_ok-ids.ids.items same c.in_ok-ids.ensures) in
    λ x. survivors (renamed_sides pairs s) (view c.in_ok-paired.paired.plains) c.deref.result.now (tree c.in_ok-tree.tree) same m c.in_ok-tree.ensures.same x

pub returns-clause-from : goal.returns-clause-from
returns-clause-from c =
    let same : view c.in_ok-paired.paired.plains ≡ renamed_sides c.in_ok-paired.paired.renamed.items c.args.sides.now = c.in_ok-paired.ensures.same in
    c.in_ok-from.ensures.from ∙ ap (λ s. origins s c.in_ok-tree.tree) same

pub returns-clause-gone : goal.returns-clause-gone
returns-clause-gone c =
    let pairs = c.in_ok-paired.paired.renamed.items in
    let s = c.args.sides.now in
    let same : view c.in_ok-paired.paired.plains ≡ renamed_sides pairs s = c.in_ok-paired.ensures.same in
    c.in_ok-gone.ensures ∙ ap₂ gone_of same (c.deref-2.ensures.value ∙ gathered pairs s (view c.in_ok-paired.paired.plains) c.in_ok-ids.ids.items same c.in_ok-ids.ensures)
