use Rattle.ss_list.specs.Chain.{times}
use Rattle.ss_tree.proofs.Once.{once_each}
use Rattle.std.proofs.Common.{true}
use Rattle.std.specs.List.{All}
use Rattle.ss_tree.specs.Entries.{is_live}
use Rattle.ss_tree.proofs.Live.{live_preorder}
use Rattle.std.proofs.Common.{◌≡◌, ◌≤◌, ◌++◌, ◌∷◌, [], ℕ, length, Option, Some, sym, ap, ◌∙◌, subst, arith}
use Rattle.std.proofs.Common.{length-append}
use Rattle.ss_tree.proofs.Valid.{valid_tree}
use Rattle.ss_tree.specs.Entries.{IsTree, preorder}
use Rattle.ss_tree.specs.Cells.{listing}
use Rattle.ss_tree.proofs.Seen.{long_is}
use Rattle.ss_tree.proofs.Walked.{Stands, start, onward, fewer}
use Rattle.ss_tree.proofs.trees.Tree.walk.Goals as goal

pub loop-at-init : goal.loop-at-init
loop-at-init c =
    let tree : IsTree c.args.self.now = subst IsTree c.self.view_is c.self.invariant.0.kept.is_tree in
    let l = long_is c.self.inside.cells.items c.self.invariant.0 in
    let long : length (listing c.self.inside.cells.items) ≤ c.len-rounds.result = omega (arith, c.len-rounds.ensures) in
    record {
      valid = tree;
      long = subst (λ es. length es ≤ c.len-rounds.result) c.self.view_is long;
      stands = rw (c.new.ensures, c.new-nodes.ensures.items) (start c.args.self.now tree);
    }

pub loop-at-smaller : goal.loop-at-smaller
loop-at-smaller c =
    let es = c.args.self.now in
    let v = c.loop-at.invariant in
    let here : Stands es (Some c.in-Some.node) c.loop-at.nodes.items = subst (λ (o : Option ℕ). Stands es o c.loop-at.nodes.items) c.in-Some.is v.stands in
    let few = fewer es v.valid c.in-Some.node c.loop-at.nodes.items here in
    let more : length c.push.new.self.items ≡ length (c.loop-at.nodes.items ++ c.in-Some.node ∷ []) = ap length c.in_ok-push.ensures.items in
    omega (arith, few, more, length-append c.loop-at.nodes.items (c.in-Some.node ∷ []))

pub loop-at-preserved : goal.loop-at-preserved
loop-at-preserved c =
    let es = c.args.self.now in
    let v = c.loop-at.invariant in
    let here : Stands es (Some c.in-Some.node) c.loop-at.nodes.items = subst (λ (o : Option ℕ). Stands es o c.loop-at.nodes.items) c.in-Some.is v.stands in
    record { valid = v.valid; long = v.long; stands = rw (c.follower-at.ensures, c.in_ok-push.ensures.items) (onward es v.valid c.in-Some.node c.len-rounds.result c.loop-at.nodes.items v.long here) }

pub returns-clause-live : goal.returns-clause-live
returns-clause-live c =
    let es = c.args.self.now in
    let v = c.loop-at.invariant in
    let is : c.loop-at.nodes.items ≡ preorder es (length es) 0 = subst (λ (o : Option ℕ). Stands es o c.loop-at.nodes.items) c.in_default.is v.stands in
    subst (λ ks. All (λ k. is_live k es ≡ true) ks) (sym is) (live_preorder es (length es) v.valid)

pub returns-clause-once : goal.returns-clause-once
returns-clause-once c =
    let es = c.args.self.now in
    let v = c.loop-at.invariant in
    let is : c.loop-at.nodes.items ≡ preorder es (length es) 0 = subst (λ (o : Option ℕ). Stands es o c.loop-at.nodes.items) c.in_default.is v.stands in
    λ k. ap (times k) is ∙ once_each es v.valid k

pub returns-clause-kept : goal.returns-clause-kept
returns-clause-kept c = c.loop-at.invariant.valid

pub returns-clause-valid : goal.returns-clause-valid
returns-clause-valid c = valid_tree c.args.self.now c.loop-at.invariant.valid
