use Rattle.std.proofs.Common.{◌≡◌, [], ◌∷◌, ◌++◌, ◌-◌, take, sym, ap, ◌∙◌, subst, append-nil, append_assoc}
use Rattle.ss_device.proofs.Gone.{Left, all_gone, left_first, left_next, next_free, next_live}
use Rattle.ss_device.proofs.Refused.{at_there}
use Rattle.ss_device.proofs.removal.remove_all.Goals as goal
use Rattle.ss_text.proofs.Basics.{none_some}

pub loop-node-init : goal.loop-node-init
loop-node-init c = ([], sym (append-nil c.args.nodes.items), left_first c.args.tree.now)

pub remove-requires : goal.remove-requires
remove-requires c =
    let v = c.loop-node.invariant in
    let split = v.1 ∙ (ap (λ xs. xs ++ v.0) c.in-Some.ensures.items ∙ append_assoc c.pop.new.self.items (c.in-Some.node ∷ []) v.0) in
    next_live c.args.tree.now c.args.id.now c.args.nodes.items c.requires.can c.pop.new.self.items c.in-Some.node v.0 split c.loop-node.tree v.2

pub unreachable-requires : goal.unreachable-requires
unreachable-requires c =
    let v = c.loop-node.invariant in
    let split = v.1 ∙ (ap (λ xs. xs ++ v.0) c.in-Some.ensures.items ∙ append_assoc c.pop.new.self.items (c.in-Some.node ∷ []) v.0) in
    none_some (sym (next_free c.args.tree.now c.args.id.now c.args.nodes.items c.requires.can c.pop.new.self.items c.in-Some.node v.0 split c.loop-node.tree v.2) ∙ c.in-Err.ensures.refused)

pub loop-node-preserved-in-Ok : goal.loop-node-preserved-in-Ok
loop-node-preserved-in-Ok c =
    let v = c.loop-node.invariant in
    let split = v.1 ∙ (ap (λ xs. xs ++ v.0) c.in-Some.ensures.items ∙ append_assoc c.pop.new.self.items (c.in-Some.node ∷ []) v.0) in
    (c.in-Some.node ∷ v.0, split, left_next c.args.tree.now c.args.id.now c.args.nodes.items c.requires.can c.pop.new.self.items c.in-Some.node v.0 split c.loop-node.tree v.2 c.remove.new.self c.in-Ok.ensures.entries c.in-Ok.ensures.kids)

pub returns-clause-nodes : goal.returns-clause-nodes
returns-clause-nodes c =
    let v = c.loop-node.invariant in
    let empty : c.loop-node.left.items ≡ [] =
    c.in_default.ensures.items ∙ (append-nil c.pop.new.self.items ∙ (c.in_default.ensures.rest ∙ ap (λ n. take (n - 1) c.loop-node.left.items) c.in_default.ensures.cases.0)) in
    let whole : v.0 ≡ c.args.nodes.items = sym (v.1 ∙ ap (λ xs. xs ++ v.0) empty) in
    let left : Left c.args.tree.now c.loop-node.tree c.args.nodes.items = subst (λ gone. Left c.args.tree.now c.loop-node.tree gone) whole v.2 in
    let at = at_there c.args.tree.now c.args.id.now c.requires.there in
    all_gone c.args.tree.now c.requires.can.kept c.args.id.now at.0 at.1 c.requires.loose c.loop-node.tree c.find-kept.ensures.kept c.args.nodes.items c.requires.can left.entries left.rows
