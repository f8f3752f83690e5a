use Rattle.std.proofs.Common.{◌≡◌, ◌≤◌, ◌&&◌, not, cond, length, sym, ap, subst, ◌∙◌, arith, take, take_all, List, ℕ}
use Rattle.std.proofs.Common.{filter}
use Rattle.ss_list.specs.Chain.{times}
use Rattle.ss_record.specs.Ids.{Apart, has}
use Rattle.ss_tree.specs.Trees.{node_ids}
use Rattle.ss_tree.specs.Entries.{is_live, tree}
use Rattle.ss_dupe.specs.Looks.{is_places}
use Rattle.ss_dupe.specs.Reading.{ids_at}
use Rattle.ss_merge.proofs.Told.{told_apart, told_there}
use Rattle.ss_merge.proofs.telling.walk_ids.Goals as goal

pub returns-clause-once : goal.returns-clause-once
returns-clause-once c =
    let es = c.args.tree.now in
    let nodes : List ℕ = c.deref-node-items.result.now in
    let le : length nodes ≤ c.loop-node.node-index = omega arith in
    let is : c.loop-node.ids.items ≡ filter (λ x. not (is_places x)) (ids_at es nodes) = c.loop-node.invariant ∙ ap (λ ks. filter (λ x. not (is_places x)) (ids_at es ks)) (take_all c.loop-node.node-index nodes le) in
    let each : (k : ℕ) → times k nodes ≡ cond (is_live k es) 1 0 = λ k. ap (times k) c.deref-node-items.ensures.value ∙ c.in_ok-nodes.ensures.once k in
    subst Apart (sym is) (told_apart es c.in_ok-nodes.ensures.kept nodes each)

pub returns-clause-all : goal.returns-clause-all
returns-clause-all c = λ x.
    let es = c.args.tree.now in
    let nodes : List ℕ = c.deref-node-items.result.now in
    let le : length nodes ≤ c.loop-node.node-index = omega arith in
    let is : c.loop-node.ids.items ≡ filter (λ y. not (is_places y)) (ids_at es nodes) = c.loop-node.invariant ∙ ap (λ ks. filter (λ y. not (is_places y)) (ids_at es ks)) (take_all c.loop-node.node-index nodes le) in
    let each : (k : ℕ) → times k nodes ≡ cond (is_live k es) 1 0 = λ k. ap (times k) c.deref-node-items.ensures.value ∙ c.in_ok-nodes.ensures.once k in
    ap (has x) is ∙ told_there es c.in_ok-nodes.ensures.kept nodes each x
