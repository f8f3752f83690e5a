use Rattle.std.proofs.Common.{◌≡◌, ◌<◌, ◌++◌, ◌∷◌, Some, length, cond, bytes_eq, refl, sym, ap, ◌∙◌, subst, arith}
use Rattle.std.proofs.Common.{append_assoc}
use Rattle.ss_tree.specs.Entries.{node_of}
use Rattle.ss_tree.specs.Cells.{listing}
use Rattle.ss_tree.specs.declared.cells.TheConstants.{END}
use Rattle.ss_tree.proofs.Ids.{node_alike}
use Rattle.ss_tree.proofs.Alike.{same_items}
use Rattle.ss_tree.proofs.Changed.{Holds, holds_linked, holds_entry, holds_kids}
use Rattle.ss_tree.proofs.Hanging.{hangs_full}
use Rattle.ss_tree.proofs.Grown.{Built, built_holds, all_done, ids_more, node_none}
use Rattle.ss_tree.proofs.Placed.{Step, built_blank, built_with, step_entry, placed_long}
use Rattle.ss_tree.proofs.trees.Tree.from_entries.Goals as goal

pub loop-entry-init : goal.loop-entry-init
loop-entry-init c =
    let gives = c.into_iter-entry-iterator.ensures.into_iter_gives in
    record {
      all = refl;
      built = built_blank c.in_ok-cells.cells.items c.in_ok-cells.ensures.blank;
      rest_long = gives.1 ∙ (c.args.entries.ok.0 ∙ sym (ap length gives.0));
      long = c.in_ok-cells.ensures.long ∙ (c.len.ensures ∙ c.args.entries.ok.0);
      ids = λ x. rw c.with_hasher-index.ensures.empty (sym (node_none x));
    }

pub place-requires-clause-inside : goal.place-requires-clause-inside
place-requires-clause-inside c =
    let es = c.args.entries.items in
    let done = c.loop-entry.yielded in
    let e = c.in-Some.entry in
    let rest = c.next.new.self.rest.items in
    let v = c.loop-entry.invariant in
    let steps = c.in-Some.ensures.steps in
    let so_far : done ++ e ∷ rest ≡ c.into_iter-entry-iterator.result.rest.items = ap (λ r. done ++ r) (sym steps.0) ∙ v.all in
    let all : done ++ e ∷ rest ≡ es = so_far ∙ c.into_iter-entry-iterator.ensures.into_iter_gives.0 in
    let long = v.long in
    let room = c.requires.room in
    let left : length c.loop-entry.cells.items < END = omega arith in
    let step : Step c.loop-entry.cells.items done e = step_entry c.loop-entry.cells.items done e rest es v.built v.long all c.requires.tree c.requires.numbered left in
    step.inside

pub place-requires-clause-ready : goal.place-requires-clause-ready
place-requires-clause-ready c =
    let es = c.args.entries.items in
    let done = c.loop-entry.yielded in
    let e = c.in-Some.entry in
    let rest = c.next.new.self.rest.items in
    let v = c.loop-entry.invariant in
    let steps = c.in-Some.ensures.steps in
    let so_far : done ++ e ∷ rest ≡ c.into_iter-entry-iterator.result.rest.items = ap (λ r. done ++ r) (sym steps.0) ∙ v.all in
    let all : done ++ e ∷ rest ≡ es = so_far ∙ c.into_iter-entry-iterator.ensures.into_iter_gives.0 in
    let long = v.long in
    let room = c.requires.room in
    let left : length c.loop-entry.cells.items < END = omega arith in
    let step : Step c.loop-entry.cells.items done e = step_entry c.loop-entry.cells.items done e rest es v.built v.long all c.requires.tree c.requires.numbered left in
    step.ready

pub loop-entry-preserved : goal.loop-entry-preserved
loop-entry-preserved c =
    let es = c.args.entries.items in
    let done = c.loop-entry.yielded in
    let e = c.in-Some.entry in
    let rest = c.next.new.self.rest.items in
    let v = c.loop-entry.invariant in
    let steps = c.in-Some.ensures.steps in
    let so_far : done ++ e ∷ rest ≡ c.into_iter-entry-iterator.result.rest.items = ap (λ r. done ++ r) (sym steps.0) ∙ v.all in
    let all : done ++ e ∷ rest ≡ es = so_far ∙ c.into_iter-entry-iterator.ensures.into_iter_gives.0 in
    let long = v.long in
    let room = c.requires.room in
    let left : length c.loop-entry.cells.items < END = omega arith in
    let step : Step c.loop-entry.cells.items done e = step_entry c.loop-entry.cells.items done e rest es v.built v.long all c.requires.tree c.requires.numbered left in
    record {
      all = rw append_assoc so_far;
      built = built_with c.loop-entry.cells.items done e v.built step.inside step.gone left c.place.new.cells.items c.in_ok-place.ensures.placed;
      rest_long = let l = ap length steps.0 in let m = steps.1 in let n = v.rest_long in omega (arith, l, m, n);
      long = placed_long c.loop-entry.cells.items c.place.new.cells.items e c.in_ok-place.ensures.placed ∙ v.long;
      ids = λ x. c.in_ok-place.ensures.entered x ∙ (ap (λ o. cond (bytes_eq e.item.id x) (Some e.node) o) (v.ids x) ∙ ids_more x done e rest es all c.requires.tree.ids);
    }

pub invariant_of-result : goal.invariant_of-result
invariant_of-result c =
    let es = c.args.entries.items in
    let done = c.loop-entry.yielded in
    let cells = c.loop-entry.cells.items in
    let v = c.loop-entry.invariant in
    let over : length c.loop-entry.entry-iterator.rest.items ≡ 0 = sym v.rest_long ∙ c.in-None.ensures.steps.0 in
    let is : done ≡ es = all_done done c.loop-entry.entry-iterator.rest.items es (v.all ∙ c.into_iter-entry-iterator.ensures.into_iter_gives.0) over in
    let long = v.long in
    let room = c.requires.room in
    let holds : Holds cells es = built_holds cells es (subst (Built cells) is v.built) c.requires.tree (omega arith) in
    let linked = holds_linked holds in
    (linked, λ x. v.ids x ∙ (ap (node_of x) is ∙ sym (node_alike es (listing cells) c.requires.tree linked.kept.is_tree x (holds_entry holds))), hangs_full cells es holds long)

pub returns-clause-entries : goal.returns-clause-entries
returns-clause-entries c =
    let es = c.args.entries.items in
    let done = c.loop-entry.yielded in
    let cells = c.loop-entry.cells.items in
    let v = c.loop-entry.invariant in
    let over : length c.loop-entry.entry-iterator.rest.items ≡ 0 = sym v.rest_long ∙ c.in-None.ensures.steps.0 in
    let is : done ≡ es = all_done done c.loop-entry.entry-iterator.rest.items es (v.all ∙ c.into_iter-entry-iterator.ensures.into_iter_gives.0) over in
    let long = v.long in
    let room = c.requires.room in
    let holds : Holds cells es = built_holds cells es (subst (Built cells) is v.built) c.requires.tree (omega arith) in
    holds_entry holds

pub returns-clause-kids : goal.returns-clause-kids
returns-clause-kids c =
    let es = c.args.entries.items in
    let done = c.loop-entry.yielded in
    let cells = c.loop-entry.cells.items in
    let v = c.loop-entry.invariant in
    let over : length c.loop-entry.entry-iterator.rest.items ≡ 0 = sym v.rest_long ∙ c.in-None.ensures.steps.0 in
    let is : done ≡ es = all_done done c.loop-entry.entry-iterator.rest.items es (v.all ∙ c.into_iter-entry-iterator.ensures.into_iter_gives.0) over in
    let long = v.long in
    let room = c.requires.room in
    let holds : Holds cells es = built_holds cells es (subst (Built cells) is v.built) c.requires.tree (omega arith) in
    holds_kids holds

pub returns-clause-same : goal.returns-clause-same
returns-clause-same c =
    let es = c.args.entries.items in
    let done = c.loop-entry.yielded in
    let cells = c.loop-entry.cells.items in
    let v = c.loop-entry.invariant in
    let over : length c.loop-entry.entry-iterator.rest.items ≡ 0 = sym v.rest_long ∙ c.in-None.ensures.steps.0 in
    let is : done ≡ es = all_done done c.loop-entry.entry-iterator.rest.items es (v.all ∙ c.into_iter-entry-iterator.ensures.into_iter_gives.0) over in
    let long = v.long in
    let room = c.requires.room in
    let holds : Holds cells es = built_holds cells es (subst (Built cells) is v.built) c.requires.tree (omega arith) in
    same_items es (listing cells) c.requires.tree (holds_linked holds).kept.is_tree (holds_entry holds) (holds_kids holds)

pub returns-clause-valid : goal.returns-clause-valid
returns-clause-valid c =
    let es = c.args.entries.items in
    let done = c.loop-entry.yielded in
    let cells = c.loop-entry.cells.items in
    let v = c.loop-entry.invariant in
    let over : length c.loop-entry.entry-iterator.rest.items ≡ 0 = sym v.rest_long ∙ c.in-None.ensures.steps.0 in
    let is : done ≡ es = all_done done c.loop-entry.entry-iterator.rest.items es (v.all ∙ c.into_iter-entry-iterator.ensures.into_iter_gives.0) over in
    let long = v.long in
    let room = c.requires.room in
    let holds : Holds cells es = built_holds cells es (subst (Built cells) is v.built) c.requires.tree (omega arith) in
    (holds_linked holds).kept.is_tree
