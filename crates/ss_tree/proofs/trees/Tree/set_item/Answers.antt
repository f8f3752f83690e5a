use Rattle.std.proofs.Common.{◌≡◌, ◌==◌, ℕ, List, true, cond, sym, ◌∙◌, arith, option_map}
use Rattle.ss_list.proofs.Calls.{whole_slice}
use Rattle.ss_tree.specs.Entries.{is_fit_with, revised_entry}
use Rattle.ss_tree.proofs.Edits.{live_entry}
use Rattle.ss_tree.specs.declared.cells.Cell.{Cell}
use Rattle.ss_tree.specs.Cells.{seat_at, listing, SameLinks, IsLinkedTree}
use Rattle.ss_tree.proofs.Seen.{fit_item}
use Rattle.ss_tree.proofs.Changed.{holds_linked, revised_holds, revised_entries, revised_kids, revised_ids}
use Rattle.ss_tree.proofs.Hanging.{revised_hangs}
use Rattle.ss_tree.proofs.trees.Tree.set_item.Goals as goal

pub revise-requires-clause-node : goal.revise-requires-clause-node
revise-requires-clause-node c =
    let cells = c.self.inside.cells.items in
    let k = c.args.node in
    let linked : IsLinkedTree cells = c.self.invariant.0 in
    let fit : is_fit_with c.args.content k (listing cells) ≡ true = rw c.self.view_is c.requires.fit in
    rw (c.as_mut_slice.ensures.value, c.number.ensures) (linked.kept.below k (live_entry k (listing cells) c.args.content fit))

pub revise-requires-clause-fit : goal.revise-requires-clause-fit
revise-requires-clause-fit c =
    let cells = c.self.inside.cells.items in
    let k = c.args.node in
    let linked : IsLinkedTree cells = c.self.invariant.0 in
    let fit : is_fit_with c.args.content k (listing cells) ≡ true = rw c.self.view_is c.requires.fit in
    rw (c.as_mut_slice.ensures.value, c.number.ensures) (fit_item cells linked k c.args.content fit)

pub invariant_of-self : goal.invariant_of-self
invariant_of-self c =
    let cells = c.self.inside.cells.items in
    let k = c.args.node in
    let linked : IsLinkedTree cells = c.self.invariant.0 in
    let fit : is_fit_with c.args.content k (listing cells) ≡ true = rw c.self.view_is c.requires.fit in
    let new : List Cell = c.revise.new.cells in
    let same : SameLinks cells new = rw c.as_mut_slice.ensures.value at c.revise.ensures.links in
    let seats : (j : ℕ) → seat_at new j ≡ cond (j == k) (option_map (revised_entry c.args.content c.args.time) (seat_at cells j)) (seat_at cells j) = rw (c.as_mut_slice.ensures.value, c.number.ensures) at c.revise.ensures.seats in
    let whole = whole_slice c.self.inside.cells.len cells new (omega arith) same.long in
    rw whole (holds_linked (revised_holds cells k c.args.content c.args.time new linked c.requires.inside fit same seats), λ x. c.self.invariant.1 x ∙ sym (revised_ids cells k c.args.content c.args.time new linked c.requires.inside fit same seats x), revised_hangs cells k c.args.content c.args.time new linked same seats c.self.inside.vacant c.self.invariant.2)

pub returns-clause-entries : goal.returns-clause-entries
returns-clause-entries c =
    let cells = c.self.inside.cells.items in
    let k = c.args.node in
    let linked : IsLinkedTree cells = c.self.invariant.0 in
    let fit : is_fit_with c.args.content k (listing cells) ≡ true = rw c.self.view_is c.requires.fit in
    let new : List Cell = c.revise.new.cells in
    let same : SameLinks cells new = rw c.as_mut_slice.ensures.value at c.revise.ensures.links in
    let seats : (j : ℕ) → seat_at new j ≡ cond (j == k) (option_map (revised_entry c.args.content c.args.time) (seat_at cells j)) (seat_at cells j) = rw (c.as_mut_slice.ensures.value, c.number.ensures) at c.revise.ensures.seats in
    let whole = whole_slice c.self.inside.cells.len cells new (omega arith) same.long in
    rw (whole, ← c.self.view_is) (revised_entries cells k c.args.content c.args.time new linked c.requires.inside fit same seats)

pub returns-clause-kids : goal.returns-clause-kids
returns-clause-kids c =
    let cells = c.self.inside.cells.items in
    let k = c.args.node in
    let linked : IsLinkedTree cells = c.self.invariant.0 in
    let fit : is_fit_with c.args.content k (listing cells) ≡ true = rw c.self.view_is c.requires.fit in
    let new : List Cell = c.revise.new.cells in
    let same : SameLinks cells new = rw c.as_mut_slice.ensures.value at c.revise.ensures.links in
    let seats : (j : ℕ) → seat_at new j ≡ cond (j == k) (option_map (revised_entry c.args.content c.args.time) (seat_at cells j)) (seat_at cells j) = rw (c.as_mut_slice.ensures.value, c.number.ensures) at c.revise.ensures.seats in
    let whole = whole_slice c.self.inside.cells.len cells new (omega arith) same.long in
    rw (whole, ← c.self.view_is) (revised_kids cells k c.args.content c.args.time new linked c.requires.inside fit same seats)
