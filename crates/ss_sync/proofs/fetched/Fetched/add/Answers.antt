use Rattle.std.proofs.Common.{rules, sym, ap, ◌∙◌}
use Rattle.std.proofs.lemmas.List.{nil_from_length}
use Rattle.std.specs.Vec.Iter.{into_iter_items}
use Rattle.ss_sync.specs.Rows.{ids_of}
use Rattle.ss_sync.specs.Fetched.{are_apart}
use Rattle.ss_sync.proofs.Fetching.{added_none, added_more, added_apart, added_twice, of_true}
use Rattle.ss_sync.proofs.fetched.Fetched.add.Goals as goal
use Rattle.ss_text.proofs.Basics.{of_not}

pub loop-sheet-init : goal.loop-sheet-init
loop-sheet-init c = record {
  left = search rules;
  added = added_none _ _ _ _ (c.in_ok-reserve.ensures.items ∙ c.self.view_is) (ap (λ xs. are_apart (ids_of xs)) c.in_ok-reserve.ensures.items ∙ c.self.invariant.1) (search rules);
}

pub returns-then-not-branch-clause-apart : goal.returns-then-not-branch-clause-apart
returns-then-not-branch-clause-apart c =
    sym (added_twice _ _ _ _ _ c.in-Some.sheet c.in-Some.ensures.steps.0 (of_not _ _ c.in_ok-insert.ensures.fresh c.if-not-branch.true) c.loop-sheet.invariant.added)

pub loop-sheet-preserved : goal.loop-sheet-preserved
loop-sheet-preserved c = record {
  left = search rules;
  added = added_more _ _ _ _ _ _ c.in-Some.sheet c.in-Some.ensures.steps.0 (of_true _ _ _ _ c.in_ok-insert.ensures.added c.if-not-branch.false) c.in_ok-insert.ensures.apart c.loop-sheet.invariant.added;
}

pub returns-clause-apart : goal.returns-clause-apart
returns-clause-apart c = added_apart _ _ _ _ (nil_from_length (into_iter_items c.loop-sheet.sheet-iterator) (sym c.loop-sheet.invariant.left ∙ c.in-None.ensures.steps.0)) c.loop-sheet.invariant.added
