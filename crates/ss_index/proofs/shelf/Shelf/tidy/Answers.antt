use Rattle.std.proofs.Common.{rules, ap, ◌∙◌}
use Rattle.indexmap.proofs.CallerLemmas.{filter-RetainsPairs}
use Rattle.ss_bso.proofs.Lists.{Each-passes}
use Rattle.ss_index.specs.Shelved.{rows_in, has_rows}
use Rattle.ss_index.proofs.Tidying.{rows_in-tidied, tidied}
use Rattle.ss_index.proofs.shelf.Shelf.tidy.Goals as goal

pub invariant_of-self : goal.invariant_of-self
invariant_of-self c =
    let kept = filter-RetainsPairs _ has_rows _ (λ k v b w g call. search rules) _ _ c.retain.ensures.filtered in
    rw kept (tidied c.self.invariant)

pub returns-clause-rows : goal.returns-clause-rows
returns-clause-rows c =
    let kept = filter-RetainsPairs _ has_rows _ (λ k v b w g call. search rules) _ _ c.retain.ensures.filtered in
    rw (← c.self.view_is) (ap (λ l. rows_in l) kept ∙ rows_in-tidied c.self.inside.drawers.entries)

pub returns-clause-none_empty : goal.returns-clause-none_empty
returns-clause-none_empty c =
    let kept = filter-RetainsPairs _ has_rows _ (λ k v b w g call. search rules) _ _ c.retain.ensures.filtered in
    rw kept (Each-passes has_rows c.self.inside.drawers.entries)
