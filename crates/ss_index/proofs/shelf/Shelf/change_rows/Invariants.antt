use Rattle.std.specs.Prelude.{fold}
use Rattle.ss_text.specs.Texts.{IsReordering}
use Rattle.ss_bso.specs.Changes.{row_changed}
use Rattle.ss_bso.specs.Lists.{Each}
use Rattle.ss_index.specs.Shelved.{rows_in}
use Rattle.ss_index.specs.Ready.{changes_of, CanChange, HasKey}
use Rattle.ss_index.proofs.shelf.Shelf.change_rows.Given as goal

abbrev pub invariant-loop-change : goal.invariant-loop-change
invariant-loop-change l = record {
  keys : Each HasKey l.change-iterator.rest.items;
  can : CanChange l.self (changes_of l.change-iterator.rest.items);
  rows : IsReordering (fold row_changed (rows_in l.self) (changes_of l.change-iterator.rest.items)) (fold row_changed (rows_in l.initial.self) (changes_of l.initial.change-iterator.rest.items));
}
