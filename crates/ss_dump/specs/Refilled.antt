-- A keeper that is filled from a dump.
use Rattle.std.specs.Prelude.{◌==◌, ◌&&◌, Bool, map}
use Rattle.ss_bso.specs.declared.changes.Kept.{Kept}
use Rattle.ss_bso.specs.declared.changes.Changes.{Changes}
use Rattle.ss_bso.specs.declared.changes.RowChange.TheVariants.{Put}
use Rattle.ss_bso.specs.declared.changes.CollectionChange.TheVariants.{Set}
use Rattle.ss_bso.specs.declared.changes.BatchChange.TheVariants.{Begin}
use Rattle.ss_dump.specs.Telling.{is_empty}

-- what is kept has no row, no collection, no batch and no number but 0
unfoldable pub is_fresh : Kept → Bool
is_fresh kept = is_empty kept.rows && is_empty kept.collections && is_empty kept.batches && kept.store == 0 && kept.last_delete == 0 && kept.counter == 0

-- the changes that make of nothing what is kept: all of it comes at once
abbrev pub filling : Kept → Changes
filling kept = record {
  moment = 0;
  rows = map (λ row. Put row) kept.rows;
  collections = map (λ entry. Set entry.0 entry.1) kept.collections;
  store = kept.store;
  last_delete = kept.last_delete;
  counter = kept.counter;
  batches = map (λ batch. Begin batch) kept.batches;
}
