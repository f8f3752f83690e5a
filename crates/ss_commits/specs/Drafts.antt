-- What is told of a commit, as the code has it, for private clauses.
use Rattle.ss_bso.specs.declared.changes.Changes.{Changes}
use Rattle.ss_commits.specs.declared.telling.Draft.{Draft}

abbrev pub changes_in : Draft → Changes
changes_in d = record {
  moment = d.moment;
  rows = d.rows.items;
  collections = d.collections.items;
  store = d.store;
  last_delete = d.last_delete;
  counter = d.counter;
  batches = d.batches.items;
}
