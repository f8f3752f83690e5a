use Rattle.std.proofs.Common.{◌≡◌, ◌||◌, drop}
use Rattle.std.specs.List.{list_all}
use Rattle.ss_record.specs.Ids.{has}
use Rattle.ss_sync.specs.Rows.{ids_of}
use Rattle.ss_sync.proofs.fetched.are_known.Given as goal

abbrev pub invariant-loop-id : goal.invariant-loop-id
invariant-loop-id l =
    list_all (λ x. has x (ids_of l.rows) || has x (ids_of l.mirror)) l.id-items ≡ list_all (λ x. has x (ids_of l.rows) || has x (ids_of l.mirror)) (drop l.id-index l.id-items)
