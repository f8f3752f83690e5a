-- What each request that isn't refused does to the account.
use Rattle.std.specs.Prelude.{ℕ, ◌+◌, Bool, true, false, not, is_some, List, [], ◌∷◌, ◌++◌, map, filter, length}
use Rattle.std.specs.Prelude.{bytes_eq, if◌then◌else◌}
use Rattle.ss_bso.specs.declared.parts.Part.{Part}
use Rattle.ss_bso.specs.declared.account.Plain.{Plain}
use Rattle.ss_bso.specs.declared.account.Staged.{Staged}
use Rattle.ss_bso.specs.Account.{time_of}
use Rattle.ss_bso.specs.Batches.{grown, batches_without, batches_elsewhere}
use Rattle.ss_bso.specs.Limits.{is_too_much}
use Rattle.ss_text.specs.Time.{write_stamp}
use Rattle.ss_bso.specs.Write.{write, account_after_write, rows_without, times_without}
use Rattle.ss_query.specs.declared.requests.Request.{Request}
use Rattle.ss_query.specs.declared.requests.Request.TheVariants.{Info, DeleteAll, List as ListOf, Post}
use Rattle.ss_query.specs.declared.requests.Request.TheVariants.{DeleteCollection, DeleteIds, Get, Put, Delete}
use Rattle.ss_query.specs.declared.requests.Mode.{Mode}
use Rattle.ss_query.specs.declared.requests.Mode.TheVariants.{Plain as PlainPost, Begin, Append, Commit}
use Rattle.ss_query.specs.Refused.{staged_parts}

-- whether a list has no element
abbrev pub is_empty : {X : Type 0} → List X → Bool
is_empty [] = true
is_empty (x ∷ xs) = false

-- the stamp that a write to an account gets
abbrev pub stamp_in : Plain → ℕ
stamp_in account = write_stamp account.moment account.store

-- the parts that a POST writes at once: with a commit, those of its batch and then its own
abbrev pub parts_to_put : Plain → List ℕ → List Part → Mode → List Part
parts_to_put account collection parts PlainPost = parts
parts_to_put account collection parts Begin = []
parts_to_put account collection parts (Append number) = []
parts_to_put account collection parts (Commit number) = staged_parts account collection number ++ parts

-- whether a request is a write
abbrev pub is_write : Plain → Request → Bool
is_write account (Info what cond) = false
is_write account (DeleteAll cond) = true
is_write account (ListOf collection query cond) = false
is_write account (Post collection records mode cond) = not (is_empty (parts_to_put account collection records.parts mode))
is_write account (DeleteCollection collection cond) = true
is_write account (DeleteIds collection ids cond) = is_some (time_of collection account.collections)
is_write account (Get collection id cond) = false
is_write account (Put collection id fields cond) = true
is_write account (Delete collection id cond) = true

-- the batches after a POST: one more, one with more parts, or one fewer
abbrev pub batches_after : Plain → List ℕ → List Part → Mode → List Staged
batches_after account collection parts PlainPost = account.batches
batches_after account collection parts Begin =
    account.batches ++ record { number = account.counter + 1; collection = collection; begun = account.moment; parts = parts } ∷ []
batches_after account collection parts (Append number) = map (grown number parts) account.batches
batches_after account collection parts (Commit number) = batches_without number account.batches

-- the counter after a POST
abbrev pub counter_after : Plain → Mode → ℕ
counter_after account Begin = account.counter + 1
counter_after account _ = account.counter

-- write of a list, where the list isn't empty: a write of none would give the collection a time
abbrev pub write_some : Plain → List ℕ → List Part → Plain
write_some account collection parts =
    if is_empty parts then account else write account collection parts (stamp_in account)

-- the account after a request that isn't refused
abbrev pub effect : Plain → Request → Plain
effect account (Info what cond) = account
effect account (DeleteAll cond) =
    let stamp = stamp_in account in
    record account { rows = []; collections = []; batches = []; store = stamp; last_delete = stamp; moment = stamp }
effect account (ListOf collection query cond) = account
effect account (Post collection records mode cond) =
    record (write_some account collection (parts_to_put account collection records.parts mode)) {
      batches = batches_after account collection records.parts mode;
      counter = counter_after account mode;
    }
effect account (DeleteCollection collection cond) =
    let stamp = stamp_in account in
    record account {
      rows = filter (λ row. not (bytes_eq row.collection collection)) account.rows;
      collections = times_without collection account.collections;
      batches = batches_elsewhere collection account.batches;
      store = stamp;
      last_delete = stamp;
      moment = stamp;
    }
effect account (DeleteIds collection ids cond) =
    if is_some (time_of collection account.collections)
    then account_after_write account collection (stamp_in account) (rows_without collection ids account.rows)
    else account
effect account (Get collection id cond) = account
effect account (Put collection id fields cond) =
    write account collection (record { id = id; fields = fields } ∷ []) (stamp_in account)
effect account (Delete collection id cond) =
    account_after_write account collection (stamp_in account) (rows_without collection (id ∷ []) account.rows)

-- whether rows and collections pass the limits of an account
abbrev pub is_over : Plain → Bool
is_over account = is_too_much account.rows (length account.collections)
