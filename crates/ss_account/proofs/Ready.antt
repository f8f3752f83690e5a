-- What a write of parts makes ready.
use Rattle.std.specs.Prelude.{◌≡◌, ℕ, ◌+◌, ◌≤◌, length, true, false, ◌&&◌, ◌||◌, cond, List, [], ◌∷◌, filter_map, map}
use Rattle.std.specs.Prelude.{bytes_eq, IsFalse, IsSome, IsSomeAnd, IfSome, Option, Some, None, refl}
use Rattle.std.specs.List.{cons_option}
use Rattle.std.proofs.Common.{sym, ap, subst, ◌∙◌, arith}
use Rattle.std.proofs.lemmas.List.{length-append}
use Rattle.ss_bso.specs.declared.rows.Row.{Row}
use Rattle.ss_bso.specs.declared.parts.Part.{Part}
use Rattle.ss_bso.specs.declared.account.Plain.{Plain}
use Rattle.ss_bso.specs.Account.{row_at}
use Rattle.ss_bso.specs.Put.{row_after_put}
use Rattle.ss_bso.specs.Limits.{most_rows_and_collections}
use Rattle.ss_bso.specs.Write.{ids_of, is_among, parts_of, put_all, rows_without, rows_written, account_after_write}
use Rattle.ss_batch.specs.Stage.{live_batch}
use Rattle.ss_query.specs.Effect.{is_over}
use Rattle.ss_writes.specs.Pending.{IsPutReady}
use Rattle.ss_bso.proofs.Full.{within-number}
use Rattle.ss_bso.proofs.Lists.{Each-imp, Each-filter_map, Pairs-filter_map, All-from_Each, AllPairs-from_Pairs}
use Rattle.ss_bso.proofs.Lists.{Each-any}
use Rattle.ss_bso.specs.Lists.{Each, Apart}
use Rattle.ss_laws.proofs.Times.{once_by-distinct}
use Rattle.ss_laws.proofs.Written.{made, made_named}
use Rattle.ss_laws.proofs.Reading.{among-once}
use Rattle.ss_text.proofs.Basics.{and_false, or_true, bytes_eq-same}

abbrev AtTime : ℕ → Row → Type 0
AtTime time row = row.modified ≡ time

put_all-some : (collection : List ℕ) (parts : List Part) (time : ℕ) (row : Row) → row.modified ≡ time → IsSomeAnd (put_all collection parts time (Some row)) (AtTime time)
put_all-some collection [] time row at = at
put_all-some collection (part ∷ parts) time row at = put_all-some collection parts time (row_after_put (Some row) collection part time) refl

-- an id that a part names has a row of the write's time after it
put_all-named : (collection id : List ℕ) (parts : List Part) (time : ℕ) (old : Option Row) → is_among (map (λ (part : Part). part.id) parts) id ≡ true → IsSomeAnd (put_all collection (parts_of id parts) time old) (AtTime time)
put_all-named collection id [] time old e = cc
put_all-named collection id (part ∷ parts) time old e =
    elim (bytes_eq part.id id) as (λ v. (v || is_among (map (λ (p : Part). p.id) parts) id) ≡ true → IsSomeAnd (put_all collection (cond v (part ∷ parts_of id parts) (parts_of id parts)) time old) (AtTime time)) [
      | true ↦ (λ _. put_all-some collection (parts_of id parts) time (row_after_put old collection part time) refl)
      | false ↦ (λ h. put_all-named collection id parts time old h)
    ] e

each-among : (ids : List (List ℕ)) → Each (λ (id : List ℕ). is_among ids id ≡ true) ids
each-among [] = tt
each-among (id ∷ ids) = (
  ap (λ v. v || is_among ids id) (bytes_eq-same id id refl),
  Each-imp (λ (other : List ℕ). is_among ids other ≡ true) (λ (other : List ℕ). is_among (id ∷ ids) other ≡ true) (λ other h. ap (λ v. bytes_eq id other || v) h ∙ or_true (bytes_eq id other)) ids (each-among ids),
)

each-named : (parts : List Part) → Each (λ (id : List ℕ). is_among (map (λ (part : Part). part.id) parts) id ≡ true) (ids_of parts)
each-named parts =
    Each-imp (λ (id : List ℕ). is_among (ids_of parts) id ≡ true) (λ (id : List ℕ). is_among (map (λ (part : Part). part.id) parts) id ≡ true)
    (λ id h. sym (among-once id (map (λ (part : Part). part.id) parts)) ∙ h) (ids_of parts) (each-among (ids_of parts))

some-is : (P : Row → Type 0) (o : Option Row) → IsSomeAnd o P → IsSome o
some-is P None h = absurd h
some-is P (Some row) h = refl

some-that : (P : Row → Type 0) (o : Option Row) (row : Row) → o ≡ Some row → IsSomeAnd o P → P row
some-that P o row e h = subst (λ (x : Option Row). IsSomeAnd x P) e h

ids_made : (make : List ℕ → Option Row) (ids : List (List ℕ)) → Each (λ (id : List ℕ). IsSome (make id)) ids → ((id : List ℕ) (row : Row) → make id ≡ Some row → row.id ≡ id) → map (λ (row : Row). row.id) (filter_map make ids) ≡ ids
ids_made make [] e h = refl
ids_made make (id ∷ ids) e h =
    elim (make id) as (λ v. make id ≡ v → IsSome v → map (λ (row : Row). row.id) (cons_option v (filter_map make ids)) ≡ id ∷ ids) [
      | None ↦ (λ _ no. cc)
      | Some row ↦ (λ is _. (λ i. h id row is i ∷ ids_made make ids e.1 h i))
    ] refl e.0

pub put_ready : (account : Plain) (collection : List ℕ) (parts : List Part) (time : ℕ) (batch : Option ℕ) → IfSome batch (λ number. IsSome (live_batch number account.batches))
    → length (filter_map (made collection parts time account.rows) (ids_of parts)) ≤ most_rows_and_collections
    → IsPutReady account time collection (ids_of parts) (filter_map (made collection parts time account.rows) (ids_of parts)) batch
put_ready account collection parts time batch live few =
    let make : List ℕ → Option Row = made collection parts time account.rows in
    let ids : List (List ℕ) = ids_of parts in
    let named = made_named collection parts time account.rows in
    let stamped : Each (λ (id : List ℕ). IsSomeAnd (make id) (AtTime time)) ids =
    Each-imp (λ (id : List ℕ). is_among (map (λ (part : Part). part.id) parts) id ≡ true) (λ (id : List ℕ). IsSomeAnd (make id) (AtTime time))
    (λ id h. put_all-named collection id parts time (row_at collection id account.rows) h) ids (each-named parts) in
    record {
      ids = ids_made make ids
          (Each-imp (λ (id : List ℕ). IsSomeAnd (make id) (AtTime time)) (λ (id : List ℕ). IsSome (make id)) (λ id h. some-is (AtTime time) (make id) h) ids stamped)
          (λ id row is. (named id row is).of);
      here = All-from_Each (λ (row : Row). row.collection ≡ collection) (filter_map make ids)
          (Each-filter_map (λ (id : List ℕ). Unit {0}) (λ (row : Row). row.collection ≡ collection) make (λ id row _ is. (named id row is).named) ids (Each-any ids));
      apart = AllPairs-from_Pairs Apart (filter_map make ids)
          (Pairs-filter_map (λ (id other : List ℕ). IsFalse (bytes_eq other id)) Apart make
          (λ id other row new differ is_row is_new.
          (λ i. bytes_eq new.collection row.collection && bytes_eq ((named other new is_new).of i) ((named id row is_row).of i))
          ∙ ap (λ v. bytes_eq new.collection row.collection && v) differ ∙ and_false (bytes_eq new.collection row.collection))
          ids (once_by-distinct (λ (id : List ℕ). id) (map (λ (part : Part). part.id) parts)));
      stamped = All-from_Each (AtTime time) (filter_map make ids)
          (Each-filter_map (λ (id : List ℕ). IsSomeAnd (make id) (AtTime time)) (AtTime time) make (λ id row h is. some-that (AtTime time) (make id) row is h) ids stamped);
      few = few;
      live = live;
    }

-- rows that an account has room for are not too many
pub few-written : (account : Plain) (collection : List ℕ) (parts : List Part) (time : ℕ) → is_over (account_after_write account collection time (rows_written collection parts time account.rows)) ≡ false
    → length (filter_map (made collection parts time account.rows) (ids_of parts)) ≤ most_rows_and_collections
few-written account collection parts time fits =
    let after : Plain = account_after_write account collection time (rows_written collection parts time account.rows) in
    let all : length after.rows + length after.collections ≤ most_rows_and_collections = within-number after.rows (length after.collections) fits in
    let rows : length after.rows ≡ length (rows_without collection (ids_of parts) account.rows) + length (filter_map (made collection parts time account.rows) (ids_of parts)) =
    length-append (rows_without collection (ids_of parts) account.rows) (filter_map (made collection parts time account.rows) (ids_of parts)) in
    omega (arith, all, rows)
