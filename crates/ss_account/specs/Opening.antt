-- What is wrong with what a keeper holds, where an account can't be opened from it.
use Rattle.std.specs.Prelude.{◌≡◌, ℕ, ◌+◌, Bool, not, ◌||◌, nat_le, nat_lt, List, [], ◌∷◌, ◌++◌, ◌==◌, length, bytes_eq}
use Rattle.std.specs.Prelude.{Option, Some, None, option_map, if◌then◌else◌, false, ⊤}
use Rattle.std.specs.List.{list_any}
use Rattle.std.specs.Option.{option_map_or}
use Rattle.ss_bso.specs.declared.rows.Row.{Row}
use Rattle.ss_bso.specs.declared.changes.Kept.{Kept}
use Rattle.ss_bso.specs.Account.{is_at, time_of}
use Rattle.ss_bso.specs.declared.account.Staged.{Staged}
use Rattle.ss_bso.specs.Batches.{fit}
use Rattle.ss_bso.specs.Limits.{is_too_much, most_live_batches, most_rows_and_collections}
use Rattle.ss_account.specs.declared.faults.OpenFault.{OpenFault}
use Rattle.ss_account.specs.declared.faults.OpenFault.TheVariants.{Keeper, BadRow, BadCollection, BadBatch, Memory}

-- the number, counted from 1, of the first element that is bad behind those before it
abbrev pub first_bad : {X : Type 0} → (List X → X → Bool) → List X → Option ℕ
first_bad is_bad [] = None
first_bad is_bad (x ∷ xs) = if is_bad [] x then Some 1 else option_map (λ n. n + 1) (first_bad (λ before. is_bad (x ∷ before)) xs)

-- a collection is doubled, is later than the store's time, or comes after 200,000 others
abbrev pub is_bad_collection : ℕ → List (List ℕ × ℕ) → List ℕ × ℕ → Bool
is_bad_collection store before entry =
    list_any (λ other. bytes_eq other.0 entry.0) before || (nat_lt store entry.1 || nat_le most_rows_and_collections (length before))

-- a row's collection isn't there, or has an earlier time than the row
abbrev pub is_astray : List (List ℕ × ℕ) → Row → Bool
is_astray collections row = not (option_map_or (λ time. nat_le row.modified time) (time_of row.collection collections) false)

-- a row is doubled, has no collection, is later than its collection, or is the one with which a limit is passed
abbrev pub is_bad_row : List (List ℕ × ℕ) → List Row → Row → Bool
is_bad_row collections before row =
    list_any (is_at row.collection row.id) before || (is_astray collections row || is_too_much (before ++ row ∷ []) (length collections))

-- a batch is the fifth or later, has the number of one before it or one that wasn't given out, or is larger than a batch may be
abbrev pub is_bad_batch : ℕ → List Staged → Staged → Bool
is_bad_batch counter before batch =
    (nat_le most_live_batches (length before) || list_any (λ other. other.number == batch.number) before)
    || ((batch.number == 0 || nat_lt counter batch.number) || not (fit batch.parts))

-- the first bad collection, counted from 1
abbrev pub first_bad_collection : Kept → Option ℕ
first_bad_collection kept = first_bad (is_bad_collection kept.store) kept.collections

-- the first bad row, counted from 1
abbrev pub first_bad_row : Kept → Option ℕ
first_bad_row kept = first_bad (is_bad_row kept.collections) kept.rows

-- the first bad batch, counted from 1
abbrev pub first_bad_batch : Kept → Option ℕ
first_bad_batch kept = first_bad (is_bad_batch kept.counter) kept.batches

-- what a refusal to open says of what is held: collections are tested first, then rows, then batches
abbrev pub IsFaultOf : Kept → OpenFault → Type 0
IsFaultOf kept (BadCollection n) = first_bad_collection kept ≡ Some n
IsFaultOf kept (BadRow n) = (first_bad_collection kept ≡ None) × (first_bad_row kept ≡ Some n)
IsFaultOf kept (BadBatch n) = (first_bad_collection kept ≡ None) × (first_bad_row kept ≡ None) × (first_bad_batch kept ≡ Some n)
IsFaultOf kept Keeper = ⊤
IsFaultOf kept Memory = ⊤

-- no collection, no row and no batch is bad
pub record IsGood (kept : Kept) : Type 0 where
  pub collections : first_bad_collection kept ≡ None
  pub rows : first_bad_row kept ≡ None
  pub batches : first_bad_batch kept ≡ None

-- a refusal names the first bad collection of those, or says that memory is wanting
abbrev pub IsTimesFault : ℕ → List (List ℕ × ℕ) → OpenFault → Type 0
IsTimesFault store collections (BadCollection n) = first_bad (is_bad_collection store) collections ≡ Some n
IsTimesFault store collections (BadRow n) = ⊥
IsTimesFault store collections (BadBatch n) = ⊥
IsTimesFault store collections Keeper = ⊥
IsTimesFault store collections Memory = ⊤

-- a refusal names the first bad row of those, or says that memory is wanting
abbrev pub IsRowsFault : List (List ℕ × ℕ) → List Row → OpenFault → Type 0
IsRowsFault collections rows (BadRow n) = first_bad (is_bad_row collections) rows ≡ Some n
IsRowsFault collections rows (BadCollection n) = ⊥
IsRowsFault collections rows (BadBatch n) = ⊥
IsRowsFault collections rows Keeper = ⊥
IsRowsFault collections rows Memory = ⊤

-- a refusal names the first bad batch of those
abbrev pub IsBatchesFault : ℕ → List Staged → OpenFault → Type 0
IsBatchesFault counter batches (BadBatch n) = first_bad (is_bad_batch counter) batches ≡ Some n
IsBatchesFault counter batches _ = ⊥
