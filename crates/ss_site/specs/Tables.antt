-- What is kept in memory under folders and uids.
use Rattle.std.specs.Prelude.{◌≡◌, ◌<◌, ℕ, Bool, true, false, length, get_or, Option, Some, None, ◌&&◌, ◌||◌, ◌==◌}
use Rattle.std.specs.Prelude.{List, [], ◌∷◌, bytes_eq, if◌then◌else◌, String, string_bytes}
use Rattle.std.specs.Global.{Global}
use Rattle.ss_bso.specs.declared.changes.Kept.{Kept}
use Rattle.ss_bso.specs.Changes.{fresh_kept}
use Rattle.ss_site.specs.Sites.{Entries}

-- an entry
pub record TableEntry : Type 0 where
  pub folder : List ℕ
  pub uid : ℕ
  pub kept : Kept

-- the entry that is given as a folder's name, a uid and what is kept
abbrev pub held_of : String Global × ℕ × Kept → TableEntry
held_of given = record { folder = string_bytes given.0; uid = given.1; kept = given.2 }

-- a folder and uid that are given as the folder's name and the uid
abbrev pub place_given : String Global × ℕ → List ℕ × ℕ
place_given given = (string_bytes given.0, given.1)

-- the entry is that of this folder and uid
abbrev pub is_at : List ℕ → ℕ → TableEntry → Bool
is_at folder uid held = bytes_eq held.folder folder && held.uid == uid

-- whether there is an entry of this folder and uid
abbrev pub knows : List TableEntry → List ℕ × ℕ → Bool
knows [] place = false
knows (held ∷ others) place = is_at place.0 place.1 held || knows others place

-- each folder and uid that had an entry has one still
abbrev pub KeepsPlaces : List TableEntry → List TableEntry → Type 0
KeepsPlaces old new = (place : List ℕ × ℕ) → knows old place ≡ true → knows new place ≡ true

-- what is kept under each folder and uid: the first entry counts, and where there is none a fresh one
abbrev pub entries_of : List TableEntry → Entries
entries_of [] folder uid = fresh_kept
entries_of (held ∷ others) folder uid = if is_at folder uid held then held.kept else entries_of others folder uid

-- no entry before this place is that of this folder and uid
abbrev pub NoneBefore : List ℕ → ℕ → List TableEntry → ℕ → Type 0
NoneBefore folder uid entries i = (k : ℕ) → k < i → (d : TableEntry) → is_at folder uid (get_or entries k d) ≡ false

-- where the first entry of this folder and uid stands
abbrev pub IsPlace : List ℕ → ℕ → List TableEntry → Option ℕ → Type 0
IsPlace folder uid entries None = NoneBefore folder uid entries (length entries)
IsPlace folder uid entries (Some i) = (i < length entries) × ((d : TableEntry) → is_at folder uid (get_or entries i d) ≡ true) × NoneBefore folder uid entries i
