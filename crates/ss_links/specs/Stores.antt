-- Stores of named files, and those in memory.
use Rattle.std.specs.Prelude.{◌≡◌, ◌≢◌, ◌<◌, ℕ, true, false, List, length, get_or, Option, Some, None, Result, Ok, Err}
use Rattle.std.specs.Prelude.{find, bytes_eq, option_map, String, string_bytes}
use Rattle.std.specs.Global.{Vec, Global}
use Rattle.ss_outside.specs.Causes.{Rose}
use Rattle.ss_outside.specs.Plans.{Plan}
use Rattle.ss_links.specs.declared.store.StoreFault.{StoreFault}
use Rattle.ss_links.specs.declared.store.StoreFault.TheVariants.{Fault, Memory}

-- files: the bytes under each name that has some
abbrev pub Files : Type 0
Files = List ℕ → Option (List ℕ)

-- what a load brought is the entry of its name, where the files are told
abbrev pub IsEntry : List ℕ → Option (Vec ℕ) → Option Files → Type 0
IsEntry name file None = Unit {0}
IsEntry name file (Some files) = option_map (λ bytes. bytes.items) file ≡ files name

-- these bytes stand under this name, and under each other name what stood there before
abbrev pub IsWith : List ℕ → List ℕ → Files → Files → Type 0
IsWith name bytes old new = (new name ≡ Some bytes) × ((other : List ℕ) → other ≢ name → new other ≡ old other)

-- the same of files that are told or not
abbrev pub HasSaved : List ℕ → List ℕ → Option Files → Option Files → Type 0
HasSaved name bytes None new = new ≡ None
HasSaved name bytes (Some old) new = (files : Files) × (new ≡ Some files) × IsWith name bytes old files

-- the count rises in a call that answers a fault, and in no other
abbrev pub HasCause : {T : Type 0} → Result T StoreFault → ℕ → ℕ → Type 0
HasCause (Ok value) before now = now ≡ before
HasCause (Err Fault) before now = Rose before now
HasCause (Err Memory) before now = now ≡ before

-- a store in memory: its files, of which the first with a name counts, and which of its calls fail
pub record Shelf : Type 0 where
  pub entries : List (String Global × Vec ℕ)
  pub plan : Option Plan

-- the files of these entries
abbrev pub files_of : List (String Global × Vec ℕ) → Files
files_of entries name = option_map (λ entry. entry.1.items) (find (λ entry. bytes_eq (string_bytes entry.0) name) entries)

-- where the first entry with a name stands
abbrev pub IsPlace : List ℕ → List (String Global × Vec ℕ) → Option ℕ → Type 0
IsPlace name entries None = files_of entries name ≡ None
IsPlace name entries (Some i) =
    (i < length entries) × ((d : String Global × Vec ℕ) → (bytes_eq (string_bytes (get_or entries i d).0) name ≡ true) × ((k : ℕ) → k < i → bytes_eq (string_bytes (get_or entries k d).0) name ≡ false))
