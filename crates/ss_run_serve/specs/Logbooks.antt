-- What a server's book of logs holds.
use Rattle.std.specs.Prelude.{◌≡◌, ℕ, Bool, true, false, Option, Some, None, is_some, option_and_then}
use Rattle.std.specs.Option.{option_map_or}
use Rattle.ss_links.specs.Stores.{Files}
use Rattle.ss_site.specs.Sites.{Counts, CountsStore, IsBack, GivesOneMore, LentParts}
use Rattle.ss_words.specs.declared.commands.LogFolder.{LogFolder}
use Rattle.ss_run_serve.specs.declared.logbook.Logbook.{Logbook}

module _ {S : Type 0} where
  -- the number of the next term
  abbrev pub number_in : Logbook S → ℕ
  number_in book = book.number

  -- whether logs are kept
  abbrev pub is_kept : Logbook S → Bool
  is_kept book = is_some book.store

  -- the files of its store, where they are told
  abbrev pub files_in : (S → Option Files) → Logbook S → Option Files
  files_in held book = option_and_then held book.store

  -- how often its store failed
  abbrev pub failures_in : (S → ℕ) → Logbook S → ℕ
  failures_in faults book = option_map_or faults book.store 0

-- a book that was opened for a command: where that names a folder, the logs are kept, from the number that it names on, and the files
-- are what the site told
abbrev pub IsBookOf : Option LogFolder → Bool → ℕ → Option Files → Option Files → Type 0
IsBookOf None kept number files logs = kept ≡ false
IsBookOf (Some folder) kept number files logs = (kept ≡ true) × (number ≡ folder.from) × (files ≡ logs)

-- what a site gave for a book: a store, where logs are kept
abbrev pub IsLentFor : Bool → LentParts → LentParts → Type 0
IsLentFor false old new = new ≡ old
IsLentFor true old new = GivesOneMore old new

-- what a site tells of logs while a book is open, where none are kept: what it told before
abbrev pub LeavesLogs : Bool → Option Files → Option Files → Type 0
LeavesLogs false old new = new ≡ old
LeavesLogs true old new = Unit {0}

-- what a site counts and tells once a book was closed, of these files, whose store failed so often
abbrev pub ClosesBook : Bool → Option Files → ℕ → Counts → Counts → Option Files → Option Files → LentParts → LentParts → Type 0
ClosesBook false files faults counts counts' logs logs' lent lent' = (counts' ≡ counts) × (logs' ≡ logs) × (lent' ≡ lent)
ClosesBook true files faults counts counts' logs logs' lent lent' = CountsStore faults counts counts' × (logs' ≡ files) × IsBack lent lent'
