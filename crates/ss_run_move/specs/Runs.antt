-- The commands `dump` and `restore` (this project's).
use Rattle.std.specs.Prelude.{◌≡◌, ℕ, List}
use Rattle.ss_outside.specs.Told.{Meanings}
use Rattle.ss_run_move.specs.declared.endings.Ending.{Ending}
use Rattle.ss_run_move.specs.declared.endings.Ending.TheVariants.{OtherWords}
use Rattle.ss_run_move.specs.declared.words.Verb.{Verb}
use Rattle.ss_run_move.specs.declared.words.Verb.TheVariants.{Dump, Restore}
use Rattle.ss_run_move.specs.Asked.{Asks}
use Rattle.ss_run_move.specs.Moves.{Dumps, Restores, MoveSite}

-- what is done with the account under this folder and uid, which ends so: a dump reads nothing, and a restore writes nothing
abbrev pub Does : Verb → List ℕ → ℕ → Ending → MoveSite → MoveSite → Meanings → Meanings → Meanings → Meanings → Type 0
Does Dump folder uid ending site site' input input' output output' = Dumps folder uid ending site site' output output' × (input' ≡ input)
Does Restore folder uid ending site site' input input' output output' = Restores folder uid ending site site' input input' × (output' ≡ output)

-- What words do, and how the run ends. Where they ask for neither that is the end, and the site isn't asked, and nothing is read or written
pub data Runs (words : List (List ℕ)) (ending : Ending) (site site' : MoveSite) (input input' output output' : Meanings) : Type 0 where
  does : (verb : Verb) (folder : List ℕ) (uid : ℕ) → Asks words verb folder uid → Does verb folder uid ending site site' input input' output output'
      → Runs words ending site site' input input' output output'
  asks_nothing : ((verb : Verb) (folder : List ℕ) (uid : ℕ) → Asks words verb folder uid → ⊥) → ending ≡ OtherWords → site' ≡ site → input' ≡ input → output' ≡ output
      → Runs words ending site site' input input' output output'
