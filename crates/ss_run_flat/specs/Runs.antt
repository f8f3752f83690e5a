-- What a run of `flat` does (this project's).
use Rattle.std.specs.Prelude.{◌≡◌, ◌⊎◌, ℕ, List, [], ◌∷◌, codes}
use Rattle.ss_outside.specs.Told.{Meanings}
use Rattle.ss_record.specs.declared.readings.Sheet.{Sheet}
use Rattle.ss_input.specs.declared.faults.InputFault.{InputFault}
use Rattle.ss_input.specs.Inputs.{IsUnread, IsWhole}
use Rattle.ss_flat.specs.declared.kinds.FlatKind.{FlatKind}
use Rattle.ss_run_flat.specs.declared.endings.Ending.{Ending}
use Rattle.ss_run_flat.specs.declared.endings.Ending.TheVariants.{OtherWords}
use Rattle.ss_run_flat.specs.Endings.{Wrote, ending_of}
use Rattle.ss_run_flat.specs.Files.{IsFile, IsNoFile, name_of, stored_rows}
use Rattle.ss_run_flat.specs.Tellings.{IsTelling}

-- the text is a file of rows, and what is written tells the state of the set of them
pub record IsFlatOf (kind : FlatKind) (text out : List ℕ) : Type 0 where
  pub rows : List Sheet
  pub file : IsFile text rows
  pub telling : IsTelling kind (stored_rows kind rows) out

-- The input is read whole, and what its rows come to is written; or it is no file of rows, or not read whole. Nothing is written but
-- what the rows of the whole input come to
pub data Flattens (kind : FlatKind) (ending : Ending) (input input' output output' : Meanings) : Type 0 where
  written : (text out : List ℕ) → IsWhole text input input' → IsFlatOf kind text out → Wrote out ending output output' → Flattens kind ending input input' output output'
  refused : (text : List ℕ) → IsWhole text input input' → IsNoFile text ending → output' ≡ output → Flattens kind ending input input' output output'
  unread : (fault : InputFault) → ending ≡ ending_of fault → IsUnread fault input input' → output' ≡ output → Flattens kind ending input input' output output'

-- the words behind the command's name are the name of the kind, in front of which or behind which `--` may stand, as with every command
abbrev pub AsksBehind : List (List ℕ) → FlatKind → Type 0
AsksBehind words kind = (words ≡ name_of kind ∷ []) ⊎ ((words ≡ codes "--" ∷ name_of kind ∷ []) ⊎ (words ≡ name_of kind ∷ codes "--" ∷ []))

-- the words ask for the rows of this kind
pub record Asks (words : List (List ℕ)) (kind : FlatKind) : Type 0 where
  pub others : List (List ℕ)
  pub words_are : words ≡ codes "flat" ∷ others
  pub behind : AsksBehind others kind

-- What words that ask for a kind do, and how the run ends. Where they ask for none that is the end, and nothing is read or written
pub data Runs (words : List (List ℕ)) (ending : Ending) (input input' output output' : Meanings) : Type 0 where
  flattens : (kind : FlatKind) → Asks words kind → Flattens kind ending input input' output output' → Runs words ending input input' output output'
  asks_nothing : ((kind : FlatKind) → Asks words kind → ⊥) → ending ≡ OtherWords → input' ≡ input → output' ≡ output → Runs words ending input input' output output'
