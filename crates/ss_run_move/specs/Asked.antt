-- The words that ask for a dump or a restore (this project's).
use Rattle.std.specs.Prelude.{◌≡◌, ◌⊎◌, ℕ, List, [], ◌∷◌, Some, false, codes}
use Rattle.ss_route.specs.Targets.{uid_of}
use Rattle.ss_words.specs.Lines.{is_dashed}
use Rattle.ss_run_move.specs.declared.words.Verb.{Verb}
use Rattle.ss_run_move.specs.declared.words.Verb.TheVariants.{Dump, Restore}

-- the name of the command
unfoldable pub name_of : Verb → List ℕ
name_of Dump = codes "dump"
name_of Restore = codes "restore"

-- A folder and a number, in front of which, between which or behind which `--` may stand, as with every command. In front of it a
-- folder doesn't begin with a dash
abbrev pub AreTwo : List (List ℕ) → List ℕ → List ℕ → Type 0
AreTwo words folder number =
    (words ≡ codes "--" ∷ folder ∷ number ∷ [])
    ⊎ ((is_dashed folder ≡ false)
    × ((words ≡ folder ∷ number ∷ []) ⊎ ((words ≡ folder ∷ codes "--" ∷ number ∷ []) ⊎ (words ≡ folder ∷ number ∷ codes "--" ∷ []))))

-- the words behind the command's name are the folder and an account's number
pub record AsksBehind (words : List (List ℕ)) (folder : List ℕ) (uid : ℕ) : Type 0 where
  pub number : List ℕ
  pub two : AreTwo words folder number
  pub account : uid_of number ≡ Some uid

-- the words ask for this of the account that this folder keeps under this number
pub record Asks (words : List (List ℕ)) (verb : Verb) (folder : List ℕ) (uid : ℕ) : Type 0 where
  pub others : List (List ℕ)
  pub words_are : words ≡ name_of verb ∷ others
  pub behind : AsksBehind others folder uid
