-- Places of accounts in a town, and what is handed back.
use Rattle.std.specs.Prelude.{◌≡◌, ℕ, ◌<◌, ◌≤◌, List, length}
use mathlib.Core.Option.{some}
use lib.ListN.{get_elem?}
use Rattle.ss_desk.specs.declared.pass.RawPass.{RawPass}
use Rattle.ss_desk.specs.Views.{numbers, CoversNoLess}
use Rattle.ss_desk.specs.Calls.{IsValueAtClose}
use Rattle.ss_desk.specs.Passes.{view_at}

-- the uid stands at this place of the list
abbrev pub At : List ℕ → ℕ → ℕ → Type 0
At uids i uid = get_elem? uids i ≡ some uid

module _ {T F E : Type 0} where
  -- each of the passes holds at least n numbers
  abbrev pub HoldAtLeast : ℕ → List (RawPass T F E) → Type 0
  HoldAtLeast n ps = (i : ℕ) → i < length ps → n ≤ numbers (view_at ps i)

  -- each of the passes covers all that the one at its place did
  abbrev pub CoverNoLess : List (RawPass T F E) → List (RawPass T F E) → Type 0
  CoverNoLess ps qs = (length qs ≡ length ps) × ((i : ℕ) → i < length ps → CoversNoLess (view_at ps i) (view_at qs i))

  -- n is the least of how many numbers each pass holds
  pub record IsLeast (n : ℕ) (ps : List (RawPass T F E)) : Type 0 where
    pub place : ℕ
    pub inside : place < length ps
    pub there : n ≡ numbers (view_at ps place)
    pub least : HoldAtLeast n ps

module _ {B F E : Type 0} (ticket_of pass_of : E → ℕ) (fixed : B → F) (entries : B → List E) (legal : F → List E → Type 0) where
  -- at each place, when the town is closed, the account that stood there: its desk's value as the closing pass finds it
  abbrev pub HandsBack : {T : Type 0} → List ℕ → List (RawPass T F E) → List (ℕ × B) → Type 0
  HandsBack uids ps bs = (length bs ≡ length ps) × ((i uid : ℕ) (x : B) → get_elem? bs i ≡ some (uid, x) → At uids i uid × IsValueAtClose ticket_of pass_of fixed entries legal (view_at ps i) x)
