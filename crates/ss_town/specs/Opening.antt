-- What may be opened as a town, and what is opened.
use Rattle.std.specs.Prelude.{◌≡◌, ℕ, ◌<◌, ◌≤◌, List, [], length, Option, Some, None}
use mathlib.Core.Option.{some}
use lib.ListN.{get_elem?}
use Rattle.ss_desk.specs.declared.desk.Desk.{Desk}
use Rattle.ss_desk.specs.declared.pass.RawPass.{RawPass}
use Rattle.ss_desk.specs.Views.{opening_view}
use Rattle.std.specs.List.Sorted.{IsPermutation}
use Rattle.ss_desk.specs.Passes.{AreOf, view_at}
use Rattle.ss_town.specs.Limits.{most_accounts}
use Rattle.ss_town.specs.Places.{At}
use Rattle.ss_town.specs.declared.opening.TownFault.{TownFault}
use Rattle.ss_town.specs.declared.opening.TownFault.TheVariants.{Empty, TooMany, Twice, Zero, Memory}

module _ {T : Type 0} where
  -- the account at this place has this uid
  abbrev pub HasUid : List (ℕ × T) → ℕ → ℕ → Type 0
  HasUid accounts i uid = (x : T) × (get_elem? accounts i ≡ some (uid, x))

  -- at least 1 and at most 8
  abbrev pub AreFew : List (ℕ × T) → Type 0
  AreFew accounts = (0 < length accounts) × (length accounts ≤ most_accounts)

  -- no two have the same uid
  abbrev pub AreDistinct : List (ℕ × T) → Type 0
  AreDistinct accounts = (i j uid : ℕ) → HasUid accounts i uid → HasUid accounts j uid → i ≡ j

  -- none has the uid 0
  abbrev pub NoneZero : List (ℕ × T) → Type 0
  NoneZero accounts = (i : ℕ) → HasUid accounts i 0 → ⊥

  -- Each refusal exactly by its word, in this order. Want of memory has no cause here
  abbrev pub FaultSays : List (ℕ × T) → TownFault → Type 0
  FaultSays accounts Empty = length accounts ≡ 0
  FaultSays accounts (TooMany n) = (n ≡ length accounts) × (most_accounts < n)
  FaultSays accounts (Twice uid) = AreFew accounts × ((i : ℕ) × (j : ℕ) × (i < j) × HasUid accounts i uid × HasUid accounts j uid)
  FaultSays accounts Zero = AreFew accounts × AreDistinct accounts × ((i : ℕ) × HasUid accounts i 0)
  FaultSays accounts Memory = Unit {0}

  -- the same of a refusal that has another cause than memory
  abbrev pub RefusedSays : List (ℕ × T) → TownFault → Type 0
  RefusedSays accounts Memory = ⊥
  RefusedSays accounts fault = FaultSays accounts fault

  -- no two of the accounts below n have the same uid
  abbrev pub DistinctBelow : ℕ → List (ℕ × T) → Type 0
  DistinctBelow n accounts = (i j uid : ℕ) → i < j → j < n → HasUid accounts i uid → HasUid accounts j uid → ⊥

  -- there is no cause to refuse these
  pub record MayOpen (accounts : List (ℕ × T)) : Type 0 where
    pub few : AreFew accounts
    pub distinct : AreDistinct accounts
    pub none_zero : NoneZero accounts

module _ {T F E A R : Type 0} (fixed : T → F) (accounts : List (ℕ × T)) where
  -- at each place the uid, the desk and the pass of the account there
  pub record IsOpenedTown (uids : List ℕ) (desks : List (Desk T F E A R)) (passes : List (RawPass T F E)) : Type 0 where
    pub of : AreOf desks passes
    pub count : length desks ≡ length accounts
    pub uids_count : length uids ≡ length accounts
    pub uid : (i u : ℕ) (x : T) → get_elem? accounts i ≡ some (u, x) → At uids i u
    pub start : (i u : ℕ) (x : T) → get_elem? accounts i ≡ some (u, x) → view_at passes i ≡ opening_view (fixed x)

module _ {T E : Type 0} (entries : T → List E) where
  -- no account has entries
  abbrev pub AreBare : List (ℕ × T) → Type 0
  AreBare accounts = (i u : ℕ) (x : T) → get_elem? accounts i ≡ some (u, x) → entries x ≡ []

module _ {T F E : Type 0} (fixed : T → F) (entries : T → List E) where
  -- the same accounts come back, each with its fixed part and without entries
  pub record AreReturnedAccounts (accounts back : List (ℕ × T)) : Type 0 where
    pub count : length back ≡ length accounts
    pub each : (i u : ℕ) (x : T) → get_elem? accounts i ≡ some (u, x) → (y : T) × (get_elem? back i ≡ some (u, y)) × (fixed y ≡ fixed x) × (entries y ≡ [])

module _ {T F E A R : Type 0} (fixed : T → F) where
  -- the accounts, in the order of their uids, are those of this town
  pub record IsTown (accounts : List (ℕ × T)) (uids : List ℕ) (desks : List (Desk T F E A R)) (passes : List (RawPass T F E)) : Type 0 where
    pub order : List (ℕ × T)
    pub moved : IsPermutation accounts order
    pub opened : IsOpenedTown fixed order uids desks passes

module _ {T F E : Type 0} (fixed : T → F) (entries : T → List E) where
  -- all accounts are among those that come back, in some order
  pub record ComeBack (accounts back : List (ℕ × T)) : Type 0 where
    pub order : List (ℕ × T)
    pub moved : IsPermutation accounts order
    pub returned : AreReturnedAccounts fixed entries order back

  -- After want of memory the accounts come back, each with its fixed part and without entries. After any other refusal they come back as they were
  abbrev pub BackAfter : List (ℕ × T) → List (ℕ × T) → TownFault → Type 0
  BackAfter accounts back Memory = ComeBack accounts back
  BackAfter accounts back _ = back ≡ accounts
