-- How far a sweep from the front has come.
use Rattle.std.specs.Prelude.{◌≡◌, ℕ, zero, suc, ◌+◌, ◌<◌, true, List, [], ◌∷◌, ◌++◌, length, filter, Option}
use Rattle.std.specs.Map.{keys_of, values_of}
use Rattle.ss_bso.specs.declared.rows.Row.{Row}
use Rattle.ss_bso.specs.Account.{is_alive}
use Rattle.ss_list.specs.Chain.{first_of}
use Rattle.ss_index.specs.Held.{HeldRows}
use Rattle.ss_bso.specs.Lists.{Each}

-- a row is alive at each moment before this one
abbrev pub Outlives : ℕ → Row → Type 0
Outlives ends row = (moment : ℕ) → moment < ends → is_alive moment row ≡ true

-- the sweep stands at a place: what it has passed is alive, and of all rows it took out none was
pub record Swept (moment : ℕ) (all : List Row) (nodes : List (ℕ × Row)) (at : Option ℕ) (passed least : ℕ) : Type 0 where
  pub before : List (ℕ × Row)
  pub after : List (ℕ × Row)
  pub split : nodes ≡ before ++ after
  pub at_is : at ≡ first_of (keys_of after)
  pub alive : Each (λ (node : ℕ × Row). is_alive moment node.1 ≡ true) before
  pub outlive : Each (λ (node : ℕ × Row). Outlives least node.1) before
  pub same : filter (is_alive moment) (values_of nodes) ≡ filter (is_alive moment) all
  pub count : passed + length after ≡ length all

-- a fact on each row of the first so many drawers
abbrev pub HoldsTo : (Row → Type 0) → ℕ → List (List ℕ × HeldRows) → Type 0
HoldsTo P zero drawers = Unit {0}
HoldsTo P (suc k) [] = Unit {0}
HoldsTo P (suc k) (drawer ∷ drawers) = Each P drawer.1.rows × HoldsTo P k drawers

-- the rows of the first so many drawers are alive
abbrev pub AliveTo : ℕ → ℕ → List (List ℕ × HeldRows) → Type 0
AliveTo moment k drawers = HoldsTo (λ (row : Row). is_alive moment row ≡ true) k drawers
