-- What is known of the accounts of a town, place by place, and how it grows.
use Rattle.std.specs.Prelude.{◌≡◌, ℕ, List, length, Option}
use Rattle.ss_desk.specs.declared.pass.RawPass.{RawPass}
use Rattle.ss_desk.specs.Journal.{Begins}
use Rattle.ss_desk.specs.Passes.{view_at}
use Rattle.ss_laws.specs.declared.journal.Entry.{Entry}
use Rattle.ss_booked.specs.declared.booked.Terms.{Terms}

-- of an account: the number of the pass that calls, what no call changes, and the journal, or as much of it as was seen
pub record KnownAccount : Type 0 where
  pub number : ℕ
  pub fixed : Option Terms
  pub journal : List Entry

-- of each account no less is known: its journal begins with what was known of it
pub record KnowsMore (known known' : ℕ → KnownAccount) : Type 0 where
  pub number : (i : ℕ) → (known' i).number ≡ (known i).number
  pub fixed : (i : ℕ) → (known' i).fixed ≡ (known i).fixed
  pub journal : (i : ℕ) → Begins (known i).journal (known' i).journal

module _ {T : Type 0} where
  -- what a caller's passes know of the account at a place
  abbrev pub known_by : List (RawPass T Terms Entry) → ℕ → KnownAccount
  known_by passes i = record { number = (view_at passes i).range.first; fixed = (view_at passes i).fixed; journal = (view_at passes i).seen }

  -- The same passes, which have seen more: their numbers, those that they took in and their books are as before
  pub record SeeMore (passes passes' : List (RawPass T Terms Entry)) : Type 0 where
    pub count : length passes' ≡ length passes
    pub fixed : (i : ℕ) → (view_at passes' i).fixed ≡ (view_at passes i).fixed
    pub range : (i : ℕ) → (view_at passes' i).range ≡ (view_at passes i).range
    pub taken : (i : ℕ) → (view_at passes' i).taken ≡ (view_at passes i).taken
    pub book : (i : ℕ) → (view_at passes' i).book ≡ (view_at passes i).book
    pub seen : (i : ℕ) → Begins (view_at passes i).seen (view_at passes' i).seen
