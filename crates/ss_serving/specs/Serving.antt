-- What an account of which a sync client asks something may show and answer, and what every other step of it leaves.
use Rattle.std.specs.Prelude.{◌≡◌, ◌≢◌, ℕ, ◌+◌, ◌<◌, ◌≤◌, ◌⊎◌, List, ◌++◌, length, filter, nat_lt, take, drop, Option}
use Rattle.std.specs.Prelude.{Some, None, is_some}
use Rattle.ss_record.specs.declared.readings.Sheet.{Sheet}
use Rattle.ss_record.specs.Ids.{has}
use Rattle.ss_bso.specs.declared.parts.Part.{Part}
use Rattle.ss_plan.specs.Written.{AreRowsAfter, sheet}
use Rattle.ss_hearing.specs.declared.answer.Answer.{Answer}
use Rattle.ss_hearing.specs.declared.answer.Answer.TheVariants.{Configured, Paged, Listed, Held, Written, Changed}
use Rattle.ss_hearing.specs.declared.answer.Answer.TheVariants.{Refused}
use Rattle.ss_serving.specs.Bookmarks.{ShownAccount}
use Rattle.ss_serving.specs.Asking.{Ask, Configure, FirstPage, NextPage, ListIds, PostAll, PostFirst, PostNext}
use Rattle.ss_serving.specs.Asking.{PostLast, our_limits}

-- the rows are the same, or the collection's time has risen; no time and no number falls
pub record IsLater (a b : ShownAccount) : Type 0 where
  pub target : a.target ≤ b.target
  pub rows : (a.target < b.target) ⊎ (b.rows ≡ a.rows)
  pub counter : a.counter ≤ b.counter

-- no row has changed, and no batch has come or grown; time may have passed, a batch may have ended, and another collection may
-- have changed
pub record IsQuiet (a b : ShownAccount) : Type 0 where
  pub rows : b.rows ≡ a.rows
  pub target : a.target ≤ b.target
  pub counter : a.counter ≤ b.counter
  pub staged : (n : ℕ) (parts : List Part) → b.staged n ≡ Some parts → a.staged n ≡ Some parts

-- each row was there before, or its time is above the store's time before
pub record Ages (a b : ShownAccount) : Type 0 where
  pub store : a.store ≤ b.store
  pub rows : (x : List ℕ) (s : Sheet) → sheet x b.rows ≡ Some s → (sheet x a.rows ≡ Some s) ⊎ (a.store < s.modified)

-- the rows that are newer than a time, if there is one
abbrev pub newer : Option ℕ → List Sheet → List Sheet
newer None rows = rows
newer (Some time) rows = filter (λ row. nat_lt time row.modified) rows

-- the page of 1,000 rows at an offset; where more are left, the next one begins behind it
pub record IsPage (all : List Sheet) (offset : ℕ) (rows : List Sheet) (next : Option ℕ) : Type 0 where
  pub has : rows ≡ take 1000 (drop offset all)
  pub last : next ≡ None → length all ≤ offset + 1000
  pub more : (k : ℕ) → next ≡ Some k → (k ≡ offset + 1000) × (k < length all)

-- the ids are those of the rows
abbrev pub AreIdsOf : List Sheet → List (List ℕ) → Type 0
AreIdsOf rows ids = (x : List ℕ) → has x ids ≡ is_some (sheet x rows)

-- the parts are written with one stamp, which is the collection's time then; without parts nothing is, and the stamp is that time
pub record Writes (parts : List Part) (a b : ShownAccount) (stamp : ℕ) : Type 0 where
  pub rows : AreRowsAfter a.rows parts stamp b.rows
  pub same : b.target ≡ stamp
  pub later : IsLater a b
  pub staged : (n : ℕ) (ps : List Part) → b.staged n ≡ Some ps → a.staged n ≡ Some ps

-- a batch with a new number and these parts; the others are as they were, or gone
pub record Begins (parts : List Part) (a b : ShownAccount) (batch : ℕ) : Type 0 where
  pub rows : b.rows ≡ a.rows
  pub target : a.target ≤ b.target
  pub number : a.counter < batch
  pub counter : batch ≤ b.counter
  pub begun : (ps : List Part) → b.staged batch ≡ Some ps → ps ≡ parts
  pub others : (n : ℕ) (ps : List Part) → n ≤ a.counter → b.staged n ≡ Some ps → a.staged n ≡ Some ps

-- the parts go to the end of a batch that is there
pub record Appends (batch : ℕ) (parts : List Part) (a b : ShownAccount) : Type 0 where
  pub rows : b.rows ≡ a.rows
  pub target : a.target ≤ b.target
  pub counter : a.counter ≤ b.counter
  pub before : List Part
  pub was : a.staged batch ≡ Some before
  pub grown : (ps : List Part) → b.staged batch ≡ Some ps → ps ≡ before ++ parts
  pub others : (n : ℕ) (ps : List Part) → n ≢ batch → b.staged n ≡ Some ps → a.staged n ≡ Some ps

-- the parts of a batch that is there and then these are written
pub record Commits (batch : ℕ) (parts : List Part) (a b : ShownAccount) (stamp : ℕ) : Type 0 where
  pub before : List Part
  pub was : a.staged batch ≡ Some before
  pub wrote : Writes (before ++ parts) a b stamp

-- From a the account may give this answer to what is asked and go on to b. A condition holds wherever the answer is neither a
-- refusal nor that something has changed, and no other answer is given.
abbrev pub Serves : ShownAccount → Ask → ShownAccount → Answer → Type 0
Serves a ask b (Refused status) = IsQuiet a b
Serves a ask b (Changed time) = IsQuiet a b
Serves a Configure b (Configured limits) = IsQuiet a b × (limits ≡ our_limits)
Serves a (FirstPage since) b (Paged rows next time) = IsQuiet a b × (time ≡ b.target) × IsPage (newer since b.rows) 0 rows next
Serves a (NextPage since condition offset) b (Paged rows next time) = IsQuiet a b × (b.target ≤ condition) × IsPage (newer since b.rows) offset rows next
Serves a (ListIds condition) b (Listed ids) = IsQuiet a b × (b.target ≤ condition) × AreIdsOf b.rows ids
Serves a (PostFirst condition parts) b (Held batch) = (a.target ≤ condition) × Begins parts a b batch
Serves a (PostNext condition batch parts) b (Held n) = (a.target ≤ condition) × Appends batch parts a b
Serves a (PostAll condition parts) b (Written stamp) = (a.target ≤ condition) × Writes parts a b stamp
Serves a (PostLast condition batch parts) b (Written stamp) = (a.target ≤ condition) × Commits batch parts a b stamp
Serves a ask b answer = ⊥
