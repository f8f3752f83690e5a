-- What a text has told of an account, line by line, what it may tell next, and how a text that tells none is refused.
use Rattle.std.specs.Prelude.{◌≡◌, ◌≢◌, ◌==◌, ◌&&◌, ◌+◌, ◌-◌, ◌++◌, ◌∷◌, [], ℕ, List, Bool, false, true, not}
use Rattle.std.specs.Prelude.{if◌then◌else◌, length, Option, Some, None, option_map, option_and_then}
use Rattle.std.specs.List.{AllByRecursion, slice_get}
use Rattle.std.specs.Option.{option_map_or}
use Rattle.ss_bso.specs.declared.rows.Row.{Row}
use Rattle.ss_bso.specs.declared.parts.Part.{Part}
use Rattle.ss_bso.specs.declared.account.Staged.{Staged}
use Rattle.ss_bso.specs.declared.changes.Kept.{Kept}
use Rattle.ss_lines.specs.Lines.{IsLine, line_text}
use Rattle.ss_lines.specs.declared.lines.Line.{Line}
use Rattle.ss_lines.specs.declared.lines.Line.TheVariants.{Account, Times, Collection, Row as RowLine, Batch}
use Rattle.ss_lines.specs.declared.lines.Line.TheVariants.{Part as PartLine, Digest, End}
use Rattle.ss_dump.specs.Dumps.{comes_before, name_cmp, number_cmp, place_cmp, text_of}

-- ---- line by line

-- what lines have told: nothing; that an account follows; what is kept of it so far; that with a digest; and the end
pub data State : Type 0 where
  nothing : State
  begun : State
  account : Kept → State
  closed : Kept → List ℕ → State
  whole : Kept → List ℕ → State

-- an element may be the last of a list: it doesn't come before the last one
abbrev pub may_end : {X : Type 0} → (X → X → Bool) → List X → X → Bool
may_end before xs x = option_map_or (λ y. not (before x y)) (slice_get xs (length xs - 1)) true

abbrev pub is_empty : {X : Type 0} → List X → Bool
is_empty xs = length xs == 0

-- collections come first, by name
abbrev pub with_collection : Kept → List ℕ × ℕ → Option State
with_collection kept entry =
    if is_empty kept.rows && is_empty kept.batches && may_end (comes_before name_cmp) kept.collections entry
    then Some (account (record kept { collections = kept.collections ++ entry ∷ [] })) else None

-- rows come next, by collection and id
abbrev pub with_row : Kept → Row → Option State
with_row kept row =
    if is_empty kept.batches && may_end (comes_before place_cmp) kept.rows row then Some (account (record kept { rows = kept.rows ++ row ∷ [] })) else None

-- batches come last, by number
abbrev pub with_batch : Kept → Staged → Option State
with_batch kept batch =
    if may_end (comes_before number_cmp) kept.batches batch then Some (account (record kept { batches = kept.batches ++ batch ∷ [] })) else None

-- the last of the batches with one more part
abbrev pub with_part_last : List Staged → Part → Option (List Staged)
with_part_last [] part = None
with_part_last (b ∷ []) part = Some (record b { parts = b.parts ++ part ∷ [] } ∷ [])
with_part_last (b ∷ c ∷ bs) part = option_map (λ rest. b ∷ rest) (with_part_last (c ∷ bs) part)

-- a part is of the last batch
abbrev pub with_part : Kept → Part → Option State
with_part kept part = option_map (λ batches. account (record kept { batches = batches })) (with_part_last kept.batches part)

-- what a line adds to what is told of an account
abbrev pub more : Kept → Line → Option State
more kept Account = None
more kept (Times store last_delete counter) = None
more kept (Collection name modified) = with_collection kept (name, modified)
more kept (RowLine row) = with_row kept row
more kept (Batch number collection since) = with_batch kept (record { number = number; collection = collection; begun = since; parts = [] })
more kept (PartLine part) = with_part kept part
more kept (Digest digest) = Some (closed kept digest)
more kept End = None

-- an account with these times, and nothing else
abbrev pub kept_with_times : ℕ → ℕ → ℕ → Kept
kept_with_times store last_delete counter = record { rows = []; collections = []; store = store; last_delete = last_delete; counter = counter; batches = [] }

-- what the next line makes of what is told; None where that line may not come next
unfoldable pub next : State → Line → Option State
next nothing Account = Some begun
next nothing _ = None
next begun (Times store last_delete counter) = Some (account (kept_with_times store last_delete counter))
next begun _ = None
next (account kept) line = more kept line
next (closed kept digest) End = Some (whole kept digest)
next (closed kept digest) _ = None
next (whole kept digest) line = None

-- what lines tell behind what is told
abbrev pub told_from : State → List Line → Option State
told_from state [] = Some state
told_from state (l ∷ ls) = option_and_then (λ s. told_from s ls) (next state l)

-- what lines tell; None where one of them may not come
unfoldable pub state_of_lines : List Line → Option State
state_of_lines ls = told_from nothing ls

abbrev pub is_whole : State → Bool
is_whole nothing = false
is_whole begun = false
is_whole (account kept) = false
is_whole (closed kept digest) = false
is_whole (whole kept digest) = true

-- ---- texts

-- no line may come next that the text goes on with
abbrev pub NoneComes : State → List ℕ → Type 0
NoneComes state rest = (l : Line) (back : List ℕ) (s : State) → IsLine l → next state l ≡ Some s → line_text l ++ back ≡ rest → ⊥

-- The first line, from 1, that isn't the next one: the text begins with the lines in front of it, and goes on with none that
-- may come next. Behind the end none may come; where the lines end without it, the line behind the last is named
pub record IsBadLine (text : List ℕ) (n : ℕ) : Type 0 where
  pub lines : List Line
  pub state : State
  pub rest : List ℕ
  pub are : AllByRecursion IsLine lines
  pub tell : state_of_lines lines ≡ Some state
  pub text_is : text ≡ text_of lines ++ rest
  pub none : NoneComes state rest
  pub over : is_whole state ≡ true → rest ≢ []
  pub number : n ≡ length lines + 1

-- the text is all of the lines of an account, with a digest and the end
pub record IsToldWith (text : List ℕ) (kept : Kept) (digest : List ℕ) : Type 0 where
  pub lines : List Line
  pub are : AllByRecursion IsLine lines
  pub tell : state_of_lines lines ≡ Some (whole kept digest)
  pub text_is : text ≡ text_of lines
