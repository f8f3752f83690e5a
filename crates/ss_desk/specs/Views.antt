-- What a pass knows, which numbers it covers, and what each kind of step makes of that.
use Rattle.std.specs.Prelude.{◌^◌, ◌≡◌, ◌⊎◌, ℕ, ◌+◌, ◌-◌, ◌/◌, ◌<◌, ◌≤◌, List, [], ◌∷◌, ◌++◌, Some, None}
use mathlib.Core.Option.{some}
use lib.ListN.{get_elem?}
use Rattle.ss_desk.specs.declared.view.View.{View}
use Rattle.ss_desk.specs.declared.view.Range.{Range}
use Rattle.ss_desk.specs.declared.view.Page.{Page}
use Rattle.ss_desk.specs.declared.view.Stage.{Stage}
use Rattle.ss_desk.specs.declared.view.Stage.TheVariants.{Idle, Waits, Holds}
use Rattle.ss_desk.specs.Journal.{longer}

abbrev pub range_of : ℕ → ℕ → Range
range_of a b = record { first = a; end = b }

abbrev pub InRange : ℕ → Range → Type 0
InRange n r = (r.first ≤ n) × (n < r.end)

-- some range of the list has the number
abbrev pub Among : List Range → ℕ → Type 0
Among [] n = ⊥
Among (r ∷ rs) n = InRange n r ⊎ Among rs n

-- the pass has drawn this ticket, and its turn is not over
abbrev pub HasTicket : Stage → ℕ → Type 0
HasTicket Idle n = ⊥
HasTicket (Waits t) n = t ≡ n
HasTicket (Holds t) n = t ≡ n

-- how many tickets the pass has
abbrev pub tickets_at : Stage → ℕ
tickets_at Idle = 0
tickets_at (Waits t) = 1
tickets_at (Holds t) = 1

module _ {F E : Type 0} where
  abbrev pub tickets_held : View F E → ℕ
  tickets_held v = tickets_at v.stage

  -- how many numbers the pass holds
  abbrev pub numbers : View F E → ℕ
  numbers v = v.range.end - v.range.first

  -- a live pass has numbers, of which the first is its own; one that was given back has none
  abbrev pub Live : View F E → Type 0
  Live v = v.range.first < v.range.end

  -- a pass covers the numbers that it holds, and those that the passes given back to it covered
  abbrev pub Covers : View F E → ℕ → Type 0
  Covers v n = InRange n v.range ⊎ Among v.taken n

  -- then every other pass was given back
  abbrev pub CoversAll : View F E → Type 0
  CoversAll v = (n : ℕ) → n < 2 ^ 32 → Covers v n

  -- the second pass covers all that the first did
  abbrev pub CoversNoLess : View F E → View F E → Type 0
  CoversNoLess v w = (n : ℕ) → Covers v n → Covers w n

  abbrev pub HasPage : View F E → ℕ → Type 0
  HasPage v n = (k : ℕ) × (p : Page E) × (get_elem? v.book k ≡ some p) × (p.number ≡ n)

  -- the number is the pass's own, or that of a pass in its book
  abbrev pub Bears : View F E → ℕ → Type 0
  Bears v n = (Live v × (v.range.first ≡ n)) ⊎ HasPage v n

  -- the pass of an opening holds all numbers and has seen nothing
  abbrev pub opening_view : F → View F E
  opening_view f = record { fixed = Some f; stage = Idle; range = range_of 0 (2 ^ 32); taken = []; seen = []; acted = []; book = [] }

  -- a pass after a step of its own
  abbrev pub view_after_step : View F E → Stage → List E → View F E
  view_after_step v stage seen = record { fixed = v.fixed; stage = stage; range = v.range; taken = v.taken; seen = seen; acted = seen; book = v.book }

  abbrev pub middle : View F E → ℕ
  middle v = (v.range.first + v.range.end) / 2

  -- a pass that gave away the upper half of its numbers
  abbrev pub lower : View F E → View F E
  lower v = record { fixed = v.fixed; stage = v.stage; range = range_of v.range.first (middle v); taken = v.taken; seen = v.seen; acted = v.acted; book = v.book }

  -- the pass that got them: it has seen as much, and made no step
  abbrev pub upper : View F E → View F E
  upper v = record { fixed = v.fixed; stage = Idle; range = range_of (middle v) v.range.end; taken = []; seen = v.seen; acted = []; book = [] }

  abbrev pub page_of : View F E → Page E
  page_of w = record { number = w.range.first; seen = w.seen }

  -- a pass that took another in
  abbrev pub joined_view : View F E → View F E → View F E
  joined_view v w = record { fixed = v.fixed; stage = v.stage; range = v.range; taken = v.taken ++ w.range ∷ w.taken; seen = longer v.seen w.seen; acted = v.acted; book = v.book ++ page_of w ∷ w.book }

  -- what is left of a pass that was given back
  abbrev pub spent : View F E
  spent = record { fixed = None; stage = Idle; range = range_of 0 0; taken = []; seen = []; acted = []; book = [] }
