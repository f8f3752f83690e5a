-- The script of a rehearsal: what two devices do, one after the other (this project's).
use Rattle.std.specs.Prelude.{ℕ, zero, suc, ◌+◌, ◌%◌, ◌==◌, List, [], ◌∷◌, ◌++◌, map, filter, codes}
use Rattle.ss_world.specs.declared.events.Edit.{Edit}
use Rattle.ss_world.specs.declared.events.Edit.TheVariants as edit
use Rattle.ss_world.specs.declared.events.Event.{Event}
use Rattle.ss_world.specs.declared.events.Event.TheVariants.{Change}
use Rattle.ss_rehearse.specs.Draws.{drawn_number}
use Rattle.ss_rehearse.specs.Bookmarks.{bookmark, bookmark_id, new_title, root_of}

-- the numbers of the bookmarks, from 1 on
abbrev pub numbers : ℕ → List ℕ
numbers zero = []
numbers (suc n) = numbers n ++ suc n ∷ []

-- ---- the changes

-- the bookmark of a number is put last under the root that was drawn for it
abbrev pub addition : ℕ → ℕ → Edit
addition seed k = edit.Add (root_of (drawn_number seed k)) (bookmark k (drawn_number seed k))

abbrev pub additions : ℕ → ℕ → List Edit
additions items seed = map (addition seed) (numbers items)

-- each third bookmark gets another title
abbrev pub renaming : ℕ → Edit
renaming k = edit.Rename (bookmark_id k) (new_title k)

abbrev pub renamings : ℕ → List Edit
renamings items = map renaming (filter (λ k. k % 3 == 0) (numbers items))

-- each second bookmark goes to the end of `menu`
abbrev pub move : ℕ → Edit
move k = edit.Move (bookmark_id k) (codes "menu")

abbrev pub moves : ℕ → List Edit
moves items = map move (filter (λ k. k % 2 == 0) (numbers items))

-- ---- the script

-- changes of a device, one after the other; or a sync of a device
pub data Act : Type 0 where
  changes : ℕ → List Edit → Act
  sync : ℕ → Act

-- device 0 gets all bookmarks, and both sync
abbrev pub filling : ℕ → ℕ → List Act
filling items seed = changes 0 (additions items seed) ∷ sync 0 ∷ sync 1 ∷ []

-- device 1 renames some, and device 0 moves some
abbrev pub parting : ℕ → List Act
parting items = changes 1 (renamings items) ∷ changes 0 (moves items) ∷ []

-- device 0, device 1 and again device 0 sync
abbrev pub meeting : List Act
meeting = sync 0 ∷ sync 1 ∷ sync 0 ∷ []

-- the whole, one part after the other
abbrev pub script : ℕ → ℕ → List Act
script items seed = filling items seed ++ (parting items ++ meeting)

-- ---- the events

-- the events of changes of a device, whose clock reads this at the first, and 100 more at each further one
abbrev pub change_events : ℕ → ℕ → List Edit → List Event
change_events now n [] = []
change_events now n (edit ∷ edits) = Change n now edit ∷ change_events (now + 100) n edits
