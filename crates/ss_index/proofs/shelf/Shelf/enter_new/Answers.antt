use Rattle.std.proofs.Common.{bytes_eq, ◌∙◌}
use Rattle.indexmap.proofs.CallerLemmas.{insert_entry-new}
use Rattle.ss_index.proofs.Changing.{new_rows, new_shelf}
use Rattle.ss_index.proofs.shelf.Shelf.enter_new.Goals as goal

pub invariant_of-self : goal.invariant_of-self
invariant_of-self c = c.self.invariant

pub invariant_of-self-2 : goal.invariant_of-self-2
invariant_of-self-2 c =
    let none = rw (← c.self.view_is, ← c.in_ok-copy.ensures) at c.requires.new in
    let push = c.in_ok-insert.ensures.entries ∙ insert_entry-new bytes_eq c.self.inside.drawers c.in_ok-copy.field-0 c.reserve.new.self none in
    new_shelf c.self.invariant c.in_ok-copy.field-0 c.reserve.new.self c.insert.new.self.entries (c.reserve.ensures.rows ∙ c.new-drawer.ensures) none push

pub returns-clause-rows : goal.returns-clause-rows
returns-clause-rows c =
    let none = rw (← c.self.view_is, ← c.in_ok-copy.ensures) at c.requires.new in
    let push = c.in_ok-insert.ensures.entries ∙ insert_entry-new bytes_eq c.self.inside.drawers c.in_ok-copy.field-0 c.reserve.new.self none in
    rw (← c.self.view_is) (new_rows c.self.invariant c.in_ok-copy.field-0 c.reserve.new.self c.insert.new.self.entries (c.reserve.ensures.rows ∙ c.new-drawer.ensures) none push)
