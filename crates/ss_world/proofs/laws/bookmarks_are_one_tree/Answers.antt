use Rattle.ss_world.proofs.Promised.{stands, turns, same_tree, once}
use Rattle.ss_world.specs.Happening.{last}
use Rattle.ss_serving.specs.Bookmarks.{sheets_of}
use Rattle.ss_world.proofs.laws.bookmarks_are_one_tree.Goals as goal

pub returns-clause-stands : goal.returns-clause-stands
returns-clause-stands c = λ trusts w steps o r ok. stands trusts w steps o r ok

pub returns-clause-only : goal.returns-clause-only
returns-clause-only c = λ trusts w steps o r ok t u vt vu st su. same_tree t u (sheets_of (last w steps).server.account.rows) (once trusts w o steps r ok) vt vu st su

pub returns-clause-turns : goal.returns-clause-turns
returns-clause-turns c = λ trusts w steps event v o r ok h. turns trusts w steps o r ok event v h
