use Rattle.std.proofs.Common.{◌≡◌, map, take}
use Rattle.ss_serving.specs.Bookmarks.{sheet_of}
use Rattle.ss_world.proofs.telling.sheets_of.Given as goal

abbrev pub invariant-loop-row : goal.invariant-loop-row
invariant-loop-row l = l.sheets.items ≡ map sheet_of (take l.row-index l.rows)
