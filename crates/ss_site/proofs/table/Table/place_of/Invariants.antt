use Rattle.ss_site.specs.Tables.{NoneBefore}
use Rattle.ss_site.proofs.table.Table.place_of.Given as goal

-- no entry so far stands at the place
abbrev pub invariant-loop-at : goal.invariant-loop-at
invariant-loop-at l = NoneBefore l.folder l.uid l.self l.at
