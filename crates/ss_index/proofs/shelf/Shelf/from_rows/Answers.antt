use Rattle.std.proofs.Common.{arith}
use Rattle.ss_text.specs.Texts.{chain}
use Rattle.ss_bso.specs.Lists.{Apart}
use Rattle.ss_bso.proofs.Lists.{Pairs-from_AllPairs}
use Rattle.ss_bso.proofs.Reordering.{length-reordered}
use Rattle.ss_index.proofs.Filling.{apart-reordered}
use Rattle.ss_index.proofs.shelf.Shelf.from_rows.Goals as goal

pub fill-requires-clause-places : goal.fill-requires-clause-places
fill-requires-clause-places c = apart-reordered c.in_ok-in_time.ensures.same (Pairs-from_AllPairs Apart c.args.rows.items c.requires.places)

pub fill-requires-clause-number : goal.fill-requires-clause-number
fill-requires-clause-number c = omega (arith, c.requires.number, length-reordered c.in_ok-in_time.ensures.same)

pub returns : goal.returns
returns c = chain c.in_ok-in_time.ensures.same c.in_ok-fill.ensures
