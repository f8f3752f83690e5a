use Rattle.std.proofs.Common.{arith}
use Rattle.ss_route.proofs.Appending.{joined_none, joined_first}
use Rattle.ss_route.proofs.texts.put_joined.Goals as goal

pub returns-in-empty : goal.returns-in-empty
returns-in-empty g c = joined_none g.E.Element.text _ c.args.elements.now (omega (arith, c.in-empty.len_below))

pub returns-in_ok-write-in-len1-up : goal.returns-in_ok-write-in-len1-up
returns-in_ok-write-in-len1-up g c =
    joined_first _ g.E.Element.text _ _ _ c.args.elements.now _ _ (omega (arith, c.in-len1-up.len_at_least)) c.first-item.is
    c.in_ok-write-in-len1-up.ensures c.put_tail.ensures
