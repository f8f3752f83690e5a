use Rattle.std.proofs.Common.{◌≡◌, ◌++◌, flat_map, take, codes}
use Rattle.ss_route.proofs.texts.put_tail.Given as goal

abbrev pub invariant-loop-element : goal.invariant-loop-element
invariant-loop-element g l = l.out.items ≡ l.initial.out.items ++ (flat_map (λ element. codes "," ++ g.E.Element.text element) (take l.element-index l.elements))
