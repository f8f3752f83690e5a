use Rattle.std.proofs.Common.{◌≡◌, ◌++◌, flat_map, take, codes}
use Rattle.ss_route.proofs.texts.put_lines.Given as goal

abbrev pub invariant-loop-element : goal.invariant-loop-element
invariant-loop-element g l = l.out.items ≡ l.initial.out.items ++ (flat_map (λ element. g.E.Element.text element ++ codes "\n") (take l.element-index l.elements))
