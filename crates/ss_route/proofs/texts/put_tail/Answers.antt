use Rattle.std.proofs.Common.{◌≡◌, ◌++◌, ℕ, List, flat_map, take, codes, ap, ◌∙◌}
use Rattle.ss_route.proofs.Appending.{both, one_more}
use Rattle.ss_route.proofs.texts.put_tail.Goals as goal

pub loop-element-preserved : goal.loop-element-preserved
loop-element-preserved g c =
    let text : g.row.E.Denot → List ℕ = λ element. codes "," ++ g.E.Element.text element in
    let old = c.args.out.now.items in
    let elements = c.args.elements.now in
    let i = c.loop-element.element-index in
    let item = c.element-item.result in
    let step = both c.loop-element.out.items c.put.new.out.items c.write.new.out.items (codes ",") (g.E.Element.text item) c.in_ok-put.ensures c.in_ok-write.ensures in
    let so-far : c.loop-element.out.items ≡ old ++ flat_map text (take i elements) = c.loop-element.invariant in
    step ∙ ap (λ out. out ++ text item) so-far ∙ ap (λ e. (old ++ flat_map text (take i elements)) ++ text e) c.element-item.is
    ∙ one_more text old elements i item c.loop-element-test.true
