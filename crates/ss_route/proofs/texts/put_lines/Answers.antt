use Rattle.std.proofs.Common.{◌≡◌, ◌++◌, ℕ, List, flat_map, take, codes, sym, ap, ◌∙◌}
use Rattle.std.proofs.lemmas.List.{take_all}
use Rattle.std.proofs.lemmas.List.Folds.{flat_map-map}
use Rattle.ss_route.specs.Texts.{lines_text}
use Rattle.ss_route.proofs.Appending.{both, one_more}
use Rattle.ss_route.proofs.texts.put_lines.Goals as goal

pub loop-element-preserved : goal.loop-element-preserved
loop-element-preserved g c =
    let text : g.row.E.Denot → List ℕ = λ element. g.E.Element.text element ++ codes "\n" in
    let old = c.args.out.now.items in
    let elements = c.args.elements.now in
    let i = c.loop-element.element-index in
    let item = c.element-item.result in
    let step = both c.loop-element.out.items c.write.new.out.items c.put.new.out.items (g.E.Element.text item) (codes "\n") c.in_ok-write.ensures c.in_ok-put.ensures in
    let so-far : c.loop-element.out.items ≡ old ++ flat_map text (take i elements) = c.loop-element.invariant in
    step ∙ ap (λ out. out ++ text item) so-far ∙ ap (λ e. (old ++ flat_map text (take i elements)) ++ text e) c.element-item.is
    ∙ one_more text old elements i item c.loop-element-test.true

pub returns : goal.returns
unfolding lines_text
returns g c =
    let so-far : c.loop-element.out.items ≡ c.args.out.now.items ++ (flat_map (λ element. g.E.Element.text element ++ codes "\n") (take c.loop-element.element-index c.args.elements.now)) =
    c.loop-element.invariant in
    so-far
    ∙ ap (λ elements. c.args.out.now.items ++ (flat_map (λ element. g.E.Element.text element ++ codes "\n") elements)) (take_all c.loop-element.element-index c.args.elements.now c.loop-element-test.false)
    ∙ ap (λ t. c.args.out.now.items ++ t) (sym (flat_map-map (λ text. text ++ codes "\n") g.E.Element.text c.args.elements.now))
