use Rattle.std.proofs.Common.{◌≡◌, ◌++◌, sym, ap, ◌∙◌}
use Rattle.std.proofs.lemmas.Iterator.{items_from_drains}
use Rattle.std.proofs.lemmas.Iterator.Adapters.{YieldsList-from_vec}
use Rattle.ss_http.specs.Responses.{head_text}
use Rattle.std.proofs.lemmas.List.{map-id}
use Rattle.ss_http.proofs.response.into_response.Goals as goal

-- the lines that were put in front are those of the head
pub returns : goal.returns
returns c =
    let p = c.in_ok-splice.ensures.items in
    let body = c.args.body.items in
    let lines = c.in_ok-lines.lines in
    let drained = items_from_drains p.1 (p.3.1.0, p.3.1.1, λ _. (p.3.0, p.3.1.2)) (YieldsList-from_vec lines.items p.2.0 (p.2.1 ∙ lines.ok.0)) in
    let front : p.1 ≡ lines.items = sym (map-id p.1) ∙ drained in
    p.4 ∙ ap (λ xs. xs ++ body) (front ∙ c.in_ok-lines.ensures ∙ ap (head_text c.args.head.now) (c.len-size.ensures ∙ c.args.body.ok.0))
