use Rattle.std.proofs.Common.{◌≡◌, ◌/◌, length, decimal, sym, ◌∙◌, ap, arith}
use Rattle.ss_http.specs.Responses.{close_text}
use Rattle.ss_http.proofs.MemoryLemmas.{sized, stamp_size}
use Rattle.ss_http.proofs.memory.memory_response_len.Goals as goal
use Rattle.ss_http.proofs.memory.memory_response_len.Goals.{then-last, else-last}

pub returns-clause-value : goal.returns-clause-value
returns-clause-value c =
    let digits : length c.format.result.now ≡ length (decimal (c.args.moment / 100)) = ap length c.format.ensures.text ∙ ap (λ n. length (decimal (n / 100))) c.get.ensures.value in
    let close : c.if-last.close ≡ length (close_text c.args.last) =
    elim c.if-last.branch [ then-last w ↦ w.close-is ∙ sym (ap (λ b. length (close_text b)) w.if-last.true) | else-last w ↦ w.close-is ∙ sym (ap (λ b. length (close_text b)) w.if-last.false) ] in
    let whole = sized c.args.moment c.args.last in
    let stamp = stamp_size c.args.moment in
    omega arith
