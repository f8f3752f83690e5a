use Rattle.ss_http.proofs.LineLemmas.{body_lines}
use Rattle.ss_http.proofs.response.push_body_fields.Goals as goal

pub returns : goal.returns
returns c =
    body_lines c.args.head.now c.args.size c.type_text.result.now _ _ _ c.if-head-eq304.false c.type_text.ensures
    c.in_ok-push_line.ensures c.in_ok-push_number_line.ensures
