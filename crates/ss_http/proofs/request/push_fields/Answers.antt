use Rattle.ss_http.proofs.LineLemmas.{request_lines}
use Rattle.ss_http.proofs.request.push_fields.Goals as goal

pub returns : goal.returns
returns c = request_lines _ _ _ c.args.out.now.items _ _ _ c.in_ok-push_line.ensures c.in_ok-push_cond.ensures c.in_ok-push_content.ensures
