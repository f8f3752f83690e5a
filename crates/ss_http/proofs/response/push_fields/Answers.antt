use Rattle.ss_http.proofs.LineLemmas.{fields_written}
use Rattle.ss_http.proofs.response.push_fields.Goals as goal

pub returns : goal.returns
returns c =
    fields_written c.args.head.now c.args.size c.args.out.now.items _ _ _ _ _ _ _
    c.in_ok-push_stamp_line.ensures c.in_ok-push_stamp_line-2.ensures c.in_ok-push_number_line.ensures c.in_ok-push_number_line-2.ensures
    c.in_ok-push_allow.ensures c.in_ok-push_body_fields.ensures c.in_ok-push_connection.ensures
