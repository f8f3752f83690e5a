use Rattle.ss_http.proofs.Asking.{request_read}
use Rattle.ss_http.proofs.laws.requests_are_read.Goals as goal

pub returns : goal.returns
returns c = request_read
