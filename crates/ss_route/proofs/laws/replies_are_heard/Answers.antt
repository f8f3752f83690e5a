use Rattle.ss_route.proofs.Heard.{hears_reply}
use Rattle.ss_route.proofs.laws.replies_are_heard.Goals as goal

pub returns : goal.returns
returns c = hears_reply
