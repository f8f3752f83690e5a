use Rattle.ss_http.proofs.MessageLemmas.{splits_unique}
use Rattle.ss_http.proofs.laws.one_way.Goals as goal

pub returns : goal.returns
returns c = splits_unique
