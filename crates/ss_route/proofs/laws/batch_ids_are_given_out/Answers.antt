use Rattle.ss_route.proofs.Tokens.{batch_back, batch_canonical}
use Rattle.ss_route.proofs.laws.batch_ids_are_given_out.Goals as goal

pub returns : goal.returns
returns c = record { back = batch_back; alone = batch_canonical }
