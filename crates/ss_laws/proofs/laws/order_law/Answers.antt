use Rattle.ss_laws.proofs.SameApi.{order_law}
use Rattle.ss_laws.proofs.SameValid.{valid-same}
use Rattle.ss_laws.proofs.laws.order_law.Goals as goal

pub returns : goal.returns
returns c = record { api = order_law; valid = valid-same }
