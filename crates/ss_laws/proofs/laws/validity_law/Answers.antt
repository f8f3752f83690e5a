use Rattle.ss_laws.proofs.Valid.{valid-tick, valid-api}
use Rattle.ss_laws.proofs.laws.validity_law.Goals as goal

pub returns : goal.returns
returns c = record { tick = valid-tick; api = valid-api }
