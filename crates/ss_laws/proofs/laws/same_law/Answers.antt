use Rattle.ss_bso.proofs.Reordering.{same-self, same-back, same-through}
use Rattle.ss_laws.proofs.laws.same_law.Goals as goal

pub returns : goal.returns
returns c = record { same = same-self; back = same-back; through = same-through }
