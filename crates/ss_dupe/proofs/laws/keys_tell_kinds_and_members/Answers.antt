use Rattle.ss_dupe.proofs.Exactly.{keys_tell, keys_same}
use Rattle.ss_dupe.proofs.laws.keys_tell_kinds_and_members.Goals as goal

pub returns : goal.returns
returns _ = λ k l x y ms ns e f. (keys_tell k l x y ms ns e f, λ p. keys_same k l x y ms ns e f p.0 p.1)
