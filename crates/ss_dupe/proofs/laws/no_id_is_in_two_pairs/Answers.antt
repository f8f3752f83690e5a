use Rattle.std.proofs.Common.{refl}
use Rattle.ss_dupe.specs.Sides.{sides}
use Rattle.ss_dupe.proofs.Shapes.{shape}
use Rattle.ss_dupe.proofs.OneEach.{one_remote, one_local, apart}
use Rattle.ss_dupe.proofs.laws.no_id_is_in_two_pairs.Goals as goal

pub returns-clause-one_remote : goal.returns-clause-one_remote
returns-clause-one_remote _ = λ m l r x y vl vr a b c h k. one_remote (sides m l r x y) (shape l vl) (shape r vr) h refl k

pub returns-clause-one_local : goal.returns-clause-one_local
returns-clause-one_local _ = λ m l r x y vl vr a b c h k. one_local (sides m l r x y) (shape l vl) (shape r vr) h refl k

pub returns-clause-apart : goal.returns-clause-apart
returns-clause-apart _ = λ m l r x y vl vr a b c h k. apart (sides m l r x y) (shape l vl) (shape r vr) h k refl
