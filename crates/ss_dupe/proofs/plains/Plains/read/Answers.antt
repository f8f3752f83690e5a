use Rattle.std.proofs.Common.{◌≡◌, sym, subst}
use Rattle.ss_tree.specs.Entries.{tree}
use Rattle.ss_dupe.specs.Shapes.{HaveShapes}
use Rattle.ss_dupe.proofs.Shapes.{shape}
use Rattle.ss_dupe.proofs.plains.Plains.read.Goals as goal

pub returns-clause-same : goal.returns-clause-same
returns-clause-same c = λ i. record {
  mirror = λ x. c.in_ok-read.ensures.same x i;
  local = λ x. c.in_ok-read-2.ensures.same x i;
  remote = λ x. c.in_ok-read-3.ensures.same x i;
  local_dead = λ x. c.in_ok-set_of.ensures x i;
  remote_dead = λ x. c.in_ok-set_of-2.ensures x i;
}

pub returns-clause-shaped : goal.returns-clause-shaped
returns-clause-shaped c =
    subst HaveShapes (sym (returns-clause-same c))
    (record { local = shape (tree c.args.sides.now.local.now) c.in_ok-read-2.ensures.valid; remote = shape (tree c.args.sides.now.remote.now) c.in_ok-read-3.ensures.valid })
