use Rattle.std.proofs.Common.{subst, sym, ◌∙◌}
use Rattle.ss_tree.specs.Trees.{IsSame}
use Rattle.ss_tree.specs.Entries.{tree}
use Rattle.ss_build.specs.Rows.{rows_of}
use Rattle.ss_build.specs.Built.{built}
use Rattle.ss_sync.specs.Joined.{IsJoinedTree}
use Rattle.ss_sync.proofs.Equal.{joined_by}
use Rattle.ss_sync.proofs.joining.join.Goals as goal
use Rattle.ss_sync.proofs.joining.join.Goals.{then-are_same+in_ok-tree, else-are_same+in_ok-before+in_ok-tree-2}

-- where nothing came, the tree that was built of the rows is that of the mirror too
pub returns-clause-joined : goal.returns-clause-joined
returns-clause-joined c =
    let remote = c.in_ok-remote.remote in
    elim c.if-are_same.branch [
      | then-are_same+in_ok-tree w ↦
          let same = c.are_same.ensures.0 w.if-are_same.true in
          subst (IsJoinedTree c.args.mirror.now c.args.local.now c.args.local_dead.now c.args.rows.now) (sym w.tree-is)
          (joined_by c.args.mirror.now c.args.rows.now c.args.local.now remote.tree remote.tree w.in_ok-tree.tree c.args.local_dead.now remote.dead
          (subst (λ rows. IsSame (tree remote.tree) (built (rows_of rows))) (sym same ∙ c.counting-counted.ensures) c.in_ok-remote.ensures.tree) c.in_ok-remote.ensures.tree c.in_ok-remote.ensures.dead w.in_ok-tree.ensures)
      | else-are_same+in_ok-before+in_ok-tree-2 w ↦
          subst (IsJoinedTree c.args.mirror.now c.args.local.now c.args.local_dead.now c.args.rows.now) (sym w.tree-is)
          (joined_by c.args.mirror.now c.args.rows.now c.args.local.now w.in_ok-before.before.tree remote.tree w.in_ok-tree-2.tree c.args.local_dead.now remote.dead
          (subst (λ rows. IsSame (tree w.in_ok-before.before.tree) (built (rows_of rows))) c.counting-counted.ensures w.in_ok-before.ensures.tree) c.in_ok-remote.ensures.tree c.in_ok-remote.ensures.dead w.in_ok-tree-2.ensures)
    ]
