use Rattle.std.proofs.Common.{◌≡◌, sym, subst}
use Rattle.std.proofs.lemmas.Result.{IfOk-weaker}
use Rattle.ss_tree.specs.Entries.{tree}
use Rattle.ss_sync.specs.Equal.{IsMergeOf}
use Rattle.ss_sync.proofs.Equal.{left_alone}
use Rattle.ss_sync.proofs.joining.merged_alone.Goals as goal

pub returns-then-branch : goal.returns-then-branch
returns-then-branch c =
    IfOk-weaker c.copy.result (λ copied. copied ≡ c.args.local.now) (IsMergeOf (tree c.args.remote.now.tree) (tree c.args.local.now) (tree c.args.remote.now.tree) c.args.local_dead.now c.args.remote.now.dead)
    (λ copied same. subst (IsMergeOf (tree c.args.remote.now.tree) (tree c.args.local.now) (tree c.args.remote.now.tree) c.args.local_dead.now c.args.remote.now.dead) (sym same)
    (left_alone c.args.local.now (tree c.args.remote.now.tree) c.args.local_dead.now c.args.remote.now.dead c.in_ok-find_places.ensures c.requires (c.in_ok-is_untimed.ensures c.if-branch.true)))
    c.copy.ensures
