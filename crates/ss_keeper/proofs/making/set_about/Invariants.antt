use Rattle.std.proofs.Common.{◌≡◌, take}
use Rattle.std.specs.Prelude.{fold}
use Rattle.ss_keeper.proofs.making.set_about.Given as goal

abbrev pub invariant-loop-commit : goal.invariant-loop-commit
invariant-loop-commit l =
    l.kept ≡ record l.initial.kept {
      store = fold (λ _ commit. commit.store) l.initial.kept.store (take l.commit-index l.commits);
      last_delete = fold (λ _ commit. commit.last_delete) l.initial.kept.last_delete (take l.commit-index l.commits);
      counter = fold (λ _ commit. commit.counter) l.initial.kept.counter (take l.commit-index l.commits);
    }
