use Rattle.std.proofs.Common.{◌≡◌, ◌∙◌, ◌&&◌, ◌++◌, ◌∷◌, ◌-◌, ap, arith, drop, sym}
use Rattle.ss_keeper.specs.Together.{is_time_spared, last_times, leaves_time, spared_times, spares_time}
use Rattle.ss_keeper.proofs.Folds.{filter-alike}
use Rattle.ss_keeper.proofs.Gathering.{back-one}
use Rattle.ss_keeper.proofs.time_edits.TimeEdits.of.Goals as goal

pub commits-preserved : goal.commits-preserved
commits-preserved c =
    let commits = c.args.commits.now in
    let commit = c.index-commits-at.result in
    let later = drop c.commits.at commits in
    let rest : drop (c.commits.at - 1) commits ≡ commit ∷ later = back-one commits c.commits.at commit (omega arith) (omega arith) c.index-commits-at.is in
    record {
      within = omega arith;
      left = λ name.
          c.in_ok-add.ensures.leaves name
          ∙ ap (λ left. spares_time commit name && left) (c.commits.invariant.left name)
          ∙ ap (λ all. is_time_spared all name) (sym rest);
      times =
          c.in_ok-add.ensures.times
          ∙ (λ i. filter-alike (λ entry. leaves_time c.commits.edits entry.0) (λ entry. is_time_spared later entry.0) (λ entry. c.commits.invariant.left entry.0) (last_times commit.collections) i ++ c.commits.invariant.times i)
          ∙ ap spared_times (sym rest);
    }
