use Rattle.std.proofs.Common.{◌≡◌, ◌∙◌, ◌&&◌, ◌++◌, [], ◌∷◌, ◌-◌, ap, arith, drop, length, reverse, sym}
use Rattle.std.proofs.lemmas.List.{drop_all}
use Rattle.ss_keeper.specs.Together.{is_spared, last_puts, leaves, spared_puts, spares}
use Rattle.ss_keeper.proofs.Folds.{filter-alike}
use Rattle.ss_keeper.proofs.Gathering.{back-one}
use Rattle.ss_keeper.proofs.row_edits.RowEdits.of.Goals as goal

pub commits-preserved : goal.commits-preserved
commits-preserved c =
    let commits = c.args.commits.now in
    let commit = c.index-commits-at.result in
    let later = drop c.commits.at commits in
    let rest : drop (c.commits.at - 1) commits ≡ commit ∷ later = back-one commits c.commits.at commit (omega arith) (omega arith) c.index-commits-at.is in
    record {
      within = omega arith;
      left = λ row.
          c.in_ok-add.ensures.leaves row
          ∙ ap (λ left. spares commit row && left) (c.commits.invariant.left row)
          ∙ ap (λ all. is_spared all row) (sym rest);
      puts =
          c.in_ok-add.ensures.puts
          ∙ (λ i. filter-alike (leaves c.commits.edits) (is_spared later) c.commits.invariant.left (last_puts commit.rows) i ++ c.commits.invariant.puts i)
          ∙ ap spared_puts (sym rest);
    }

pub commits-init : goal.commits-init
commits-init c =
    let commits = c.args.commits.now in
    let none : drop (length commits) commits ≡ [] = drop_all (length commits) commits (omega arith) in
    record {
      within = omega arith;
      left = λ row. c.none-edits.ensures.leaves row ∙ ap (λ all. is_spared all row) (sym none);
      puts = ap reverse c.none-edits.ensures.puts ∙ ap spared_puts (sym none);
    }
