use Rattle.std.proofs.Common.{◌≡◌, ◌∙◌, ◌&&◌, ◌++◌, ◌∷◌, ◌-◌, ap, arith, drop, filter, not, reverse, sym}
use Rattle.ss_bso.specs.declared.rows.Row.{Row}
use Rattle.ss_keeper.specs.Together.{is_touched, last_puts, leaves, touches, with_put}
use Rattle.ss_keeper.proofs.Gathering.{back-one, both-not, put-one}
use Rattle.ss_keeper.proofs.row_edits.RowEdits.add_changes.Goals as goal

pub changes-preserved : goal.changes-preserved
changes-preserved c =
    let changes = c.args.changes.now in
    let change = c.index-changes-at.result in
    let later = drop c.changes.at changes in
    let first = c.args.self.now in
    let rest : drop (c.changes.at - 1) changes ≡ change ∷ later = back-one changes c.changes.at change (omega arith) (omega arith) c.index-changes-at.is in
    record {
      within = omega arith;
      left = λ row.
          c.in_ok-add_change.ensures.leaves row
          ∙ ap (λ left. not (touches row change) && left) (c.changes.invariant.left row)
          ∙ both-not (touches row change) (is_touched later row) (leaves first row)
          ∙ ap (λ all. not (is_touched all row) && leaves first row) (sym rest);
      puts =
          c.in_ok-add_change.ensures.puts
          ∙ ap (with_put (leaves c.changes.self) change) c.changes.invariant.puts
          ∙ put-one (leaves c.changes.self) (leaves first) change later (reverse first.puts.items) c.changes.invariant.left
          ∙ ap (λ all. filter (leaves first) (last_puts all) ++ reverse first.puts.items) (sym rest);
    }
