use Rattle.std.proofs.Common.{◌∙◌, ◌&&◌, ◌||◌, ap, not}
use Rattle.ss_bso.specs.declared.rows.Row.{Row}
use Rattle.ss_keeper.specs.Together.{is_alive_by, is_held, is_named, touches}
use Rattle.ss_keeper.proofs.Gathering.{left-one}
use Rattle.ss_keeper.proofs.row_edits.RowEdits.add_change.Goals as goal

pub returns-clause-leaves : goal.returns-clause-leaves
returns-clause-leaves c = λ (row : Row).
    let edits = c.push_put.new.self in
    ap (λ held. is_alive_by edits.moment row && (not (is_named edits.dropped row.collection) && not held)) (c.in_ok-touch.ensures row)
    ∙ left-one (is_alive_by edits.moment row) (is_named edits.dropped row.collection) (touches row c.args.change.now) (is_held edits.touched row)
    ∙ ap (λ left. not (touches row c.args.change.now) && left) (c.in_ok-push_put.ensures.same row)
