use Rattle.std.proofs.Common.{◌≡◌, ◌∙◌, ◌&&◌, ◌++◌, ◌∷◌, ◌-◌, ap, arith, drop, filter, not, reverse, sym}
use Rattle.ss_keeper.specs.Together.{is_set, last_times, leaves_time, sets, with_time}
use Rattle.ss_keeper.proofs.Gathering.{back-one, both-not, time-one}
use Rattle.ss_keeper.proofs.time_edits.TimeEdits.add_changes.Goals as goal

pub changes-preserved : goal.changes-preserved
changes-preserved c =
    let changes = c.args.changes.now in
    let change = c.index-changes-at.result in
    let later = drop c.changes.at changes in
    let first = c.args.self.now in
    let rest : drop (c.changes.at - 1) changes ≡ change ∷ later = back-one changes c.changes.at change (omega arith) (omega arith) c.index-changes-at.is in
    record {
      within = omega arith;
      left = λ name.
          c.in_ok-add_change.ensures.leaves name
          ∙ ap (λ left. not (sets name change) && left) (c.changes.invariant.left name)
          ∙ both-not (sets name change) (is_set later name) (leaves_time first name)
          ∙ ap (λ all. not (is_set all name) && leaves_time first name) (sym rest);
      times =
          c.in_ok-add_change.ensures.times
          ∙ ap (with_time (leaves_time c.changes.self) change) c.changes.invariant.times
          ∙ time-one (leaves_time c.changes.self) (leaves_time first) change later (reverse first.times.items) c.changes.invariant.left
          ∙ ap (λ all. filter (λ entry. leaves_time first entry.0) (last_times all) ++ reverse first.times.items) (sym rest);
    }
