use Rattle.std.proofs.Common.{◌≡◌, ◌++◌, filter, ap, sym, ◌∙◌}
use Rattle.ss_keeper.specs.Memory.{after_commits}
use Rattle.ss_keeper.specs.Together.{is_spared, is_time_spared, leaves, leaves_time, spared_puts, spared_times}
use Rattle.ss_keeper.proofs.Folds.{batches-after, counter-after, filter-alike, last_delete-after, rows-after}
use Rattle.ss_keeper.proofs.Folds.{store-after, times-after}
use Rattle.ss_keeper.proofs.making.make.Goals as goal

pub returns-clause-made : goal.returns-clause-made
returns-clause-made c =
    let kept = c.args.kept.now in
    let commits = c.args.commits.now in
    let row_edits = c.in_ok-row_edits.row_edits in
    let time_edits = c.in_ok-time_edits.time_edits in
    let rows : c.new-5.result ≡ (after_commits kept commits).rows =
    c.new-5.ensures
    ∙ c.in_ok-made.ensures.rows
    ∙ (λ i. filter (leaves row_edits) ((c.into_vec-rows.ensures ∙ c.replace.ensures.value) i) ++ c.in_ok-row_edits.ensures.puts i)
    ∙ ap (λ left. left ++ spared_puts commits) (filter-alike (leaves row_edits) (is_spared commits) c.in_ok-row_edits.ensures.leaves kept.rows)
    ∙ sym (rows-after kept commits) in
    let times : c.new-6.result ≡ (after_commits kept commits).collections =
    c.new-6.ensures
    ∙ c.in_ok-made.ensures.times
    ∙ (λ i. filter (λ entry. leaves_time time_edits entry.0) ((c.into_vec-times.ensures ∙ c.replace-2.ensures.value) i) ++ c.in_ok-time_edits.ensures.times i)
    ∙ ap (λ left. left ++ spared_times commits)
    (filter-alike (λ entry. leaves_time time_edits entry.0) (λ entry. is_time_spared commits entry.0) (λ entry. c.in_ok-time_edits.ensures.leaves entry.0) kept.collections)
    ∙ sym (times-after kept commits) in
    let batches : c.in_ok-batches.batches ≡ (after_commits kept commits).batches = c.in_ok-batches.ensures ∙ sym (batches-after kept commits) in
    c.set_about.ensures
    ∙ (λ i. record {
      rows = rows i;
      collections = times i;
      store = sym (store-after kept commits) i;
      last_delete = sym (last_delete-after kept commits) i;
      counter = sym (counter-after kept commits) i;
      batches = batches i;
    })
