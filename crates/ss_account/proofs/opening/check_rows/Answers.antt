use Rattle.std.proofs.Common.{ℕ, ◌+◌, List, length, refl, bytes_eq, sym, ap, subst, take, ◌∙◌}
use Rattle.std.specs.HashMap.{get}
use Rattle.ss_bso.specs.declared.rows.Row.{Row}
use Rattle.ss_account.specs.Opening.{is_bad_row}
use Rattle.ss_account.specs.Places.{is_placed}
use Rattle.ss_writes.specs.Parts.{IsSize}
use Rattle.ss_account.proofs.Opened.{bad-at, none-at, places-more, row_bad}
use Rattle.ss_account.proofs.opening.check_rows.Goals as goal
use Rattle.ss_text.proofs.Basics.{take_push}

pub loop-row-preserved : goal.loop-row-preserved
loop-row-preserved c =
    let times = c.args.collections.now in
    let all = c.args.rows.now in
    let k = c.loop-row.row-index in
    let row = c.row-item.result in
    let size : IsSize (take (k + 1) all) c.with-size.result =
    subst (λ (rows : List Row). IsSize rows c.with-size.result) (sym (take_push all k row c.loop-row-test.true c.row-item.is)) (c.with-size.ensures (take k all) c.loop-row.invariant.size) in
    let bad = row_bad times all k row (is_placed c.loop-row.places.keys row.collection row.id) c.in_ok-is_first.is_first c.is_bad.result (get bytes_eq c.args.times.now row.collection) (length times) refl
    c.loop-row-test.true c.row-item.is c.in_ok-is_first.ensures.first (c.loop-row.invariant.places row.collection row.id) (c.requires row.collection) (c.is_bad.ensures (take (k + 1) all) size) in
    record {
      number = ap (λ (m : ℕ). m + 1) c.loop-row.invariant.number;
      size = size;
      places = λ collection id.
          places-more all k row collection id (is_placed c.loop-row.places.keys collection id) (is_placed c.add_place.new.places.keys collection id) c.loop-row-test.true c.row-item.is
          (c.loop-row.invariant.places collection id) (c.in_ok-is_first.ensures.places collection id);
      good = none-at (is_bad_row times) all k row c.loop-row-test.true c.row-item.is c.loop-row.invariant.good (sym bad ∙ c.if-is_bad.false);
    }

pub returns-then-is_bad-clause-bad : goal.returns-then-is_bad-clause-bad
returns-then-is_bad-clause-bad c =
    let times = c.args.collections.now in
    let all = c.args.rows.now in
    let k = c.loop-row.row-index in
    let row = c.row-item.result in
    let size : IsSize (take (k + 1) all) c.with-size.result =
    subst (λ (rows : List Row). IsSize rows c.with-size.result) (sym (take_push all k row c.loop-row-test.true c.row-item.is)) (c.with-size.ensures (take k all) c.loop-row.invariant.size) in
    let bad = row_bad times all k row (is_placed c.loop-row.places.keys row.collection row.id) c.in_ok-is_first.is_first c.is_bad.result (get bytes_eq c.args.times.now row.collection) (length times) refl
    c.loop-row-test.true c.row-item.is c.in_ok-is_first.ensures.first (c.loop-row.invariant.places row.collection row.id) (c.requires row.collection) (c.is_bad.ensures (take (k + 1) all) size) in
    bad-at (is_bad_row times) all k (c.loop-row.n + 1) row c.loop-row-test.true c.row-item.is c.loop-row.invariant.good (sym bad ∙ c.if-is_bad.true) (ap (λ (m : ℕ). m + 1) c.loop-row.invariant.number)
