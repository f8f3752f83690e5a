use Rattle.ss_account.proofs.Opened.{places-more}
use Rattle.ss_audit.specs.Validity.{is_placed}
use Rattle.ss_audit.proofs.Lists.{never}
use Rattle.ss_audit.proofs.Valid.{places_more, places_not}
use Rattle.ss_audit.proofs.validity.are_apart.Goals as goal

pub loop-row-preserved : goal.loop-row-preserved
loop-row-preserved c =
    let all = c.args.rows.now in
    let k = c.loop-row.row-index in
    let row = c.row-item.result in
    record {
      places = λ collection id.
          places-more all k row collection id (is_placed c.loop-row.places.keys collection id) (is_placed c.add_place.new.places.keys collection id) c.loop-row-test.true c.row-item.is
          (c.loop-row.invariant.places collection id) (c.in_ok-is_first.ensures.places collection id);
      apart =
          places_more all k row (is_placed c.loop-row.places.keys row.collection row.id) c.in_ok-is_first.is_first c.loop-row-test.true c.row-item.is c.in_ok-is_first.ensures.first
          (c.loop-row.invariant.places row.collection row.id) c.if-not-is_first.false c.loop-row.invariant.apart;
    }

pub returns-then-not-is_first : goal.returns-then-not-is_first
returns-then-not-is_first c =
    let row = c.row-item.result in
    never (places_not c.args.rows.now c.loop-row.row-index row (is_placed c.loop-row.places.keys row.collection row.id) c.in_ok-is_first.is_first c.loop-row-test.true c.row-item.is
    c.in_ok-is_first.ensures.first (c.loop-row.invariant.places row.collection row.id) c.if-not-is_first.true)
