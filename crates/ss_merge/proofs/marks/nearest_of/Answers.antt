use Rattle.std.proofs.Common.{◌≡◌, [], None, ap, bytes_eq}
use Rattle.std.specs.Map.{lookup}
use Rattle.std.specs.HashMap.{get}
use Rattle.ss_record.specs.Ids.{has}
use Rattle.ss_record.proofs.IdLists.{has-nil}
use Rattle.ss_merge.proofs.Marking.{met_more}
use Rattle.ss_merge.proofs.marks.nearest_of.Goals as goal
use Rattle.ss_dupe.proofs.Newness.{has-at}
use Rattle.ss_text.proofs.Basics.{no_way}

pub loop-id-init : goal.loop-id-init
loop-id-init c = record {
  right = λ x near e. (let none : get bytes_eq c.with_hasher-marks.result x ≡ None = ap (lookup (bytes_eq x)) c.with_hasher-marks.ensures.empty in cc);
  met = λ x h. no_way (has x []) h (has-nil x);
}

pub mark-requires-clause-one : goal.mark-requires-clause-one
mark-requires-clause-one c = has-at c.args.ids.now c.loop-id.id-index c.id-item.result c.loop-id-test.true c.id-item.is

pub loop-id-preserved : goal.loop-id-preserved
loop-id-preserved c = record {
  right = c.in_ok-mark.ensures.marks;
  met = met_more (get bytes_eq c.loop-id.marks) (get bytes_eq c.mark.new.marks) c.args.ids.now c.loop-id.id-index c.id-item.result c.loop-id-test.true c.id-item.is c.loop-id.invariant.met c.in_ok-mark.ensures.one c.in_ok-mark.ensures.kept;
}
