use Rattle.std.proofs.Common.{◌≡◌, true, take, is_some, bytes_eq}
use Rattle.std.specs.HashMap.{get}
use Rattle.ss_record.specs.Ids.{has}
use Rattle.ss_dupe.specs.Looks.{Id}
use Rattle.ss_merge.specs.Ways.{AreMarks}
use Rattle.ss_merge.proofs.marks.nearest_of.Given as goal

abbrev pub invariant-loop-id : goal.invariant-loop-id
invariant-loop-id l = record {
  right : AreMarks l.way l.ids (get bytes_eq l.marks);
  met : (x : Id) → has x (take l.id-index l.ids) ≡ true → is_some (get bytes_eq l.marks x) ≡ true;
}
