use Rattle.std.proofs.Common.{◌≡◌, drop}
use Rattle.serde_json.specs.View.{items_view, members_view}
use Rattle.ss_record.specs.Marks.{items_plain, members_plain}
use Rattle.ss_record.proofs.marks.+is_plain.Given as goal

abbrev pub invariant-items_plain-loop-item : goal.invariant-items_plain-loop-item
invariant-items_plain-loop-item l = items_plain (items_view l.items.items) ≡ items_plain (items_view (drop l.item-index l.items.items))

abbrev pub invariant-members_plain-loop-name : goal.invariant-members_plain-loop-name
invariant-members_plain-loop-name l = members_plain (members_view l.members.entries) ≡ members_plain (members_view l.name-iterator)
