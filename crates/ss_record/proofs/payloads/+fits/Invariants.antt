use Rattle.std.proofs.Common.{◌≡◌, nat_le, drop}
use Rattle.serde_json.specs.Data.{items_depth, members_depth}
use Rattle.serde_json.specs.View.{items_view, members_view}
use Rattle.ss_record.proofs.payloads.+fits.Given as goal

abbrev pub invariant-items_fit-loop-item : goal.invariant-items_fit-loop-item
invariant-items_fit-loop-item l = nat_le (items_depth (items_view l.items.items)) l.levels ≡ nat_le (items_depth (items_view (drop l.item-index l.items.items))) l.levels

abbrev pub invariant-members_fit-loop-member : goal.invariant-members_fit-loop-member
invariant-members_fit-loop-member l = nat_le (members_depth (members_view l.members.entries)) l.levels ≡ nat_le (members_depth (members_view l.member-iterator)) l.levels
