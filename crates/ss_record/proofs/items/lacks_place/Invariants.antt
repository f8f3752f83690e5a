use Rattle.std.proofs.Common.{◌≡◌}
use Rattle.serde_json.specs.View.{members_view}
use Rattle.ss_record.specs.Payloads.{lacks}
use Rattle.ss_record.specs.Items.{names_of}
use Rattle.ss_record.proofs.items.lacks_place.Given as goal

abbrev pub invariant-loop-name : goal.invariant-loop-name
invariant-loop-name l = lacks (names_of l.kind) (members_view l.members.entries) ≡ lacks (names_of l.kind) (members_view l.name-iterator)
