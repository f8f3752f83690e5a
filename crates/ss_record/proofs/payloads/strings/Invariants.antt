use Rattle.std.proofs.Common.{◌≡◌, ◌++◌, drop, option_map}
use Rattle.serde_json.specs.View.{items_view}
use Rattle.ss_record.specs.Payloads.{strings}
use Rattle.ss_record.proofs.payloads.strings.Given as goal

abbrev pub invariant-loop-item : goal.invariant-loop-item
invariant-loop-item l = strings (items_view l.items.items) ≡ option_map (λ rest. l.words.items ++ rest) (strings (items_view (drop l.item-index l.items.items)))
