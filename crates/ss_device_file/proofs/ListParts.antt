-- The items of a list, by their places.
use Rattle.std.proofs.Common.{◌≡◌, ℕ, ◌<◌, ◌≤◌, List, length, get_or, Option, Some, None, option_map, ap, ◌∙◌}
use Rattle.std.specs.Slice.{IsItemAt}
use denote.Bor.{Bor}
use Rattle.serde_json.specs.Find.{get_item}
use Rattle.serde_json.specs.View.{items_view, view}
use Rattle.serde_json.specs.declared.value.Value.{Value}
use Rattle.serde_json.proofs.Views.{get_item_within, get_item_past}

pub part_there : (vs : List Value) (k : ℕ) (v : Value) → k < length vs → v ≡ get_or vs k v → Some (view v) ≡ get_item k (items_view vs)
part_there vs k v lt is = ap (λ x. Some (view x)) is ∙ get_item_within vs k v lt

pub part_past : (vs : List Value) (k : ℕ) → length vs ≤ k → None ≡ get_item k (items_view vs)
part_past vs k le = get_item_past vs k le

pub part_is : (vs : List Value) (k : ℕ) (r : Option (Bor Value)) → IsItemAt vs k r → option_map (λ p. view p.now) r ≡ get_item k (items_view vs)
part_is vs k None g = part_past vs k g.3
part_is vs k (Some p) g = part_there vs k p.now g.3.0 g.1
