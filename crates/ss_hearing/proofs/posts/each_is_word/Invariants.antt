use Rattle.std.proofs.Common.{◌≡◌, drop, is_some}
use Rattle.json.specs.Find.{as_str}
use Rattle.json.specs.Value.{items_view}
use Rattle.ss_hearing.specs.Bodies.{each}
use Rattle.ss_hearing.proofs.posts.each_is_word.Given as goal

abbrev pub invariant-loop-item : goal.invariant-loop-item
invariant-loop-item l = is_some (each as_str (items_view l.items.items)) ≡ is_some (each as_str (items_view (drop l.item-index l.items.items)))
