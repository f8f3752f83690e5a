-- The tests of the parts of an item.
use Rattle.std.specs.Prelude.{Bool}
use Rattle.ss_tree.specs.Trees.{PlacedItem}
use Rattle.ss_merge.specs.declared.parts.Part.{Part}
use Rattle.ss_merge.specs.declared.parts.Part.TheVariants.{Content, Parent, Children}
use Rattle.ss_merge.specs.Survivors.{same_children, same_content, same_parent}

abbrev pub alike : Part → PlacedItem → PlacedItem → Bool
alike Content = same_content
alike Parent = same_parent
alike Children = same_children
