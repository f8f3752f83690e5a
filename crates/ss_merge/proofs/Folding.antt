-- Ways of a merge stay among its ids, and the nearest folders on them are those of the rules.
use Rattle.std.proofs.Common.{◌≡◌, ◌↔◌, ◌||◌, ℕ, Bool, true, cond, List, length, bytes_eq, Option, Some, None, is_some}
use Rattle.std.proofs.Common.{unwrap_or, sym, ap, ◌∙◌}
use Rattle.std.specs.HashMap.{get}
use Rattle.ss_record.specs.Ids.{has}
use Rattle.ss_dupe.specs.declared.sides.Side.{Side}
use Rattle.ss_dupe.specs.declared.sides.Side.TheVariants.{Local, Remote}
use Rattle.ss_dupe.specs.Looks.{Id, is_in, is_root, parent_of}
use Rattle.ss_dupe.specs.Sides.{Sides, tree_of}
use Rattle.ss_dupe.specs.Walks.{meets}
use Rattle.ss_dupe.proofs.Basics.{same-tells}
use Rattle.ss_dupe.proofs.OneEach.{parent-lists, children-inside}
use Rattle.ss_merge.specs.declared.parents.Folders.{Folders}
use Rattle.ss_merge.specs.Nearest.{nearest}
use Rattle.ss_merge.specs.Survivors.{is_merged_folder, same_parent, side_of}
use Rattle.ss_merge.specs.Parents.{chosen, fallback, final, nearest_folder}
use Rattle.ss_merge.specs.Claims.{AreMerging}
use Rattle.ss_merge.specs.Links.{Holds}
use Rattle.ss_merge.specs.Folders.{AreFolders, final_by, folder_on}
use Rattle.ss_merge.proofs.Holding.{held, final-is}
use Rattle.ss_merge.proofs.Sided.{chosen-folder, folder_survives, survivor_has}
use Rattle.ss_merge.proofs.Stable.{stable}
use Rattle.ss_merge.proofs.Marking.{meets_is}
use Rattle.std.proofs.lemmas.Bool.{or_left, or_right}

pub chosen_by : (s : Sides) (ids : List Id) (folders : Folders) → AreFolders s ids folders → (x : Id) → has x ids ≡ true → folder_on folders (side_of s same_parent x) x ≡ chosen s (length ids) x
unfolding chosen
chosen_by s ids folders are x i = are.each (side_of s same_parent x) x i

-- what was found on both sides
pub are_folders : (s : Sides) (ids : List Id) (folders : Folders) → ((x : Id) → has x ids ≡ true → get bytes_eq folders.local x ≡ Some (nearest (parent_of s.local) (is_merged_folder s) (length ids) x))
    → ((x : Id) → has x ids ≡ true → get bytes_eq folders.remote x ≡ Some (nearest (parent_of s.remote) (is_merged_folder s) (length ids) x)) → AreFolders s ids folders
unfolding nearest_folder
are_folders s ids folders local remote = record { each = on }
  where
    on : (side : Side) (x : Id) → has x ids ≡ true → folder_on folders side x ≡ nearest (parent_of (tree_of s side)) (is_merged_folder s) (length ids) x
    on Local x i = ap (λ o. unwrap_or o None) (local x i)
    on Remote x i = ap (λ o. unwrap_or o None) (remote x i)

module _ (s : Sides) (ids : List Id) (m : AreMerging s ids) where
  -- the parent of an item of a tree is in that tree
  pub side_stays : (side : Side) (x y : Id) → has x ids ≡ true → parent_of (tree_of s side) x ≡ Some y → has y ids ≡ true
  side_stays Local x y i e = m.all y ∙ or_left (is_in s.local y) _ (children-inside s.local x y (parent-lists s.local m.shaped.local x y e))
  side_stays Remote x y i e = m.all y ∙ or_right (is_in s.local y) _ (children-inside s.remote x y (parent-lists s.remote m.shaped.remote x y e))

  pub chosen_stays : (g : Id → Option Id) → Holds g (chosen s (length ids)) ids → (x y : Id) → has x ids ≡ true → g x ≡ Some y → has y ids ≡ true
  chosen_stays g h x y i e = survivor_has s ids m y (folder_survives s y (chosen-folder s (length ids) x y (sym (held g (chosen s (length ids)) ids x h i) ∙ e)))

  -- the nearest merged folder is found whatever the bound is
  pub nearest_exact : (side : Side) (x p : Id) → has x ids ≡ true → (nearest_folder s (length ids) side x ≡ Some p) ↔ ((n : ℕ) × (nearest_folder s n side x ≡ Some p))
  unfolding nearest_folder has
  nearest_exact side x p i = (λ h. (length ids, h), λ r. stable (parent_of (tree_of s side)) (is_merged_folder s) bytes_eq same-tells ids (side_stays side) r.0 x p i r.1)

  module _ (folders : Folders) (are : AreFolders s ids folders) where
    -- the final parent, by the chosen ones and the roots that they lead to
    pub final_is : (g : Id → Option Id) → Holds g (chosen s (length ids)) ids → (rooted : Option (Option Id)) (x : Id) → has x ids ≡ true → rooted ≡ Some (nearest g is_root (length ids) x)
        → final_by s folders g (is_root x || is_some (unwrap_or rooted None)) x ≡ final s (length ids) x
    unfolding fallback
    final_is g h rooted x i e =
        ap (λ o. final_by s folders g (is_root x || is_some (unwrap_or o None)) x) e
        ∙ ap (λ b. final_by s folders g b x) (sym (meets_is g is_root (length ids) x))
        ∙ ap (λ o. cond (meets g is_root (length ids) x) (g x) o) (are.each (cond (is_in s.remote x) Remote Local) x i)
        ∙ final-is s ids m g h x i
