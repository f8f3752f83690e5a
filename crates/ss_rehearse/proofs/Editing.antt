-- Devices that are told alike are edited alike.
use Rattle.std.proofs.Common.{◌≡◌, ℕ, zero, suc, ◌&&◌, ◌||◌, Bool, true, false, cond, not, List, [], ◌∷◌, map, filter}
use Rattle.std.proofs.Common.{find, length, bytes_eq, refl, sym, ap, ap₂, ◌∙◌, Option, Some, None, option_map}
use Rattle.std.proofs.Common.{option_and_then, unwrap_or}
use Rattle.ss_text.proofs.Basics.{same_text}
use Rattle.ss_record.specs.Ids.{places}
use Rattle.ss_record.specs.Items.{ItemView}
use Rattle.ss_record.specs.Kinds.{is_folder}
use Rattle.ss_tree.specs.Trees.{IsSame, IsValidTree, PlacedItem, node, parent_in}
use Rattle.ss_tree.specs.Entries.{tree}
use Rattle.ss_merge.proofs.Whole.{same_ids}
use Rattle.ss_device.specs.declared.faults.EditFault.TheVariants as fault
use Rattle.ss_device.specs.Device.{DeviceView}
use Rattle.ss_device.specs.Edits.{EditsDevice, add_fault, tree_after_add, change_fault, tree_after_delete, edit_time}
use Rattle.ss_device.specs.Edits.{is_fixed, is_met, is_within, lacks_item, move_fault, tree_after_move, moved_node}
use Rattle.ss_device.specs.Edits.{new_node, tree_after_rename, takes_items, with_last, with_title, without_child}
use Rattle.ss_world.specs.declared.events.Edit.{Edit}
use Rattle.ss_world.specs.declared.events.Edit.TheVariants as edits
use Rattle.ss_rehearse.specs.Alike.{AreAlike, AreEditedAlike}
use Rattle.ss_rehearse.proofs.Orders.{same_many}

-- ---- look-ups after a change of items that keeps their ids

node_mapped : (f : PlacedItem → PlacedItem) → ((n : PlacedItem) → (f n).id ≡ n.id) → (x : List ℕ) (t : List PlacedItem) → node x (map f t) ≡ option_map f (node x t)
unfolding node
node_mapped f keeps x [] = refl
node_mapped f keeps x (n ∷ t) =
    ap (λ y. cond (bytes_eq x y) (Some (f n)) (find (λ (m : PlacedItem). bytes_eq x m.id) (map f t))) (keeps n) ∙ go (bytes_eq x n.id) (node_mapped f keeps x t)
  where
    go : (b : Bool) → find (λ (m : PlacedItem). bytes_eq x m.id) (map f t) ≡ option_map f (find (λ (m : PlacedItem). bytes_eq x m.id) t)
        → cond b (Some (f n)) (find (λ (m : PlacedItem). bytes_eq x m.id) (map f t)) ≡ option_map f (cond b (Some n) (find (λ (m : PlacedItem). bytes_eq x m.id) t))
    go true h = refl
    go false h = h

same_mapped : (f : PlacedItem → PlacedItem) → ((n : PlacedItem) → (f n).id ≡ n.id) → (t u : List PlacedItem) → IsSame t u → IsSame (map f t) (map f u)
same_mapped f keeps t u same x = node_mapped f keeps x t ∙ ap (option_map f) (same x) ∙ sym (node_mapped f keeps x u)

keeps_where : (b : PlacedItem → Bool) (f : PlacedItem → PlacedItem) → ((n : PlacedItem) → (f n).id ≡ n.id) → (n : PlacedItem) → (cond (b n) (f n) n).id ≡ n.id
keeps_where b f keeps n = go (b n)
  where
    go : (c : Bool) → (cond c (f n) n).id ≡ n.id
    go true = keeps n
    go false = refl

abbrev none_placed : Option PlacedItem
none_placed = None

-- those that stay by their ids
node_kept : (stays : List ℕ → Bool) (x : List ℕ) (t : List PlacedItem) → node x (filter (λ (n : PlacedItem). stays n.id) t) ≡ cond (stays x) (node x t) none_placed
unfolding node
node_kept stays x [] = go (stays x)
  where
    go : (b : Bool) → none_placed ≡ cond b none_placed none_placed
    go true = refl
    go false = refl
node_kept stays x (n ∷ t) = go (bytes_eq x n.id) refl (stays n.id) refl (node_kept stays x t)
  where
    rest : Option PlacedItem
    rest = find (λ (m : PlacedItem). bytes_eq x m.id) t

    left : List PlacedItem
    left = filter (λ (m : PlacedItem). stays m.id) t

    go : (b : Bool) → bytes_eq x n.id ≡ b → (c : Bool) → stays n.id ≡ c → find (λ (m : PlacedItem). bytes_eq x m.id) left ≡ cond (stays x) rest none_placed
        → find (λ (m : PlacedItem). bytes_eq x m.id) (cond c (n ∷ left) left) ≡ cond (stays x) (cond b (Some n) rest) none_placed
    go true e true s h =
        ap (λ b. cond b (Some n) (find (λ (m : PlacedItem). bytes_eq x m.id) left)) e ∙ sym (ap (λ c. cond c (Some n) none_placed) (ap stays (same_text x n.id e) ∙ s))
    go true e false s h = h ∙ ap (λ c. cond c rest none_placed) (ap stays (same_text x n.id e) ∙ s) ∙ sym (ap (λ c. cond c (Some n) none_placed) (ap stays (same_text x n.id e) ∙ s))
    go false e true s h = ap (λ b. cond b (Some n) (find (λ (m : PlacedItem). bytes_eq x m.id) left)) e ∙ h
    go false e false s h = h

-- ---- trees that are the same

module _ (t u : List PlacedItem) (same : IsSame t u) where
  parents : (x : List ℕ) → parent_in t x ≡ parent_in u x
  unfolding parent_in
  parents x = ap (λ o. unwrap_or (option_and_then (λ (n : PlacedItem). n.parent) o) places) (same x)

  met : (n : ℕ) (top x : List ℕ) → is_met t n top x ≡ is_met u n top x
  met zero top x = refl
  met (suc n) top x = ap (λ b. bytes_eq x top || b) (ap (is_met t n top) (parents x) ∙ met n top (parent_in u x))

  added_same : (time : ℕ) (parent : List ℕ) (i : ItemView) → IsSame (tree_after_add time parent i t) (tree_after_add time parent i u)
  unfolding tree_after_add node
  added_same time parent i x =
      ap (cond (bytes_eq x i.id) (Some (new_node time parent i)))
      (same_mapped (λ n. cond (bytes_eq n.id parent) (with_last time i.id n) n) (keeps_where (λ n. bytes_eq n.id parent) (with_last time i.id) (λ n. refl)) t u same x)

  renamed_same : (time : ℕ) (y title : List ℕ) → IsSame (tree_after_rename time y title t) (tree_after_rename time y title u)
  unfolding tree_after_rename
  renamed_same time y title = same_mapped (λ n. cond (bytes_eq n.id y) (with_title time title n) n) (keeps_where (λ n. bytes_eq n.id y) (with_title time title) (λ n. refl)) t u same

  moved_same : (time : ℕ) (y parent : List ℕ) → IsSame (tree_after_move time y parent t) (tree_after_move time y parent u)
  unfolding tree_after_move
  moved_same time y parent x =
      same_mapped (moved_node time y (parent_in t y) parent) (λ n. refl) t u same x ∙ ap (λ from. node x (map (moved_node time y from parent) u)) (parents y)

  lacks : (x : List ℕ) → lacks_item t x ≡ lacks_item u x
  lacks x = ap not (same_ids t u same x)

  takes : (x : List ℕ) → takes_items t x ≡ takes_items u x
  takes x = ap (λ o. not (bytes_eq x places) && unwrap_or (option_map (λ (n : PlacedItem). is_folder n.kind) o) false) (same x)

  add_same : (parent x : List ℕ) → add_fault t parent x ≡ add_fault u parent x
  unfolding add_fault
  add_same parent x =
      λ i. cond (lacks parent i) (Some fault.NoItem) (cond (not (takes parent i)) (Some fault.NotFolder) (cond (same_ids t u same x i) (Some fault.Twice) None))

  change_same : (x : List ℕ) → change_fault t x ≡ change_fault u x
  unfolding change_fault
  change_same x = ap (λ b. cond b (Some fault.NoItem) (cond (is_fixed x) (Some fault.Root) None)) (lacks x)

  module _ (many : length t ≡ length u) where
    within : (top x : List ℕ) → is_within t top x ≡ is_within u top x
    unfolding is_within
    within top x = ap (λ n. is_met t n top x) many ∙ met (length u) top x

    move_same : (x parent : List ℕ) → move_fault t x parent ≡ move_fault u x parent
    unfolding move_fault
    move_same x parent =
        λ i. cond (lacks x i || lacks parent i) (Some fault.NoItem)
        (cond (is_fixed x) (Some fault.Root) (cond (not (takes parent i)) (Some fault.NotFolder) (cond (within x parent i) (Some fault.Under) None)))

    left_same : (y : List ℕ) → IsSame (filter (λ (n : PlacedItem). not (is_within t y n.id)) t) (filter (λ (n : PlacedItem). not (is_within u y n.id)) u)
    left_same y x =
        node_kept (λ z. not (is_within t y z)) x t
        ∙ ap₂ (λ b o. cond b o none_placed) (ap not (within y x)) (same x)
        ∙ sym (node_kept (λ z. not (is_within u y z)) x u)

    deleted_same : (time : ℕ) (y : List ℕ) → IsSame (tree_after_delete time y t) (tree_after_delete time y u)
    unfolding tree_after_delete
    deleted_same time y x =
        same_mapped (λ n. cond (bytes_eq n.id (parent_in t y)) (without_child time y n) n) (keeps_where (λ n. bytes_eq n.id (parent_in t y)) (without_child time y) (λ n. refl))
        (filter (λ (n : PlacedItem). not (is_within t y n.id)) t) (filter (λ (n : PlacedItem). not (is_within u y n.id)) u) (left_same y) x
        ∙ ap (λ p. node x (map (λ n. cond (bytes_eq n.id p) (without_child time y n) n) (filter (λ (n : PlacedItem). not (is_within u y n.id)) u))) (parents y)

-- ---- devices

alike_after : (d e v w : DeviceView) (t u : List PlacedItem) (told more : List ℕ → Option ℕ) → AreAlike d e → IsSame t u → ((x : List ℕ) → told x ≡ more x) → EditsDevice d v t told → EditsDevice e w u more → AreAlike v w
alike_after d e v w t u told more a same deaths f g = record {
  tree = λ x. f.same x ∙ same x ∙ sym (g.same x);
  dead = λ x. f.dead x ∙ deaths x ∙ sym (g.dead x);
  mirror = f.mirror ∙ a.mirror ∙ sym g.mirror;
  stamp = f.stamp ∙ a.stamp ∙ sym g.stamp;
}

pub edited_alike : (now : ℕ) (edit : Edit) (d e : DeviceView) → IsValidTree (tree d.tree) → IsValidTree (tree e.tree) → AreAlike d e → AreEditedAlike now edit d e
edited_alike now (edits.Add parent item) d e l r a = record {
  refused = add_same (tree d.tree) (tree e.tree) a.tree parent item.id;
  changed = λ v w f g.
      alike_after d e v w _ _ _ _ a (added_same (tree d.tree) (tree e.tree) a.tree (edit_time now) parent item) (λ x. ap (cond (bytes_eq x item.id) None) (a.dead x)) f g;
}
edited_alike now (edits.Rename id title) d e l r a = record {
  refused = change_same (tree d.tree) (tree e.tree) a.tree id;
  changed = λ v w f g. alike_after d e v w _ _ _ _ a (renamed_same (tree d.tree) (tree e.tree) a.tree (edit_time now) id title) a.dead f g;
}
edited_alike now (edits.Move id parent) d e l r a = record {
  refused = move_same (tree d.tree) (tree e.tree) a.tree (same_many (tree d.tree) (tree e.tree) l.apart r.apart a.tree) id parent;
  changed = λ v w f g. alike_after d e v w _ _ _ _ a (moved_same (tree d.tree) (tree e.tree) a.tree (edit_time now) id parent) a.dead f g;
}
edited_alike now (edits.Delete id) d e l r a =
    let many = same_many (tree d.tree) (tree e.tree) l.apart r.apart a.tree in
    record {
      refused = change_same (tree d.tree) (tree e.tree) a.tree id;
      changed = λ v w f g.
          alike_after d e v w _ _ _ _ a (deleted_same (tree d.tree) (tree e.tree) a.tree many (edit_time now) id)
          (λ x. ap₂ (λ b o. cond b (Some (edit_time now)) o) (within (tree d.tree) (tree e.tree) a.tree many id x) (a.dead x)) f g;
    }
