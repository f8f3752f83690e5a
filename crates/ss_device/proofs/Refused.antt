-- Refusals of a tree's calls, by ids.
use Rattle.std.proofs.Common.{◌≡◌, ℕ, zero, suc, ◌==◌, List, map, length, not, Bool, true, false, cond, ◌||◌, ◌&&◌}
use Rattle.std.proofs.Common.{refl, sym, ap, ap₂, ◌∙◌, Option, Some, None, option_map, option_and_then, unwrap_or}
use Rattle.std.proofs.Common.{is_some, bytes_eq}
use Rattle.std.specs.Cmp.{both_ways}
use Rattle.std.proofs.lemmas.Bool.{false≢true}
use Rattle.std.proofs.lemmas.List.{length-map}
use Rattle.ss_record.specs.Ids.{has, places, roots}
use Rattle.ss_record.specs.Items.{ItemView}
use Rattle.ss_record.specs.Kinds.{is_folder}
use Rattle.ss_tree.specs.declared.entries.Entry.{Entry}
use Rattle.ss_tree.specs.declared.faults.TreeFault.TheVariants.{NotFolder as NoFolder, Twice as Doubled, BadPlace}
use Rattle.ss_tree.specs.declared.faults.MoveFault.TheVariants.{Root as Fixed, NotFolder as MoveNoFolder}
use Rattle.ss_tree.specs.declared.faults.MoveFault.TheVariants.{Under as Below, BadPlace as MoveBadPlace}
use Rattle.ss_tree.specs.Trees.{PlacedItem, node, node_ids, parent_in, IsUnder, places_node}
use Rattle.ss_tree.specs.Entries.{above, entry, entry_ids, is_below, is_place, insert_fault, kids, is_met_above}
use Rattle.ss_tree.specs.Entries.{move_fault}
use Rattle.ss_tree.specs.Entries.{node_of, placed, stands_under, takes_children, top_entry, tree, IsTree}
use Rattle.ss_tree.specs.Entries as entries
use Rattle.ss_tree.proofs.Edits.{entry_has}
use Rattle.ss_tree.proofs.Kept.{insert_free}
use Rattle.ss_tree.proofs.Changed.{has_parent}
use Rattle.ss_tree.proofs.Ids.{has_node, node_found}
use Rattle.ss_tree.proofs.Valid.{valid_tree, under_from}
use Rattle.ss_device.specs.declared.faults.EditFault.{EditFault}
use Rattle.ss_device.specs.declared.faults.EditFault.TheVariants.{NoItem, Root, NotFolder, Under, Twice, Memory}
use Rattle.ss_device.specs.Edits.{add_fault, change_fault, is_fixed, is_met, is_within, lacks_item}
use Rattle.ss_tree.specs.Trees.{item_of}
use Rattle.ss_device.specs.Edits.{takes_items}
use Rattle.ss_device.specs.Edits as edits
use Rattle.ss_device.specs.Refusals.{edit_of_move, edit_of_tree}
use Rattle.ss_device.proofs.ByIds.{at_entry, idof, idof_some, placed_is, same_node}
use Rattle.ss_device.proofs.Changes.{above_there}
use Rattle.ss_device.proofs.Known.{has_is_node}
use Rattle.ss_text.proofs.Basics.{or_false, or_true, same_text, bytes_eq-same, number_turned, some_same, none_some}
use Rattle.ss_tree.proofs.Looked.{in_tree}

-- it has an item in its place there too
pub node_there : (es : List Entry) (x : List ℕ) → is_some (node x (tree es)) ≡ is_some (node_of x es)
node_there es x = sym (has_is_node x (tree es)) ∙ in_tree es x

pub not_there : (es : List Entry) (x : List ℕ) → is_some (node x (tree es)) ≡ true → node_of x es ≡ None → ⊥
not_there es x h q = false≢true (sym (node_there es x ∙ ap is_some q) ∙ h)

pub at_there : (es : List Entry) (x : List ℕ) → is_some (node x (tree es)) ≡ true → (k : ℕ) × (node_of x es ≡ Some k)
at_there es x h = go (node_of x es) refl
  where
    go : (o : Option ℕ) → node_of x es ≡ o → (k : ℕ) × (node_of x es ≡ Some k)
    go None q = absurd (not_there es x h q)
    go (Some k) q = (k, q)

-- an id that isn't refused as doubled is no other item's
pub fresh_id : (es : List Entry) (p : ℕ) (b : Option ℕ) (x : List ℕ) → insert_fault es p b x ≡ None → (k : ℕ) (e : Entry) → entry k es ≡ Some e → bytes_eq e.item.id x ≡ false
fresh_id es p b x h k e q = go (bytes_eq e.item.id x) refl
  where
    go : (c : Bool) → bytes_eq e.item.id x ≡ c → c ≡ false
    go false w = refl
    go true w = absurd (false≢true (sym (insert_free es p b x h).1 ∙ (ap (λ z. has z (entry_ids es)) (sym (same_text e.item.id x w)) ∙ entry_has k es e q)))

module _ (es : List Entry) (t : IsTree es) (x : List ℕ) (k : ℕ) (at : node_of x es ≡ Some k) where
  found : (e : Entry) × (entry k es ≡ Some e) × (e.item.id ≡ x)
  found = node_found es t x k at

  pub there : (e : Entry) × (entry k es ≡ Some e) × (e.item.id ≡ x) × (node x (tree es) ≡ Some (placed es e))
  there = (found.0, found.1, found.2, ap (λ z. node z (tree es)) (sym found.2) ∙ at_entry es t k found.0 found.1)

  pub top_is : bytes_eq x places ≡ (k == 0)
  top_is = ap (λ z. bytes_eq z places) (sym found.2) ∙ same_node es t k 0 found.0 top_entry found.1 t.top

  pub item_id : (i : ItemView) → option_map (λ e. e.item) (entry k es) ≡ Some i → i.id ≡ x
  item_id i h = ap (λ (v : ItemView). v.id) (some_same (sym h ∙ ap (option_map (λ (e : Entry). e.item)) found.1)) ∙ found.2

  -- what is read of the node is the item in its place
  pub item_is : (i : ItemView) → option_map (λ e. e.item) (entry k es) ≡ Some i → (n : PlacedItem) → node x (tree es) ≡ Some n → item_of n ≡ i
  unfolding placed found there
  item_is i h n q =
      let same : placed es found.0 ≡ n = some_same (sym there.3 ∙ q) in
      ap item_of (sym same) ∙ some_same (sym (ap (option_map (λ (e : Entry). e.item)) found.1) ∙ h)

  pub folder_is : takes_items (tree es) x ≡ takes_children k es
  unfolding takes_children placed found there
  folder_is = ap₂ (λ a b. not a && b) top_is (ap (λ o. unwrap_or (option_map (λ (n : PlacedItem). is_folder n.kind) o) false) there.3 ∙ sym (ap (λ o. unwrap_or (option_map (λ (e : Entry). is_folder e.item.kind) o) false) found.1))

  under_root : has x roots ≡ true → stands_under 0 found.0 ≡ true
  unfolding places_node roots IsUnder found there
  under_root h =
      let u = ((valid_tree es t).stands places places_node (valid_tree es t).top_is x).0 h in
      let same : u.0 ≡ placed es found.0 = some_same (sym u.1 ∙ there.3) in
      let parent : option_and_then (idof es) found.0.parent ≡ Some places = sym (ap (λ (n : PlacedItem). n.parent) (same ∙ placed_is es t k found.0 found.1)) ∙ u.2 in
      go found.0.parent refl parent
    where
      go : (o : Option ℕ) → found.0.parent ≡ o → option_and_then (idof es) o ≡ Some places → unwrap_or (option_map (λ p. 0 == p) found.0.parent) false ≡ true
      go None q w = absurd (none_some w)
      go (Some p) q w =
          let f = idof_some es p places w in
          ap (λ o. unwrap_or (option_map (λ n. 0 == n) o) false) q
          ∙ (sym (same_node es t 0 p top_entry f.0 t.top f.1) ∙ bytes_eq-same places f.0.item.id (sym f.2))

  root_under : stands_under 0 found.0 ≡ true → has x roots ≡ true
  unfolding IsUnder found there roots places_node
  root_under h =
      let parent : option_and_then (idof es) found.0.parent ≡ Some places = ap (option_and_then (idof es)) (under_from 0 found.0 h) ∙ ap (option_map (λ (w : Entry). w.item.id)) t.top in
      ((valid_tree es t).stands places places_node (valid_tree es t).top_is x).1 (placed es found.0, there.3, ap (λ (n : PlacedItem). n.parent) (placed_is es t k found.0 found.1) ∙ parent)

  pub fixed_is : is_fixed x ≡ entries.is_fixed k es
  unfolding entries.is_fixed
  fixed_is = ap₂ (λ a b. a || b) top_is (both_ways (has x roots) (stands_under 0 found.0) under_root root_under ∙ sym (ap (λ o. unwrap_or (option_map (stands_under 0) o) false) found.1))

-- ---- below

module _ (es : List Entry) (t : IsTree es) (x : List ℕ) (k : ℕ) (at : node_of x es ≡ Some k) (inner : (k == 0) ≡ false) where
  pub step_in : (p : ℕ) (f : Entry) → entry p es ≡ Some f → parent_in (tree es) f.item.id ≡ unwrap_or (option_and_then (idof es) f.parent) places
  unfolding parent_in
  step_in p f q = ap (λ o. unwrap_or (option_and_then (λ (n : PlacedItem). n.parent) o) places) (at_entry es t p f q) ∙ ap (λ (n : PlacedItem). unwrap_or n.parent places) (placed_is es t p f q)

  here : (p : ℕ) (f : Entry) → entry p es ≡ Some f → bytes_eq f.item.id x ≡ (k == p)
  here p f q =
      let e = node_found es t x k at in
      ap (bytes_eq f.item.id) (sym e.2) ∙ (same_node es t p k f e.0 q e.1 ∙ number_turned p k)

  pub top_misses : (n : ℕ) → is_met (tree es) n x places ≡ false
  top_misses zero = here 0 top_entry t.top ∙ inner
  top_misses (suc n) = ap₂ (λ a b. a || b) (here 0 top_entry t.top ∙ inner) (ap (is_met (tree es) n x) (step_in 0 top_entry t.top) ∙ top_misses n)

  is_met_as : (n p : ℕ) (f : Entry) → entry p es ≡ Some f → is_met (tree es) n x f.item.id ≡ ((k == p) || is_met_above es k n (above es p))
  unfolding above
  is_met_as zero p f q = here p f q ∙ sym (or_false (k == p))
  is_met_as (suc n) p f q =
      ap₂ (λ a b. a || b) (here p f q) (ap (is_met (tree es) n x) (step_in p f q) ∙ (go f.parent refl (λ r g w. is_met_as n r g w) ∙ sym (ap (λ o. is_met_above es k (suc n) (option_and_then (λ (e : Entry). e.parent) o)) q)))
    where
      go : (o : Option ℕ) → f.parent ≡ o → ((r : ℕ) (g : Entry) → entry r es ≡ Some g → is_met (tree es) n x g.item.id ≡ ((k == r) || is_met_above es k n (above es r)))
          → is_met (tree es) n x (unwrap_or (option_and_then (idof es) f.parent) places) ≡ is_met_above es k (suc n) f.parent
      go None h ih = ap (λ o. is_met (tree es) n x (unwrap_or (option_and_then (idof es) o) places)) h ∙ (top_misses n ∙ sym (ap (is_met_above es k (suc n)) h))
      go (Some r) h ih =
          let g = above_there es t p r f q h in
          ap (λ o. is_met (tree es) n x (unwrap_or (option_and_then (idof es) o) places)) h
          ∙ (ap (λ o. is_met (tree es) n x (unwrap_or (option_map (λ (w : Entry). w.item.id) o) places)) g.1
          ∙ (ih r g.0 g.1 ∙ sym (ap (is_met_above es k (suc n)) h)))

  pub within_node : (p : ℕ) (f : Entry) → entry p es ≡ Some f → is_within (tree es) x f.item.id ≡ ((k == p) || is_below es k p)
  unfolding is_within is_below tree
  within_node p f q = ap (λ n. is_met (map (placed es) es) n x f.item.id) (length-map es (placed es)) ∙ is_met_as (length es) p f q

-- ---- the refusals

module _ (es : List Entry) (t : IsTree es) (y : List ℕ) (p : ℕ) (to : node_of y es ≡ Some p) where
  there_y : has y (node_ids (tree es)) ≡ true
  there_y = in_tree es y ∙ ap is_some to

  pub add_fault_is : (x : List ℕ) → add_fault (tree es) y x ≡ option_map edit_of_tree (insert_fault es p None x)
  unfolding add_fault insert_fault is_place
  add_fault_is x =
      ap (λ b. cond (not b) (Some NoItem) (cond (not (takes_items (tree es) y)) (Some NotFolder) (cond (has x (node_ids (tree es))) (Some Twice) None))) there_y
      ∙ (ap₂ (λ a b. cond (not a) (Some NotFolder) (cond b (Some Twice) None)) (folder_is es t y p to) (in_tree es x ∙ sym (has_node x es))
      ∙ go (takes_children p es) (has x (entry_ids es)))
    where
      go : (a b : Bool) → cond (not a) (Some NotFolder) (cond b (Some Twice) None) ≡ option_map edit_of_tree (cond (not a) (Some NoFolder) (cond b (Some Doubled) (cond false (Some BadPlace) None)))
      go true true = refl
      go true false = refl
      go false b = refl

  pub no_bad_place : (x : List ℕ) → insert_fault es p None x ≡ Some BadPlace → ⊥
  unfolding insert_fault is_place
  no_bad_place x q = go (takes_children p es) (has x (entry_ids es)) q
    where
      go : (a b : Bool) → cond (not a) (Some NoFolder) (cond b (Some Doubled) (cond false (Some BadPlace) None)) ≡ Some BadPlace → ⊥
      go true true h = cc
      go true false h = cc
      go false b h = cc

  module _ (x : List ℕ) (k : ℕ) (at : node_of x es ≡ Some k) where
    there_x : has x (node_ids (tree es)) ≡ true
    there_x = in_tree es x ∙ ap is_some at

    end : (a b c : Bool) → cond a (Some Root) (cond (not b) (Some NotFolder) (cond c (Some Under) None)) ≡ option_map edit_of_move (cond a (Some Fixed) (cond (not b) (Some MoveNoFolder) (cond c (Some Below) (cond false (Some MoveBadPlace) None))))
    end true b c = refl
    end false true true = refl
    end false true false = refl
    end false false c = refl

    pub move_fault_is : edits.move_fault (tree es) x y ≡ option_map edit_of_move (move_fault es k p None)
    unfolding edits.move_fault move_fault is_place entries.is_fixed
    move_fault_is =
        ap₂ (λ a b. cond (not a || not b) (Some NoItem) (cond (is_fixed x) (Some Root) (cond (not (takes_items (tree es) y)) (Some NotFolder) (cond (is_within (tree es) x y) (Some Under) None)))) there_x there_y
        ∙ (ap₂ (λ a b. cond a (Some Root) (cond (not b) (Some NotFolder) (cond (is_within (tree es) x y) (Some Under) None))) (fixed_is es t x k at) (folder_is es t y p to)
        ∙ go (entries.is_fixed k es) refl)
      where
        loose : entries.is_fixed k es ≡ false → (k == 0) ≡ false
        loose h = part (k == 0) h
          where
            part : (b : Bool) → (b || unwrap_or (option_map (stands_under 0) (entry k es)) false) ≡ false → b ≡ false
            part true w = absurd (false≢true (sym w))
            part false w = refl

        go : (a : Bool) → entries.is_fixed k es ≡ a
            → cond a (Some Root) (cond (not (takes_children p es)) (Some NotFolder) (cond (is_within (tree es) x y) (Some Under) None))
            ≡ option_map edit_of_move (cond a (Some Fixed) (cond (not (takes_children p es)) (Some MoveNoFolder) (cond ((k == p) || is_below es k p) (Some Below) (cond false (Some MoveBadPlace) None))))
        go true h = refl
        go false h =
            let f = node_found es t y p to in
            ap (λ c. cond (not (takes_children p es)) (Some NotFolder) (cond c (Some Under) None)) (ap (is_within (tree es) x) (sym f.2) ∙ within_node es t x k at (loose h) p f.0 f.1)
            ∙ end false (takes_children p es) ((k == p) || is_below es k p)

    pub move_no_bad_place : move_fault es k p None ≡ Some MoveBadPlace → ⊥
    unfolding move_fault is_place
    move_no_bad_place q = go (entries.is_fixed k es) (takes_children p es) ((k == p) || is_below es k p) q
      where
        go : (a b c : Bool) → cond a (Some Fixed) (cond (not b) (Some MoveNoFolder) (cond c (Some Below) (cond false (Some MoveBadPlace) None))) ≡ Some MoveBadPlace → ⊥
        go true b c h = cc
        go false true true h = cc
        go false true false h = cc
        go false false c h = cc

-- ---- a renaming and a deletion

pub lacks_none : (es : List Entry) (x : List ℕ) → node_of x es ≡ None → has x (node_ids (tree es)) ≡ false
lacks_none es x h = in_tree es x ∙ ap is_some h

pub no_item : (es : List Entry) (x : List ℕ) → node_of x es ≡ None → change_fault (tree es) x ≡ Some NoItem
unfolding change_fault
no_item es x h = ap (λ b. cond (not b) (Some NoItem) (cond (is_fixed x) (Some Root) None)) (lacks_none es x h)

pub change_is : (es : List Entry) (x : List ℕ) (b : Bool) → is_some (node_of x es) ≡ true → is_fixed x ≡ b → change_fault (tree es) x ≡ cond b (Some Root) None
unfolding change_fault
change_is es x b h f = ap₂ (λ a c. cond (not a) (Some NoItem) (cond c (Some Root) None)) (in_tree es x ∙ h) f

pub add_no_parent : (es : List Entry) (y x : List ℕ) → node_of y es ≡ None → add_fault (tree es) y x ≡ Some NoItem
unfolding add_fault
add_no_parent es y x h = ap (λ b. cond (not b) (Some NoItem) (cond (not (takes_items (tree es) y)) (Some NotFolder) (cond (has x (node_ids (tree es))) (Some Twice) None))) (lacks_none es y h)

pub move_no_item : (es : List Entry) (x y : List ℕ) → node_of x es ≡ None → edits.move_fault (tree es) x y ≡ Some NoItem
unfolding edits.move_fault
move_no_item es x y h = ap (λ b. cond (not b || not (has y (node_ids (tree es)))) (Some NoItem) (cond (is_fixed x) (Some Root) (cond (not (takes_items (tree es) y)) (Some NotFolder) (cond (is_within (tree es) x y) (Some Under) None)))) (lacks_none es x h)

pub move_no_parent : (es : List Entry) (x y : List ℕ) → node_of y es ≡ None → edits.move_fault (tree es) x y ≡ Some NoItem
unfolding edits.move_fault
move_no_parent es x y h =
    ap (λ b. cond (not (has x (node_ids (tree es))) || not b) (Some NoItem) (cond (is_fixed x) (Some Root) (cond (not (takes_items (tree es) y)) (Some NotFolder) (cond (is_within (tree es) x y) (Some Under) None)))) (lacks_none es y h)
    ∙ go (has x (node_ids (tree es)))
  where
    go : (a : Bool) → cond (not a || true) (Some NoItem) (cond (is_fixed x) (Some Root) (cond (not (takes_items (tree es) y)) (Some NotFolder) (cond (is_within (tree es) x y) (Some Under) None))) ≡ Some NoItem
    go true = refl
    go false = refl

pub move_from_change : (es : List Entry) (x y : List ℕ) (e : EditFault) → has y (node_ids (tree es)) ≡ true → change_fault (tree es) x ≡ Some e → edits.move_fault (tree es) x y ≡ Some e
unfolding edits.move_fault change_fault
move_from_change es x y e h q = go (has x (node_ids (tree es))) (has y (node_ids (tree es))) (is_fixed x) h q
  where
    go : (a b f : Bool) → b ≡ true → cond (not a) (Some NoItem) (cond f (Some Root) None) ≡ Some e
        → cond (not a || not b) (Some NoItem) (cond f (Some Root) (cond (not (takes_items (tree es) y)) (Some NotFolder) (cond (is_within (tree es) x y) (Some Under) None))) ≡ Some e
    go false b f k r = r
    go true false f k r = absurd (false≢true k)
    go true true true k r = r
    go true true false k r = absurd (none_some r)

-- what a change that isn't refused tells of the ids
pub change_loose : (es : List Entry) (x : List ℕ) → change_fault (tree es) x ≡ None → (has x (node_ids (tree es)) ≡ true) × (is_fixed x ≡ false)
unfolding change_fault
change_loose es x q = go (has x (node_ids (tree es))) (is_fixed x) q
  where
    go : (a f : Bool) → cond (not a) (Some NoItem) (cond f (Some Root) None) ≡ None → (a ≡ true) × (f ≡ false)
    go true true h = absurd (none_some (sym h))
    go true false h = (refl, refl)
    go false f h = absurd (none_some (sym h))

pub fixed_inner : (x : List ℕ) → is_fixed x ≡ false → bytes_eq x places ≡ false
fixed_inner x h = go (bytes_eq x places) h
  where
    go : (a : Bool) → (a || has x roots) ≡ false → a ≡ false
    go true k = absurd (false≢true (sym k))
    go false k = refl

pub takes_inner : (t : List PlacedItem) (y : List ℕ) → takes_items t y ≡ true → bytes_eq y places ≡ false
takes_inner t y h = go (bytes_eq y places) h
  where
    go : (a : Bool) → (not a && unwrap_or (option_map (λ (n : PlacedItem). is_folder n.kind) (node y t)) false) ≡ true → a ≡ false
    go true k = absurd (false≢true k)
    go false k = refl

pub add_parts : (es : List Entry) (y x : List ℕ) → add_fault (tree es) y x ≡ None → (has y (node_ids (tree es)) ≡ true) × (takes_items (tree es) y ≡ true) × (has x (node_ids (tree es)) ≡ false)
unfolding add_fault
add_parts es y x q = go (has y (node_ids (tree es))) (takes_items (tree es) y) (has x (node_ids (tree es))) q
  where
    go : (a b d : Bool) → cond (not a) (Some NoItem) (cond (not b) (Some NotFolder) (cond d (Some Twice) None)) ≡ None → (a ≡ true) × (b ≡ true) × (d ≡ false)
    go true true true h = absurd (none_some (sym h))
    go true true false h = (refl, refl, refl)
    go true false d h = absurd (none_some (sym h))
    go false b d h = absurd (none_some (sym h))

pub add_apart : (es : List Entry) (y x : List ℕ) → add_fault (tree es) y x ≡ None → bytes_eq y x ≡ false
add_apart es y x q = go (bytes_eq y x) refl
  where
    go : (b : Bool) → bytes_eq y x ≡ b → b ≡ false
    go false h = refl
    go true h = let p = add_parts es y x q in absurd (false≢true (sym p.2 ∙ (ap (λ z. has z (node_ids (tree es))) (sym (same_text y x h)) ∙ p.0)))

pub move_takes : (es : List Entry) (x y : List ℕ) → edits.move_fault (tree es) x y ≡ None → takes_items (tree es) y ≡ true
unfolding edits.move_fault
move_takes es x y q = go (not (has x (node_ids (tree es))) || not (has y (node_ids (tree es)))) (is_fixed x) (takes_items (tree es) y) q
  where
    go : (a f b : Bool) → cond a (Some NoItem) (cond f (Some Root) (cond (not b) (Some NotFolder) (cond (is_within (tree es) x y) (Some Under) None))) ≡ None → b ≡ true
    go true f b h = absurd (none_some (sym h))
    go false true b h = absurd (none_some (sym h))
    go false false true h = refl
    go false false false h = absurd (none_some (sym h))

-- the folder of an item that is neither `places` nor a root
module _ (es : List Entry) (t : IsTree es) (x : List ℕ) (k : ℕ) (at : node_of x es ≡ Some k) (loose : is_fixed x ≡ false) where
  pub has_folder : above es k ≡ None → ⊥
  has_folder = has_parent es t k (ap is_some (there es t x k at).1) (sym (fixed_is es t x k at) ∙ loose)

  pub folder_facts : (p : ℕ) → above es k ≡ Some p → (i : ItemView) → option_map (λ e. e.item) (entry p es) ≡ Some i
      → (parent_in (tree es) x ≡ i.id) × (is_some (node i.id (tree es)) ≡ true) × (bytes_eq i.id places ≡ false)
  unfolding above entries.is_fixed parent_in
  folder_facts p up i q = at_folder (entry p es) refl q
    where
      e : (d : Entry) × (entry k es ≡ Some d) × (d.item.id ≡ x) × (node x (tree es) ≡ Some (placed es d))
      e = there es t x k at

      parent : e.0.parent ≡ Some p
      parent = sym (ap (option_and_then (λ (d : Entry). d.parent)) e.1) ∙ up

      at_folder : (o : Option Entry) → entry p es ≡ o → option_map (λ (d : Entry). d.item) o ≡ Some i → (parent_in (tree es) x ≡ i.id) × (is_some (node i.id (tree es)) ≡ true) × (bytes_eq i.id places ≡ false)
      at_folder None h r = absurd (none_some r)
      at_folder (Some f) h r =
          let id : f.item.id ≡ i.id = ap (λ (v : ItemView). v.id) (some_same r) in
          let step : parent_in (tree es) x ≡ f.item.id =
          ap (λ o. unwrap_or (option_and_then (λ (n : PlacedItem). n.parent) o) places) e.3 ∙ (ap (λ (n : PlacedItem). unwrap_or n.parent places) (placed_is es t k e.0 e.1) ∙ (ap (λ o. unwrap_or (option_and_then (idof es) o) places) parent ∙ ap (λ o. unwrap_or (option_map (λ (d : Entry). d.item.id) o) places) h)) in
          let inner : bytes_eq f.item.id places ≡ false = same_node es t p 0 f top_entry h t.top ∙ not_top (p == 0) refl in
          (step ∙ id, ap (λ z. is_some (node z (tree es))) (sym id) ∙ ap is_some (at_entry es t p f h), ap (λ z. bytes_eq z places) (sym id) ∙ inner)
        where
          not_top : (b : Bool) → (p == 0) ≡ b → b ≡ false
          not_top false w = refl
          not_top true w =
              let under_top : stands_under 0 e.0 ≡ true = ap (λ o. unwrap_or (option_map (λ n. 0 == n) o) false) parent ∙ (number_turned 0 p ∙ w) in
              let yes : is_fixed x ≡ true = fixed_is es t x k at ∙ (ap (λ b. (k == 0) || b) (ap (λ o. unwrap_or (option_map (stands_under 0) o) false) e.1 ∙ under_top) ∙ or_true (k == 0)) in
              absurd (false≢true (sym loose ∙ yes))

-- the rules by which a renaming and a deletion are refused know no want of memory
pub change_not_memory : (t : List PlacedItem) (x : List ℕ) (e : EditFault) → change_fault t x ≡ Some e → e ≡ Memory → ⊥
unfolding change_fault
change_not_memory t x e q m = go (lacks_item t x) (is_fixed x) q
  where
    go : (a b : Bool) → cond a (Some NoItem) (cond b (Some Root) None) ≡ Some e → ⊥
    go true b r = cc
    go false true r = cc
    go false false r = cc
