-- Trees that are the same are walked alike.
use Rattle.std.proofs.Common.{◌≡◌, ℕ, zero, suc, Bool, true, false, cond, List, [], ◌∷◌, ◌++◌, map, length, refl, sym}
use Rattle.std.proofs.Common.{ap, ap₂, ◌∙◌, inl, inr, Option, Some, None, option_map, option_and_then, unwrap_or}
use Rattle.std.specs.List.{flat_map}
use Rattle.std.proofs.lemmas.List.{length-map, map-append}
use Rattle.ss_text.specs.Texts.{list_with as put_in}
use Rattle.ss_record.specs.Ids.{Apart, before, by_id, places}
use Rattle.ss_record.specs.Items.{ItemView}
use Rattle.ss_tree.specs.declared.entries.Entry.{Entry}
use Rattle.ss_tree.specs.Trees.{IsSame, PlacedItem, node_ids}
use Rattle.ss_tree.specs.Entries.{IsTree, above, entry, kids, placed, preorder, top_entry, tree}
use Rattle.ss_tree.proofs.Valid.{In, valid_tree}
use Rattle.ss_dupe.specs.Looks.{Look, at, blank, children_of, look}
use Rattle.ss_merge.proofs.ByIds.{by_id_same}
use Rattle.ss_merge.proofs.Whole.{same_ids}
use Rattle.ss_device.proofs.ByIds.{at_entry, idof, name_at, placed_is}
use Rattle.ss_device.proofs.Changes.{kid_there}
use Rattle.ss_rehearse.specs.Summaries.{nodes, item_at, id_above}

-- ---- what is seen of a node: its item, and the id of the item above it

pub record Seen : Type 0 where
  pub item : Option ItemView
  pub under : Option (List ℕ)

abbrev pub seen : List Entry → ℕ → Seen
seen es k = record { item = item_at es k; under = id_above es k }

-- the same of an id, by the look-ups of a tree
abbrev item_of : PlacedItem → ItemView
item_of n = record { id = n.id; kind = n.kind; content = n.content }

abbrev seen_by : Look → List ℕ → Seen
seen_by t x = record { item = option_map item_of (t x); under = option_and_then (λ n. n.parent) (t x) }

-- an id and those below it, n levels deep
walk : Look → ℕ → List ℕ → List Seen
walk t zero x = []
walk t (suc n) x = seen_by t x ∷ flat_map (walk t n) (children_of t x)

module _ (es : List Entry) (t : IsTree es) where
  abbrev found : Look
  found = look (tree es)

  named : (k : ℕ) (e : Entry) → entry k es ≡ Some e → name_at es k ≡ e.item.id
  named k e q = ap (λ o. unwrap_or (option_map (λ (d : Entry). d.item.id) o) []) q

  found_at : (k : ℕ) (e : Entry) → entry k es ≡ Some e → found (name_at es k) ≡ Some (placed es e)
  found_at k e q = ap found (named k e q) ∙ at_entry es t k e q

  under_is : (o : Option ℕ) → option_and_then (λ p. option_map (λ (i : ItemView). i.id) (item_at es p)) o ≡ option_and_then (idof es) o
  under_is None = refl
  under_is (Some p) = go (entry p es)
    where
      go : (o : Option Entry) → option_map (λ (i : ItemView). i.id) (option_map (λ (e : Entry). e.item) o) ≡ option_map (λ (e : Entry). e.item.id) o
      go None = refl
      go (Some e) = refl

  seen_at : (k : ℕ) (e : Entry) → entry k es ≡ Some e → seen es k ≡ seen_by found (name_at es k)
  unfolding above
  seen_at k e q =
      let is : placed es e ≡ _ = placed_is es t k e q in
      ap₂ (λ (a : Option ItemView) (b : Option (List ℕ)). record { item = a; under = b })
      (ap (option_map (λ (d : Entry). d.item)) q)
      (ap (λ o. option_and_then (λ p. option_map (λ (i : ItemView). i.id) (item_at es p)) (option_and_then (λ (d : Entry). d.parent) o)) q ∙ under_is e.parent)
      ∙ sym (ap (λ o. record { item = option_map item_of o; under = option_and_then (λ (n : PlacedItem). n.parent) o }) (found_at k e q ∙ ap Some is))

  children_named : (k : ℕ) (e : Entry) → entry k es ≡ Some e → map (name_at es) (kids k es) ≡ children_of found (name_at es k)
  unfolding at
  children_named k e q = sym (ap (λ o. (unwrap_or o blank).children) (found_at k e q) ∙ ap (λ (n : PlacedItem). n.children) (placed_is es t k e q))

  walk_kids : (n : ℕ) (ks : List ℕ) → ((k : ℕ) → In k ks → map (seen es) (preorder es n k) ≡ walk found n (name_at es k)) → map (seen es) (flat_map (preorder es n) ks) ≡ flat_map (walk found n) (map (name_at es) ks)
  unfolding In
  walk_kids n [] each = refl
  walk_kids n (k ∷ ks) each = map-append (seen es) (preorder es n k) (flat_map (preorder es n) ks) ∙ ap₂ (λ a b. a ++ b) (each k (inl refl)) (walk_kids n ks (λ j i. each j (inr i)))

  walked : (n k : ℕ) (e : Entry) → entry k es ≡ Some e → map (seen es) (preorder es n k) ≡ walk found n (name_at es k)
  unfolding preorder walk
  walked zero k e q = refl
  walked (suc n) k e q =
      ap₂ (λ x xs. x ∷ xs) (seen_at k e q)
      (walk_kids n (kids k es) (λ j i. let d = kid_there es t k j i in walked n j d.0 d.1) ∙ ap (flat_map (walk found n)) (children_named k e q))

  seen_all : map (seen es) (nodes es) ≡ walk found (length es) places
  seen_all = walked (length es) 0 top_entry t.top ∙ ap (walk found (length es)) (named 0 top_entry t.top)

-- ---- trees that are the same have as many entries

length_placed : (x : List ℕ) (xs : List (List ℕ)) → length (put_in before x xs) ≡ suc (length xs)
length_placed x [] = refl
length_placed x (y ∷ ys) = go (before y x) (length_placed x ys)
  where
    go : (b : Bool) → length (put_in before x ys) ≡ suc (length ys) → length (cond b (y ∷ put_in before x ys) (x ∷ y ∷ ys)) ≡ suc (suc (length ys))
    go true h = ap suc h
    go false h = refl

length_by_id : (xs : List (List ℕ)) → length (by_id xs) ≡ length xs
length_by_id [] = refl
length_by_id (x ∷ xs) = length_placed x (by_id xs) ∙ ap suc (length_by_id xs)

pub same_many : (t u : List PlacedItem) → Apart (node_ids t) → Apart (node_ids u) → IsSame t u → length t ≡ length u
unfolding node_ids
same_many t u a b same =
    sym (length-map t (λ (n : PlacedItem). n.id)) ∙ sym (length_by_id (node_ids t))
    ∙ ap length (by_id_same (node_ids t) (node_ids u) a b (same_ids t u same))
    ∙ length_by_id (node_ids u) ∙ length-map u (λ (n : PlacedItem). n.id)

length_tree : (es : List Entry) → length (tree es) ≡ length es
unfolding tree
length_tree es = length-map es (placed es)

pub seen_once : (es fs : List Entry) → IsTree es → IsTree fs → IsSame (tree es) (tree fs) → map (seen es) (nodes es) ≡ map (seen fs) (nodes fs)
seen_once es fs t u same =
    let many : length es ≡ length fs = sym (length_tree es) ∙ same_many (tree es) (tree fs) (valid_tree es t).apart (valid_tree fs u).apart same ∙ length_tree fs in
    seen_all es t ∙ ap₂ (λ (f : Look) n. walk f n places) (λ i x. same x i) many ∙ sym (seen_all fs u)
