-- Steps up, by ids and by nodes.
use Rattle.std.proofs.Common.{◌≡◌, ◌↔◌, ℕ, zero, suc, ◌==◌, List, [], Bool, true, false, ◌||◌, inl, inr, refl, sym, ap}
use Rattle.std.proofs.Common.{◌∙◌, Option, Some, None, option_map, option_and_then, unwrap_or, is_some, bytes_eq}
use Rattle.std.proofs.lemmas.Bool.{false≢true, eqb-true, or_cases, eq-eqb}
use Rattle.ss_record.specs.Ids.{has, places}
use Rattle.ss_tree.specs.declared.entries.Entry.{Entry}
use Rattle.ss_tree.specs.Trees.{PlacedItem, node_ids, parent_in, steps}
use Rattle.ss_tree.specs.Entries.{above, ancestor, entry, is_below, node_of, top_entry, tree, up, IsBelow, IsTree}
use Rattle.ss_tree.proofs.Changes.{live_steps}
use Rattle.ss_tree.proofs.Ways.{below_is, stays}
use Rattle.ss_device.specs.Edits.{is_met, is_within}
use Rattle.ss_device.proofs.ByIds.{name_at, idof, same_node}
use Rattle.ss_device.proofs.Changes.{above_there}
use Rattle.ss_device.proofs.Known.{has_is_node}
use Rattle.ss_device.proofs.Refused.{at_there, step_in, there, top_is, within_node}
use Rattle.ss_tree.proofs.Looked.{live_entry}
use Rattle.ss_text.proofs.Basics.{same_text, bytes_eq-same}

met_steps : (t : List PlacedItem) (n : ℕ) (x y : List ℕ) → is_met t n x y ≡ true → (k : ℕ) × (steps (parent_in t) k y ≡ x)
unfolding steps
met_steps t zero x y h = (0, same_text y x h)
met_steps t (suc n) x y h = elim (or_cases (bytes_eq y x) (is_met t n x (parent_in t y)) h) [
  | inl a ↦ (0, same_text y x a)
  | inr b ↦ let r = met_steps t n x (parent_in t y) b in (suc r.0, r.1)
]

steps_below : (es : List Entry) → IsTree es → (n p j : ℕ) → steps (up es) (suc n) p ≡ j → (j == 0) ≡ false → IsBelow es j p
unfolding steps up
steps_below es t zero p j h inner = go (above es p) refl h
  where
    go : (o : Option ℕ) → above es p ≡ o → unwrap_or o 0 ≡ j → IsBelow es j p
    go None q r = absurd (false≢true (sym inner ∙ eq-eqb j 0 (sym r)))
    go (Some r) q w = (0, q ∙ ap Some w)
steps_below es t (suc n) p j h inner = go (above es p) refl h (λ r w. steps_below es t n r j w inner)
  where
    go : (o : Option ℕ) → above es p ≡ o → steps (up es) (suc n) (unwrap_or o 0) ≡ j → ((r : ℕ) → steps (up es) (suc n) r ≡ j → IsBelow es j r) → IsBelow es j p
    go None q r ih = absurd (false≢true (sym inner ∙ eq-eqb j 0 (sym r ∙ stays es t (suc n))))
    go (Some r) q w ih = let b = ih r w in (suc b.0, ap (option_and_then (ancestor es b.0)) q ∙ b.1)

module _ (es : List Entry) (t : IsTree es) where
  name_is : (k : ℕ) (e : Entry) → entry k es ≡ Some e → name_at es k ≡ e.item.id
  name_is k e q = ap (λ o. unwrap_or (option_map (λ (w : Entry). w.item.id) o) []) q

  module _ (x : List ℕ) (kx : ℕ) (at : node_of x es ≡ Some kx) (inner : (kx == 0) ≡ false) where
    names_up : (k p : ℕ) (f : Entry) → entry p es ≡ Some f → steps (parent_in (tree es)) k f.item.id ≡ name_at es (steps (up es) k p)
    unfolding steps up above
    names_up zero p f q = sym (name_is p f q)
    names_up (suc k) p f q =
        ap (steps (parent_in (tree es)) k) (step_in es t x kx at inner p f q)
        ∙ (go f.parent refl (λ r g w. names_up k r g w) ∙ sym (ap (λ o. name_at es (steps (up es) k (unwrap_or (option_and_then (λ (e : Entry). e.parent) o) 0))) q))
      where
        go : (o : Option ℕ) → f.parent ≡ o → ((r : ℕ) (g : Entry) → entry r es ≡ Some g → steps (parent_in (tree es)) k g.item.id ≡ name_at es (steps (up es) k r))
            → steps (parent_in (tree es)) k (unwrap_or (option_and_then (idof es) f.parent) places) ≡ name_at es (steps (up es) k (unwrap_or f.parent 0))
        go None h ih = ap (λ o. steps (parent_in (tree es)) k (unwrap_or (option_and_then (idof es) o) places)) h ∙ (ih 0 top_entry t.top ∙ sym (ap (λ o. name_at es (steps (up es) k (unwrap_or o 0))) h))
        go (Some r) h ih =
            let g = above_there es t p r f q h in
            ap (λ o. steps (parent_in (tree es)) k (unwrap_or (option_and_then (idof es) o) places)) h
            ∙ (ap (λ o. steps (parent_in (tree es)) k (unwrap_or (option_map (λ (w : Entry). w.item.id) o) places)) g.1 ∙ (ih r g.0 g.1 ∙ sym (ap (λ o. name_at es (steps (up es) k (unwrap_or o 0))) h)))

    steps_within : (p : ℕ) (f : Entry) → entry p es ≡ Some f → (k : ℕ) → steps (parent_in (tree es)) k f.item.id ≡ x → is_within (tree es) x f.item.id ≡ true
    unfolding steps
    steps_within p f q k h =
        let d = there es t x kx at in
        let live = live_steps es t k p (ap is_some q) in
        let e = live_entry es (steps (up es) k p) live in
        let name : e.0.item.id ≡ d.0.item.id = sym (name_is (steps (up es) k p) e.0 e.1) ∙ (sym (names_up k p f q) ∙ (h ∙ sym d.2)) in
        let node_is : steps (up es) k p ≡ kx = eqb-true (steps (up es) k p) kx (sym (same_node es t (steps (up es) k p) kx e.0 d.0 e.1 d.1) ∙ bytes_eq-same e.0.item.id d.0.item.id name) in
        within_node es t x kx at inner p f q ∙ cases k node_is
      where
        some_below : (b : Bool) → is_below es kx p ≡ true → (b || is_below es kx p) ≡ true
        some_below true w = refl
        some_below false w = w

        cases : (k : ℕ) → steps (up es) k p ≡ kx → ((kx == p) || is_below es kx p) ≡ true
        cases zero w = ap (λ b. b || is_below es kx p) (eq-eqb kx p (sym w))
        cases (suc n) w = some_below (kx == p) ((below_is es t kx p).1 (steps_below es t n p kx w inner))

pub within_steps : (es : List Entry) → IsTree es → (x y : List ℕ) → has x (node_ids (tree es)) ≡ true → bytes_eq x places ≡ false → has y (node_ids (tree es)) ≡ true
    → (is_within (tree es) x y ≡ true) ↔ ((k : ℕ) × (steps (parent_in (tree es)) k y ≡ x))
unfolding is_within
within_steps es t x y hx inner hy =
    let kx = at_there es x (sym (has_is_node x (tree es)) ∙ hx) in
    let ky = at_there es y (sym (has_is_node y (tree es)) ∙ hy) in
    let d = there es t y ky.0 ky.1 in
    let loose = sym (top_is es t x kx.0 kx.1) ∙ inner in
    (λ h. met_steps (tree es) _ x y h, λ r. ap (is_within (tree es) x) (sym d.2) ∙ steps_within es t x kx.0 kx.1 loose ky.0 d.0 d.1 r.0 (ap (steps (parent_in (tree es)) r.0) d.2 ∙ r.1))
