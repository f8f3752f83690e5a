-- The way by links is the preorder.
use Rattle.std.proofs.Common.{◌≡◌, ◌≢◌, ℕ, zero, suc, ◌-◌, ◌<◌, ◌≤◌, ◌==◌, List, [], ◌∷◌, ◌++◌, length, map, Bool, true}
use Rattle.std.proofs.Common.{false, cond, refl, sym, ap, subst, ◌∙◌, arith, inl, inr, Option, Some, None}
use Rattle.std.proofs.Common.{option_and_then, is_some, append_assoc, append-nil, length-append, nat_eq, ◌||◌}
use Rattle.std.specs.List.{flat_map, IsDistinct}
use Rattle.std.proofs.lemmas.Bool.{eq-eqb, ne_eqb, eqb-true}
use Rattle.std.specs.Set.{is_member}
use Rattle.std.specs.Cmp.{nat_eq_equiv}
use Rattle.std.proofs.lemmas.Map.Made.{length-le_from_is_member}
use Rattle.ss_list.specs.Chain.{times}
use Rattle.ss_list.proofs.Times.{times-here, times-append, at_head}
use Rattle.ss_tree.specs.declared.entries.Entry.{Entry}
use Rattle.ss_tree.specs.Trees.{steps}
use Rattle.ss_tree.specs.Entries.{entry, above, up, kids, first_of, next_after, preorder, IsTree, top_entry}
use Rattle.ss_tree.proofs.Changes.{live_steps}
use Rattle.ss_tree.proofs.Kept.{preorder_more}
use Rattle.ss_tree.proofs.Ways.{walk, length-walk, member_walk, all_apart, distinct_walk, live_member, length-nodes}
use Rattle.ss_tree.proofs.Ways.{up_some}
use Rattle.ss_tree.specs.Walks.{sibling, after, follower}
use Rattle.ss_tree.proofs.Kin.{kid_entry, kid_once}
use Rattle.std.proofs.lemmas.Option.{none-some}
use Rattle.ss_text.proofs.Basics.{some_same}

-- ---- where the way stands

-- k is d levels below the top, and once all below it is done, `rest` is left
abbrev pub Rest : List Entry → ℕ → ℕ → List ℕ → Type 0
Rest es zero k rest = (k ≡ 0) × (rest ≡ [])
Rest es (suc d) k rest = (p : ℕ) × (before : List ℕ) × (later : List ℕ) × (tail : List ℕ) × (kids p es ≡ before ++ k ∷ later) × Rest es d p tail × (rest ≡ flat_map (preorder es (length es - suc d)) later ++ tail)

-- what comes is the front of what is left
abbrev pub Follows : List Entry → Option ℕ → List ℕ → Type 0
Follows es None rest = rest ≡ []
Follows es (Some s) rest = (d : ℕ) × (more : List ℕ) × Rest es d s more × (rest ≡ preorder es (length es - d) s ++ more)

-- the nodes so far, and what comes, are the whole
abbrev pub Stands : List Entry → Option ℕ → List ℕ → Type 0
Stands es None nodes = nodes ≡ preorder es (length es) 0
Stands es (Some k) nodes = (d : ℕ) × (more : List ℕ) × Rest es d k more × (nodes ++ (preorder es (length es - d) k ++ more) ≡ preorder es (length es) 0)

-- the nodes so far, and the next one, are the front of a row
abbrev pub InRow : List Entry → ℕ → Option ℕ → List ℕ → Type 0
InRow es p None nodes = nodes ≡ kids p es
InRow es p (Some k) nodes = (later : List ℕ) × (nodes ++ k ∷ later ≡ kids p es)

pub row_start : (es : List Entry) (p : ℕ) → InRow es p (first_of (kids p es)) []
row_start es p = go (kids p es) refl
  where
    go : (ks : List ℕ) → kids p es ≡ ks → InRow es p (first_of ks) []
    go [] is = sym is
    go (k ∷ ks) is = (ks, sym is)

pub row_fewer : (es : List Entry) (p k : ℕ) (nodes : List ℕ) → InRow es p (Some k) nodes → length nodes < length (kids p es)
row_fewer es p k nodes r = let long : length (nodes ++ k ∷ r.0) ≡ length (kids p es) = ap length r.1 in omega (arith, length-append nodes (k ∷ r.0))

pub after_up : (es : List Entry) (n k p : ℕ) → sibling es k ≡ None → above es k ≡ Some p → after es (suc n) k ≡ after es n p
after_up es n k p none at = ap (λ o. cond (is_some o) o (option_and_then (after es n) (above es k))) none ∙ ap (option_and_then (after es n)) at

next_cut : (k : ℕ) (before later : List ℕ) → times k before ≡ 0 → next_after k (before ++ k ∷ later) ≡ first_of later
next_cut k [] later none = ap (λ b. cond b (first_of later) (next_after k later)) (eq-eqb k k refl)
next_cut k (j ∷ js) later none =
    elim (at_head k j js) [
      | inl same ↦ absurd (omega arith)
      | inr other ↦ ap (λ b. cond b (first_of (js ++ k ∷ later)) (next_after k (js ++ k ∷ later))) (ne_eqb k j other.0) ∙ next_cut k js later (omega arith)
    ]

module _ (es : List Entry) (t : IsTree es) where
  kid_there : (p k : ℕ) (before later : List ℕ) → kids p es ≡ before ++ k ∷ later → 0 < times k (kids p es)
  kid_there p k before later is = subst (λ ks. 0 < times k ks) (sym is) (omega (arith, times-append k before (k ∷ later), times-here k k later refl))

  pub above_is : (p k : ℕ) → 0 < times k (kids p es) → above es k ≡ Some p
  unfolding above
  above_is p k there = let r = kid_entry p k es t.nodes there in ap (option_and_then (λ e. e.parent)) r.1 ∙ r.2

  not_top : (p k : ℕ) → 0 < times k (kids p es) → k ≢ 0
  not_top p k there is = let r = kid_entry p k es t.nodes there in none-some _ (ap (λ e. e.parent) (some_same (sym t.top ∙ (ap (λ i. entry i es) (sym is) ∙ r.1))) ∙ r.2)

  deep : (d k : ℕ) (rest : List ℕ) → Rest es d k rest → (steps (up es) d k ≡ 0) × ((i : ℕ) → i < d → steps (up es) i k ≢ 0)
  unfolding steps
  deep zero k rest r = (r.0, λ i lt. absurd (omega arith))
  deep (suc d) k rest r =
      let there = kid_there r.0 k r.1 r.2 r.4 in
      let at : up es k ≡ r.0 = up_some es k r.0 (above_is r.0 k there) in
      let ih = deep d r.0 r.3 r.5 in
      (ap (steps (up es) d) at ∙ ih.0, λ i lt. sooner i lt there at ih.1)
    where
      sooner : (i : ℕ) → i < suc d → 0 < times k (kids r.0 es) → up es k ≡ r.0 → ((i : ℕ) → i < d → steps (up es) i r.0 ≢ 0) → steps (up es) i k ≢ 0
      sooner zero lt there at ih = not_top r.0 k there
      sooner (suc i) lt there at ih = λ e. ih i (omega arith) (ap (steps (up es) i) (sym at) ∙ e)

  rest_live : (d k : ℕ) (rest : List ℕ) → Rest es d k rest → (e : Entry) × (entry k es ≡ Some e)
  rest_live zero k rest r = (top_entry, ap (λ i. entry i es) r.0 ∙ t.top)
  rest_live (suc d) k rest r = let e = kid_entry r.0 k es t.nodes (kid_there r.0 k r.1 r.2 r.4) in (e.0, e.1)

  -- no way up is as long as there are entries
  pub strictly : (d k : ℕ) (e : Entry) → entry k es ≡ Some e → steps (up es) d k ≡ 0 → ((i : ℕ) → i < d → steps (up es) i k ≢ 0) → d < length es
  unfolding IsDistinct
  strictly d k e q ends sooner =
      let ks = walk (up es) d k in
      let no_zero : is_member nat_eq ks 0 ≡ false = none ks (is_member nat_eq ks 0) refl (λ h. let w = member_walk (up es) d k 0 h in sooner w.0 w.1 w.2) in
      let few : length (0 ∷ ks) ≤ length (map (λ e. e.node) es) =
      length-le_from_is_member nat_eq_equiv (0 ∷ ks) (map (λ e. e.node) es) (all_apart 0 ks no_zero, distinct_walk (up es) d k ends sooner)
      (λ z h. member z (z == 0) refl h (λ m. let w = member_walk (up es) d k z m in live_member z es (ap (λ i. is_some (entry i es)) (sym w.2) ∙ live_steps es t w.0 k (ap is_some q)))) in
      let a : length ks ≡ d = length-walk (up es) d k in
      let b : length (map (λ e. e.node) es) ≡ length es = length-nodes es in
      omega arith
    where
      none : (ks : List ℕ) (b : Bool) → is_member nat_eq ks 0 ≡ b → (is_member nat_eq ks 0 ≡ true → ⊥) → is_member nat_eq ks 0 ≡ false
      none ks true r h = absurd (h r)
      none ks false r h = r

      member : (z : ℕ) (b : Bool) → (z == 0) ≡ b → (b || is_member nat_eq (walk (up es) d k) z) ≡ true → (is_member nat_eq (walk (up es) d k) z ≡ true → is_member nat_eq (map (λ e. e.node) es) z ≡ true) → is_member nat_eq (map (λ e. e.node) es) z ≡ true
      member z true r h ih = live_member z es (ap (λ i. is_some (entry i es)) (eqb-true z 0 r) ∙ ap is_some t.top)
      member z false r h ih = ih h

  depth_below : (d k : ℕ) (rest : List ℕ) → Rest es d k rest → d < length es
  depth_below d k rest r = let way = deep d k rest r in let live = rest_live d k rest r in strictly d k live.0 live.1 way.0 way.1

  opened : (d k : ℕ) → d < length es → preorder es (length es - d) k ≡ k ∷ flat_map (preorder es (length es - suc d)) (kids k es)
  opened d k lt =
      let less : length es - d - 1 ≡ length es - suc d = omega arith in
      preorder_more es (length es - d) k (λ z. omega arith) ∙ ap (λ n. k ∷ flat_map (preorder es n) (kids k es)) less

  -- ---- up, and on

  top_alone : above es 0 ≡ None
  unfolding above
  top_alone = ap (option_and_then (λ e. e.parent)) t.top

  climbed : (d k : ℕ) (rest : List ℕ) (n : ℕ) → Rest es d k rest → d < n → Follows es (after es n k) rest
  climbed d k rest zero r lt = absurd (omega arith)
  climbed zero k rest (suc n) r lt =
      let none : above es k ≡ None = ap (above es) r.0 ∙ top_alone in
      subst (λ o. Follows es o rest) (sym (ap (λ o. cond (is_some (option_and_then (λ p. next_after k (kids p es)) o)) (option_and_then (λ p. next_after k (kids p es)) o) (option_and_then (after es n) o)) none)) r.1
  climbed (suc d) k rest (suc n) r lt =
      let p = r.0 in
      let there = kid_there p k r.1 r.2 r.4 in
      let one : times k (r.1 ++ k ∷ r.2) ≤ 1 = subst (λ ks. times k ks ≤ 1) r.4 (kid_once p es t.nodes k) in
      let next : next_after k (kids p es) ≡ first_of r.2 = ap (next_after k) r.4 ∙ next_cut k r.1 r.2 (omega (arith, times-append k r.1 (k ∷ r.2), times-here k k r.2 refl)) in
      let is : after es (suc n) k ≡ cond (is_some (first_of r.2)) (first_of r.2) (after es n p) =
      ap (λ o. cond (is_some (option_and_then (λ p. next_after k (kids p es)) o)) (option_and_then (λ p. next_after k (kids p es)) o) (option_and_then (after es n) o)) (above_is p k there)
      ∙ ap (λ o. cond (is_some o) o (after es n p)) next in
      subst (λ o. Follows es o rest) (sym is) (on r.2 r.4 r.6 (climbed d p r.3 n r.5 (omega arith)))
    where
      on : (later : List ℕ) → kids r.0 es ≡ r.1 ++ k ∷ later → rest ≡ flat_map (preorder es (length es - suc d)) later ++ r.3 → Follows es (after es n r.0) r.3 → Follows es (cond (is_some (first_of later)) (first_of later) (after es n r.0)) rest
      on [] at left ih = subst (λ l. Follows es (after es n r.0) l) (sym left) ih
      on (s ∷ ls) at left ih =
          (suc d, flat_map (preorder es (length es - suc d)) ls ++ r.3, (r.0, r.1 ++ k ∷ [], ls, r.3, at ∙ sym (append_assoc r.1 (k ∷ []) (s ∷ ls)), r.5, refl), left ∙ append_assoc (preorder es (length es - suc d) s) (flat_map (preorder es (length es - suc d)) ls) r.3)

  -- one node more
  pub onward : (k n : ℕ) (nodes : List ℕ) → length es ≤ n → Stands es (Some k) nodes → Stands es (follower es n k) (nodes ++ k ∷ [])
  onward k n nodes le s =
      let d = s.0 in
      let low = depth_below d k s.1 s.2 in
      let whole : nodes ++ ((k ∷ flat_map (preorder es (length es - suc d)) (kids k es)) ++ s.1) ≡ preorder es (length es) 0 = ap (λ ks. nodes ++ (ks ++ s.1)) (sym (opened d k low)) ∙ s.3 in
      down (kids k es) refl whole (climbed d k s.1 n s.2 (omega arith))
    where
      done : (o : Option ℕ) → Follows es o s.1 → (nodes ++ k ∷ []) ++ s.1 ≡ preorder es (length es) 0 → Stands es o (nodes ++ k ∷ [])
      done None f w = sym (append-nil (nodes ++ k ∷ [])) ∙ (ap (λ l. (nodes ++ k ∷ []) ++ l) (sym f) ∙ w)
      done (Some x) f w = (f.0, f.1, f.2, ap (λ l. (nodes ++ k ∷ []) ++ l) (sym f.3) ∙ w)

      down : (ks : List ℕ) → kids k es ≡ ks → nodes ++ ((k ∷ flat_map (preorder es (length es - suc s.0)) ks) ++ s.1) ≡ preorder es (length es) 0 → Follows es (after es n k) s.1 → Stands es (cond (is_some (first_of ks)) (first_of ks) (after es n k)) (nodes ++ k ∷ [])
      down [] is w f = done (after es n k) f (append_assoc nodes (k ∷ []) s.1 ∙ w)
      down (x ∷ xs) is w f = (
        suc s.0,
        flat_map (preorder es (length es - suc s.0)) xs ++ s.1,
        (k, [], xs, s.1, is, s.2, refl),
        append_assoc nodes (k ∷ []) (preorder es (length es - suc s.0) x ++ (flat_map (preorder es (length es - suc s.0)) xs ++ s.1))
            ∙ (ap (λ l. nodes ++ (k ∷ l)) (sym (append_assoc (preorder es (length es - suc s.0) x) (flat_map (preorder es (length es - suc s.0)) xs) s.1)) ∙ w),
      )

  -- ---- a row

  pub row_onward : (p k : ℕ) (nodes : List ℕ) → InRow es p (Some k) nodes → InRow es p (sibling es k) (nodes ++ k ∷ [])
  row_onward p k nodes r =
      let there = kid_there p k nodes r.0 (sym r.1) in
      let one : times k (nodes ++ k ∷ r.0) ≤ 1 = subst (λ ks. times k ks ≤ 1) (sym r.1) (kid_once p es t.nodes k) in
      let next : sibling es k ≡ first_of r.0 = ap (option_and_then (λ q. next_after k (kids q es))) (above_is p k there) ∙ (ap (next_after k) (sym r.1) ∙ next_cut k nodes r.0 (omega (arith, times-append k nodes (k ∷ r.0), times-here k k r.0 refl))) in
      subst (λ o. InRow es p o (nodes ++ k ∷ [])) (sym next) (on r.0 r.1)
    where
      on : (later : List ℕ) → nodes ++ k ∷ later ≡ kids p es → InRow es p (first_of later) (nodes ++ k ∷ [])
      on [] w = w
      on (s ∷ ls) w = (ls, append_assoc nodes (k ∷ []) (s ∷ ls) ∙ w)

  pub start : Stands es (Some 0) []
  start = (zero, [], (refl, refl), append-nil (preorder es (length es - 0) 0) ∙ (let same : length es - 0 ≡ length es = omega arith in ap (λ n. preorder es n 0) same))

  -- the nodes so far are fewer than all
  pub fewer : (k : ℕ) (nodes : List ℕ) → Stands es (Some k) nodes → length nodes < length (preorder es (length es) 0)
  fewer k nodes s =
      let low = depth_below s.0 k s.1 s.2 in
      let long : length (nodes ++ (preorder es (length es - s.0) k ++ s.1)) ≡ length (preorder es (length es) 0) = ap length s.3 in
      let one : length (preorder es (length es - s.0) k) ≡ length (k ∷ flat_map (preorder es (length es - suc s.0)) (kids k es)) = ap length (opened s.0 k low) in
      omega (arith, length-append nodes (preorder es (length es - s.0) k ++ s.1), length-append (preorder es (length es - s.0) k) s.1)
