-- A listing of entries: the top, and rows of nodes under each node.
use Rattle.std.proofs.Common.{◌≡◌, ◌≢◌, ℕ, zero, suc, ◌<◌, ◌≤◌, List, [], ◌∷◌, ◌++◌, map, Bool, true, false, cond, ◌||◌}
use Rattle.std.proofs.Common.{refl, sym, ap, ap₂, subst, ◌∙◌, arith, inl, inr, Some, None, append-nil, bytes_eq}
use Rattle.std.specs.List.{flat_map}
use Rattle.std.proofs.lemmas.Bool.{false≢true, cases_lt, eq-eqb, ne_eqb}
use Rattle.ss_record.specs.Ids.{has, Apart}
use Rattle.ss_record.proofs.IdLists.{has-nil, has-cons}
use Rattle.ss_list.specs.Chain.{times}
use Rattle.ss_list.proofs.Times.{times-here, times-append, at_head, below-head}
use Rattle.ss_tree.specs.declared.entries.Entry.{Entry}
use Rattle.ss_tree.specs.Entries.{entry, stands_under, kids, entry_ids, NodesApart}
use Rattle.ss_tree.proofs.Edits.{entry-cons, entry-nil, kids-cons, kids-nil}
use Rattle.ss_tree.specs.Cells.{down}
use Rattle.ss_tree.proofs.Kin.{under_is}
use Rattle.ss_text.proofs.Basics.{same_text}

pub absent : (x : ℕ) (ks : List ℕ) → (0 < times x ks → ⊥) → times x ks ≡ 0
absent x ks h = elim (cases_lt 0 (times x ks)) [ inl there ↦ absurd (h there) | inr none ↦ omega arith ]

pub nobody : (ks : List ℕ) → ((x : ℕ) → 0 < times x ks → ⊥) → ks ≡ []
nobody [] h = refl
nobody (k ∷ ks) h = absurd (h k (omega (arith, times-here k k ks refl)))

module _ (ent : ℕ → Entry) (at : (k : ℕ) → (ent k).node ≡ k) where
  pub entry_there : (j : ℕ) (ks : List ℕ) → 0 < times j ks → entry j (map ent ks) ≡ Some (ent j)
  entry_there j [] there = absurd (omega arith)
  entry_there j (k ∷ ks) there =
      entry-cons j (ent k) (map ent ks) ∙ elim (at_head j k ks) [
        | inl same ↦ ap (λ b. cond b (Some (ent k)) (entry j (map ent ks))) (eq-eqb j (ent k).node (same.0 ∙ sym (at k))) ∙ ap (λ i. Some (ent i)) (sym same.0)
        | inr other ↦ ap (λ b. cond b (Some (ent k)) (entry j (map ent ks))) (ne_eqb j (ent k).node (λ e. other.0 (e ∙ at k))) ∙ entry_there j ks (omega arith)
      ]

  pub entry_absent : (j : ℕ) (ks : List ℕ) → times j ks ≡ 0 → entry j (map ent ks) ≡ None
  entry_absent j [] none = entry-nil j
  entry_absent j (k ∷ ks) none =
      entry-cons j (ent k) (map ent ks) ∙ elim (at_head j k ks) [
        | inl same ↦ absurd (omega arith)
        | inr other ↦ ap (λ b. cond b (Some (ent k)) (entry j (map ent ks))) (ne_eqb j (ent k).node (λ e. other.0 (e ∙ at k))) ∙ entry_absent j ks (omega arith)
      ]

  pub nodes_apart : (ks : List ℕ) → ((p : ℕ) → times p ks ≤ 1) → NodesApart (map ent ks)
  unfolding NodesApart
  nodes_apart [] once = tt
  nodes_apart (k ∷ ks) once =
      let one = once k in
      let gone : times k ks ≡ 0 = omega (arith, times-here k k ks refl) in
      (entry_absent (ent k).node ks (ap (λ i. times i ks) (at k) ∙ gone), nodes_apart ks (λ p. let o = once p in omega (arith, below-head p k ks)))

  id_found : (x : List ℕ) (ks : List ℕ) → has x (entry_ids (map ent ks)) ≡ true → (j : ℕ) × (0 < times j ks) × ((ent j).item.id ≡ x)
  unfolding entry_ids
  id_found x [] h = absurd (false≢true (sym (has-nil x) ∙ h))
  id_found x (k ∷ ks) h = go (bytes_eq x (ent k).item.id) refl (sym (has-cons x (ent k).item.id (map (λ e. e.item.id) (map ent ks))) ∙ h) (id_found x ks)
    where
      go : (b : Bool) → bytes_eq x (ent k).item.id ≡ b → (b || has x (entry_ids (map ent ks))) ≡ true → (has x (entry_ids (map ent ks)) ≡ true → (j : ℕ) × (0 < times j ks) × ((ent j).item.id ≡ x)) → (j : ℕ) × (0 < times j (k ∷ ks)) × ((ent j).item.id ≡ x)
      go true c w ih = (k, omega (arith, times-here k k ks refl), sym (same_text x (ent k).item.id c))
      go false c w ih = let r = ih w in (r.0, omega (arith, below-head r.0 k ks), r.2)

  -- where no two of the places have one id, the ids are apart
  pub ids_apart : (ks : List ℕ) → ((p : ℕ) → times p ks ≤ 1) → ((i j : ℕ) → 0 < times i ks → 0 < times j ks → (ent i).item.id ≡ (ent j).item.id → i ≡ j) → Apart (entry_ids (map ent ks))
  unfolding entry_ids Apart
  ids_apart [] once own = tt
  ids_apart (k ∷ ks) once own =
      (go (has (ent k).item.id (entry_ids (map ent ks))) refl, ids_apart ks (λ p. let o = once p in omega (arith, below-head p k ks)) (λ i j h t. own i j (omega (arith, below-head i k ks)) (omega (arith, below-head j k ks))))
    where
      go : (b : Bool) → has (ent k).item.id (entry_ids (map ent ks)) ≡ b → b ≡ false
      go false e = refl
      go true e =
          let r = id_found (ent k).item.id ks e in
          let one = once k in
          let same : r.0 ≡ k = own r.0 k (omega (arith, below-head r.0 k ks)) (omega (arith, times-here k k ks refl)) r.2 in
          let there : 0 < times k ks = subst (λ i. 0 < times i ks) same r.1 in
          absurd (omega (arith, times-here k k ks refl))

  pub kids_all : (j : ℕ) (ks : List ℕ) → ((x : ℕ) → 0 < times x ks → stands_under j (ent x) ≡ true) → kids j (map ent ks) ≡ ks
  kids_all j [] all = kids-nil j
  kids_all j (k ∷ ks) all =
      kids-cons j (ent k) (map ent ks)
      ∙ (ap (λ b. cond b ((ent k).node ∷ kids j (map ent ks)) (kids j (map ent ks))) (all k (omega (arith, times-here k k ks refl)))
      ∙ ap₂ (λ x xs. x ∷ xs) (at k) (kids_all j ks (λ x t. all x (omega (arith, below-head x k ks)))))

  pub kids_none : (j : ℕ) (ks : List ℕ) → ((x : ℕ) → 0 < times x ks → stands_under j (ent x) ≡ false) → kids j (map ent ks) ≡ []
  kids_none j [] all = kids-nil j
  kids_none j (k ∷ ks) all =
      kids-cons j (ent k) (map ent ks)
      ∙ (ap (λ b. cond b ((ent k).node ∷ kids j (map ent ks)) (kids j (map ent ks))) (all k (omega (arith, times-here k k ks refl)))
      ∙ kids_none j ks (λ x t. all x (omega (arith, below-head x k ks))))

  kids_append : (j : ℕ) (xs ys : List ℕ) → kids j (map ent (xs ++ ys)) ≡ kids j (map ent xs) ++ kids j (map ent ys)
  kids_append j [] ys = ap (λ r. r ++ kids j (map ent ys)) (sym (kids-nil j))
  kids_append j (k ∷ ks) ys =
      kids-cons j (ent k) (map ent (ks ++ ys))
      ∙ (ap (λ r. cond (stands_under j (ent k)) ((ent k).node ∷ r) r) (kids_append j ks ys)
      ∙ (push (stands_under j (ent k)) (kids j (map ent ks)) ∙ ap (λ r. r ++ kids j (map ent ys)) (sym (kids-cons j (ent k) (map ent ks)))))
    where
      push : (b : Bool) (ms : List ℕ) → cond b ((ent k).node ∷ (ms ++ kids j (map ent ys))) (ms ++ kids j (map ent ys)) ≡ cond b ((ent k).node ∷ ms) ms ++ kids j (map ent ys)
      push true ms = refl
      push false ms = refl

  -- ---- rows, whose nodes stand under the row's place

  module _ (rows : ℕ → List ℕ) (placed_in : (p x : ℕ) → 0 < times x (rows p) → (ent x).parent ≡ Some p) where
    other_row : (j p : ℕ) → j ≢ p → kids j (map ent (rows p)) ≡ []
    other_row j p ne = kids_none j (rows p) (λ x t. under_is j p (ent x) (placed_in p x t) ∙ ne_eqb j p ne)

    own_row : (j p : ℕ) → j ≡ p → kids j (map ent (rows p)) ≡ rows p
    own_row j p is = kids_all j (rows p) (λ x t. under_is j p (ent x) (placed_in p x t) ∙ eq-eqb j p is)

    pub kids_past : (j n : ℕ) → n ≤ j → kids j (map ent (flat_map rows (down n))) ≡ []
    kids_past j zero le = kids-nil j
    kids_past j (suc n) le =
        kids_append j (rows n) (flat_map rows (down n)) ∙ ap₂ (λ xs ys. xs ++ ys) (other_row j n (λ e. omega arith)) (kids_past j n (omega arith))

    pub kids_row : (j n : ℕ) → j < n → kids j (map ent (flat_map rows (down n))) ≡ rows j
    kids_row j zero lt = absurd (omega arith)
    kids_row j (suc n) lt =
        kids_append j (rows n) (flat_map rows (down n)) ∙ elim (cases_lt j n) [
          | inl less ↦ ap₂ (λ xs ys. xs ++ ys) (other_row j n (λ e. omega arith)) (kids_row j n less)
          | inr more ↦
              let is : j ≡ n = omega arith in
              ap₂ (λ xs ys. xs ++ ys) (own_row j n is) (kids_past j n more) ∙ (append-nil (rows n) ∙ ap rows (sym is))
        ]

module _ (rows : ℕ → List ℕ) where
  pub row_there : (x p n : ℕ) → p < n → 0 < times x (rows p) → 0 < times x (flat_map rows (down n))
  row_there x p zero lt there = absurd (omega arith)
  row_there x p (suc n) lt there =
      elim (cases_lt p n) [
        | inl less ↦ let t = row_there x p n less there in omega (arith, times-append x (rows n) (flat_map rows (down n)))
        | inr more ↦
            let is : p ≡ n = omega arith in
            let t : 0 < times x (rows n) = subst (λ i. 0 < times x (rows i)) is there in
            omega (arith, times-append x (rows n) (flat_map rows (down n)))
      ]

  pub row_found : (x n : ℕ) → 0 < times x (flat_map rows (down n)) → (p : ℕ) × (p < n) × (0 < times x (rows p))
  row_found x zero there = absurd (omega arith)
  row_found x (suc n) there =
      elim (cases_lt 0 (times x (rows n))) [
        | inl here ↦ (n, omega arith, here)
        | inr none ↦ let r = row_found x n (omega (arith, times-append x (rows n) (flat_map rows (down n)))) in (r.0, omega (arith, r.1), r.2)
      ]

  pub rows_once : (x n : ℕ) → ((p : ℕ) → times x (rows p) ≤ 1) → ((p q : ℕ) → 0 < times x (rows p) → 0 < times x (rows q) → p ≡ q) → times x (flat_map rows (down n)) ≤ 1
  rows_once x zero once apart = omega arith
  rows_once x (suc n) once apart =
      let here = once n in
      elim (cases_lt 0 (times x (rows n))) [
        | inl there ↦
            let none = absent x (flat_map rows (down n)) (λ t. let r = row_found x n t in let is : r.0 ≡ n = apart r.0 n r.2 there in let lt : r.0 < n = r.1 in omega arith) in
            omega (arith, times-append x (rows n) (flat_map rows (down n)))
        | inr none ↦ let rest = rows_once x n once apart in omega (arith, times-append x (rows n) (flat_map rows (down n)))
      ]
