-- What a contract sees of nodes that lie soundly.
use Rattle.std.proofs.Common.{◌≡◌, ◌≢◌, ℕ, suc, ◌+◌, ◌-◌, ◌<◌, ◌≤◌, List, [], ◌∷◌, ◌++◌, length, reverse, get_or, cond}
use Rattle.std.proofs.Common.{eqb, Option, Some, None, IsSome, refl, sym, ap, subst, ◌∙◌, inl, inr, arith}
use Rattle.std.proofs.lemmas.Bool.{cases_lt, eq-eqb, ne_eqb}
use Rattle.std.proofs.lemmas.List.{get_or-reverse, length-reverse}
use Rattle.std.proofs.lemmas.Option.{slice_get-get_or}
use Rattle.std.specs.Map.{keys_of, lookup, lookup_entry, remove_entry, set_value}
use Rattle.ss_list.specs.Chain.{times, first_of, last_of}
use Rattle.ss_list.specs.Links.{Runs, nodes_of}
use Rattle.ss_list.specs.declared.node.TheConstants.{END}
use Rattle.ss_list.proofs.Times.{times-here, at_head, below-head, apart}

pub value_in : {T : Type 0} (o : Option T) → IsSome o → (v : T) × (o ≡ Some v)
value_in None some = absurd (cc)
value_in (Some v) some = (v, refl)

-- ---- the nodes at some places

module _ {T : Type 0} (value : ℕ → Option T) where
  pub nodes_of-cons : (p : ℕ) (v : T) (ps : List ℕ) → value p ≡ Some v → nodes_of value (p ∷ ps) ≡ (p, v) ∷ nodes_of value ps
  nodes_of-cons p v ps found = rw found refl

  -- each of these places has a value
  abbrev pub AreFilled : List ℕ → Type 0
  AreFilled ps = (p : ℕ) → 0 < times p ps → IsSome (value p)

  head_in : (p : ℕ) (ps : List ℕ) → AreFilled (p ∷ ps) → (v : T) × (value p ≡ Some v)
  head_in p ps filled = value_in (value p) (filled p (omega (arith, times-here p p ps refl)))

  rest_filled : (p : ℕ) (ps : List ℕ) → AreFilled (p ∷ ps) → AreFilled ps
  rest_filled p ps filled q there = filled q (omega (arith, below-head q p ps))

  pub keys-nodes_of : (ps : List ℕ) → AreFilled ps → keys_of (nodes_of value ps) ≡ ps
  keys-nodes_of [] filled = refl
  keys-nodes_of (p ∷ ps) filled =
      let v = head_in p ps filled in
      rw (nodes_of-cons p v.0 ps v.1) (ap (λ qs. p ∷ qs) (keys-nodes_of ps (rest_filled p ps filled)))

  pub length-nodes_of : (ps : List ℕ) → AreFilled ps → length (nodes_of value ps) ≡ length ps
  length-nodes_of [] filled = refl
  length-nodes_of (p ∷ ps) filled =
      let v = head_in p ps filled in
      rw (nodes_of-cons p v.0 ps v.1) (ap suc (length-nodes_of ps (rest_filled p ps filled)))

  pub nodes_of-append : (ps qs : List ℕ) → AreFilled ps → nodes_of value (ps ++ qs) ≡ nodes_of value ps ++ nodes_of value qs
  nodes_of-append [] qs filled = refl
  nodes_of-append (p ∷ ps) qs filled =
      let v = head_in p ps filled in
      rw (nodes_of-cons p v.0 (ps ++ qs) v.1, nodes_of-cons p v.0 ps v.1) (ap (λ rest. (p, v.0) ∷ rest) (nodes_of-append ps qs (rest_filled p ps filled)))

  pub lookup-there : (p : ℕ) (ps : List ℕ) → AreFilled ps → 0 < times p ps → lookup (eqb p) (nodes_of value ps) ≡ value p
  lookup-there p [] filled there = absurd (omega arith)
  lookup-there p (q ∷ qs) filled there =
      let v = head_in q qs filled in
      elim (at_head p q qs) [
        | inl same ↦ rw (nodes_of-cons q v.0 qs v.1, eq-eqb p q same.0) (sym v.1 ∙ ap value (sym same.0))
        | inr other ↦ rw (nodes_of-cons q v.0 qs v.1, ne_eqb p q other.0) (lookup-there p qs (rest_filled q qs filled) (omega arith))
      ]

  pub lookup-absent : (p : ℕ) (ps : List ℕ) → AreFilled ps → times p ps ≡ 0 → lookup (eqb p) (nodes_of value ps) ≡ None
  lookup-absent p [] filled absent = refl
  lookup-absent p (q ∷ qs) filled absent =
      let v = head_in q qs filled in
      elim (at_head p q qs) [
        | inl same ↦ absurd (omega arith)
        | inr other ↦ rw (nodes_of-cons q v.0 qs v.1, ne_eqb p q other.0) (lookup-absent p qs (rest_filled q qs filled) (omega arith))
      ]

  -- where the look-up finds a value, the place is there
  pub there_from_lookup : (p : ℕ) (ps : List ℕ) → AreFilled ps → IsSome (lookup (eqb p) (nodes_of value ps)) → 0 < times p ps
  there_from_lookup p ps filled found =
      elim (cases_lt 0 (times p ps)) [
        | inl there ↦ there
        | inr none ↦ let nothing = rw (lookup-absent p ps filled (omega arith)) at found in absurd (cc)
      ]

  pub remove_entry-nodes_of : (xs : List ℕ) (x : ℕ) (ys : List ℕ) → AreFilled (xs ++ x ∷ ys) → times x xs ≡ 0 → remove_entry (eqb x) (nodes_of value (xs ++ x ∷ ys)) ≡ nodes_of value (xs ++ ys)
  remove_entry-nodes_of [] x ys filled absent =
      let v = head_in x ys filled in
      rw (nodes_of-cons x v.0 ys v.1, eq-eqb x x refl)
  remove_entry-nodes_of (q ∷ qs) x ys filled absent =
      let v = head_in q (qs ++ x ∷ ys) filled in
      elim (at_head x q qs) [
        | inl same ↦ absurd (omega arith)
        | inr other ↦
            rw (nodes_of-cons q v.0 (qs ++ x ∷ ys) v.1, nodes_of-cons q v.0 (qs ++ ys) v.1, ne_eqb x q other.0)
            (ap (λ rest. (q, v.0) ∷ rest) (remove_entry-nodes_of qs x ys (rest_filled q (qs ++ x ∷ ys) filled) (omega arith)))
      ]

  pub lookup_entry-nodes_of : (v : T) (xs : List ℕ) (x : ℕ) (ys : List ℕ) → AreFilled (xs ++ x ∷ ys) → times x xs ≡ 0 → value x ≡ Some v → lookup_entry (eqb x) (nodes_of value (xs ++ x ∷ ys)) ≡ Some (x, v)
  lookup_entry-nodes_of v [] x ys filled absent found =
      rw (nodes_of-cons x v ys found, eq-eqb x x refl)
  lookup_entry-nodes_of v (q ∷ qs) x ys filled absent found =
      let first = head_in q (qs ++ x ∷ ys) filled in
      elim (at_head x q qs) [
        | inl same ↦ absurd (omega arith)
        | inr other ↦
            rw (nodes_of-cons q first.0 (qs ++ x ∷ ys) first.1, ne_eqb x q other.0)
            (lookup_entry-nodes_of v qs x ys (rest_filled q (qs ++ x ∷ ys) filled) (omega arith) found)
      ]

-- ---- the same places with other values

module _ {T : Type 0} (value new : ℕ → Option T) where
  pub nodes_of-same : (ps : List ℕ) → AreFilled value ps → ((p : ℕ) → 0 < times p ps → new p ≡ value p) → nodes_of new ps ≡ nodes_of value ps
  nodes_of-same [] filled same = refl
  nodes_of-same (p ∷ ps) filled same =
      let v = head_in value p ps filled in
      let here = same p (omega (arith, times-here p p ps refl)) ∙ v.1 in
      rw (nodes_of-cons value p v.0 ps v.1, nodes_of-cons new p v.0 ps here)
      (ap (λ rest. (p, v.0) ∷ rest) (nodes_of-same ps (rest_filled value p ps filled) (λ q there. same q (omega (arith, below-head q p ps)))))

  pub set_value-nodes_of : (x : ℕ) (w : T) (ps : List ℕ) → AreFilled value ps → ((p : ℕ) → times p ps ≤ 1) → new x ≡ Some w → ((p : ℕ) → p ≢ x → new p ≡ value p) → nodes_of new ps ≡ set_value (eqb x) (nodes_of value ps) w
  set_value-nodes_of x w [] filled once here others = refl
  set_value-nodes_of x w (q ∷ qs) filled once here others =
      let v = head_in value q qs filled in
      let rest = rest_filled value q qs filled in
      let single = once x in
      elim (at_head x q qs) [
        | inl same ↦
            let at_q : new q ≡ Some w = subst (λ p. new p ≡ Some w) same.0 here in
            rw (nodes_of-cons value q v.0 qs v.1, nodes_of-cons new q w qs at_q, eq-eqb x q same.0)
            (ap (λ rs. (q, w) ∷ rs) (nodes_of-same qs rest (λ p there. others p (apart p x qs there (omega arith)))))
        | inr other ↦
            let at_q = others q (λ same. other.0 (sym same)) ∙ v.1 in
            rw (nodes_of-cons value q v.0 qs v.1, nodes_of-cons new q v.0 qs at_q, ne_eqb x q other.0)
            (ap (λ rs. (q, v.0) ∷ rs) (set_value-nodes_of x w qs rest (λ p. let most = once p in omega (arith, below-head p q qs)) here others))
      ]

-- ---- the ends

-- the first of the places that one runs through, where the end is none of them
pub first-runs : (f : ℕ → ℕ) (p : ℕ) (ps : List ℕ) → Runs f p ps END → times END ps ≡ 0 → cond (eqb p END) None (Some p) ≡ first_of ps
first-runs f p [] runs apart_end = rw (eq-eqb p END runs)
first-runs f p (q ∷ qs) runs apart_end =
    let not_end : q ≢ END = apart q END (q ∷ qs) (omega (arith, times-here q q qs refl)) apart_end in
    rw (runs.0, ne_eqb q END not_end)

pub first_of-reverse : (ps : List ℕ) → first_of (reverse ps) ≡ last_of ps
first_of-reverse [] = refl
first_of-reverse (p ∷ ps) =
    let long : length (reverse (p ∷ ps)) ≡ length (p ∷ ps) = length-reverse (p ∷ ps) in
    let n : length (p ∷ ps) ≡ length ps + 1 = omega arith in
    slice_get-get_or (reverse (p ∷ ps)) 0 p (omega arith)
    ∙ ap Some (get_or-reverse (p ∷ ps) 0 p (omega arith) ∙ ap (λ k. get_or (p ∷ ps) k p) (omega arith))
    ∙ sym (slice_get-get_or (p ∷ ps) (length (p ∷ ps) - 1) p (omega arith))
