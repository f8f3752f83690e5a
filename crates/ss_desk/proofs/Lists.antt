-- Lists that are read by `get_elem?`, sums over views, and the entries of one pass.
use Rattle.std.proofs.Common.{◌≡◌, ◌≢◌, ◌⊎◌, ℕ, zero, suc, ◌+◌, ◌<◌, ◌≤◌, cond, eq-eqb, ne_eqb, List, [], ◌∷◌, ◌++◌}
use Rattle.std.proofs.Common.{length, set, sym, refl, ap, ◌∙◌, subst, inl, inr, append_assoc, get_or, length-append}
use Rattle.std.proofs.Common.{arith}
use mathlib.Core.Option.{some, some-injective, some-ne-none}
use mathlib.Core.Logic.{dite}
use native.Mathlib.Decide.{ℕ_discrete}
use lib.ListN.{get_elem?}
use Rattle.atomic_table.proofs.Lists.{set_else, at_set, set_again}
use Rattle.ss_desk.specs.declared.view.Range.{Range}
use Rattle.ss_desk.specs.Journal.{entries_of, Begins, Below, Rises}
use Rattle.ss_desk.specs.Views.{Among}
use Rattle.ss_desk.specs.Rule.{total}

module _ {V : Type 0} where
  pub one_at : (l : List V) (i : ℕ) (a b : V) → get_elem? l i ≡ some a → get_elem? l i ≡ some b → a ≡ b
  one_at l i a b p q = some-injective a b (sym p ∙ q)

  pub at_length : (l : List V) (i : ℕ) (a : V) → get_elem? l i ≡ some a → i < length l
  at_length [] i a e = absurd (some-ne-none a (sym e))
  at_length (x ∷ xs) zero a e = omega arith
  at_length (x ∷ xs) (suc i) a e = omega (arith, at_length xs i a e)

  pub set_at : (l : List V) (i : ℕ) (a b : V) → get_elem? l i ≡ some a → get_elem? (set l i b) i ≡ some b
  set_at [] i a b e = absurd (some-ne-none a (sym e))
  set_at (x ∷ xs) zero a b e = refl
  set_at (x ∷ xs) (suc i) a b e = set_at xs i a b e

  pub set_apart : (l : List V) (i j : ℕ) (a b : V) → j ≢ i → get_elem? l j ≡ some a → get_elem? (set l i b) j ≡ some a
  set_apart l i j a b ne e = set_else l i j b ne ∙ e

  -- what stands at a place after a change at another, or of nothing
  pub same_there : (l : List V) (i j : ℕ) (a b : V) → get_elem? l i ≡ some a → get_elem? l j ≡ some b → get_elem? (set l i a) j ≡ some b
  same_there l i j a b p q = subst (λ (m : List V). get_elem? m j ≡ some b) (sym (set_again l i a p)) q

  pub at_end : (l : List V) (a b : V) (j : ℕ) → get_elem? (l ++ a ∷ []) j ≡ some b → (get_elem? l j ≡ some b) ⊎ ((j ≡ length l) × (a ≡ b))
  at_end [] a b zero e = inr (refl, some-injective a b e)
  at_end [] a b (suc j) e = absurd (some-ne-none b (sym e))
  at_end (x ∷ xs) a b zero e = inl e
  at_end (x ∷ xs) a b (suc j) e = elim (at_end xs a b j e) [ inl h ↦ inl h | inr h ↦ inr (ap suc h.0, h.1) ]

  pub after : (P : ℕ → V → Type 0) (l : List V) (i : ℕ) (w : V) → P i w → ((j : ℕ) (u : V) → j ≢ i → get_elem? l j ≡ some u → P j u)
      → (j : ℕ) (u : V) → get_elem? (set l i w) j ≡ some u → P j u
  after P l i w here there j u e = elim (at_set l i j w u e) [
    | inl h ↦ subst (λ (k : ℕ). P k u) (sym h.0) (subst (P i) h.1 here)
    | inr h ↦ there j u h.0 h.1
  ]

  module _ (f : V → ℕ) where
    pub total_set : (l : List V) (i : ℕ) (v w : V) → get_elem? l i ≡ some v → total f (set l i w) + f v ≡ total f l + f w
    total_set [] i v w e = absurd (some-ne-none v (sym e))
    total_set (x ∷ xs) zero v w e = omega (arith, ap f (some-injective x v e))
    total_set (x ∷ xs) (suc i) v w e = omega (arith, total_set xs i v w e)

    pub total_snoc : (l : List V) (v : V) → total f (l ++ v ∷ []) ≡ total f l + f v
    total_snoc [] v = omega arith
    total_snoc (x ∷ xs) v = omega (arith, total_snoc xs v)

  pub total_le : (f g : V → ℕ) (l : List V) → ((j : ℕ) (v : V) → get_elem? l j ≡ some v → f v ≤ g v) → total f l ≤ total g l
  total_le f g [] h = omega arith
  total_le f g (x ∷ xs) h = let here : f x ≤ g x = h zero x refl in let more : total f xs ≤ total g xs = total_le f g xs (λ j v e. h (suc j) v e) in omega arith

pub append_nil : {V : Type 0} (xs : List V) → xs ++ [] ≡ xs
append_nil [] = refl
append_nil (x ∷ xs) = ap (λ (l : List _). x ∷ l) (append_nil xs)

module _ {E : Type 0} (pass_of : E → ℕ) where
  pub entries_of-append : (n : ℕ) (xs ys : List E) → entries_of pass_of n (xs ++ ys) ≡ entries_of pass_of n xs ++ entries_of pass_of n ys
  entries_of-append n [] ys = refl
  entries_of-append n (x ∷ xs) ys = dite (ℕ_discrete (pass_of x) n)
      (λ e. let t = eq-eqb (pass_of x) n e in subst (λ b. cond b (x ∷ entries_of pass_of n (xs ++ ys)) (entries_of pass_of n (xs ++ ys)) ≡ cond b (x ∷ entries_of pass_of n xs) (entries_of pass_of n xs) ++ entries_of pass_of n ys) (sym t) (ap (λ (l : List E). x ∷ l) (entries_of-append n xs ys)))
      (λ ne. let t = ne_eqb (pass_of x) n ne in subst (λ b. cond b (x ∷ entries_of pass_of n (xs ++ ys)) (entries_of pass_of n (xs ++ ys)) ≡ cond b (x ∷ entries_of pass_of n xs) (entries_of pass_of n xs) ++ entries_of pass_of n ys) (sym t) (entries_of-append n xs ys))

  pub entries_of-one : (n : ℕ) (e : E) → (pass_of e) ≡ n → entries_of pass_of n (e ∷ []) ≡ e ∷ []
  entries_of-one n e is = ap (λ b. cond b (e ∷ []) []) (eq-eqb (pass_of e) n is)

  pub entries_of-none : (n : ℕ) (e : E) → (pass_of e) ≢ n → entries_of pass_of n (e ∷ []) ≡ []
  entries_of-none n e ne = ap (λ b. cond b (e ∷ []) []) (ne_eqb (pass_of e) n ne)

  pub entries_of-snoc : (n : ℕ) (xs : List E) (e : E) → (pass_of e) ≡ n → entries_of pass_of n (xs ++ e ∷ []) ≡ entries_of pass_of n xs ++ e ∷ []
  entries_of-snoc n xs e is = entries_of-append n xs (e ∷ []) ∙ ap (λ (l : List E). entries_of pass_of n xs ++ l) (entries_of-one n e is)

  pub entries_of-else : (n : ℕ) (xs : List E) (e : E) → (pass_of e) ≢ n → entries_of pass_of n (xs ++ e ∷ []) ≡ entries_of pass_of n xs
  entries_of-else n xs e ne = entries_of-append n xs (e ∷ []) ∙ (ap (λ (l : List E). entries_of pass_of n xs ++ l) (entries_of-none n e ne) ∙ append_nil (entries_of pass_of n xs))

  -- what was seen has all entries of a pass
  pub own_more : (n : ℕ) (seen journal : List E) (e : E) → entries_of pass_of n journal ≡ entries_of pass_of n seen → entries_of pass_of n (journal ++ e ∷ []) ≡ entries_of pass_of n (seen ++ e ∷ [])
  own_more n seen journal e own = entries_of-append n journal (e ∷ []) ∙ (ap (λ (l : List E). l ++ entries_of pass_of n (e ∷ [])) own ∙ sym (entries_of-append n seen (e ∷ [])))

module _ {E : Type 0} where
  pub begins_more : (seen journal : List E) (e : E) → Begins seen journal → Begins seen (journal ++ e ∷ [])
  begins_more seen journal e b = (b.0 ++ e ∷ [], ap (λ (l : List E). l ++ e ∷ []) b.1 ∙ append_assoc seen b.0 (e ∷ []))

module _ {E : Type 0} (ticket_of : E → ℕ) where
  pub below_more : (s t : ℕ) (journal : List E) (e : E) → s ≤ t → Below ticket_of s journal → (ticket_of e) < t → Below ticket_of t (journal ++ e ∷ [])
  below_more s t journal e le below here k f at = elim (at_end journal e f k at) [
    | inl old ↦ omega (arith, below k f old)
    | inr new ↦ omega (arith, here, ap (λ (x : E). (ticket_of x)) new.1)
  ]

  pub rises_more : (journal : List E) (e : E) → Below ticket_of (ticket_of e) journal → Rises ticket_of journal → Rises ticket_of (journal ++ e ∷ [])
  rises_more journal e below rises i j a b p q lt = elim (at_end journal e a i p) [
    | inl x ↦ elim (at_end journal e b j q) [
      | inl y ↦ rises i j a b x y lt
      | inr y ↦ omega (arith, below i a x, ap (λ (z : E). (ticket_of z)) y.1)
    ]
    | inr x ↦ elim (at_end journal e b j q) [
      | inl y ↦ absurd (omega (arith, x.0, at_length journal j b y))
      | inr y ↦ absurd (omega (arith, x.0, y.0))
    ]
  ]

pub at_get : {V : Type 0} (l : List V) (i : ℕ) (d : V) → i < length l → get_elem? l i ≡ some (get_or l i d)
at_get [] i d h = absurd (omega arith)
at_get (x ∷ xs) zero d h = refl
at_get (x ∷ xs) (suc i) d h = at_get xs i d (omega arith)

-- a list that ends where it began
pub append_fixed : {V : Type 0} (xs ys : List V) → xs ++ ys ≡ xs → ys ≡ []
append_fixed xs [] e = refl
append_fixed xs (y ∷ ys) e = absurd (omega (arith, ap length e, length-append xs (y ∷ ys)))

pub append_empty : {V : Type 0} (xs ys : List V) → xs ++ ys ≡ [] → xs ≡ []
append_empty [] ys e = refl
append_empty (x ∷ xs) ys e = absurd (omega (arith, ap length e, length-append (x ∷ xs) ys))

module _ {V : Type 0} where
  pub either_part : (xs ys : List V) (k : ℕ) (p : V) → get_elem? (xs ++ ys) k ≡ some p → ((i : ℕ) × (get_elem? xs i ≡ some p)) ⊎ ((i : ℕ) × (get_elem? ys i ≡ some p))
  either_part [] ys k p e = inr (k, e)
  either_part (x ∷ xs) ys zero p e = inl (zero, e)
  either_part (x ∷ xs) ys (suc k) p e = elim (either_part xs ys k p e) [ inl h ↦ inl (suc h.0, h.1) | inr h ↦ inr h ]

  pub on_right : (xs ys : List V) (k : ℕ) (p : V) → get_elem? ys k ≡ some p → (i : ℕ) × (get_elem? (xs ++ ys) i ≡ some p)
  on_right [] ys k p e = (k, e)
  on_right (x ∷ xs) ys k p e = let h = on_right xs ys k p e in (suc h.0, h.1)

  -- of two beginnings of one list the shorter begins the longer
  pub shorter : (xs ys r q : List V) → xs ++ r ≡ ys ++ q → length xs ≤ length ys → (m : List V) × (ys ≡ xs ++ m)
  shorter [] ys r q e le = (ys, refl)
  shorter (x ∷ xs) [] r q e le = absurd (omega arith)
  shorter (x ∷ xs) (y ∷ ys) r q e le = let same : x ≡ y = cc in let more : xs ++ r ≡ ys ++ q = cc in let h = shorter xs ys r q more (omega arith) in (h.0, λ i. sym same i ∷ h.1 i)

pub among_append : (xs ys : List Range) (n : ℕ) → Among (xs ++ ys) n → Among xs n ⊎ Among ys n
among_append [] ys n h = inr h
among_append (x ∷ xs) ys n (inl h) = inl (inl h)
among_append (x ∷ xs) ys n (inr h) = elim (among_append xs ys n h) [ inl g ↦ inl (inr g) | inr g ↦ inr g ]

pub among_left : (xs ys : List Range) (n : ℕ) → Among xs n → Among (xs ++ ys) n
among_left [] ys n h = absurd h
among_left (x ∷ xs) ys n (inl h) = inl h
among_left (x ∷ xs) ys n (inr h) = inr (among_left xs ys n h)

pub among_right : (xs ys : List Range) (n : ℕ) → Among ys n → Among (xs ++ ys) n
among_right [] ys n h = h
among_right (x ∷ xs) ys n h = inr (among_right xs ys n h)

module _ {E : Type 0} (pass_of : E → ℕ) where
  -- what begins the journal and was begun by what has all entries of a pass has them too
  pub own_between : (n : ℕ) (seen more journal : List E) → Begins more journal → (m : List E) × (more ≡ seen ++ m) → entries_of pass_of n journal ≡ entries_of pass_of n seen → entries_of pass_of n journal ≡ entries_of pass_of n more
  own_between n seen more journal b m own =
      let a : entries_of pass_of n journal ≡ entries_of pass_of n more ++ entries_of pass_of n b.0 = ap (entries_of pass_of n) b.1 ∙ entries_of-append pass_of n more b.0 in let c : entries_of pass_of n more ≡ entries_of pass_of n seen ++ entries_of pass_of n m.0 = ap (entries_of pass_of n) m.1 ∙ entries_of-append pass_of n seen m.0 in
      let d : entries_of pass_of n seen ++ (entries_of pass_of n m.0 ++ entries_of pass_of n b.0) ≡ entries_of pass_of n seen = sym (append_assoc (entries_of pass_of n seen) (entries_of pass_of n m.0) (entries_of pass_of n b.0)) ∙ (ap (λ (l : List E). l ++ entries_of pass_of n b.0) (sym c) ∙ (sym a ∙ own)) in
      let none : entries_of pass_of n m.0 ≡ [] = append_empty (entries_of pass_of n m.0) (entries_of pass_of n b.0) (append_fixed (entries_of pass_of n seen) (entries_of pass_of n m.0 ++ entries_of pass_of n b.0) d) in
      own ∙ sym (c ∙ (ap (λ (l : List E). entries_of pass_of n seen ++ l) none ∙ append_nil (entries_of pass_of n seen)))
