-- Each walk among finitely many ids meets the top or an id that comes back to itself.
use Rattle.std.proofs.Common.{◌≡◌, ℕ, zero, suc, ◌<◌, ◌≤◌, List, [], ◌∷◌, length, Bool, true, false, not, cond, ◌&&◌}
use Rattle.std.proofs.Common.{◌||◌, ◌⊎◌, inl, inr, refl, sym, ap, ap₂, ◌∙◌, subst, arith, filter, bytes_eq}
use Rattle.std.specs.List.{list_any}
use Rattle.std.proofs.lemmas.Bool.{or_parts, false≢true}
use Rattle.ss_build.specs.Built.{comes_back, walk}
use Rattle.ss_record.specs.Ids.{has}
use Rattle.ss_tree.specs.Trees.{Reaches, steps}
use Rattle.ss_record.proofs.IdLists.{has-nil, has-cons, has-head, has-tail, has-filter}
use Rattle.ss_text.proofs.Basics.{same_text}

-- ---- more ids than there are: one stands twice

Doubled : List (List ℕ) → Type 0
Doubled [] = ⊥
Doubled (x ∷ xs) = (has x xs ≡ true) ⊎ Doubled xs

without : List ℕ → List (List ℕ) → List (List ℕ)
without x ys = filter (λ y. not (bytes_eq x y)) ys

length-without_le : (x : List ℕ) (ys : List (List ℕ)) → length (without x ys) ≤ length ys
unfolding without
length-without_le x [] = omega arith
length-without_le x (y ∷ ys) = go (not (bytes_eq x y)) (length-without_le x ys)
  where
    go : (b : Bool) → length (without x ys) ≤ length ys → length (cond b (y ∷ without x ys) (without x ys)) ≤ suc (length ys)
    go true ih = omega arith
    go false ih = omega arith

length-without_lt : (x : List ℕ) (ys : List (List ℕ)) → has x ys ≡ true → length (without x ys) < length ys
unfolding without
length-without_lt x [] h = absurd (false≢true (sym (has-nil x) ∙ h))
length-without_lt x (y ∷ ys) h = go (bytes_eq x y) (sym (has-cons x y ys) ∙ h) (length-without_le x ys) (length-without_lt x ys)
  where
    go : (b : Bool) → (b || has x ys) ≡ true → length (without x ys) ≤ length ys → (has x ys ≡ true → length (without x ys) < length ys) → length (cond (not b) (y ∷ without x ys) (without x ys)) < suc (length ys)
    go true e le ih = omega arith
    go false e le ih = let lt : length (without x ys) < length ys = ih e in omega arith

has-without : (x z : List ℕ) (ys : List (List ℕ)) → bytes_eq x z ≡ false → has z ys ≡ true → has z (without x ys) ≡ true
unfolding without
has-without x z ys ne h = has-filter (λ y. not (bytes_eq x y)) z ys ∙ ap₂ (λ a b. a && not b) h ne

pigeon : (xs ys : List (List ℕ)) → ((z : List ℕ) → has z xs ≡ true → has z ys ≡ true) → length ys < length xs → Doubled xs
unfolding Doubled
pigeon [] ys sub lt = absurd (omega arith)
pigeon (x ∷ xs) ys sub lt = go (has x xs) refl (pigeon xs (without x ys))
  where
    go : (b : Bool) → has x xs ≡ b → (((z : List ℕ) → has z xs ≡ true → has z (without x ys) ≡ true) → length (without x ys) < length xs → Doubled xs) → (has x xs ≡ true) ⊎ Doubled xs
    go true e ih = inl e
    go false e ih =
        let shorter : length (without x ys) < length ys = length-without_lt x ys (sub x (has-head x xs)) in
        inr (ih (λ z hz. has-without x z ys (other z hz) (sub z (has-tail z x xs hz))) (omega arith))
      where
        other : (z : List ℕ) → has z xs ≡ true → bytes_eq x z ≡ false
        other z hz = pick (bytes_eq x z) refl
          where
            pick : (c : Bool) → bytes_eq x z ≡ c → c ≡ false
            pick true f = absurd (false≢true (sym e ∙ (ap (λ w. has w xs) (same_text x z f) ∙ hz)))
            pick false f = refl

-- ---- walks

has-walk_more : (step : List ℕ → List ℕ) (m n : ℕ) (x z : List ℕ) → m ≤ n → has z (walk step m x) ≡ true → has z (walk step n x) ≡ true
unfolding walk
has-walk_more step zero n x z le h = absurd (false≢true (sym (has-nil z) ∙ h))
has-walk_more step (suc m) zero x z le h = absurd (omega arith)
has-walk_more step (suc m) (suc n) x z le h =
    has-cons z x (walk step n (step x)) ∙ go (bytes_eq z x) (sym (has-cons z x (walk step m (step x))) ∙ h) (has-walk_more step m n (step x) z (omega arith))
  where
    go : (b : Bool) → (b || has z (walk step m (step x))) ≡ true → (has z (walk step m (step x)) ≡ true → has z (walk step n (step x)) ≡ true) → (b || has z (walk step n (step x))) ≡ true
    go true e ih = refl
    go false e ih = ih e

-- where an id stands twice on a walk, one of the walk comes back to itself
doubled_comes_back : (step : List ℕ → List ℕ) (most n : ℕ) (x : List ℕ) → n ≤ suc most → Doubled (walk step n x) → list_any (comes_back step most) (walk step n x) ≡ true
unfolding walk Doubled comes_back
doubled_comes_back step most zero x le d = absurd d
doubled_comes_back step most (suc n) x le (inl h) = ap (λ b. b || list_any (comes_back step most) (walk step n (step x))) (has-walk_more step n most (step x) x (omega arith) h)
doubled_comes_back step most (suc n) x le (inr d) = go (comes_back step most x) (doubled_comes_back step most n (step x) (omega arith) d)
  where
    go : (b : Bool) → list_any (comes_back step most) (walk step n (step x)) ≡ true → (b || list_any (comes_back step most) (walk step n (step x))) ≡ true
    go true e = refl
    go false e = e

pub Reaches-here : (step : List ℕ → List ℕ) (top x : List ℕ) → x ≡ top → Reaches step top x
unfolding steps
Reaches-here step top x e = (zero, e)

pub Reaches-step : (step : List ℕ → List ℕ) (top x : List ℕ) → Reaches step top (step x) → Reaches step top x
unfolding steps
Reaches-step step top x r = (suc r.0, r.1)

length-walk : (step : List ℕ → List ℕ) (n : ℕ) (x : List ℕ) → length (walk step n x) ≡ n
unfolding walk
length-walk step zero x = refl
length-walk step (suc n) x = ap suc (length-walk step n (step x))

-- a map under which some ids lead to one another or to the top
module _ (all : List (List ℕ)) (most : ℕ) (enough : length all ≤ most) (top : List ℕ) (Q : List ℕ → List ℕ)
    (closed : (z : List ℕ) → has z all ≡ true → (has (Q z) all ≡ true) ⊎ (Q z ≡ top)) where
  pub on_walk : (n : ℕ) (x z : List ℕ) → has x all ≡ true → has top (walk Q n x) ≡ false → has z (walk Q n x) ≡ true → has z all ≡ true
  unfolding walk
  on_walk zero x z hx ht hz = absurd (false≢true (sym (has-nil z) ∙ hz))
  on_walk (suc n) x z hx ht hz = go (bytes_eq z x) refl (sym (has-cons z x (walk Q n (Q x))) ∙ hz) (closed x hx) (on_walk n (Q x) z)
    where
      off : has top (walk Q n (Q x)) ≡ false
      off = (or_parts (bytes_eq top x) _ (sym (has-cons top x (walk Q n (Q x))) ∙ ht)).1

      go : (b : Bool) → bytes_eq z x ≡ b → (b || has z (walk Q n (Q x))) ≡ true → (has (Q x) all ≡ true) ⊎ (Q x ≡ top) → (has (Q x) all ≡ true → has top (walk Q n (Q x)) ≡ false → has z (walk Q n (Q x)) ≡ true → has z all ≡ true) → has z all ≡ true
      go true e h c ih = ap (λ w. has w all) (same_text z x e) ∙ hx
      go false e h (inl c) ih = ih c off h
      go false e h (inr c) ih = absurd (ends n off h)
        where
          ends : (m : ℕ) → has top (walk Q m (Q x)) ≡ false → has z (walk Q m (Q x)) ≡ true → ⊥
          ends zero o k = false≢true (sym (has-nil z) ∙ k)
          ends (suc m) o k = false≢true (sym o ∙ (ap (λ w. has w (Q x ∷ walk Q m (Q (Q x)))) (sym c) ∙ has-head (Q x) (walk Q m (Q (Q x)))))

  -- a walk that is long enough meets the top or an id that comes back to itself
  pub top_or_circle : (x : List ℕ) → has x all ≡ true → (has top (walk Q (suc most) x) ≡ true) ⊎ ((has top (walk Q (suc most) x) ≡ false) × (list_any (comes_back Q most) (walk Q (suc most) x) ≡ true))
  top_or_circle x hx = go (has top (walk Q (suc most) x)) refl
    where
      go : (b : Bool) → has top (walk Q (suc most) x) ≡ b → (has top (walk Q (suc most) x) ≡ true) ⊎ ((has top (walk Q (suc most) x) ≡ false) × (list_any (comes_back Q most) (walk Q (suc most) x) ≡ true))
      go true e = inl e
      go false e = inr (
        e,
        doubled_comes_back Q most (suc most) x (omega arith)
            (pigeon (walk Q (suc most) x) all (λ z hz. on_walk (suc most) x z hx e hz)
            (let n : length (walk Q (suc most) x) ≡ suc most = length-walk Q (suc most) x in omega arith)),
      )

-- Q proposes, and P is Q but where an id comes back to itself
module _ (all : List (List ℕ)) (most : ℕ) (enough : length all ≤ most) (top : List ℕ) (Q P : List ℕ → List ℕ)
    (closed : (z : List ℕ) → has z all ≡ true → (has (Q z) all ≡ true) ⊎ (Q z ≡ top))
    (agree : (z : List ℕ) → comes_back Q most z ≡ false → P z ≡ Q z)
    (jump : (z : List ℕ) → comes_back Q most z ≡ true → Reaches P top z) where
  onward : (x : List ℕ) → (comes_back Q most x ≡ false → Reaches P top (Q x)) → Reaches P top x
  onward x rest = go (comes_back Q most x) refl
    where
      go : (b : Bool) → comes_back Q most x ≡ b → Reaches P top x
      go true e = jump x e
      go false e = Reaches-step P top x (subst (Reaches P top) (sym (agree x e)) (rest e))

  past_top : (n : ℕ) (x : List ℕ) → has top (walk Q n x) ≡ true → Reaches P top x
  unfolding walk
  past_top zero x h = absurd (false≢true (sym (has-nil top) ∙ h))
  past_top (suc n) x h = go (bytes_eq top x) refl (sym (has-cons top x (walk Q n (Q x))) ∙ h) (past_top n (Q x))
    where
      go : (b : Bool) → bytes_eq top x ≡ b → (b || has top (walk Q n (Q x))) ≡ true → (has top (walk Q n (Q x)) ≡ true → Reaches P top (Q x)) → Reaches P top x
      go true e h2 ih = Reaches-here P top x (sym (same_text top x e))
      go false e h2 ih = onward x (λ _. ih h2)

  past_circle : (n : ℕ) (x : List ℕ) → list_any (comes_back Q most) (walk Q n x) ≡ true → Reaches P top x
  unfolding walk
  past_circle zero x h = absurd (false≢true h)
  past_circle (suc n) x h = onward x (λ e. past_circle n (Q x) (sym (ap (λ b. b || list_any (comes_back Q most) (walk Q n (Q x))) e) ∙ h))

  pub walk_ends : (x : List ℕ) → has x all ≡ true → Reaches P top x
  walk_ends x hx = go (top_or_circle all most enough top Q closed x hx)
    where
      go : (has top (walk Q (suc most) x) ≡ true) ⊎ ((has top (walk Q (suc most) x) ≡ false) × (list_any (comes_back Q most) (walk Q (suc most) x) ≡ true)) → Reaches P top x
      go (inl e) = past_top (suc most) x e
      go (inr e) = past_circle (suc most) x e.1
