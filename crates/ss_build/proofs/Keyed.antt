-- A look-up by key in a list of any type.
use Rattle.std.proofs.Common.{◌≡◌, ◌≢◌, ℕ, List, [], ◌∷◌, map, Bool, true, false, cond, ◌||◌, inl, inr, refl, sym, ap}
use Rattle.std.proofs.Common.{◌∙◌, find, bytes_eq, Some, None}
use Rattle.std.proofs.lemmas.Bool.{or_parts, false≢true}
use Rattle.ss_record.specs.Ids.{Apart, has}
use Rattle.ss_record.proofs.IdLists.{bytes_eq-refl, bytes_eq-apart, has-nil, has-cons, has-head, has-tail, Apart-head}
use Rattle.ss_record.proofs.IdLists.{Apart-tail}
use Rattle.ss_build.proofs.Items.{In, find_in}
use Rattle.ss_text.proofs.Basics.{same_text}

module _ {X : Type 0} (key : X → List ℕ) where
  pub key_found : (xs : List X) (x : List ℕ) (y : X) → find (λ z. bytes_eq x (key z)) xs ≡ Some y → In y xs × (key y ≡ x)
  key_found xs x y q = let r = find_in (λ z. bytes_eq x (key z)) xs y q in (r.0, sym (same_text x (key y) r.1))

  pub key_in : (xs : List X) (y : X) → In y xs → has (key y) (map key xs) ≡ true
  unfolding In
  key_in [] y i = absurd i
  key_in (z ∷ zs) y (inl q) = ap (λ w. has (key w) (key z ∷ map key zs)) q ∙ has-head (key z) (map key zs)
  key_in (z ∷ zs) y (inr i) = has-tail (key y) (key z) (map key zs) (key_in zs y i)

  pub found_key : (xs : List X) (x : List ℕ) (y : X) → find (λ z. bytes_eq x (key z)) xs ≡ Some y → has x (map key xs) ≡ true
  found_key xs x y q = let r = key_found xs x y q in ap (λ w. has w (map key xs)) (sym r.1) ∙ key_in xs y r.0

  pub key_at : (xs : List X) (y : X) → Apart (map key xs) → In y xs → find (λ z. bytes_eq (key y) (key z)) xs ≡ Some y
  unfolding In
  key_at [] y a i = absurd i
  key_at (z ∷ zs) y a (inl q) = ap (λ b. cond b (Some z) (find (λ w. bytes_eq (key y) (key w)) zs)) (ap (λ w. bytes_eq (key w) (key z)) q ∙ bytes_eq-refl (key z)) ∙ ap Some (sym q)
  key_at (z ∷ zs) y a (inr i) =
      ap (λ b. cond b (Some z) (find (λ w. bytes_eq (key y) (key w)) zs)) (bytes_eq-apart (key y) (key z) ne) ∙ key_at zs y (Apart-tail (key z) (map key zs) a) i
    where
      ne : key y ≢ key z
      ne q = false≢true (sym (Apart-head (key z) (map key zs) a) ∙ (ap (λ x. has x (map key zs)) (sym q) ∙ key_in zs y i))

  pub has_key : (xs : List X) (x : List ℕ) → has x (map key xs) ≡ true → (y : X) × (find (λ z. bytes_eq x (key z)) xs ≡ Some y)
  has_key [] x h = absurd (false≢true (sym (has-nil x) ∙ h))
  has_key (z ∷ zs) x h = go (bytes_eq x (key z)) (sym (has-cons x (key z) (map key zs)) ∙ h) (has_key zs x)
    where
      go : (b : Bool) → (b || has x (map key zs)) ≡ true → (has x (map key zs) ≡ true → (y : X) × (find (λ w. bytes_eq x (key w)) zs ≡ Some y)) → (y : X) × (cond b (Some z) (find (λ w. bytes_eq x (key w)) zs) ≡ Some y)
      go true k ih = (z, refl)
      go false k ih = ih k

  pub no_key : (xs : List X) (x : List ℕ) → has x (map key xs) ≡ false → find (λ z. bytes_eq x (key z)) xs ≡ None
  no_key [] x h = refl
  no_key (z ∷ zs) x h =
      let p = or_parts (bytes_eq x (key z)) (has x (map key zs)) (sym (has-cons x (key z) (map key zs)) ∙ h) in
      ap (λ b. cond b (Some z) (find (λ w. bytes_eq x (key w)) zs)) p.0 ∙ no_key zs x p.1
