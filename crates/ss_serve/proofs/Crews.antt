-- Lists of workers, and what stays of them.
use Rattle.std.proofs.Common.{◌≡◌, inl, inr, ℕ, zero, suc, ◌≤◌, List, [], ◌∷◌, ◌++◌, length, map, set, get_or}
use Rattle.std.proofs.Common.{length-append, append_assoc, reverse, refl, sym, ap, ◌∙◌, subst, arith, All, Option}
use Rattle.std.proofs.lemmas.List.{map-append, reverse-append}
use mathlib.Core.Option.{some, some-injective, some-ne-none}
use lib.ListN.{get_elem?}
use mathlib.Core.Logic.{dite}
use native.Mathlib.Decide.{dec_lt}
use Rattle.ss_desk.proofs.Beside.{get_left, get_last}
use Rattle.ss_desk.proofs.Lists.{at_length, at_get, at_end}
use Rattle.ss_booked.specs.declared.booked.Terms.{Terms}
use Rattle.ss_route.specs.declared.manner.Manner.{Manner}
use Rattle.ss_serve.specs.Crew.{Sign, AreWorkerSigns, starts}

module _ {X : Type 0} where
  pub all_end : (P : X → Type 0) (xs : List X) (x : X) → All P xs → P x → All P (xs ++ x ∷ [])
  all_end P xs x h p k d lt = dite (dec_lt k (length xs))
      (λ less. subst P (sym (get_left xs (x ∷ []) k d less)) (h k d less))
      (λ more. let e : length xs ≡ k = omega (arith, length-append xs (x ∷ [])) in subst P (sym (ap (λ n. get_or (xs ++ x ∷ []) n d) (sym e) ∙ get_last xs [] x d)) p)

  pub all_last : (P : X → Type 0) (xs : List X) (x : X) → All P (xs ++ x ∷ []) → P x
  all_last P xs x h = subst P (get_last xs [] x x) (h (length xs) x (omega (arith, length-append xs (x ∷ []))))

  pub all_front : (P : X → Type 0) (xs : List X) (x : X) → All P (xs ++ x ∷ []) → All P xs
  all_front P xs x h k d lt = subst P (get_left xs (x ∷ []) k d lt) (h k d (omega (arith, length-append xs (x ∷ []))))

  pub all_at : (P : X → Type 0) (l : List X) (k : ℕ) (x : X) → All P l → get_elem? l k ≡ some x → P x
  all_at P l k x h at = subst P (some-injective (get_or l k x) x (sym (at_get l k x (at_length l k x at)) ∙ at)) (h k x (at_length l k x at))

  -- what holds at each place holds of all
  pub all_of : (P : X → Type 0) (l : List X) → ((k : ℕ) (x : X) → get_elem? l k ≡ some x → P x) → All P l
  all_of P l h k d lt = h k (get_or l k d) (at_get l k d lt)

  -- there are none
  pub none_so : (P : X → Type 0) (l : List X) → l ≡ [] → All P l
  none_so P l none = all_of P l (λ k x at. absurd (some-ne-none x (sym (ap (λ (xs : List X). get_elem? xs k) (sym none) ∙ at))))

  pub all_first : (P : X → Type 0) (l : List X) (y : X) → All P l → P y → All P (set l 0 y)
  all_first P [] y h p k d lt = h k d lt
  all_first P (x ∷ xs) y h p zero d lt = p
  all_first P (x ∷ xs) y h p (suc k) d lt = h (suc k) d lt

  pub long_map : {Y : Type 0} (f : X → Y) (xs : List X) → length (map f xs) ≡ length xs
  long_map f [] = refl
  long_map f (x ∷ xs) = let r = long_map f xs in omega (arith, r)

  pub same_long : {Y : Type 0} (f : X → Y) (xs ys : List X) → map f xs ≡ map f ys → length xs ≡ length ys
  same_long f xs ys e = sym (long_map f xs) ∙ (ap length e ∙ long_map f ys)

  pub at_map : {Y : Type 0} (f : X → Y) (l : List X) (k : ℕ) (x : X) → get_elem? l k ≡ some x → get_elem? (map f l) k ≡ some (f x)
  at_map f [] k x at = absurd (some-ne-none x (sym at))
  at_map f (y ∷ ys) zero x at = ap (λ z. some (f z)) (some-injective y x at)
  at_map f (y ∷ ys) (suc k) x at = at_map f ys k x at

  pub map_first : {Y : Type 0} (f : X → Y) (l : List X) (old y : X) → old ≡ get_or l 0 old → f y ≡ f old → map f (set l 0 y) ≡ map f l
  map_first f [] old y is same = refl
  map_first f (x ∷ xs) old y is same = ap (λ z. z ∷ map f xs) (same ∙ ap f is)

  pub map_end : {Y : Type 0} (f : X → Y) (before after : List X) (x y : X) → map f after ≡ map f before → f y ≡ f x → map f (after ++ y ∷ []) ≡ map f (before ++ x ∷ [])
  map_end f before after x y e is = map-append f after (y ∷ []) ∙ (ap (λ (l : List _). l ++ f y ∷ []) e ∙ (ap (λ n. map f before ++ n ∷ []) is ∙ sym (map-append f before (x ∷ []))))

  pub under : {Y : Type 0} (f : X → Y) (l : List X) (k : ℕ) (y : Y) → get_elem? (map f l) k ≡ some y → (x : X) × (get_elem? l k ≡ some x) × (f x ≡ y)
  under f [] k y at = absurd (some-ne-none y (sym at))
  under f (x ∷ xs) zero y at = (x, refl, some-injective (f x) y at)
  under f (x ∷ xs) (suc k) y at = under f xs k y at

  -- where what stays of them is the same, what is said of that is too
  pub all_same : {Y : Type 0} (f : X → Y) (P : Y → Type 0) (xs ys : List X) → map f xs ≡ map f ys → All (λ y. P (f y)) ys → All (λ x. P (f x)) xs
  all_same f P xs ys e h = all_of (λ x. P (f x)) xs (λ k x at.
      let here : get_elem? (map f ys) k ≡ some (f x) = ap (λ (l : List _). get_elem? l k) (sym e) ∙ at_map f xs k x at in
      let q = under f ys k (f x) here in subst P q.2 (all_at (λ y. P (f y)) ys k q.0 h q.1))

pub signed_more : (least : ℕ) (fixed : ℕ → Option Terms) (manner : Manner) (signs : List Sign) (s : Sign) → AreWorkerSigns least fixed manner signs → s.number ≡ length signs → least ≤ s.room → s.fixed ≡ fixed → s.manner ≡ manner
    → AreWorkerSigns least fixed manner (signs ++ s ∷ [])
signed_more least fixed manner signs s h is enough same so k t at = elim (at_end signs s t k at) [
  | inl old ↦ h k t old
  | inr new ↦
      let e : s ≡ t = new.1 in (
        sym (ap (λ (u : Sign). u.number) e) ∙ (is ∙ sym new.0),
        omega (arith, ap (λ (u : Sign). u.room) e, enough),
        sym (ap (λ (u : Sign). u.fixed) e) ∙ same,
        sym (ap (λ (u : Sign). u.manner) e) ∙ so,
      )
]

pub starts_more : (signs : List Sign) (s : Sign) → starts (signs ++ s ∷ []) ≡ starts signs ++ s.start ∷ []
starts_more signs s = map-append (λ (t : Sign). t.start) signs (s ∷ [])

-- one more worker has the next clock
pub begun_next : {C : Type 0} (coming : C → Option (List ℕ)) (signs : List Sign) (s : Sign) (rest clocks : List C) (clock : C) (all : List (Option (List ℕ))) → clocks ≡ rest ++ clock ∷ [] → s.start ≡ coming clock
    → starts signs ++ map coming (reverse clocks) ≡ all → starts (signs ++ s ∷ []) ++ map coming (reverse rest) ≡ all
begun_next {C} coming signs s rest clocks clock all is same e =
    let turned : reverse clocks ≡ clock ∷ reverse rest = ap reverse is ∙ reverse-append rest (clock ∷ []) in
    let more : starts (signs ++ s ∷ []) ≡ starts signs ++ coming clock ∷ [] = starts_more signs s ∙ ap (λ (x : Option (List ℕ)). starts signs ++ x ∷ []) same in
    ap (λ (l : List (Option (List ℕ))). l ++ map coming (reverse rest)) more
    ∙ (append_assoc (starts signs) (coming clock ∷ []) (map coming (reverse rest)) ∙ (ap (λ (l : List C). starts signs ++ map coming l) (sym turned) ∙ e))

pub least_of : {X : Type 0} (least : ℕ) (fixed : ℕ → Option Terms) (manner : Manner) (f : X → Sign) (xs : List X) → AreWorkerSigns least fixed manner (map f xs) → All (λ x. least ≤ (f x).room) xs
least_of {X} least fixed manner f xs h = all_of (λ (x : X). least ≤ (f x).room) xs (λ k x at. (h k (f x) (at_map f xs k x at)).1)

pub one_manner : {X : Type 0} (least : ℕ) (fixed : ℕ → Option Terms) (manner : Manner) (f : X → Sign) (xs : List X) → AreWorkerSigns least fixed manner (map f xs) → All (λ x. (f x).manner ≡ manner) xs
one_manner {X} least fixed manner f xs h = all_of (λ (x : X). (f x).manner ≡ manner) xs (λ k x at. (h k (f x) (at_map f xs k x at)).3)
