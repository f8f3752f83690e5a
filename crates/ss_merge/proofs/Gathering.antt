-- Ids that are gathered, each once.
use Rattle.std.proofs.Common.{◌≡◌, ◌⊎◌, ◌+◌, ◌<◌, ◌≤◌, ℕ, Bool, true, false, cond, ◌||◌, List, [], ◌∷◌, ◌++◌, length}
use Rattle.std.proofs.Common.{take, get_or, bytes_eq, refl, sym, ap, ap₂, subst, ◌∙◌, inl, inr}
use Rattle.std.proofs.lemmas.List.{take_all}
use Rattle.ss_record.specs.Ids.{Apart, has}
use Rattle.ss_record.proofs.IdLists.{has-nil, has-cons, has-append, or-assoc, Apart-nil, Apart-cons, Apart-append}
use Rattle.ss_dupe.specs.Looks.{Id}
use Rattle.ss_merge.specs.Links.{GathersIds}
use Rattle.ss_merge.proofs.Holding.{has-more}
use Rattle.ss_text.proofs.Basics.{or_false, or_true, bytes_eq-sym, same_text, no_way}
use Rattle.std.proofs.lemmas.Bool.{cases_Bool}

pub record Gathering (seen : Id → Bool) (old ids from : List Id) : Type 0 where
  pub gathered : GathersIds seen ids
  pub all : (x : Id) → has x ids ≡ (has x old || has x from)

pub nothing_gathered : (seen : Id → Bool) (ids : List Id) → ((x : Id) → seen x ≡ false) → ids ≡ [] → GathersIds seen ids
nothing_gathered seen ids none empty = record { apart = subst Apart (sym empty) Apart-nil; told = λ x. none x ∙ sym (ap (has x) empty ∙ has-nil x) }

pub begun : (seen : Id → Bool) (ids from : List Id) → GathersIds seen ids → Gathering seen ids ids (take 0 from)
begun seen ids from g = record { gathered = g; all = λ x. sym (ap (λ b. has x ids || b) (has-nil x) ∙ or_false (has x ids)) }

pub gathered_more : (seen after : Id → Bool) (old ids more from : List Id) (i : ℕ) (y : Id) → i < length from → y ≡ get_or from i y → more ≡ cond (seen y) ids (ids ++ y ∷ []) → ((x : Id) → after x ≡ (bytes_eq y x || seen x))
    → Gathering seen old ids (take i from) → Gathering after old more (take (i + 1) from)
gathered_more seen after old ids more from i y lt e is put g = cases (cases_Bool (seen y))
  where
    next : (x : Id) → has x (take (i + 1) from) ≡ (has x (take i from) || bytes_eq x y)
    next x = has-more x y from i lt e

    grown : (x : Id) (b : Bool) → has x ids ≡ b → ((has x old || has x (take i from)) || bytes_eq x y) ≡ (has x old || has x (take (i + 1) from))
    grown x b h = or-assoc (has x old) (has x (take i from)) (bytes_eq x y) ∙ ap (λ c. has x old || c) (sym (next x))

    cases : (seen y ≡ true) ⊎ (seen y ≡ false) → Gathering after old more (take (i + 1) from)
    cases (inl there) =
        let same : more ≡ ids = is ∙ ap (λ b. cond b ids (ids ++ y ∷ [])) there in
        let in_ids : has y ids ≡ true = sym (g.gathered.told y) ∙ there in
        record {
          gathered = record { apart = subst Apart (sym same) g.gathered.apart; told = λ x. put x ∙ known x (cases_Bool (bytes_eq y x)) ∙ g.gathered.told x ∙ sym (ap (has x) same) };
          all = λ x. ap (has x) same ∙ still x (cases_Bool (bytes_eq x y)) in_ids ∙ ap (λ b. b || bytes_eq x y) (g.all x) ∙ grown x _ refl;
        }
      where
        known : (x : Id) → (bytes_eq y x ≡ true) ⊎ (bytes_eq y x ≡ false) → (bytes_eq y x || seen x) ≡ seen x
        known x (inl h) = ap (λ b. b || seen x) h ∙ sym (ap seen (sym (same_text y x h)) ∙ there)
        known x (inr h) = ap (λ b. b || seen x) h

        still : (x : Id) → (bytes_eq x y ≡ true) ⊎ (bytes_eq x y ≡ false) → has y ids ≡ true → has x ids ≡ (has x ids || bytes_eq x y)
        still x (inl h) k = ap (λ z. has z ids) (same_text x y h) ∙ k ∙ sym (ap (λ b. has x ids || b) h ∙ or_true (has x ids))
        still x (inr h) k = sym (ap (λ b. has x ids || b) h ∙ or_false (has x ids))
    cases (inr new) =
        let same : more ≡ ids ++ y ∷ [] = is ∙ ap (λ b. cond b ids (ids ++ y ∷ [])) new in
        let out : has y ids ≡ false = sym (g.gathered.told y) ∙ new in
        record {
          gathered = record {
            apart = subst Apart (sym same) (Apart-append ids (y ∷ []) g.gathered.apart (Apart-cons y [] (has-nil y) Apart-nil) (λ x h. has-cons x y [] ∙ ap₂ (λ a b. a || b) (other x h out (cases_Bool (bytes_eq x y))) (has-nil x)));
            told = λ x. put x ∙ ap₂ (λ a b. a || b) (bytes_eq-sym y x) (g.gathered.told x) ∙ turn (bytes_eq x y) (has x ids) ∙ sym (ap (has x) same ∙ end x);
          };
          all = λ x. ap (has x) same ∙ end x ∙ ap (λ b. b || bytes_eq x y) (g.all x) ∙ grown x _ refl;
        }
      where
        other : (x : Id) → has x ids ≡ true → has y ids ≡ false → (bytes_eq x y ≡ true) ⊎ (bytes_eq x y ≡ false) → bytes_eq x y ≡ false
        other x h k (inl e) = no_way (has y ids) (ap (λ z. has z ids) (sym (same_text x y e)) ∙ h) k
        other x h k (inr e) = e

        end : (x : Id) → has x (ids ++ y ∷ []) ≡ (has x ids || bytes_eq x y)
        end x = has-append x ids (y ∷ []) ∙ ap (λ b. has x ids || b) (has-cons x y [] ∙ ap (λ b. bytes_eq x y || b) (has-nil x) ∙ or_false (bytes_eq x y))

        turn : (a b : Bool) → (a || b) ≡ (b || a)
        turn true b = sym (or_true b)
        turn false b = sym (or_false b)

pub gathered_all : (seen : Id → Bool) (old ids from : List Id) (i : ℕ) → length from ≤ i → Gathering seen old ids (take i from) → (x : Id) → has x ids ≡ (has x old || has x from)
gathered_all seen old ids from i le g x = g.all x ∙ ap (λ l. has x old || has x l) (take_all i from le)

pub seen_still : (seen : Id → Bool) (y : Id) → seen y ≡ true → (x : Id) → seen x ≡ (bytes_eq y x || seen x)
seen_still seen y there x = elim (cases_Bool (bytes_eq y x)) [
  | inl h ↦ ap seen (sym (same_text y x h)) ∙ there ∙ sym (ap (λ b. b || seen x) h)
  | inr h ↦ sym (ap (λ b. b || seen x) h)
]
