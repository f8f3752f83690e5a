-- Ids that are met one by one, none twice.
use Rattle.std.proofs.Common.{◌≡◌, ℕ, ◌+◌, ◌<◌, ◌≤◌, ◌↔◌, ◌||◌, List, [], ◌∷◌, ◌++◌, length, take, get_or, Bool, true}
use Rattle.std.proofs.Common.{false, not, cond, refl, sym, ap, ap₂, ◌∙◌, subst, bytes_eq}
use Rattle.std.specs.List.{list_any}
use Rattle.std.proofs.lemmas.Bool.{false≢true}
use Rattle.std.proofs.lemmas.List.{take_more, take_all}
use Rattle.ss_record.specs.Ids.{Apart, has, places}
use Rattle.ss_record.proofs.IdLists.{has-nil, Apart-nil, Apart-cons, Apart-append}
use Rattle.ss_build.proofs.Taking.{not_in_front}
use Rattle.ss_text.proofs.Basics.{same_text}

pub record Met (xs keys : List (List ℕ)) (i : ℕ) : Type 0 where
  pub keys_are : keys ≡ take i xs
  pub apart : Apart (take i xs)

pub none_met : (xs keys : List (List ℕ)) → keys ≡ [] → Met xs keys 0
none_met xs keys e = record { keys_are = e; apart = Apart-nil }

single : (x : List ℕ) → Apart (x ∷ [])
single x = Apart-cons x [] (has-nil x) Apart-nil

pub met_more : (xs keys new : List (List ℕ)) (i : ℕ) (x : List ℕ) (b : Bool) → i < length xs → x ≡ get_or xs i places → b ≡ not (list_any (bytes_eq x) keys) → b ≡ true
    → new ≡ cond (list_any (bytes_eq x) keys) keys (keys ++ x ∷ []) → Met xs keys i → Met xs new (i + 1)
unfolding has
met_more xs keys new i x b l e w t n m = record {
  keys_are = n ∙ (ap (λ c. cond c keys (keys ++ x ∷ [])) fresh ∙ grown);
  apart = subst Apart grown (Apart-append keys (x ∷ []) (subst Apart (sym m.keys_are) m.apart) (single x) clash);
}
  where
    not_false : (c : Bool) → not c ≡ true → c ≡ false
    not_false true e = cc
    not_false false e = refl

    fresh : list_any (bytes_eq x) keys ≡ false
    fresh = not_false (list_any (bytes_eq x) keys) (sym w ∙ t)

    grown : keys ++ x ∷ [] ≡ take (i + 1) xs
    grown = ap₂ (λ ks y. ks ++ y ∷ []) m.keys_are e ∙ sym (take_more xs i places l)

    clash : (z : List ℕ) → has z keys ≡ true → has z (x ∷ []) ≡ false
    clash z h = go (bytes_eq z x) refl
      where
        go : (c : Bool) → bytes_eq z x ≡ c → (c || false) ≡ false
        go true q = absurd (false≢true (sym fresh ∙ (ap (λ y. list_any (bytes_eq y) keys) (sym (same_text z x q)) ∙ h)))
        go false q = refl

pub met_twice : (xs keys : List (List ℕ)) (i : ℕ) (x : List ℕ) (b : Bool) → i < length xs → x ≡ get_or xs i places → b ≡ not (list_any (bytes_eq x) keys) → b ≡ false → Met xs keys i → (false ≡ true) ↔ Apart xs
unfolding has
met_twice xs keys i x b l e w f m = ((λ h. absurd (false≢true h)), (λ a. absurd (false≢true (sym (not_in_front xs i places a l) ∙ (ap₂ (λ y ks. list_any (bytes_eq y) ks) (sym e) (sym m.keys_are) ∙ was)))))
  where
    not_true : (c : Bool) → not c ≡ false → c ≡ true
    not_true true e = refl
    not_true false e = cc

    was : list_any (bytes_eq x) keys ≡ true
    was = not_true (list_any (bytes_eq x) keys) (sym w ∙ f)

pub met_all : (xs keys : List (List ℕ)) (i : ℕ) → length xs ≤ i → Met xs keys i → (true ≡ true) ↔ Apart xs
met_all xs keys i l m = ((λ h. subst Apart (take_all i xs l) m.apart), (λ a. refl))
