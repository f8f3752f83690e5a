-- The batches of the bookmarks by their numbers.
use Rattle.std.specs.Prelude.{◌≡◌, ℕ, Bool, true, false, ◌&&◌, ◌==◌, cond, List, [], ◌∷◌, ◌++◌, map, filter, Some}
use Rattle.std.specs.Prelude.{option_map, bytes_eq, refl}
use Rattle.std.proofs.Common.{sym, ap, ◌∙◌, inl, inr}
use Rattle.ss_bso.specs.declared.parts.Part.{Part}
use Rattle.ss_bso.specs.declared.account.Staged.{Staged}
use Rattle.ss_bso.specs.Batches.{batch_in, grown}
use Rattle.ss_bso.specs.Lists.{Pairs}
use Rattle.ss_bso.proofs.Lists.{Each-filter, Each-find, find-passes}
use Rattle.ss_serving.specs.Good.{OtherNumber}
use Rattle.ss_serving.proofs.Lists.{Among, among_each, find_mapped}
use Rattle.ss_text.proofs.Basics.{both_left, both_right}
use Rattle.ss_laws.proofs.Valid.{number-grown}
use Rattle.std.proofs.lemmas.Bool.{eqb-true, ne_eqb, eq-eqb}

-- its parts
abbrev pub parts_in : Staged → List Part
parts_in batch = batch.parts

-- whether a batch has this number and collection
abbrev pub is_it : List ℕ → ℕ → Staged → Bool
is_it collection number batch = batch.number == number && bytes_eq batch.collection collection

pub found_number : (collection : List ℕ) (number : ℕ) (batches : List Staged) (batch : Staged) → batch_in collection number batches ≡ Some batch → batch.number ≡ number
found_number collection number batches batch e =
    eqb-true batch.number number (both_left (batch.number == number) (bytes_eq batch.collection collection) (find-passes (is_it collection number) batches batch e))

pub found_collection : (collection : List ℕ) (number : ℕ) (batches : List Staged) (batch : Staged) → batch_in collection number batches ≡ Some batch → bytes_eq batch.collection collection ≡ true
found_collection collection number batches batch e =
    both_right (batch.number == number) (bytes_eq batch.collection collection) (find-passes (is_it collection number) batches batch e)

-- what is found among fewer is found among all
pub found_before : (collection : List ℕ) (number : ℕ) (q : Staged → Bool) (batches : List Staged) → Pairs OtherNumber batches → (batch : Staged) → batch_in collection number (filter q batches) ≡ Some batch → batch_in collection number batches ≡ Some batch
found_before collection number q [] p batch e = e
found_before collection number q (first ∷ batches) p batch e =
    elim (q first) as (λ v. batch_in collection number (cond v (first ∷ filter q batches) (filter q batches)) ≡ Some batch → batch_in collection number (first ∷ batches) ≡ Some batch) [
      | true ↦ (λ h. passed (λ g. found_before collection number q batches p.1 batch g) (is_it collection number first) h)
      | false ↦ (λ h.
          elim (is_it collection number first) as (λ v. is_it collection number first ≡ v → cond v (Some first) (batch_in collection number batches) ≡ Some batch) [
            | true ↦ (λ t.
                let one : first.number ≡ number = eqb-true first.number number (both_left (first.number == number) (bytes_eq first.collection collection) t) in
                absurd (Each-find (OtherNumber first) (is_it collection number) (filter q batches) batch h (Each-filter (OtherNumber first) q batches p.0) (one ∙ sym (found_number collection number (filter q batches) batch h))))
            | false ↦ (λ t. found_before collection number q batches p.1 batch h)
          ] refl)
    ] e
  where
    passed : (batch_in collection number (filter q batches) ≡ Some batch → batch_in collection number batches ≡ Some batch) → (v : Bool)
        → cond v (Some first) (batch_in collection number (filter q batches)) ≡ Some batch → cond v (Some first) (batch_in collection number batches) ≡ Some batch
    passed later true h = h
    passed later false h = later h

-- of one number there is one batch
pub one_number : (batches : List Staged) → Pairs OtherNumber batches → (batch other : Staged) → Among batch batches → Among other batches → batch.number ≡ other.number → batch ≡ other
one_number [] p batch other h g e = absurd h
one_number (first ∷ batches) p batch other (inl h) (inl g) e = h ∙ sym g
one_number (first ∷ batches) p batch other (inl h) (inr g) e = absurd (among_each (OtherNumber first) other batches p.0 g (ap (λ (b : Staged). b.number) (sym h) ∙ e))
one_number (first ∷ batches) p batch other (inr h) (inl g) e = absurd (among_each (OtherNumber first) batch batches p.0 h (ap (λ (b : Staged). b.number) (sym g) ∙ sym e))
one_number (first ∷ batches) p batch other (inr h) (inr g) e = one_number batches p.1 batch other h g e

pub collection_grown : (number : ℕ) (parts : List Part) (batch : Staged) → (grown number parts batch).collection ≡ batch.collection
collection_grown number parts batch =
    elim (batch.number == number) as (λ v. let left : Staged = cond v (record batch { parts = batch.parts ++ parts }) batch in left.collection ≡ batch.collection) [ true ↦ refl | false ↦ refl ]

pub found_grown : (collection : List ℕ) (wanted number : ℕ) (parts : List Part) (batches : List Staged) → batch_in collection wanted (map (grown number parts) batches) ≡ option_map (grown number parts) (batch_in collection wanted batches)
found_grown collection wanted number parts batches =
    find_mapped (is_it collection wanted) (grown number parts)
    (λ batch. ap (λ (n : ℕ). n == wanted && bytes_eq (grown number parts batch).collection collection) (number-grown number parts batch)
    ∙ ap (λ (name : List ℕ). batch.number == wanted && bytes_eq name collection) (collection_grown number parts batch)) batches

pub grown_it : (number : ℕ) (parts : List Part) (batch : Staged) → batch.number ≡ number → (grown number parts batch).parts ≡ batch.parts ++ parts
grown_it number parts batch e =
    ap (λ v. let left : Staged = cond v (record batch { parts = batch.parts ++ parts }) batch in left.parts) (eq-eqb batch.number number e)

pub grown_not : (number : ℕ) (parts : List Part) (batch : Staged) → (batch.number ≡ number → ⊥) → grown number parts batch ≡ batch
grown_not number parts batch e =
    ap (λ v. let left : Staged = cond v (record batch { parts = batch.parts ++ parts }) batch in left) (ne_eqb batch.number number e)
