-- What the loops over a request's parts and over the rows keep.
use Rattle.std.specs.Prelude.{◌≡◌, ℕ, ◌+◌, ◌<◌, min, Bool, true, false, not, cond, ◌||◌, List, [], ◌∷◌, ◌++◌, length}
use Rattle.std.specs.Prelude.{take, get_or, map, filter, bytes_eq, refl}
use Rattle.std.specs.List.{list_any}
use Rattle.std.proofs.Common.{sym, ap, ◌∙◌, arith}
use Rattle.std.proofs.lemmas.List.{take_more, append-nil}
use Rattle.std.proofs.lemmas.List.Elements.{filter-append}
use Rattle.std.proofs.lemmas.List.Sums.{sum_by-append}
use Rattle.ss_text.specs.Texts.{once_by}
use Rattle.ss_bso.specs.declared.rows.Row.{Row}
use Rattle.ss_bso.specs.declared.parts.Part.{Part}
use Rattle.ss_bso.specs.declared.parts.Reason.{Reason}
use Rattle.ss_bso.specs.Write.{ids_of, is_among}
use Rattle.ss_query.specs.Told.{first_failures}
use Rattle.ss_bso.specs.Limits.{row_bytes}
use Rattle.ss_writes.specs.declared.sizes.Size.{Size}
use Rattle.ss_batch.specs.Stage.{most_counted}
use Rattle.ss_writes.specs.Parts.{IsSize}
use Rattle.ss_text.proofs.Basics.{bytes_eq-flip, same_text, bytes_eq-same}

-- the elements each once, with one more element
module _ {X : Type 0} (key : X → List ℕ) where
  abbrev Holds : List ℕ → List X → Bool
  Holds text xs = list_any (λ x. bytes_eq (key x) text) xs

  holds-others : (text other : List ℕ) (xs : List X) → bytes_eq other text ≡ false → Holds text (filter (λ y. not (bytes_eq (key y) other)) xs) ≡ Holds text xs
  holds-others text other [] e = refl
  holds-others text other (x ∷ xs) e =
      elim (bytes_eq (key x) other) as (λ v. bytes_eq (key x) other ≡ v → Holds text (cond (not v) (x ∷ filter (λ y. not (bytes_eq (key y) other)) xs) (filter (λ y. not (bytes_eq (key y) other)) xs)) ≡ (bytes_eq (key x) text || Holds text xs)) [
        | true ↦ (λ h. holds-others text other xs e ∙ ap (λ b. b || Holds text xs) (sym (ap (λ (name : List ℕ). bytes_eq name text) (same_text (key x) other h) ∙ e)))
        | false ↦ (λ h. ap (λ b. bytes_eq (key x) text || b) (holds-others text other xs e))
      ] refl

  abbrev grown : Bool → List X → X → List X
  grown known xs y = cond known xs (xs ++ y ∷ [])

  drop-known : (known : Bool) (xs : List X) (x y : X) → bytes_eq (key x) (key y) ≡ true
      → filter (λ z. not (bytes_eq (key z) (key x))) (grown known xs y) ≡ filter (λ z. not (bytes_eq (key z) (key x))) xs
  drop-known true xs x y e = refl
  drop-known false xs x y e =
      let test : bytes_eq (key y) (key x) ≡ true = bytes_eq-same (key y) (key x) (sym (same_text (key x) (key y) e)) in
      filter-append (λ z. not (bytes_eq (key z) (key x))) xs (y ∷ [])
      ∙ ap (λ b. filter (λ z. not (bytes_eq (key z) (key x))) xs ++ cond (not b) (y ∷ []) []) test
      ∙ append-nil (filter (λ z. not (bytes_eq (key z) (key x))) xs)

  keep-new : (known : Bool) (xs : List X) (x y : X) → bytes_eq (key x) (key y) ≡ false
      → filter (λ z. not (bytes_eq (key z) (key x))) (grown known xs y) ≡ grown known (filter (λ z. not (bytes_eq (key z) (key x))) xs) y
  keep-new true xs x y e = refl
  keep-new false xs x y e =
      filter-append (λ z. not (bytes_eq (key z) (key x))) xs (y ∷ [])
      ∙ ap (λ b. filter (λ z. not (bytes_eq (key z) (key x))) xs ++ cond (not b) (y ∷ []) []) (bytes_eq-flip (key x) (key y) e)

  cons-grown : (known : Bool) (x : X) (xs : List X) (y : X) → x ∷ grown known xs y ≡ grown known (x ∷ xs) y
  cons-grown true x xs y = refl
  cons-grown false x xs y = refl

  pub once-more : (xs : List X) (y : X) → once_by key (xs ++ y ∷ []) ≡ grown (Holds (key y) (once_by key xs)) (once_by key xs) y
  once-more [] y = refl
  once-more (x ∷ xs) y =
      let rest : List X → List X = λ zs. filter (λ z. not (bytes_eq (key z) (key x))) zs in
      let once = once_by key xs in
      let known = Holds (key y) once in
      elim (bytes_eq (key x) (key y)) as (λ v. bytes_eq (key x) (key y) ≡ v → x ∷ rest (once_by key (xs ++ y ∷ [])) ≡ grown (v || Holds (key y) (rest once)) (x ∷ rest once) y) [
        | true ↦ (λ h. ap (λ zs. x ∷ zs) (ap rest (once-more xs y) ∙ drop-known known once x y h))
        | false ↦ (λ h.
            ap (λ zs. x ∷ zs) (ap rest (once-more xs y) ∙ keep-new known once x y h)
            ∙ cons-grown known x (rest once) y
            ∙ ap (λ b. grown b (x ∷ rest once) y) (sym (holds-others (key y) (key x) once h)))
      ] refl

-- one part more, of an id that is known or of a new one
pub ids-more : (parts : List Part) (part : Part) (ids : List (List ℕ)) (known : Bool) → ids ≡ ids_of parts → known ≡ is_among ids part.id
    → ids_of (parts ++ part ∷ []) ≡ cond known ids (ids ++ part.id ∷ [])
ids-more parts part ids known e k =
    ap (once_by (λ id. id)) (map-one parts part)
    ∙ once-more (λ id. id) (map (λ (p : Part). p.id) parts) part.id
    ∙ (λ i. cond (is_among (sym e i) part.id) (sym e i) (sym e i ++ part.id ∷ []))
    ∙ ap (λ b. cond b ids (ids ++ part.id ∷ [])) (sym k)
  where
    map-one : (ps : List Part) (q : Part) → map (λ (p : Part). p.id) (ps ++ q ∷ []) ≡ map (λ (p : Part). p.id) ps ++ q.id ∷ []
    map-one [] q = refl
    map-one (p ∷ ps) q = ap (λ rest. p.id ∷ rest) (map-one ps q)

pub failures-step : (failed : List (List ℕ × Reason)) (k : ℕ) (failure : List ℕ × Reason) (first left : List (List ℕ × Reason)) (known : Bool) → k < length failed → failure ≡ get_or failed k failure
    → first ≡ first_failures (take k failed) → known ≡ list_any (λ (f : List ℕ × Reason). bytes_eq f.0 failure.0) first → left ≡ cond known first (first ++ failure ∷ [])
    → left ≡ first_failures (take (k + 1) failed)
failures-step failed k failure first left known lt at e t l =
    l
    ∙ sym (ap first_failures (take_more failed k failure lt ∙ ap (λ f. take k failed ++ f ∷ []) (sym at))
    ∙ once-more (λ (f : List ℕ × Reason). f.0) (take k failed) failure
    ∙ (λ i. cond (list_any (λ (f : List ℕ × Reason). bytes_eq f.0 failure.0) (sym e i)) (sym e i) (sym e i ++ failure ∷ []))
    ∙ ap (λ b. cond b first (first ++ failure ∷ [])) (sym t))

-- one row more in a size
pub size-with : (old : List Row) (size left : Size) (row : Row) → IsSize old size → left.rows ≡ min (size.rows + 1) most_counted → left.bytes ≡ min (size.bytes + length row.payload) most_counted
    → IsSize (old ++ row ∷ []) left
size-with old size left row is r b =
    let number : size.rows ≡ min (length old) most_counted = is.number in
    let bytes : size.bytes ≡ min (row_bytes old) most_counted = is.bytes in
    let one : length (old ++ row ∷ []) ≡ length old + 1 = length-more old in
    let more : row_bytes (old ++ row ∷ []) ≡ row_bytes old + length row.payload = sum_by-append (λ (x : Row). length x.payload) old (row ∷ []) ∙ omega arith in
    record { number = omega (arith, number, one, r); bytes = omega (arith, bytes, more, b) }
  where
    length-more : (xs : List Row) → length (xs ++ row ∷ []) ≡ length xs + 1
    length-more [] = refl
    length-more (x ∷ xs) = let rest : length (xs ++ row ∷ []) ≡ length xs + 1 = length-more xs in omega (arith, rest)
