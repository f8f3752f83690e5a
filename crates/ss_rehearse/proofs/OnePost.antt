-- A POST takes one number of parts: where more of them are within the limits, so are fewer.
use Rattle.std.proofs.Common.{◌≡◌, ◌⊎◌, ℕ, suc, ◌+◌, ◌<◌, ◌≤◌, List, [], ◌∷◌, ◌++◌, length, map, take, drop, true}
use Rattle.std.proofs.Common.{◌&&◌, nat_le, sym, ap, ap₂, ◌∙◌, inl, inr, arith, append_assoc}
use Rattle.std.proofs.Common.{append-nil}
use Rattle.std.specs.List.{sum_by}
use Rattle.std.proofs.lemmas.Bool.{and_parts, false≢true}
use Rattle.std.proofs.lemmas.Bool.Decides.{nat_tests}
use Rattle.std.proofs.lemmas.List.{length-append, length-take-le, map-append, take-append-drop, take-take}
use Rattle.std.proofs.lemmas.List.Sums.{sum_by-append}
use Rattle.ss_bso.specs.declared.parts.Part.{Part}
use Rattle.ss_plan.specs.Refusals.{payload_bytes}
use Rattle.ss_plan.specs.declared.limits.Limits.{Limits}
use Rattle.ss_route.specs.Sending.{upload_text, uploads_text}
use Rattle.ss_sync.specs.Posts.{IsNext, fits}
use Rattle.ss_sync.proofs.Sizes.{body-bytes, counted, counted-more, objects}

-- ---- fewer parts are shorter

counted_less : (xs ys : List (List ℕ)) → counted xs ≤ counted (xs ++ ys)
counted_less xs [] = let e : counted (xs ++ []) ≡ counted xs = ap counted (append-nil xs) in omega arith
counted_less xs (y ∷ ys) =
    let more = counted-more xs y in
    let rest = counted_less (xs ++ y ∷ []) ys in
    let e : counted ((xs ++ y ∷ []) ++ ys) ≡ counted (xs ++ y ∷ ys) = ap counted (append_assoc xs (y ∷ []) ys) in
    omega (arith, more, rest, e)

body_less : (ps qs : List Part) → 0 < length ps → length (uploads_text ps) ≤ length (uploads_text (ps ++ qs))
body_less ps qs some =
    let long : length (ps ++ qs) ≡ length ps + length qs = length-append ps qs in
    let one = body-bytes ps some in
    let two = body-bytes (ps ++ qs) (omega arith) in
    let e : objects (ps ++ qs) ≡ counted (map upload_text ps ++ map upload_text qs) = ap counted (map-append upload_text ps qs) in
    let less = counted_less (map upload_text ps) (map upload_text qs) in
    omega (arith, one, two, e, less)

-- ---- fewer parts fit

test_less : (a b limit : ℕ) → a ≤ b → nat_le b limit ≡ true → nat_le a limit ≡ true
test_less a b limit le h = grind (arith, nat_tests)

fewer_fit : (limits : Limits) (ps qs : List Part) → 0 < length ps → fits limits (ps ++ qs) ≡ true → fits limits ps ≡ true
unfolding fits
fewer_fit limits ps qs some h =
    let parts = and_parts _ _ h in
    let rest = and_parts _ _ parts.1 in
    let long : length (ps ++ qs) ≡ length ps + length qs = length-append ps qs in
    let paid : sum_by payload_bytes (ps ++ qs) ≡ sum_by payload_bytes ps + sum_by payload_bytes qs = sum_by-append payload_bytes ps qs in
    ap₂ (λ a b. a && b) (test_less (length ps) (length (ps ++ qs)) limits.max_post_records (omega arith) parts.0)
    (ap₂ (λ a b. a && b) (test_less (sum_by payload_bytes ps) (sum_by payload_bytes (ps ++ qs)) limits.max_post_bytes (omega arith) rest.0)
    (test_less (length (uploads_text ps)) (length (uploads_text (ps ++ qs))) limits.max_request_bytes (body_less ps qs some) rest.1))

taken_fit : (limits : Limits) (parts : List Part) (k n : ℕ) → 0 < k → k ≤ n → k ≤ length parts → fits limits (take n parts) ≡ true → fits limits (take k parts) ≡ true
taken_fit limits parts k n some le there h =
    let whole : take k parts ++ drop k (take n parts) ≡ take n parts = ap (λ l. l ++ drop k (take n parts)) (sym (take-take k n parts le)) ∙ take-append-drop k (take n parts) in
    fewer_fit limits (take k parts) (drop k (take n parts)) (let e = length-take-le k parts there in omega (arith, e)) (ap (fits limits) whole ∙ h)

-- ---- one number

not_more : (limits : Limits) (parts : List Part) (n m : ℕ) → IsNext limits parts n → IsNext limits parts m → n < m → ⊥
not_more limits parts n m a b less = go b.within
  where
    there : m ≤ length parts
    there = b.there

    some : 0 < n
    some = a.some

    go : (m ≡ 1) ⊎ (fits limits (take m parts) ≡ true) → ⊥
    go (inl e) = omega (arith, some, less, e)
    go (inr e) =
        let inside : n < length parts = omega (arith, there, less) in
        false≢true (sym (a.full inside) ∙ taken_fit limits parts (suc n) m (omega arith) (omega (arith, less)) (omega (arith, there, less)) e)

pub one_next : (limits : Limits) (parts : List Part) (n m : ℕ) → IsNext limits parts n → IsNext limits parts m → n ≡ m
one_next limits parts n m a b =
    let low = not_more limits parts n m a b in
    let high = not_more limits parts m n b a in
    omega (arith, low, high)
