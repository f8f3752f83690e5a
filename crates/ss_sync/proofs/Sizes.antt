-- The bytes of a body, counted part by part.
use Rattle.std.proofs.Common.{◌≡◌, ℕ, ◌+◌, ◌<◌, ◌≤◌, ◌⊎◌, inl, inr, List, [], ◌∷◌, ◌++◌, length, map, take, get_or}
use Rattle.std.proofs.Common.{Bool, true, false, ◌&&◌, nat_le, codes, refl, sym, ap, ap₂, ◌∙◌, arith, add-one}
use Rattle.std.proofs.Common.{length-append}
use Rattle.std.proofs.lemmas.List.{take_more, length-take-le, map-append}
use Rattle.std.proofs.lemmas.List.Sums.{sum_by-append}
use Rattle.std.specs.List.{join_with_byte, sum_by}
use Rattle.ss_bso.specs.declared.parts.Part.{Part}
use Rattle.ss_plan.specs.declared.limits.Limits.{Limits}
use Rattle.ss_plan.specs.Refusals.{payload_bytes}
use Rattle.ss_route.specs.Texts.{list_text}
use Rattle.ss_route.specs.Sending.{upload_text, uploads_text}
use Rattle.ss_sync.specs.Posts.{fits, IsNext}

-- the bytes of texts, each with one byte more
pub counted : List (List ℕ) → ℕ
counted [] = 0
counted (x ∷ xs) = (length x + 1) + counted xs

pub counted-nil : counted [] ≡ 0
unfolding counted
counted-nil = refl

pub counted-more : (xs : List (List ℕ)) (x : List ℕ) → counted (xs ++ x ∷ []) ≡ counted xs + (length x + 1)
unfolding counted
counted-more [] x = omega arith
counted-more (y ∷ ys) x = ap (λ n. (length y + 1) + n) (counted-more ys x) ∙ omega arith

-- an element's bytes and one more for each
joined-bytes : (x : List ℕ) (xs : List (List ℕ)) → length (join_with_byte 0x2c (x ∷ xs)) + 1 ≡ counted (x ∷ xs)
unfolding counted
joined-bytes x [] = omega arith
joined-bytes x (y ∷ ys) = omega (arith, length-append x (0x2c ∷ join_with_byte 0x2c (y ∷ ys)), joined-bytes y ys)

-- the bytes of a list: those of its elements, each with a comma or the last bracket, and the first bracket
pub list-bytes : (x : List ℕ) (xs : List (List ℕ)) → length (list_text (x ∷ xs)) ≡ 1 + counted (x ∷ xs)
unfolding list_text
list-bytes x xs =
    omega (arith, length-append (codes "[" ++ join_with_byte 0x2c (x ∷ xs)) (codes "]"), length-append (codes "[") (join_with_byte 0x2c (x ∷ xs)), joined-bytes x xs)

-- the objects of parts
abbrev pub objects : List Part → ℕ
objects parts = counted (map upload_text parts)

pub body-bytes : (parts : List Part) → 0 < length parts → length (uploads_text parts) ≡ 1 + objects parts
body-bytes [] h = absurd (omega arith)
body-bytes (p ∷ ps) h = list-bytes (upload_text p) (map upload_text ps)

pub fits-is : (limits : Limits) (parts : List Part) (records payloads body : ℕ) → 0 < length parts → records ≡ length parts → payloads ≡ sum_by payload_bytes parts → body ≡ 1 + objects parts
    → (nat_le records limits.max_post_records && (nat_le payloads limits.max_post_bytes && nat_le body limits.max_request_bytes)) ≡ fits limits parts
unfolding fits
fits-is limits parts records payloads body some r p b =
    ap₂ (λ x y. nat_le x limits.max_post_records && y) r (ap₂ (λ x y. nat_le x limits.max_post_bytes && nat_le y limits.max_request_bytes) p (b ∙ sym (body-bytes parts some)))

-- ---- one part more

pub take_next : (parts : List Part) (i : ℕ) (p : Part) → i < length parts → p ≡ get_or parts i p → take (i + 1) parts ≡ take i parts ++ p ∷ []
take_next parts i p here is = take_more parts i p here ∙ ap (λ y. take i parts ++ y ∷ []) (sym is)

objects-more : (parts : List Part) (p : Part) → objects (parts ++ p ∷ []) ≡ objects parts + (length (upload_text p) + 1)
objects-more parts p = ap counted (map-append upload_text parts (p ∷ [])) ∙ counted-more (map upload_text parts) (upload_text p)

paid-more : (parts : List Part) (p : Part) → sum_by payload_bytes (parts ++ p ∷ []) ≡ sum_by payload_bytes parts + payload_bytes p
paid-more parts p = omega (arith, sum_by-append payload_bytes parts (p ∷ []))

-- the numbers of the first parts
pub record Counts (parts : List Part) (n payloads body : ℕ) : Type 0 where
  pub paid : payloads ≡ sum_by payload_bytes (take n parts)
  pub sized : body ≡ 1 + objects (take n parts)

pub counts_none : (parts : List Part) → Counts parts 0 0 1
unfolding counted
counts_none parts = record { paid = refl; sized = refl }

pub counts_more : (parts : List Part) (n : ℕ) (p : Part) (payloads body pay obj : ℕ) → n < length parts → p ≡ get_or parts n p → pay ≡ payload_bytes p → obj ≡ length (upload_text p)
    → Counts parts n payloads body → Counts parts (n + 1) (payloads + pay) (body + (obj + 1))
counts_more parts n p payloads body pay obj here is a b c = record {
  paid = ap₂ (λ x y. x + y) c.paid a ∙ (sym (paid-more (take n parts) p) ∙ ap (sum_by payload_bytes) (sym (take_next parts n p here is)));
  sized = ap₂ (λ x y. x + (y + 1)) c.sized b ∙ (omega (arith, objects-more (take n parts) p) ∙ ap (λ l. 1 + objects l) (sym (take_next parts n p here is)));
}

pub counts_fit : (limits : Limits) (parts : List Part) (n payloads body : ℕ) (b : Bool) → 0 < n → n ≤ length parts → Counts parts n payloads body
    → b ≡ (nat_le n limits.max_post_records && (nat_le payloads limits.max_post_bytes && nat_le body limits.max_request_bytes)) → b ≡ fits limits (take n parts)
counts_fit limits parts n payloads body b some there c e =
    let len : length (take n parts) ≡ n = length-take-le n parts there in
    e ∙ fits-is limits (take n parts) n payloads body (omega arith) (sym len) c.paid c.sized

-- a POST that can't take one more
pub next_full : (limits : Limits) (parts : List Part) (n : ℕ) (within : Bool) → n < length parts → (0 < n) × (within ≡ false) → within ≡ fits limits (take (n + 1) parts)
    → (n ≤ 1) ⊎ (fits limits (take n parts) ≡ true) → IsNext limits parts n
next_full limits parts n within here f w inside = record {
  some = f.0;
  there = omega arith;
  within = one inside;
  full = λ h. ap (λ k. fits limits (take k parts)) (sym (add-one n)) ∙ (sym w ∙ f.1);
}
  where
    one : (n ≤ 1) ⊎ (fits limits (take n parts) ≡ true) → (n ≡ 1) ⊎ (fits limits (take n parts) ≡ true)
    one (inl le) = inl (omega (arith, f.0))
    one (inr q) = inr q

-- it takes one more
pub next_room : (limits : Limits) (parts : List Part) (n : ℕ) (within : Bool) → (n ≡ 0) ⊎ (within ≡ true) → within ≡ fits limits (take (n + 1) parts) → (n + 1 ≤ 1) ⊎ (fits limits (take (n + 1) parts) ≡ true)
next_room limits parts n within (inl e) w = inl (omega arith)
next_room limits parts n within (inr t) w = inr (sym w ∙ t)

-- it takes all parts
pub next_whole : (limits : Limits) (parts : List Part) (n : ℕ) → 0 < length parts → n ≤ length parts → length parts ≤ n → (n ≤ 1) ⊎ (fits limits (take n parts) ≡ true) → IsNext limits parts (length parts)
next_whole limits parts n some le ge inside = record {
  some = some;
  there = omega arith;
  within = one inside;
  full = λ h. absurd (omega arith);
}
  where
    same : n ≡ length parts
    same = omega arith

    one : (n ≤ 1) ⊎ (fits limits (take n parts) ≡ true) → (length parts ≡ 1) ⊎ (fits limits (take (length parts) parts) ≡ true)
    one (inl l) = inl (omega (arith, same))
    one (inr q) = inr (ap (λ k. fits limits (take k parts)) (sym same) ∙ q)
