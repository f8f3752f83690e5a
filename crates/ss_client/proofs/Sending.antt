-- The requests of a machine can be sent.
use Rattle.std.proofs.Common.{◌≡◌, ◌⊎◌, ℕ, ◌≤◌, List, [], ◌∷◌, length, take, sum_by, Bool, true, false, cond, ◌&&◌}
use Rattle.std.proofs.Common.{nat_lt, nat_le, Option, Some, None, option_map, find, filter_map, refl, sym, ap, subst}
use Rattle.std.proofs.Common.{inl, inr, arith}
use Rattle.std.specs.List.{All, cons_option}
use Rattle.std.proofs.lemmas.List.Elements.{All-cons, All-append}
use Rattle.ss_tree.specs.declared.entries.Entry.{Entry}
use Rattle.ss_bso.specs.declared.limits.TheConstants.{MOST_RECORD_PAYLOAD_BYTES, MOST_POST_RECORDS, MOST_POST_BYTES}
use Rattle.ss_bso.specs.declared.parts.Part.{Part}
use Rattle.ss_bso.specs.declared.parts.Field.{Field}
use Rattle.ss_bso.specs.declared.parts.Field.TheVariants.{Keep, Clear, Set}
use Rattle.ss_bso.specs.Limits.{payload_size, part_bytes}
use Rattle.ss_plan.specs.declared.limits.Limits.{Limits}
use Rattle.ss_plan.specs.declared.limits.PlanFault.{PlanFault}
use Rattle.ss_plan.specs.Plan.{Readings, part, puts, plan}
use Rattle.ss_plan.specs.Refusals.{payload_bytes, first_over, refusal, or_else}
use Rattle.ss_bso.specs.Put.{payload_set}
use Rattle.ss_route.specs.Sending.{IsUpload, uploads_text}
use Rattle.ss_sync.specs.Posts.{fits, IsNext}
use Rattle.ss_client.specs.Sound.{AreOurs}
use Rattle.std.proofs.lemmas.Bool.{and_parts, leb-true, ltb-false}

-- ---- the parts of a plan

puts_uploads : (f : List ℕ → Option (List ℕ)) (xs : List (List ℕ)) → All IsUpload (puts f xs)
unfolding puts
puts_uploads f [] = λ k d h. absurd (omega arith)
puts_uploads f (x ∷ xs) = go (f x) (puts_uploads f xs)
  where
    go : (o : Option (List ℕ)) → All IsUpload (filter_map (λ y. option_map (part y) (f y)) xs) → All IsUpload (cons_option (option_map (part x) o) (filter_map (λ y. option_map (part y) (f y)) xs))
    go None ih = ih
    go (Some text) ih = All-cons IsUpload (part x text) _ (record { text = text; payload = refl; sortindex = refl; ttl = refl }) ih

pub plan_uploads : (es : List Entry) (readings : Readings) → All IsUpload (plan es readings)
unfolding plan
plan_uploads es readings = All-append IsUpload _ _ (puts_uploads _ _) (puts_uploads _ _)

-- ---- the payloads of a plan that isn't refused

none_over : (most : ℕ) (parts : List Part) → find (λ p. nat_lt most (payload_bytes p)) parts ≡ None → All (λ p. payload_bytes p ≤ most) parts
none_over most [] e = λ k d h. absurd (omega arith)
none_over most (p ∷ parts) e = go (nat_lt most (payload_bytes p)) refl e (none_over most parts)
  where
    go : (b : Bool) → nat_lt most (payload_bytes p) ≡ b → cond b (Some p) (find (λ q. nat_lt most (payload_bytes q)) parts) ≡ None
        → (find (λ q. nat_lt most (payload_bytes q)) parts ≡ None → All (λ q. payload_bytes q ≤ most) parts) → All (λ q. payload_bytes q ≤ most) (p ∷ parts)
    go true q n ih = cc
    go false q n ih = All-cons (λ r. payload_bytes r ≤ most) p parts (ltb-false most (payload_bytes p) q) (ih n)

first_none : (o : Option Part) (f : Part → PlanFault) (rest : Option PlanFault) → or_else (option_map f o) rest ≡ None → o ≡ None
first_none None f rest e = refl
first_none (Some p) f rest e = cc

pub not_refused : (limits : Limits) (parts : List Part) → AreOurs limits → refusal limits parts ≡ None → All (λ p. payload_bytes p ≤ MOST_RECORD_PAYLOAD_BYTES) parts
unfolding refusal
not_refused limits parts ours e =
    let all = none_over limits.max_record_payload_bytes parts (first_none (first_over payload_bytes limits.max_record_payload_bytes parts) _ _ e) in
    λ k d h. omega (arith, all k d h, ours.payload)

-- ---- a POST

size_is : (p : Part) → payload_size p.fields.payload ≡ payload_bytes p
size_is p = go p.fields.payload
  where
    go : (f : Field (List ℕ)) → payload_size f ≡ length (payload_set f)
    go Keep = refl
    go Clear = refl
    go (Set text) = refl

bytes_are : (parts : List Part) → part_bytes parts ≡ sum_by payload_bytes parts
bytes_are parts = λ i. sum_by (λ p. size_is p i) parts

fit_within : (limits : Limits) (parts : List Part) → AreOurs limits → fits limits parts ≡ true → (length parts ≤ MOST_POST_RECORDS) × (part_bytes parts ≤ MOST_POST_BYTES)
unfolding fits
fit_within limits parts ours e =
    let h = and_parts (nat_le (length parts) limits.max_post_records) (nat_le (sum_by payload_bytes parts) limits.max_post_bytes && nat_le (length (uploads_text parts)) limits.max_request_bytes) e in
    let g = and_parts (nat_le (sum_by payload_bytes parts) limits.max_post_bytes) (nat_le (length (uploads_text parts)) limits.max_request_bytes) h.1 in
    (omega (arith, leb-true _ _ h.0, ours.records), omega (arith, leb-true _ _ g.0, ours.bytes, bytes_are parts))

one_within : (parts : List Part) (n : ℕ) → All (λ p. payload_bytes p ≤ MOST_RECORD_PAYLOAD_BYTES) parts → n ≡ 1 → n ≤ length parts → (length (take n parts) ≤ MOST_POST_RECORDS) × (part_bytes (take n parts) ≤ MOST_POST_BYTES)
one_within [] n small e there = absurd (omega arith)
one_within (p ∷ parts) n small e there =
    let one : take n (p ∷ parts) ≡ p ∷ [] = ap (λ k. take k (p ∷ parts)) e in
    let here : payload_bytes p ≤ MOST_RECORD_PAYLOAD_BYTES = small 0 p (omega arith) in
    (subst (λ l. length l ≤ MOST_POST_RECORDS) (sym one) (omega arith), subst (λ l. part_bytes l ≤ MOST_POST_BYTES) (sym one) (omega (arith, here, size_is p)))

pub next_within : (limits : Limits) (parts : List Part) (n : ℕ) → AreOurs limits → All (λ p. payload_bytes p ≤ MOST_RECORD_PAYLOAD_BYTES) parts → IsNext limits parts n → (length (take n parts) ≤ MOST_POST_RECORDS) × (part_bytes (take n parts) ≤ MOST_POST_BYTES)
next_within limits parts n ours small i = go i.within
  where
    go : (n ≡ 1) ⊎ (fits limits (take n parts) ≡ true) → (length (take n parts) ≤ MOST_POST_RECORDS) × (part_bytes (take n parts) ≤ MOST_POST_BYTES)
    go (inl e) = one_within parts n small e i.there
    go (inr e) = fit_within limits (take n parts) ours e
