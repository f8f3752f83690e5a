-- What a search for a byte answers, as std says it.
use Rattle.std.proofs.Common.{◌≡◌, ℕ, Bool, List, length, Option, Some, None, cond, ltb, sym, ap, ap₂, ◌∙◌, arith, position}
use Rattle.std.proofs.Common.{lt-ltb, le-ltb}
use Rattle.std.proofs.lemmas.Bool.{false_from_ne_true}
use Rattle.std.proofs.lemmas.List.Sums.{position_or_len_is}
use Rattle.memchr.specs.Find.{IsFirstByte}

pub first_is_position : (test : ℕ → Bool) (t : List ℕ) (r : Option ℕ) → IsFirstByte test t r → r ≡ position test t
first_is_position test t None h =
    let end = position_or_len_is test t (length t) 0 (omega arith) (λ k less. false_from_ne_true _ (λ e. h k (omega arith) less e)) (λ less. let never : ⊥ = omega arith in absurd never) in
    sym (ap₂ (λ b n. cond b (Some n) None) (ap (λ n. ltb n (length t)) end ∙ le-ltb (length t) (length t) (omega arith)) end)
first_is_position test t (Some k) h =
    let first = h.0 in
    let place = position_or_len_is test t k 0 (omega (arith, first.high)) (λ j less. false_from_ne_true _ (λ e. first.before j (omega arith) less e)) (λ less. h.1) in
    sym (ap₂ (λ b n. cond b (Some n) None) (ap (λ n. ltb n (length t)) place ∙ lt-ltb k (length t) first.high) place)
