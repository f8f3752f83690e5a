-- Ranges of a list that is moved or written behind.
use Rattle.std.proofs.Common.{◌≡◌, ◌≤◌, ℕ, ◌+◌, ◌-◌, List, ◌++◌, length, take, drop, sym, ◌∙◌, ap, append_assoc}
use Rattle.std.proofs.Common.{length-drop, length-take-le, arith, slice_range}
use Rattle.std.proofs.lemmas.List.{drop-take, drop-drop}
use Rattle.std.proofs.Math.Seq.{take-add, drop-append_seam, take-append_seam, take-append-add, take-length}

pub drop_front : (n : ℕ) (a x : List ℕ) → length a ≡ n → drop n (a ++ x) ≡ x
drop_front n a x e = ap (λ k. drop k (a ++ x)) (sym e) ∙ drop-append_seam a x

pub take_front : (n : ℕ) (a x : List ℕ) → length a ≡ n → take n (a ++ x) ≡ a
take_front n a x e = ap (λ k. take k (a ++ x)) (sym e) ∙ take-append_seam a x

pub take_front_add : (k n : ℕ) (a x : List ℕ) → length a ≡ k → take (k + n) (a ++ x) ≡ a ++ take n x
take_front_add k n a x e = ap (λ m. take (m + n) (a ++ x)) (sym e) ∙ take-append-add a x n

-- bytes that are written behind a range prolong it
pub range_behind : (old into : List ℕ) (start end n : ℕ) → start ≤ end → end ≤ length old
    → slice_range (take end old ++ into) start (end + n) ≡ slice_range old start end ++ take n into
range_behind old into start end n ordered within =
    let k = end - start in
    let whole : end ≡ start + k = omega arith in
    let front = take start old in
    let kept = take k (drop start old) in
    let cut : take end old ≡ front ++ kept = ap (λ m. take m old) whole ∙ take-add start k old in
    let front_size : length front ≡ start = length-take-le start old (omega arith) in
    let kept_size : length kept ≡ k = length-take-le k (drop start old) (omega (arith, length-drop start old)) in
    let rest : drop start (take end old ++ into) ≡ kept ++ into =
    ap (λ z. drop start (z ++ into)) cut ∙ ap (drop start) (append_assoc front kept into) ∙ drop_front start front (kept ++ into) front_size in
    let count : end + n - start ≡ k + n = omega arith in
    ap (λ m. take m (drop start (take end old ++ into))) count ∙ ap (take (k + n)) rest ∙ take_front_add k n kept into kept_size

-- a range up to the end is moved to the front
pub range_turned : (old new : List ℕ) (start end : ℕ) → start ≤ end → end ≡ length old → new ≡ drop start old ++ take start old
    → slice_range new 0 (0 + (end - start)) ≡ slice_range old start end
range_turned old new start end ordered whole turned =
    let size : length (drop start old) ≡ end - start = omega (arith, length-drop start old) in
    let count : 0 + (end - start) - 0 ≡ end - start = omega arith in
    ap (λ m. take m new) count ∙ ap (take (end - start)) turned ∙ take_front (end - start) (drop start old) (take start old) size
    ∙ sym (ap (λ m. take m (drop start old)) (sym size) ∙ take-length (drop start old))

-- a range without its first bytes
pub range_later : (old : List ℕ) (start n end : ℕ) → start + n ≤ end → slice_range old (start + n) end ≡ drop n (slice_range old start end)
range_later old start n end within =
    let m = end - (start + n) in
    let count : end - start ≡ n + m = omega arith in
    ap (take m) (sym (drop-drop n start old)) ∙ sym (drop-take n m (drop start old)) ∙ ap (λ k. drop n (take k (drop start old))) (sym count)
