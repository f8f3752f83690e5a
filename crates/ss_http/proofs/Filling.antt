-- What a read to the bytes behind a range makes of the range.
use Rattle.std.proofs.Common.{◌≡◌, ◌≤◌, ◌<◌, ℕ, ◌+◌, List, [], ◌∷◌, ◌++◌, length, take, refl, sym, ◌∙◌, ap}
use Rattle.std.proofs.Common.{append_assoc, length-append, arith, slice_range, Result, Ok, Err, IfOk, OnErr}
use Rattle.std.proofs.lemmas.List.{take-append-le, append-nil}
use Rattle.ss_outside.specs.Told.{Meanings, HasRead, bytes_received, EndsAt}
use Rattle.ss_outside.proofs.Telling.{HasRead-none, HasRead-append}
use Rattle.ss_http.specs.Buffers.{Brings, count_of}
use Rattle.ss_http.proofs.Ranges.{range_behind}

pub behind_kept : {E : Type 0} (r : Result ℕ E) (old new into post : List ℕ) (start end : ℕ) (a b : Meanings) → new ≡ take end old ++ (into ++ post)
    → start ≤ end → end ≤ length old → IfOk r (λ n. n ≤ length into) → HasRead (bytes_received r into) a b
    → Brings (slice_range old start end) (slice_range new start (end + count_of r)) a b
behind_kept (Ok n) old new into post start end a b is ordered within bound read = record {
  got = take n into;
  kept = ap (λ z. slice_range z start (end + n)) is ∙ range_behind old (into ++ post) start end n ordered within
      ∙ ap (λ z. slice_range old start end ++ z) (take-append-le n into post bound);
  read = read;
}
behind_kept (Err e) old new into post start end a b is ordered within bound read = record {
  got = [];
  kept = ap (λ z. slice_range z start (end + 0)) is ∙ range_behind old (into ++ post) start end 0 ordered within;
  read = read;
}

pub behind_err : {E : Type 0} (r : Result ℕ E) (old new into post : List ℕ) (start end : ℕ) → new ≡ take end old ++ (into ++ post)
    → start ≤ end → end ≤ length old → OnErr r (slice_range new start end ≡ slice_range old start end)
behind_err (Ok n) old new into post start end is ordered within = tt
behind_err (Err e) old new into post start end is ordered within =
    ap (λ z. slice_range z start end) is ∙ ap (λ m. slice_range (take end old ++ (into ++ post)) start m) (let m : end ≡ end + 0 = omega arith in m)
    ∙ range_behind old (into ++ post) start end 0 ordered within ∙ append-nil (slice_range old start end)

pub behind_ended : {E : Type 0} (r : Result ℕ E) (room : ℕ) (a : Meanings) → 0 < room → EndsAt r room a → EndsAt r 1 a
behind_ended (Ok n) room a some ended = λ none one. ended none some
behind_ended (Err e) room a some ended = tt

pub Brings-none : (old : List ℕ) (a : Meanings) → Brings old old a a
Brings-none old a = record { got = []; kept = sym (append-nil old); read = HasRead-none a }

-- two readings in a row
pub Brings-append : (old mid new : List ℕ) (a b c : Meanings) → Brings old mid a b → Brings mid new b c → Brings old new a c
Brings-append old mid new a b c first then = record {
  got = first.got ++ then.got;
  kept = then.kept ∙ ap (λ z. z ++ then.got) first.kept ∙ append_assoc old first.got then.got;
  read = HasRead-append first.got then.got a b c first.read then.read;
}

-- a read that brought no byte
pub brought_none : (old new : List ℕ) (a b : Meanings) → Brings old new a b → length new ≡ length old → new ≡ old
brought_none old new a b brings same =
    let count : length new ≡ length old + length brings.got = ap length brings.kept ∙ length-append old brings.got in
    let none : brings.got ≡ [] = of_no_length brings.got (omega arith) in
    brings.kept ∙ ap (λ z. old ++ z) none ∙ append-nil old
  where
    of_no_length : (l : List ℕ) → length l ≡ 0 → l ≡ []
    of_no_length [] e = refl
    of_no_length (x ∷ l) e = absurd (omega arith)
