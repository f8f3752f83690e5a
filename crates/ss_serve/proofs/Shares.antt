-- What halving makes of passes that made no call.
use Rattle.std.proofs.Common.{◌≡◌, ℕ, zero, suc, ◌+◌, ◌<◌, ◌≤◌, ◌/◌, List, [], ◌∷◌, length, map, refl, sym, ap, ◌∙◌}
use Rattle.std.proofs.Common.{subst, arith, Option, Bool}
use mathlib.Core.Option.{some-ne-none}
use mathlib.Core.Logic.{dite}
use native.Mathlib.Decide.{dec_lt}
use Rattle.ss_desk.specs.declared.pass.RawPass.{RawPass}
use Rattle.ss_desk.specs.declared.view.View.{View}
use Rattle.ss_desk.specs.declared.view.Range.{Range}
use Rattle.ss_desk.specs.Journal.{entries_of}
use Rattle.ss_desk.specs.Passes.{view_at, Halves}
use Rattle.ss_desk.specs.Views.{range_of, lower, spent, numbers, middle}
use Rattle.ss_outside.specs.Told.{Meanings}
use Rattle.ss_laws.specs.declared.journal.Entry.{Entry}
use Rattle.ss_booked.specs.declared.booked.Terms.{Terms}
use Rattle.ss_route.specs.declared.manner.Manner.{Manner}
use Rattle.ss_connection.specs.Known.{known_by}
use Rattle.ss_serve.specs.Crew.{IsStart, Works, fixed_at}
use Rattle.ss_serve.specs.Workers.{half}

pub halves_fall : (m k : ℕ) → k ≤ m → half m ≤ half k
halves_fall zero k le = let e : k ≡ 0 = omega arith in subst (λ n. half zero ≤ half n) (sym e) (omega arith)
halves_fall (suc m) k le = dite (dec_lt k (suc m))
    (λ less. let r = halves_fall m k (omega arith) in let d : half m / 2 ≤ half m = omega arith in let all : half m / 2 ≤ half k = omega arith in all)
    (λ more. let e : k ≡ suc m = omega arith in subst (λ n. half (suc m) ≤ half n) (sym e) (omega arith))

last_half : half 17 ≡ 32768
last_half = refl

pub halves_pos : (k : ℕ) → k ≤ 17 → 0 < half k
halves_pos k le = let r = halves_fall 17 k le in omega (arith, last_half)

pub halves_drop : (m k : ℕ) → k < m → m ≤ 17 → half m < half k
halves_drop m k lt le =
    let a = halves_fall m (suc k) (omega arith) in let p = halves_pos k (omega arith) in
    let d : half k / 2 < half k = omega arith in let b : half m ≤ half k / 2 = a in omega arith

module _ {T F E : Type 0} where
  pub past_end : (ps : List (RawPass T F E)) (i : ℕ) → length ps ≤ i → view_at ps i ≡ spent
  past_end [] i le = refl
  past_end (p ∷ ps) zero le = absurd (omega arith)
  past_end (p ∷ ps) (suc i) le = past_end ps i (omega arith)

sixteenth : half 16 ≡ 65536
sixteenth = refl

pub many : (k : ℕ) (v : View Terms Entry) → k < 16 → IsStart k v → 2 ≤ numbers v
many k v few h =
    let r = halves_fall 16 k (omega arith) in
    let first : v.range.first ≡ 0 = ap (λ (r : Range). r.first) h.0.range in
    let end : v.range.end ≡ half k = ap (λ (r : Range). r.end) h.0.range in omega (arith, sixteenth)

cut_at : (k : ℕ) (v : View Terms Entry) → IsStart k v → middle v ≡ half (suc k)
cut_at k v h =
    let first : v.range.first ≡ 0 = ap (λ (r : Range). r.first) h.0.range in
    let end : v.range.end ≡ half k = ap (λ (r : Range). r.end) h.0.range in
    let both : v.range.first + v.range.end ≡ half k = omega arith in ap (λ n. n / 2) both

module _ {T : Type 0} (k : ℕ) (ps qs rs : List (RawPass T Terms Entry)) (start : (i : ℕ) → i < length ps → IsStart k (view_at ps i)) (h : Halves ps qs rs) where
  pub starts_low : (i : ℕ) → i < length qs → IsStart (k + 1) (view_at qs i)
  starts_low i lt =
      let within : i < length ps = omega (arith, h.0) in let s = start i within in let v = view_at ps i in
      let first : v.range.first ≡ 0 = ap (λ (r : Range). r.first) s.0.range in
      let e : suc k ≡ k + 1 = omega arith in
      subst (λ (w : View Terms Entry). IsStart (k + 1) w) (sym (h.2 i within).0) (subst (λ n. IsStart n (lower v)) e (
        record {
          range = ap (λ n. range_of n (middle v)) first ∙ ap (range_of 0) (cut_at k v s);
          no_book = s.0.no_book;
          not_acted = s.0.not_acted;
        },
        s.1,
      ))

  -- what no halving changes
  pub fixed_low : fixed_at qs ≡ fixed_at ps
  fixed_low = λ j i. (let is : (view_at qs i).fixed ≡ (view_at ps i).fixed = dite (dec_lt i (length ps))
      (λ less. ap (λ (v : View Terms Entry). v.fixed) (h.2 i less).0)
      (λ more. ap (λ (v : View Terms Entry). v.fixed) (past_end qs i (omega (arith, h.0)) ∙ sym (past_end ps i (omega arith)))) in is j)

  pub fixed_high : fixed_at rs ≡ fixed_at ps
  fixed_high = λ j i. (let is : (view_at rs i).fixed ≡ (view_at ps i).fixed = dite (dec_lt i (length ps))
      (λ less. ap (λ (v : View Terms Entry). v.fixed) (h.2 i less).1)
      (λ more. ap (λ (v : View Terms Entry). v.fixed) (past_end rs i (omega (arith, h.1)) ∙ sym (past_end ps i (omega arith)))) in is j)

  none_high : (i : ℕ) → ((view_at rs i).book ≡ []) × ((view_at rs i).seen ≡ [])
  none_high i = dite (dec_lt i (length ps))
      (λ less. let e = (h.2 i less).1 in (ap (λ (v : View Terms Entry). v.book) e, ap (λ (v : View Terms Entry). v.seen) e ∙ (start i less).1))
      (λ more. let e = past_end rs i (omega (arith, h.1)) in (ap (λ (v : View Terms Entry). v.book) e, ap (λ (v : View Terms Entry). v.seen) e))

  pub works_high : {L : Type 0} (manner : Manner) (tells : L → Meanings) (closed : L → Bool) (uids : List ℕ) (coming : Option (List ℕ)) → Works manner tells closed uids k rs [] coming coming
  works_high {L} manner tells closed uids coming = record {
    range = λ i lt. let less : i < length ps = omega (arith, h.1) in let s = start i less in
        ap (λ (v : View Terms Entry). v.range) (h.2 i less).1 ∙ (ap (λ n. range_of n (view_at ps i).range.end) (cut_at k (view_at ps i) s) ∙ ap (λ (r : Range). range_of (half (suc k)) r.end) s.0.range);
    no_book = λ i. (none_high i).0;
    told = refl;
    by = λ j r at. absurd (some-ne-none r (sym at));
    own = λ i uid at. ap (λ (l : List Entry). map (λ (e : Entry). e.ticket) (entries_of (λ (e : Entry). e.pass) (known_by rs i).number l)) (none_high i).1;
  }
