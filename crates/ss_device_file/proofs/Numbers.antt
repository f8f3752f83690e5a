-- Numbers and times as text are read back.
use Rattle.std.proofs.Common.{◌≡◌, ℕ, ◌+◌, ◌-◌, ◌*◌, ◌^◌, ◌<◌, ◌≤◌, List, [], ◌∷◌, length, Bool, true, false, ◌&&◌}
use Rattle.std.proofs.Common.{cond, leb, Option, Some, None, decimal, refl, sym, ap, ◌∙◌, arith, lit<, le-leb}
use Rattle.std.proofs.lemmas.Bool.{and_parts, leb-true}
use Rattle.std.proofs.lemmas.Fmt.{decimal_is_IsNumeral, decimal_nonempty, length-decimal-le}
use Rattle.std.specs.Option.{SomeIff}
use Rattle.std.specs.List.{list_all}
use Rattle.std.specs.Char.{is_ascii_digit}
use Rattle.std.specs.Str.Parse.{digits_value}
use Rattle.std.proofs.lemmas.List.{take_all}
use Rattle.std.proofs.Math.Nat.{pow-le-pow_right}
use Rattle.ss_text.proofs.Digits.{whole_small}
use Rattle.ss_text.specs.Numbers.{number_of}
use Rattle.ss_text.specs.Time.{split_point, hundredths, with_fraction, stamp_of, last_stamp}
use Rattle.ss_text.proofs.StampTexts.{decimal_digits, all_three}
use Rattle.ss_text.proofs.Basics.{some_same, none_some}

-- a time in hundredths is read back
pub time_again : (n : ℕ) → n ≤ last_stamp → number_of 12 (decimal n) ≡ Some n
unfolding number_of
time_again n h =
    let few : n < 2 ^ 64 = omega arith in
    let small : n < 10 ^ 12 = omega arith in
    all_three _ _ _ (Some (digits_value 10 (decimal n))) (le-leb 1 _ (decimal_nonempty n few)) (le-leb _ 12 (length-decimal-le 12 n (lit< tt) small few)) (decimal_digits n few)
    ∙ ap Some (decimal_is_IsNumeral n few).1

fraction_small : (ds : List ℕ) → list_all is_ascii_digit ds ≡ true → hundredths ds < 100
fraction_small [] h = lit< tt
fraction_small (d ∷ []) h = let high = leb-true d 57 (and_parts (leb 48 d) (leb d 57) (and_parts (is_ascii_digit d) true h).0).1 in omega arith
fraction_small (d ∷ e ∷ ds) h =
    let parts = and_parts (is_ascii_digit d) (list_all is_ascii_digit (e ∷ ds)) h in
    let more = and_parts (is_ascii_digit e) (list_all is_ascii_digit ds) parts.1 in
    let high = leb-true d 57 (and_parts (leb 48 d) (leb d 57) parts.0).1 in
    let low = leb-true e 57 (and_parts (leb 48 e) (leb e 57) more.0).1 in
    omega arith

with_small : (seconds : ℕ) (o : Option (List ℕ)) (t : ℕ) → seconds < 10 ^ 10 → with_fraction seconds o ≡ Some t → t ≤ last_stamp
with_small seconds None t lt h = let same : 100 * seconds ≡ t = cc in omega arith
with_small seconds (Some ds) t lt h = go (leb 1 (length ds)) (list_all is_ascii_digit ds) refl h
  where
    go : (a b : Bool) → list_all is_ascii_digit ds ≡ b → cond (a && b) (Some (100 * seconds + hundredths ds)) None ≡ Some t → t ≤ last_stamp
    go true true q e = let same : 100 * seconds + hundredths ds ≡ t = cc in let few = fraction_small ds q in omega arith
    go true false q e = cc
    go false b q e = cc

-- what a text says is no later than the last time
pub stamp_small : (text : List ℕ) (t : ℕ) → stamp_of text ≡ Some t → t ≤ last_stamp
unfolding stamp_of
stamp_small text t = go (leb 1 (length front)) (leb (length front) 10) (list_all is_ascii_digit front) refl refl
  where
    front : List ℕ
    front = (split_point text).0

    rest : Option (List ℕ)
    rest = (split_point text).1

    go : (a b c : Bool) → leb (length (split_point text).0) 10 ≡ b → list_all is_ascii_digit (split_point text).0 ≡ c → cond (a && b && c) (with_fraction (digits_value 10 (split_point text).0) (split_point text).1) None ≡ Some t → t ≤ last_stamp
    go true true true q r h =
        let few = leb-true (length (split_point text).0) 10 q in
        let small = whole_small (split_point text).0 (length (split_point text).0) (digits_value 10 (split_point text).0) r (omega arith) (ap (digits_value 10) (sym (take_all (length (split_point text).0) (split_point text).0 (omega arith)))) in
        let power : 10 ^ length (split_point text).0 ≤ 10 ^ 10 = pow-le-pow_right (lit< tt) few in
        with_small (digits_value 10 (split_point text).0) (split_point text).1 t (omega arith) h
    go true true false q r h = cc
    go true false c q r h = cc
    go false b c q r h = cc

pub time_is : (r : Option ℕ) (n t : ℕ) (ds : List ℕ) → SomeIff r (n ≤ last_stamp) n → Some n ≡ number_of 12 ds → t ≤ last_stamp → decimal t ≡ ds → r ≡ Some t
time_is None n t ds s e h is = let same : n ≡ t = some_same (e ∙ (ap (number_of 12) (sym is) ∙ time_again t h)) in absurd (s (omega arith))
time_is (Some m) n t ds s e h is = let same : n ≡ t = some_same (e ∙ (ap (number_of 12) (sym is) ∙ time_again t h)) in ap Some (s.1 ∙ same)

pub no_time : (t : ℕ) (ds : List ℕ) → None ≡ number_of 12 ds → t ≤ last_stamp → decimal t ≡ ds → ⊥
no_time t ds e h is = none_some (e ∙ (ap (number_of 12) (sym is) ∙ time_again t h))
