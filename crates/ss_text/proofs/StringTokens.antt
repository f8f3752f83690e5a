-- A string of a text by what stands between its quotes: where it ends, what it says, and whether it begins with the mark.
use Rattle.std.proofs.Common.{◌≡◌, ℕ, zero, suc, ◌+◌, ◌*◌, ◌/◌, ◌<◌, ◌≤◌, List, [], ◌∷◌, ◌++◌, length, Bool, true}
use Rattle.std.proofs.Common.{false, cond, ◌&&◌, ◌||◌, ◌==◌, ltb, Option, Some, None, is_some, option_and_then, refl}
use Rattle.std.proofs.Common.{sym, ap, ap₂, ◌∙◌, subst, arith, lit<}
use Rattle.std.proofs.lemmas.Bool.{true≢false, false≢true, and_parts, eqb-true, ne_eqb}
use Rattle.std.proofs.lemmas.Str.{digit_value_digit}
use Rattle.std.proofs.lemmas.Str.Parse.{digit_from_value}
use Rattle.std.specs.Char.{digit_value, is_digit, encode_utf8}
use Rattle.json.specs.Text.{content, plain, after_backslash, after_u, after_high, code_unit, short_escape}
use Rattle.json.specs.Text.{is_high_surrogate, is_low_surrogate, surrogate_pair, prepend}
use Rattle.json.specs.Lex.{lex, lex_byte, between, in_string, in_escape, quote, backslash, operator, space, other}
use Rattle.json.specs.Word.{is_operator, is_space}
use Rattle.ss_text.specs.Decimals.{inside, outside, escaped, next_place, begins_marked}
use Rattle.ss_text.proofs.Pieces.{Raw}

-- ---- parts of the reading

never : {A : Type 0} (v : A) → None ≡ Some v → ⊥
never {A = A} v e = let f : Option A → Bool = λ o. is_some o in false≢true (ap f e)

-- what follows a part that was read
record Rest (bytes : List ℕ) (o : Option (List ℕ)) (v : List ℕ) : Type 0 where
  rest : List ℕ
  read : o ≡ Some rest
  is : v ≡ bytes ++ rest

of_some : (a b : List ℕ) → Some a ≡ Some b → a ≡ b
of_some a b e = cc

rest_of : (bytes : List ℕ) (o : Option (List ℕ)) (v : List ℕ) → prepend bytes o ≡ Some v → Rest bytes o v
rest_of bytes None v e = absurd (never v e)
rest_of bytes (Some w) v e = record { rest = w; read = refl; is = sym (of_some (bytes ++ w) v e) }

record Unit_of (a b c d u : ℕ) : Type 0 where
  first : is_digit a 16 ≡ true
  second : is_digit b 16 ≡ true
  third : is_digit c 16 ≡ true
  fourth : is_digit d 16 ≡ true
  is : u ≡ digit_value a * 4096 + digit_value b * 256 + digit_value c * 16 + digit_value d

of_some_ℕ : (a b : ℕ) → Some a ≡ Some b → a ≡ b
of_some_ℕ a b e = cc

unit_of : (a b c d u : ℕ) → code_unit a b c d ≡ Some u → Unit_of a b c d u
unfolding code_unit
unit_of a b c d u e = go (is_digit a 16 && is_digit b 16 && is_digit c 16 && is_digit d 16) refl e
  where
    n : ℕ
    n = digit_value a * 4096 + digit_value b * 256 + digit_value c * 16 + digit_value d

    go : (t : Bool) → (is_digit a 16 && is_digit b 16 && is_digit c 16 && is_digit d 16) ≡ t → cond t (Some (digit_value a * 4096 + digit_value b * 256 + digit_value c * 16 + digit_value d)) None ≡ Some u → Unit_of a b c d u
    go false t k = absurd (never u k)
    go true t k =
        let three = and_parts (is_digit a 16 && is_digit b 16 && is_digit c 16) (is_digit d 16) t in
        let two = and_parts (is_digit a 16 && is_digit b 16) (is_digit c 16) three.0 in
        let one = and_parts (is_digit a 16) (is_digit b 16) two.0 in
        record { first = one.0; second = one.1; third = two.1; fourth = three.1; is = sym (of_some_ℕ _ u k) }

-- a hex digit is no quote and no backslash
hex_apart : (x c : ℕ) → is_digit c 16 ≡ false → is_digit x 16 ≡ true → (x == c) ≡ false
hex_apart x c n e = ne_eqb x c (λ k. true≢false (sym e ∙ (ap (λ y. is_digit y 16) k ∙ n)))

hex_stays : (x : ℕ) → is_digit x 16 ≡ true → next_place inside x ≡ inside
hex_stays x e = ap₂ (λ s t. cond s outside (cond t escaped inside)) (hex_apart x 34 refl e) (hex_apart x 92 refl e)

hex_raw : (x : ℕ) (s : List ℕ) → is_digit x 16 ≡ true → Raw inside s → Raw inside (x ∷ s)
hex_raw x s e h = subst (λ p. Raw p s) (sym (hex_stays x e)) h

four_raw : (a b c d : ℕ) (s : List ℕ) → is_digit a 16 ≡ true → is_digit b 16 ≡ true → is_digit c 16 ≡ true → is_digit d 16 ≡ true → Raw inside s → Raw inside (a ∷ b ∷ c ∷ d ∷ s)
four_raw a b c d s p q r t h = hex_raw a (b ∷ c ∷ d ∷ s) p (hex_raw b (c ∷ d ∷ s) q (hex_raw c (d ∷ s) r (hex_raw d s t h)))

-- ---- values that begin with U+0001

abbrev pub begins_one : List ℕ → Bool
begins_one [] = false
begins_one (x ∷ s) = x == 1

above_one : (x : ℕ) → 1 < x → (x == 1) ≡ false
above_one x h = ne_eqb x 1 (λ e. omega arith)

-- UTF-8 begins with a byte 1 for U+0001 alone
encoded_one : (u : ℕ) (w : List ℕ) → begins_one (encode_utf8 u ++ w) ≡ true → u ≡ 1
unfolding encode_utf8
encoded_one u w e = go (ltb u 128) (ltb u 2048) (ltb u 65536) _ _ _ e
  where
    go : (a b c : Bool) (x y z : List ℕ) → begins_one (cond a (u ∷ []) (cond b ((192 + u / 64) ∷ x) (cond c ((224 + u / 4096) ∷ y) ((240 + u / 262144) ∷ z))) ++ w) ≡ true → u ≡ 1
    go true b c x y z h = eqb-true u 1 h
    go false true c x y z h = absurd (true≢false (sym h ∙ above_one (192 + u / 64) (omega arith)))
    go false false true x y z h = absurd (true≢false (sym h ∙ above_one (224 + u / 4096) (omega arith)))
    go false false false x y z h = absurd (true≢false (sym h ∙ above_one (240 + u / 262144) (omega arith)))

-- no short escape stands for U+0001
short_one : (y c : ℕ) → short_escape y ≡ Some c → (c == 1) ≡ false
unfolding short_escape
short_one y c e = go ((y == 34) || (y == 92) || (y == 47)) (y == 98) (y == 102) (y == 110) (y == 114) (y == 116) refl e
  where
    that : (k : ℕ) → (k == 1) ≡ false → Some k ≡ Some c → (c == 1) ≡ false
    that k h s = ap (λ x. x == 1) (sym (of_some_ℕ k c s)) ∙ h

    itself : ((y == 34) || (y == 92) || (y == 47)) ≡ true → (y == 1) ≡ false
    itself h = ne_eqb y 1 (λ k. true≢false (sym h ∙ ap (λ x. (x == 34) || (x == 92) || (x == 47)) k))

    go : (a b f n r t : Bool) → ((y == 34) || (y == 92) || (y == 47)) ≡ a → cond a (Some y) (cond b (Some 8) (cond f (Some 12) (cond n (Some 10) (cond r (Some 13) (cond t (Some 9) None))))) ≡ Some c → (c == 1) ≡ false
    go true b f n r t h s = that y (itself h) s
    go false true f n r t h s = that 8 refl s
    go false false true n r t h s = that 12 refl s
    go false false false true r t h s = that 10 refl s
    go false false false false true t h s = that 13 refl s
    go false false false false false true h s = that 9 refl s
    go false false false false false false h s = absurd (never c s)

-- the digits of 1
digit_of : (x v : ℕ) → v < 10 → digit_value x ≡ v → x ≡ 48 + v
digit_of x v small e = let range = digit_from_value x (omega arith) in let back = digit_value_digit x range in omega arith

marked_digits : (a b c d u : ℕ) (s : List ℕ) → Unit_of a b c d u → u ≡ 1 → begins_marked (92 ∷ 117 ∷ a ∷ b ∷ c ∷ d ∷ s) ≡ true
marked_digits a b c d u s h e =
    let is = h.is in
    let none_a : digit_value a ≡ 0 = omega arith in
    let none_b : digit_value b ≡ 0 = omega arith in
    let none_c : digit_value c ≡ 0 = omega arith in
    let one_d : digit_value d ≡ 1 = omega arith in
    let ea : a ≡ 48 = digit_of a 0 (lit< tt) none_a in
    let eb : b ≡ 48 = digit_of b 0 (lit< tt) none_b in
    let ec : c ≡ 48 = digit_of c 0 (lit< tt) none_c in
    let ed : d ≡ 49 = digit_of d 1 (lit< tt) one_d in
    λ i. begins_marked (92 ∷ 117 ∷ ea i ∷ eb i ∷ ec i ∷ ed i ∷ s)

-- ---- where a string ends, and what it says

pub record Ended (xs v : List ℕ) : Type 0 where
  pub inner : List ℕ
  pub rest : List ℕ
  pub is : xs ≡ inner ++ 34 ∷ rest
  pub raw : Raw inside inner
  pub again : (t : List ℕ) → content plain (inner ++ 34 ∷ t) ≡ Some v
  pub marks : begins_one v ≡ true → begins_marked inner ≡ true

ended_quote : (xs : List ℕ) → Ended (34 ∷ xs) []
unfolding content
ended_quote xs = record { inner = []; rest = xs; is = refl; raw = tt; again = λ t. refl; marks = λ h. absurd (false≢true h) }

ended_plain : (x : ℕ) (xs w : List ℕ) → (x == 34) ≡ false → (x == 92) ≡ false → ltb x 32 ≡ false → Ended xs w → Ended (x ∷ xs) (x ∷ w)
unfolding content
ended_plain x xs w q b l e = record {
  inner = x ∷ e.inner;
  rest = e.rest;
  is = ap (λ r. x ∷ r) e.is;
  raw = subst (λ p. Raw p e.inner) (sym (ap₂ (λ s t. cond s outside (cond t escaped inside)) q b)) e.raw;
  again = λ t. (λ i. cond (q i) (Some []) (cond (b i) (content after_backslash (e.inner ++ 34 ∷ t)) (cond (l i) None (prepend (x ∷ []) (content plain (e.inner ++ 34 ∷ t)))))) ∙ ap (prepend (x ∷ [])) (e.again t);
  marks = λ h. absurd (true≢false (sym (ap (λ y. ltb y 32) (eqb-true x 1 h)) ∙ l));
}

ended_short : (y c : ℕ) (ys w : List ℕ) → (y == 117) ≡ false → short_escape y ≡ Some c → Ended ys w → Ended (92 ∷ y ∷ ys) (c ∷ w)
unfolding content
ended_short y c ys w u s e = record {
  inner = 92 ∷ y ∷ e.inner;
  rest = e.rest;
  is = ap (λ r. 92 ∷ y ∷ r) e.is;
  raw = e.raw;
  again = λ t. (λ i. cond (u i) (content after_u (e.inner ++ 34 ∷ t)) (option_and_then (λ k. prepend (k ∷ []) (content plain (e.inner ++ 34 ∷ t))) (s i))) ∙ ap (prepend (c ∷ [])) (e.again t);
  marks = λ h. absurd (true≢false (sym h ∙ short_one y c s));
}

ended_unit : (a b c d u : ℕ) (zs w : List ℕ) → code_unit a b c d ≡ Some u → is_high_surrogate u ≡ false → is_low_surrogate u ≡ false → Ended zs w → Ended (92 ∷ 117 ∷ a ∷ b ∷ c ∷ d ∷ zs) (encode_utf8 u ++ w)
unfolding content
ended_unit a b c d u zs w k high low e =
    let h = unit_of a b c d u k in
    record {
      inner = 92 ∷ 117 ∷ a ∷ b ∷ c ∷ d ∷ e.inner;
      rest = e.rest;
      is = ap (λ r. 92 ∷ 117 ∷ a ∷ b ∷ c ∷ d ∷ r) e.is;
      raw = four_raw a b c d e.inner h.first h.second h.third h.fourth e.raw;
      again = λ t. ap (option_and_then (λ n. cond (is_high_surrogate n) (content (after_high n) (e.inner ++ 34 ∷ t)) (cond (is_low_surrogate n) None (prepend (encode_utf8 n) (content plain (e.inner ++ 34 ∷ t)))))) k
          ∙ (λ i. cond (high i) (content (after_high u) (e.inner ++ 34 ∷ t)) (cond (low i) None (prepend (encode_utf8 u) (content plain (e.inner ++ 34 ∷ t))))) ∙ ap (prepend (encode_utf8 u)) (e.again t);
      marks = λ m. marked_digits a b c d u e.inner h (encoded_one u w m);
    }

ended_pair : (a b c d u a' b' c' d' l : ℕ) (ws w : List ℕ) → code_unit a b c d ≡ Some u → is_high_surrogate u ≡ true → code_unit a' b' c' d' ≡ Some l → is_low_surrogate l ≡ true → Ended ws w
    → Ended (92 ∷ 117 ∷ a ∷ b ∷ c ∷ d ∷ 92 ∷ 117 ∷ a' ∷ b' ∷ c' ∷ d' ∷ ws) (encode_utf8 (surrogate_pair u l) ++ w)
unfolding content
ended_pair a b c d u a' b' c' d' l ws w k high k' low e =
    let h = unit_of a b c d u k in
    let h' = unit_of a' b' c' d' l k' in
    record {
      inner = 92 ∷ 117 ∷ a ∷ b ∷ c ∷ d ∷ 92 ∷ 117 ∷ a' ∷ b' ∷ c' ∷ d' ∷ e.inner;
      rest = e.rest;
      is = ap (λ r. 92 ∷ 117 ∷ a ∷ b ∷ c ∷ d ∷ 92 ∷ 117 ∷ a' ∷ b' ∷ c' ∷ d' ∷ r) e.is;
      raw = four_raw a b c d (92 ∷ 117 ∷ a' ∷ b' ∷ c' ∷ d' ∷ e.inner) h.first h.second h.third h.fourth (four_raw a' b' c' d' e.inner h'.first h'.second h'.third h'.fourth e.raw);
      again = λ t. ap (option_and_then (λ n. cond (is_high_surrogate n) (content (after_high n) (92 ∷ 117 ∷ a' ∷ b' ∷ c' ∷ d' ∷ (e.inner ++ 34 ∷ t)))
          (cond (is_low_surrogate n) None (prepend (encode_utf8 n) (content plain (92 ∷ 117 ∷ a' ∷ b' ∷ c' ∷ d' ∷ (e.inner ++ 34 ∷ t))))))) k
          ∙ (λ i. cond (high i) (content (after_high u) (92 ∷ 117 ∷ a' ∷ b' ∷ c' ∷ d' ∷ (e.inner ++ 34 ∷ t))) (cond (is_low_surrogate u) None (prepend (encode_utf8 u) (content plain (92 ∷ 117 ∷ a' ∷ b' ∷ c' ∷ d' ∷ (e.inner ++ 34 ∷ t))))))
          ∙ ap (option_and_then (λ n. cond (is_low_surrogate n) (prepend (encode_utf8 (surrogate_pair u n)) (content plain (e.inner ++ 34 ∷ t))) None)) k'
          ∙ (λ i. cond (low i) (prepend (encode_utf8 (surrogate_pair u l)) (content plain (e.inner ++ 34 ∷ t))) None) ∙ ap (prepend (encode_utf8 (surrogate_pair u l))) (e.again t);
      marks = λ m. let same = encoded_one (surrogate_pair u l) w m in let no : ⊥ = omega arith in absurd no;
    }

module _ (n : ℕ) (ih : (xs v : List ℕ) → length xs ≤ n → content plain xs ≡ Some v → Ended xs v) where
  prepended : (bytes xs v : List ℕ) (P : List ℕ → Type 0) → length xs ≤ n → prepend bytes (content plain xs) ≡ Some v → ((w : List ℕ) → Ended xs w → P (bytes ++ w)) → P v
  prepended bytes xs v P short e f = let r = rest_of bytes (content plain xs) v e in subst P (sym r.is) (f r.rest (ih xs r.rest short r.read))

  after_first : (a b c d u : ℕ) (zs v : List ℕ) → length zs ≤ n → code_unit a b c d ≡ Some u → is_high_surrogate u ≡ true → content (after_high u) zs ≡ Some v → Ended (92 ∷ 117 ∷ a ∷ b ∷ c ∷ d ∷ zs) v
  unfolding content
  after_first a b c d u [] v short k high e = absurd (never v e)
  after_first a b c d u (s ∷ []) v short k high e = absurd (never v e)
  after_first a b c d u (s ∷ t ∷ []) v short k high e = absurd (never v e)
  after_first a b c d u (s ∷ t ∷ a' ∷ []) v short k high e = absurd (never v e)
  after_first a b c d u (s ∷ t ∷ a' ∷ b' ∷ []) v short k high e = absurd (never v e)
  after_first a b c d u (s ∷ t ∷ a' ∷ b' ∷ c' ∷ []) v short k high e = absurd (never v e)
  after_first a b c d u (s ∷ t ∷ a' ∷ b' ∷ c' ∷ d' ∷ ws) v short k high e = go ((s == 92) && (t == 117)) (code_unit a' b' c' d') refl refl e
    where
      low_there : (l : ℕ) (low : Bool) → code_unit a' b' c' d' ≡ Some l → is_low_surrogate l ≡ low → cond low (prepend (encode_utf8 (surrogate_pair u l)) (content plain ws)) None ≡ Some v
          → Ended (92 ∷ 117 ∷ a ∷ b ∷ c ∷ d ∷ 92 ∷ 117 ∷ a' ∷ b' ∷ c' ∷ d' ∷ ws) v
      low_there l false k' h m = absurd (never v m)
      low_there l true k' h m =
          prepended (encode_utf8 (surrogate_pair u l)) ws v (λ x. Ended (92 ∷ 117 ∷ a ∷ b ∷ c ∷ d ∷ 92 ∷ 117 ∷ a' ∷ b' ∷ c' ∷ d' ∷ ws) x) (omega arith) m
          (λ w f. ended_pair a b c d u a' b' c' d' l ws w k high k' h f)

      go : (two : Bool) (o : Option ℕ) → ((s == 92) && (t == 117)) ≡ two → code_unit a' b' c' d' ≡ o
          → cond two (option_and_then (λ l. cond (is_low_surrogate l) (prepend (encode_utf8 (surrogate_pair u l)) (content plain ws)) None) o) None ≡ Some v
          → Ended (92 ∷ 117 ∷ a ∷ b ∷ c ∷ d ∷ s ∷ t ∷ a' ∷ b' ∷ c' ∷ d' ∷ ws) v
      go false o h k' m = absurd (never v m)
      go true None h k' m = absurd (never v m)
      go true (Some l) h k' m =
          let both = and_parts (s == 92) (t == 117) h in
          subst (λ y. Ended (92 ∷ 117 ∷ a ∷ b ∷ c ∷ d ∷ y ∷ t ∷ a' ∷ b' ∷ c' ∷ d' ∷ ws) v) (sym (eqb-true s 92 both.0))
          (subst (λ y. Ended (92 ∷ 117 ∷ a ∷ b ∷ c ∷ d ∷ 92 ∷ y ∷ a' ∷ b' ∷ c' ∷ d' ∷ ws) v) (sym (eqb-true t 117 both.1))
          (low_there l (is_low_surrogate l) k' refl m))

  after_letter : (ys v : List ℕ) → length ys ≤ n → content after_u ys ≡ Some v → Ended (92 ∷ 117 ∷ ys) v
  unfolding content
  after_letter [] v short e = absurd (never v e)
  after_letter (a ∷ []) v short e = absurd (never v e)
  after_letter (a ∷ b ∷ []) v short e = absurd (never v e)
  after_letter (a ∷ b ∷ c ∷ []) v short e = absurd (never v e)
  after_letter (a ∷ b ∷ c ∷ d ∷ zs) v short e = go (code_unit a b c d) refl e
    where
      unit : (u : ℕ) (high low : Bool) → code_unit a b c d ≡ Some u → is_high_surrogate u ≡ high → is_low_surrogate u ≡ low
          → cond high (content (after_high u) zs) (cond low None (prepend (encode_utf8 u) (content plain zs))) ≡ Some v → Ended (92 ∷ 117 ∷ a ∷ b ∷ c ∷ d ∷ zs) v
      unit u true low k h l m = after_first a b c d u zs v (omega arith) k h m
      unit u false true k h l m = absurd (never v m)
      unit u false false k h l m = prepended (encode_utf8 u) zs v (λ x. Ended (92 ∷ 117 ∷ a ∷ b ∷ c ∷ d ∷ zs) x) (omega arith) m (λ w f. ended_unit a b c d u zs w k h l f)

      go : (o : Option ℕ) → code_unit a b c d ≡ o
          → option_and_then (λ u. cond (is_high_surrogate u) (content (after_high u) zs) (cond (is_low_surrogate u) None (prepend (encode_utf8 u) (content plain zs)))) o ≡ Some v → Ended (92 ∷ 117 ∷ a ∷ b ∷ c ∷ d ∷ zs) v
      go None k m = absurd (never v m)
      go (Some u) k m = unit u (is_high_surrogate u) (is_low_surrogate u) k refl refl m

  after_slash : (ys v : List ℕ) → length ys ≤ n → content after_backslash ys ≡ Some v → Ended (92 ∷ ys) v
  unfolding content
  after_slash [] v short e = absurd (never v e)
  after_slash (y ∷ ys) v short e = go (y == 117) (short_escape y) refl refl e
    where
      go : (u : Bool) (o : Option ℕ) → (y == 117) ≡ u → short_escape y ≡ o → cond u (content after_u ys) (option_and_then (λ c. prepend (c ∷ []) (content plain ys)) o) ≡ Some v → Ended (92 ∷ y ∷ ys) v
      go true o h k m = subst (λ z. Ended (92 ∷ z ∷ ys) v) (sym (eqb-true y 117 h)) (after_letter ys v (omega arith) m)
      go false None h k m = absurd (never v m)
      go false (Some c) h k m = prepended (c ∷ []) ys v (λ x. Ended (92 ∷ y ∷ ys) x) (omega arith) m (λ w f. ended_short y c ys w h k f)

  plain_there : (x : ℕ) (xs v : List ℕ) → length xs ≤ n → content plain (x ∷ xs) ≡ Some v → Ended (x ∷ xs) v
  unfolding content
  plain_there x xs v short e = go (x == 34) (x == 92) (ltb x 32) refl refl refl e
    where
      go : (q b l : Bool) → (x == 34) ≡ q → (x == 92) ≡ b → ltb x 32 ≡ l → cond q (Some []) (cond b (content after_backslash xs) (cond l None (prepend (x ∷ []) (content plain xs)))) ≡ Some v → Ended (x ∷ xs) v
      go true b l hq hb hl m = subst (λ y. Ended (y ∷ xs) v) (sym (eqb-true x 34 hq)) (subst (Ended (34 ∷ xs)) (of_some [] v m) (ended_quote xs))
      go false true l hq hb hl m = subst (λ y. Ended (y ∷ xs) v) (sym (eqb-true x 92 hb)) (after_slash xs v short m)
      go false false true hq hb hl m = absurd (never v m)
      go false false false hq hb hl m = prepended (x ∷ []) xs v (λ y. Ended (x ∷ xs) y) short m (λ w f. ended_plain x xs w hq hb hl f)

ended_within : (n : ℕ) (xs v : List ℕ) → length xs ≤ n → content plain xs ≡ Some v → Ended xs v
unfolding content
ended_within n [] v short e = absurd (never v e)
ended_within zero (x ∷ xs) v short e = let no : ⊥ = omega arith in absurd no
ended_within (suc n) (x ∷ xs) v short e = plain_there n (ended_within n) x xs v (omega arith) e

pub ended : (xs v : List ℕ) → content plain xs ≡ Some v → Ended xs v
ended xs v e = ended_within (length xs) xs v (omega arith) e

-- ---- the lexer passes over a string

skip_at : (s t : List ℕ) → (Raw inside s → lex in_string (s ++ 34 ∷ t) ≡ lex between t) × (Raw escaped s → lex in_escape (s ++ 34 ∷ t) ≡ lex between t)
unfolding lex
skip_at [] t = (λ h. refl, λ h. absurd h)
skip_at (x ∷ s) t = (go (x == 34) (x == 92) (is_operator x) (is_space x) (skip_at s t).0 (skip_at s t).1, (skip_at s t).0)
  where
    go : (q b o p : Bool) → (Raw inside s → lex in_string (s ++ 34 ∷ t) ≡ lex between t) → (Raw escaped s → lex in_escape (s ++ 34 ∷ t) ≡ lex between t) → Raw (cond q outside (cond b escaped inside)) s
        → lex_byte in_string (cond q quote (cond b backslash (cond o operator (cond p space other)))) x (s ++ 34 ∷ t) (λ m. lex m (s ++ 34 ∷ t)) ≡ lex between t
    go true b o p f g h = absurd h
    go false true o p f g h = g h
    go false false true p f g h = f h
    go false false false true f g h = f h
    go false false false false f g h = f h

pub skip_string : (s t : List ℕ) → Raw inside s → lex in_string (s ++ 34 ∷ t) ≡ lex between t
skip_string s t h = (skip_at s t).0 h
