-- The tokens of a text whose runs are not to be wrapped have no number that is.
use Rattle.std.proofs.Common.{◌≡◌, ℕ, zero, suc, ◌+◌, ◌-◌, ◌<◌, ◌≤◌, List, [], ◌∷◌, ◌++◌, length, take, drop, Bool}
use Rattle.std.proofs.Common.{true, false, cond, ◌&&◌, ◌||◌, ◌==◌, Option, Some, None, is_some, option_and_then, refl}
use Rattle.std.proofs.Common.{sym, ap, ap₂, ◌∙◌, subst, arith, lit<, ◌⊎◌, ⊎_elim, append_assoc, append-nil}
use Rattle.std.proofs.Common.{length-append}
use Rattle.std.proofs.lemmas.Bool.{true≢false, false≢true, and_parts, or_cases, eqb-true}
use Rattle.std.specs.List.{prefix_len, flat_map, list_all, starts_with}
use Rattle.std.specs.Cmp.Lexicographic.{pointwise}
use Rattle.std.specs.Prelude.{nat_eq}
use Rattle.std.specs.Char.{is_ascii_digit}
use Rattle.json.specs.Token.{Token, begin_object, end_object, begin_array, end_array, key, string, number, boolean}
use Rattle.json.specs.Token.{null, bad}
use Rattle.json.specs.Text.{content, plain}
use Rattle.json.specs.Word.{is_operator, is_space, head, ends_word, after_digits, after_minus, after_sign, after_whole}
use Rattle.json.specs.Word.{after_fraction, after_exponent, after_number, number_before, literal, word}
use Rattle.json.specs.Lex.{Lexeme, token, comma, colon, Class, quote, backslash, operator, space, other, class}
use Rattle.json.specs.Lex.{string_token, between, in_word, in_string, in_escape, lex_byte, lex, Place, fresh}
use Rattle.json.specs.Lex.{after_value, after_comma, after_key, begins_colon, if_allowed, place_token, punctuate}
use Rattle.json.specs.Lex.{tokens, operator_lexeme}
use Rattle.json.specs.Print.{IsNumber}
use Rattle.json.proofs.Printed.Numbers.{number_alone, lex-number, in_word-ended}
use Rattle.ss_text.specs.Decimals as at
use Rattle.ss_text.specs.Decimals.{is_number_byte, Piece, run, text, unended, byte, with_character, pieces, is_decimal}
use Rattle.ss_text.specs.Decimals.{wrapped_pieces}
use Rattle.ss_text.proofs.Pieces.{run_there}
use Rattle.ss_text.proofs.Marks.{wrapped_pieces_are, marked_pieces, all_marked}
use Rattle.ss_text.specs.Tokens.{IsWhole, AreWhole}

-- no run is to be wrapped
abbrev pub Kept : List Piece → Type 0
Kept [] = Unit {0}
Kept (run r ∷ ps) = (is_decimal r ≡ false) × Kept ps
Kept (text s ∷ ps) = Kept ps
Kept (unended s ∷ ps) = Kept ps
Kept (byte b ∷ ps) = Kept ps

kept_character : (x : ℕ) (ps : List Piece) → Kept (with_character x ps) → Kept ps
kept_character x [] h = tt
kept_character x (run r ∷ ps) h = h
kept_character x (text s ∷ ps) h = h
kept_character x (unended s ∷ ps) h = h
kept_character x (byte b ∷ ps) h = h

-- ---- punctuation

abbrev Good : List Lexeme → Type 0
Good ls = (p : Place) → AreWhole (punctuate p ls)

allowed : (b : Bool) (t : Token) (k : Place → List Token) (next : Place) → IsWhole t → AreWhole (k next) → AreWhole (if_allowed b t k next)
allowed true t k next h g = (h, g)
allowed false t k next h g = (tt, tt)

placed : (p : Place) (t : Token) (c : Bool) (k : Place → List Token) → IsWhole t → ((q : Place) → AreWhole (k q)) → AreWhole (place_token p t c k)
placed p begin_object c k h g = allowed _ begin_object k fresh tt (g fresh)
placed p end_object c k h g = allowed _ end_object k after_value tt (g after_value)
placed p begin_array c k h g = allowed _ begin_array k fresh tt (g fresh)
placed p end_array c k h g = allowed _ end_array k after_value tt (g after_value)
placed p (key s) c k h g = (tt, tt)
placed p (string s) true k h g = allowed _ (key s) k after_key tt (g after_key)
placed p (string s) false k h g = allowed _ (string s) k after_value tt (g after_value)
placed p (number s) c k h g = allowed _ (number s) k after_value h (g after_value)
placed p (boolean b) c k h g = allowed _ (boolean b) k after_value tt (g after_value)
placed p null c k h g = allowed _ null k after_value tt (g after_value)
placed p bad c k h g = (tt, tt)

good_token : (t : Token) (ls : List Lexeme) → IsWhole t → Good ls → Good (token t ∷ ls)
unfolding punctuate
good_token t ls h g fresh = placed fresh t (begins_colon ls) (λ next. punctuate next ls) h g
good_token t ls h g after_value = placed after_value t (begins_colon ls) (λ next. punctuate next ls) h g
good_token t ls h g after_comma = placed after_comma t (begins_colon ls) (λ next. punctuate next ls) h g
good_token t ls h g after_key = placed after_key t (begins_colon ls) (λ next. punctuate next ls) h g

good_bad : (ls : List Lexeme) → Good (token bad ∷ ls)
unfolding punctuate
good_bad ls fresh = (tt, tt)
good_bad ls after_value = (tt, tt)
good_bad ls after_comma = (tt, tt)
good_bad ls after_key = (tt, tt)

good_comma : (ls : List Lexeme) → Good ls → Good (comma ∷ ls)
unfolding punctuate
good_comma ls g fresh = (tt, tt)
good_comma ls g after_value = g after_comma
good_comma ls g after_comma = (tt, tt)
good_comma ls g after_key = (tt, tt)

good_colon : (ls : List Lexeme) → Good ls → Good (colon ∷ ls)
unfolding punctuate
good_colon ls g fresh = (tt, tt)
good_colon ls g after_value = (tt, tt)
good_colon ls g after_comma = (tt, tt)
good_colon ls g after_key = g fresh

good_end : Good []
unfolding punctuate
good_end fresh = tt
good_end after_value = tt
good_end after_comma = (tt, tt)
good_end after_key = (tt, tt)

good_string : (o : Option (List ℕ)) (ls : List Lexeme) → Good ls → Good (token (string_token o) ∷ ls)
good_string None ls g = good_bad ls
good_string (Some s) ls g = good_token (string s) ls tt g

-- ---- a number takes bytes of numbers

pub record Eats (t r : List ℕ) : Type 0 where
  pub front : List ℕ
  pub is : t ≡ front ++ r
  pub bytes : list_all is_number_byte front ≡ true

eats_none : (t : List ℕ) → Eats t t
eats_none t = record { front = []; is = refl; bytes = refl }

pub all_append : (a b : List ℕ) → list_all is_number_byte a ≡ true → list_all is_number_byte b ≡ true → list_all is_number_byte (a ++ b) ≡ true
all_append [] b h g = g
all_append (x ∷ a) b h g = let parts = and_parts (is_number_byte x) (list_all is_number_byte a) h in ap₂ (λ p q. p && q) parts.0 (all_append a b parts.1 g)

eats_then : (t u r : List ℕ) → Eats t u → Eats u r → Eats t r
eats_then t u r a b = record { front = a.front ++ b.front; is = a.is ∙ ap (λ l. a.front ++ l) b.is ∙ sym (append_assoc a.front b.front r); bytes = all_append a.front b.front a.bytes b.bytes }

eats_one : (c : ℕ) (t : List ℕ) → is_number_byte c ≡ true → (c == 32) ≡ false → (head t == c) ≡ true → Eats t (drop 1 t)
eats_one c [] n apart e = absurd (true≢false (sym (ap (λ k. k == 32) (sym (eqb-true 32 c e))) ∙ apart))
eats_one c (x ∷ t) n apart e = record { front = x ∷ []; is = refl; bytes = ap (λ y. is_number_byte y && true) (eqb-true x c e) ∙ ap (λ b. b && true) n }

digit_is_part : (x : ℕ) → is_ascii_digit x ≡ true → is_number_byte x ≡ true
digit_is_part x e = ap (λ b. b || x == 43 || x == 45 || x == 46 || x == 101 || x == 69) e

digits_step : (b : Bool) (x n : ℕ) (t : List ℕ) → is_ascii_digit x ≡ b → Eats t (drop n t) → Eats (x ∷ t) (drop (cond b (1 + n) 0) (x ∷ t))
digits_step false x n t e ih = eats_none (x ∷ t)
digits_step true x n t e ih =
    let next : suc n ≡ 1 + n = omega arith in
    subst (λ k. Eats (x ∷ t) (drop k (x ∷ t))) next
    (record { front = x ∷ ih.front; is = ap (λ l. x ∷ l) ih.is; bytes = ap₂ (λ p q. p && q) (digit_is_part x e) ih.bytes })

eats_digits : (t : List ℕ) → Eats t (drop (prefix_len is_ascii_digit t) t)
eats_digits [] = eats_none []
eats_digits (x ∷ t) = digits_step (is_ascii_digit x) x (prefix_len is_ascii_digit t) t refl (eats_digits t)

abbrev pub EatsIf : List ℕ → Option (List ℕ) → Type 0
EatsIf t None = Unit {0}
EatsIf t (Some r) = Eats t r

if_either : (t : List ℕ) (b c : Bool) (o p : Option (List ℕ)) → b ≡ c → (b ≡ true → EatsIf t o) → EatsIf t p → EatsIf t (cond c o p)
if_either t b true o p e f g = f e
if_either t b false o p e f g = g

one_of : (t : List ℕ) (b : Bool) → (b ≡ true → Eats t (drop 1 t)) → Eats t (cond b (drop 1 t) t)
one_of t true f = f refl
one_of t false f = eats_none t

then_if : (t : List ℕ) (f : List ℕ → Option (List ℕ)) (o : Option (List ℕ)) → EatsIf t o → ((u : List ℕ) → EatsIf u (f u)) → EatsIf t (option_and_then f o)
then_if t f None h g = tt
then_if t f (Some u) h g = after (f u) (g u)
  where
    after : (o : Option (List ℕ)) → EatsIf u o → EatsIf t o
    after None k = tt
    after (Some r) k = eats_then t u r h k

from_part : (t u : List ℕ) (o : Option (List ℕ)) → Eats t u → EatsIf u o → EatsIf t o
from_part t u None h k = tt
from_part t u (Some r) h k = eats_then t u r h k

if_digits : (t : List ℕ) → EatsIf t (after_digits t)
if_digits t = if_either t _ (prefix_len is_ascii_digit t == 0) None (Some (drop (prefix_len is_ascii_digit t) t)) refl (λ e. tt) (eats_digits t)

if_whole : (t : List ℕ) → EatsIf t (after_whole t)
if_whole t = if_either t _ (head t == 48) (Some (drop 1 t)) (after_digits t) refl (λ e. eats_one 48 t refl refl e) (if_digits t)

if_fraction : (t : List ℕ) → EatsIf t (after_fraction t)
if_fraction t = if_either t _ (head t == 46) (after_digits (drop 1 t)) (Some t) refl (λ e. from_part t (drop 1 t) _ (eats_one 46 t refl refl e) (if_digits (drop 1 t))) (eats_none t)

eats_two : (a b : ℕ) (t : List ℕ) → is_number_byte a ≡ true → is_number_byte b ≡ true → (a == 32) ≡ false → (b == 32) ≡ false → (head t == a || head t == b) ≡ true → Eats t (drop 1 t)
eats_two a b t p q r s e = ⊎_elim (λ k. eats_one a t p r k) (λ k. eats_one b t q s k) (or_cases (head t == a) (head t == b) e)

if_exponent : (t : List ℕ) → EatsIf t (after_exponent t)
if_exponent t =
    if_either t _ (head t == 101 || head t == 69) (after_digits (after_sign (drop 1 t))) (Some t) refl
    (λ e. from_part t (drop 1 t) _ (eats_two 101 69 t refl refl refl refl e)
    (from_part (drop 1 t) (after_sign (drop 1 t)) _ (one_of (drop 1 t) (head (drop 1 t) == 45 || head (drop 1 t) == 43) (λ k. eats_two 45 43 (drop 1 t) refl refl refl refl k)) (if_digits (after_sign (drop 1 t)))))
    (eats_none t)

pub if_number : (t : List ℕ) → EatsIf t (after_number t)
unfolding after_number
if_number t =
    then_if t after_exponent _ (then_if t after_fraction _ (from_part t (after_minus t) _ (one_of t (head t == 45) (λ e. eats_one 45 t refl refl e)) (if_whole (after_minus t))) if_fraction) if_exponent

-- ---- a run ends where a word ends

pub one_of_six : (P : ℕ → Type 0) → P 123 → P 125 → P 91 → P 93 → P 58 → P 44 → (x : ℕ) → is_operator x ≡ true → P x
one_of_six P a b c d e f x h = at6 (or_cases ((x == 123) || (x == 125) || (x == 91) || (x == 93) || (x == 58)) (x == 44) h)
  where
    is : (c : ℕ) → P c → (x == c) ≡ true → P x
    is c p k = subst P (sym (eqb-true x c k)) p

    at2 : ((x == 123) || (x == 125)) ≡ true → P x
    at2 k = ⊎_elim (is 123 a) (is 125 b) (or_cases (x == 123) (x == 125) k)

    at3 : ((x == 123) || (x == 125) || (x == 91)) ≡ true → P x
    at3 k = ⊎_elim at2 (is 91 c) (or_cases ((x == 123) || (x == 125)) (x == 91) k)

    at4 : ((x == 123) || (x == 125) || (x == 91) || (x == 93)) ≡ true → P x
    at4 k = ⊎_elim at3 (is 93 d) (or_cases ((x == 123) || (x == 125) || (x == 91)) (x == 93) k)

    at5 : ((x == 123) || (x == 125) || (x == 91) || (x == 93) || (x == 58)) ≡ true → P x
    at5 k = ⊎_elim at4 (is 58 e) (or_cases ((x == 123) || (x == 125) || (x == 91) || (x == 93)) (x == 58) k)

    at6 : (((x == 123) || (x == 125) || (x == 91) || (x == 93) || (x == 58)) ≡ true) ⊎ ((x == 44) ≡ true) → P x
    at6 k = ⊎_elim at5 (is 44 f) k

pub one_of_four : (P : ℕ → Type 0) → P 32 → P 9 → P 10 → P 13 → (x : ℕ) → is_space x ≡ true → P x
one_of_four P a b c d x h = at4 (or_cases ((x == 32) || (x == 9) || (x == 10)) (x == 13) h)
  where
    is : (c : ℕ) → P c → (x == c) ≡ true → P x
    is c p k = subst P (sym (eqb-true x c k)) p

    at2 : ((x == 32) || (x == 9)) ≡ true → P x
    at2 k = ⊎_elim (is 32 a) (is 9 b) (or_cases (x == 32) (x == 9) k)

    at3 : ((x == 32) || (x == 9) || (x == 10)) ≡ true → P x
    at3 k = ⊎_elim at2 (is 10 c) (or_cases ((x == 32) || (x == 9)) (x == 10) k)

    at4 : (((x == 32) || (x == 9) || (x == 10)) ≡ true) ⊎ ((x == 13) ≡ true) → P x
    at4 k = ⊎_elim at3 (is 13 d) k

pub end_is_no_part : (x : ℕ) → (is_operator x || is_space x) ≡ true → is_number_byte x ≡ false
end_is_no_part x h =
    ⊎_elim (one_of_six (λ y. is_number_byte y ≡ false) refl refl refl refl refl refl x) (one_of_four (λ y. is_number_byte y ≡ false) refl refl refl refl x) (or_cases (is_operator x) (is_space x) h)

no_part : (rest : List ℕ) → ends_word rest ≡ true → prefix_len is_number_byte rest ≡ 0
no_part [] h = refl
no_part (x ∷ xs) h = ap (λ b. cond b (1 + prefix_len is_number_byte xs) 0) (end_is_no_part x h)

pub run_front : (s rest : List ℕ) → list_all is_number_byte s ≡ true → 0 < length s → ends_word rest ≡ true → pieces at.outside (s ++ rest) ≡ run s ∷ pieces at.outside rest
run_front s rest h some ended = run_there s rest h some (no_part rest ended)

-- ---- the lexer and the scanner agree

record Lexed (u : List ℕ) : Type 0 where
  outside : Kept (pieces at.outside u) → Good (lex between u)
  inside : Kept (pieces at.inside u) → Good (lex in_string u)
  escaped : Kept (pieces at.escaped u) → Good (lex in_escape u)

lexed_end : Lexed []
unfolding lex
lexed_end = record { outside = λ k. good_end; inside = λ k. good_end; escaped = λ k. good_end }

inside_step : (x : ℕ) (xs : List ℕ) → Lexed xs → Kept (pieces at.inside (x ∷ xs)) → Good (lex in_string (x ∷ xs))
unfolding lex pieces
inside_step x xs l kept = go (x == 34) (x == 92) (is_operator x) (is_space x) kept
  where
    go : (q b o s : Bool) → Kept (cond q (text [] ∷ pieces (cond q at.outside (cond b at.escaped at.inside)) xs) (with_character x (pieces (cond q at.outside (cond b at.escaped at.inside)) xs)))
        → Good (lex_byte in_string (cond q quote (cond b backslash (cond o operator (cond s space other)))) x xs (λ m. lex m xs))
    go true b o s k = l.outside k
    go false true o s k = l.escaped (kept_character x (pieces at.escaped xs) k)
    go false false true s k = l.inside (kept_character x (pieces at.inside xs) k)
    go false false false true k = l.inside (kept_character x (pieces at.inside xs) k)
    go false false false false k = l.inside (kept_character x (pieces at.inside xs) k)

escaped_step : (x : ℕ) (xs : List ℕ) → Lexed xs → Kept (pieces at.escaped (x ∷ xs)) → Good (lex in_escape (x ∷ xs))
unfolding lex pieces
escaped_step x xs l kept = l.inside (kept_character x (pieces at.inside xs) kept)

operator_step : (x : ℕ) (xs : List ℕ) → Lexed xs → is_operator x ≡ true → Kept (pieces at.outside (x ∷ xs)) → Good (operator_lexeme x ∷ lex between xs)
unfolding pieces
operator_step x xs l h =
    one_of_six (λ y. Kept (pieces at.outside (y ∷ xs)) → Good (operator_lexeme y ∷ lex between xs))
    (λ k. good_token begin_object _ tt (l.outside k)) (λ k. good_token end_object _ tt (l.outside k)) (λ k. good_token begin_array _ tt (l.outside k))
    (λ k. good_token end_array _ tt (l.outside k)) (λ k. good_colon _ (l.outside k)) (λ k. good_comma _ (l.outside k)) x h

space_step : (x : ℕ) (xs : List ℕ) → Lexed xs → is_space x ≡ true → Kept (pieces at.outside (x ∷ xs)) → Good (lex between xs)
unfolding pieces
space_step x xs l h = one_of_four (λ y. Kept (pieces at.outside (y ∷ xs)) → Good (lex between xs)) l.outside l.outside l.outside l.outside x h

quote_step : (x : ℕ) (xs : List ℕ) → Lexed xs → (x == 34) ≡ true → Kept (pieces at.outside (x ∷ xs)) → Good (token (string_token (content plain xs)) ∷ lex in_string xs)
unfolding pieces
quote_step x xs l h kept =
    let there : Kept (pieces at.outside (34 ∷ xs)) = subst (λ y. Kept (pieces at.outside (y ∷ xs))) (eqb-true x 34 h) kept in
    good_string (content plain xs) (lex in_string xs) (l.inside there)

-- a number that is a token is a run
number_there : (s rest : List ℕ) → IsNumber s → ends_word rest ≡ true → list_all is_number_byte s ≡ true → 0 < length s → Lexed rest → Kept (pieces at.outside (s ++ rest)) → Good (lex between (s ++ rest))
number_there s rest number_is ended bytes some l kept =
    let cut : Kept (run s ∷ pieces at.outside rest) = subst Kept (run_front s rest bytes some ended) kept in
    subst Good (sym (lex-number s rest number_is ended)) (good_token (number s) (lex between rest) (number_is, cut.0) (l.outside cut.1))

-- a number is a run
pub number_bytes : (s : List ℕ) → IsNumber s → list_all is_number_byte s ≡ true
number_bytes s h = let e : Eats s [] = subst (EatsIf s) h (if_number s) in ap (list_all is_number_byte) (e.is ∙ append-nil e.front) ∙ e.bytes

pub some_front : (s : List ℕ) → IsNumber s → 0 < length s
unfolding after_number
some_front [] h = absurd (false≢true (ap is_some h))
some_front (x ∷ s) h = omega arith

-- ---- the literals

pub literal_is : (name t : List ℕ) → pointwise nat_eq name (take (length name) t) ≡ true → t ≡ name ++ drop (length name) t
literal_is [] t h = refl
literal_is (c ∷ name) [] h = absurd (false≢true h)
literal_is (c ∷ name) (x ∷ t) h =
    let parts = and_parts (c == x) (pointwise nat_eq name (take (length name) t)) h in
    ap₂ (λ a b. a ∷ b) (sym (eqb-true c x parts.0)) (literal_is name t parts.1)

literal_step : (b c : Bool) (t : Token) (ls : List Lexeme) → IsWhole t → (b ≡ true → c ≡ true → Good ls) → Good (token (cond (b && c) t bad) ∷ ls)
literal_step true true t ls h g = good_token t ls h (g refl refl)
literal_step true false t ls h g = good_bad ls
literal_step false c t ls h g = good_bad ls

module _ (x : ℕ) (xs : List ℕ) (shorter : (r : List ℕ) → length r ≤ length xs → Lexed r) (kept : Kept (pieces at.outside (x ∷ xs))) where
  abbrev t : List ℕ
  t = x ∷ xs

  abbrev Here : Token → Type 0
  Here w = Good (token w ∷ lex in_word xs)

  after_true : (rest : List ℕ) → t ≡ 116 ∷ 114 ∷ 117 ∷ 101 ∷ rest → ends_word rest ≡ true → Good (lex in_word xs)
  unfolding lex pieces
  after_true rest e ended =
      let tail : xs ≡ 114 ∷ 117 ∷ 101 ∷ rest = ap (drop 1) e in
      let short : length rest ≤ length xs = omega (arith, ap length tail) in
      let whole : Kept (pieces at.outside (116 ∷ 114 ∷ 117 ∷ 101 ∷ rest)) = subst (λ u. Kept (pieces at.outside u)) e kept in
      let cut : Kept (run (101 ∷ []) ∷ pieces at.outside rest) = subst Kept (run_front (101 ∷ []) rest refl (lit< tt) ended) whole in
      subst Good (sym (ap (lex in_word) tail ∙ in_word-ended rest ended)) ((shorter rest short).outside cut.1)

  after_false : (rest : List ℕ) → t ≡ 102 ∷ 97 ∷ 108 ∷ 115 ∷ 101 ∷ rest → ends_word rest ≡ true → Good (lex in_word xs)
  unfolding lex pieces
  after_false rest e ended =
      let tail : xs ≡ 97 ∷ 108 ∷ 115 ∷ 101 ∷ rest = ap (drop 1) e in
      let short : length rest ≤ length xs = omega (arith, ap length tail) in
      let whole : Kept (pieces at.outside (102 ∷ 97 ∷ 108 ∷ 115 ∷ 101 ∷ rest)) = subst (λ u. Kept (pieces at.outside u)) e kept in
      let cut : Kept (run (101 ∷ []) ∷ pieces at.outside rest) = subst Kept (run_front (101 ∷ []) rest refl (lit< tt) ended) whole in
      subst Good (sym (ap (lex in_word) tail ∙ in_word-ended rest ended)) ((shorter rest short).outside cut.1)

  after_null : (rest : List ℕ) → t ≡ 110 ∷ 117 ∷ 108 ∷ 108 ∷ rest → ends_word rest ≡ true → Good (lex in_word xs)
  unfolding lex pieces
  after_null rest e ended =
      let tail : xs ≡ 117 ∷ 108 ∷ 108 ∷ rest = ap (drop 1) e in
      let short : length rest ≤ length xs = omega (arith, ap length tail) in
      let whole : Kept (pieces at.outside (110 ∷ 117 ∷ 108 ∷ 108 ∷ rest)) = subst (λ u. Kept (pieces at.outside u)) e kept in
      subst Good (sym (ap (lex in_word) tail ∙ in_word-ended rest ended)) ((shorter rest short).outside whole)

  literal_true : Here (literal (116 ∷ 114 ∷ 117 ∷ 101 ∷ []) (boolean true) t)
  literal_true =
      literal_step (starts_with nat_eq t (116 ∷ 114 ∷ 117 ∷ 101 ∷ [])) (ends_word (drop 4 t)) (boolean true) (lex in_word xs) tt
      (λ b c. after_true (drop 4 t) (literal_is (116 ∷ 114 ∷ 117 ∷ 101 ∷ []) t b) c)

  literal_false : Here (literal (102 ∷ 97 ∷ 108 ∷ 115 ∷ 101 ∷ []) (boolean false) t)
  literal_false =
      literal_step (starts_with nat_eq t (102 ∷ 97 ∷ 108 ∷ 115 ∷ 101 ∷ [])) (ends_word (drop 5 t)) (boolean false) (lex in_word xs) tt
      (λ b c. after_false (drop 5 t) (literal_is (102 ∷ 97 ∷ 108 ∷ 115 ∷ 101 ∷ []) t b) c)

  literal_null : Here (literal (110 ∷ 117 ∷ 108 ∷ 108 ∷ []) null t)
  literal_null =
      literal_step (starts_with nat_eq t (110 ∷ 117 ∷ 108 ∷ 108 ∷ [])) (ends_word (drop 4 t)) null (lex in_word xs) tt
      (λ b c. after_null (drop 4 t) (literal_is (110 ∷ 117 ∷ 108 ∷ 108 ∷ []) t b) c)

  -- the word is one of the literals, or what is no number there
  no_number : number_before t (after_number t) ≡ bad → Here (word t)
  unfolding word
  no_number e = go (x == 116) (x == 102) (x == 110)
    where
      go : (a b c : Bool) → Here (cond a (literal (116 ∷ 114 ∷ 117 ∷ 101 ∷ []) (boolean true) t) (cond b (literal (102 ∷ 97 ∷ 108 ∷ 115 ∷ 101 ∷ []) (boolean false) t)
          (cond c (literal (110 ∷ 117 ∷ 108 ∷ 108 ∷ []) null t) (number_before t (after_number t)))))
      go true b c = literal_true
      go false true c = literal_false
      go false false true = literal_null
      go false false false = subst Here (sym e) (good_bad (lex in_word xs))

  a_number : (r : List ℕ) → after_number t ≡ Some r → ends_word r ≡ true → Good (lex between t)
  a_number r e ended =
      let eaten : Eats t r = subst (EatsIf t) e (if_number t) in
      let number_is : IsNumber eaten.front = number_alone eaten.front r ended (ap after_number (sym eaten.is) ∙ e) in
      let some = some_front eaten.front number_is in
      let short : length r ≤ length xs = omega (arith, ap length eaten.is, length-append eaten.front r) in
      subst (λ u. Good (lex between u)) (sym eaten.is)
      (number_there eaten.front r number_is ended eaten.bytes some (shorter r short) (subst (λ u. Kept (pieces at.outside u)) eaten.is kept))

  word_step : class x ≡ other → Good (lex between t)
  unfolding lex
  word_step k = go (after_number t) refl
    where
      spelled : lex between t ≡ token (word t) ∷ lex in_word xs
      spelled = ap (λ c. lex_byte between c x xs (λ m. lex m xs)) k

      with_rest : (r : List ℕ) (b : Bool) → after_number t ≡ Some r → ends_word r ≡ b → Good (lex between t)
      with_rest r true e ended = a_number r e ended
      with_rest r false e ended = subst Good (sym spelled) (no_number (ap (number_before t) e ∙ ap (λ b. cond b (number (take (length t - length r) t)) bad) ended))

      go : (o : Option (List ℕ)) → after_number t ≡ o → Good (lex between t)
      go None e = subst Good (sym spelled) (no_number (ap (number_before t) e))
      go (Some r) e = with_rest r (ends_word r) e refl

  outside_step : Good (lex between t)
  unfolding lex
  outside_step = go (x == 34) (x == 92) (is_operator x) (is_space x) refl refl refl refl
    where
      l : Lexed xs
      l = shorter xs (omega arith)

      is_class : (q b o s : Bool) → (x == 34) ≡ q → (x == 92) ≡ b → is_operator x ≡ o → is_space x ≡ s → class x ≡ cond q quote (cond b backslash (cond o operator (cond s space other)))
      is_class q b o s eq eb eo es = λ i. cond (eq i) quote (cond (eb i) backslash (cond (eo i) operator (cond (es i) space other)))

      as_class : (c : Class) → class x ≡ c → Good (lex_byte between c x xs (λ m. lex m xs)) → Good (lex between t)
      as_class c e g = subst (λ k. Good (lex_byte between k x xs (λ m. lex m xs))) (sym e) g

      go : (q b o s : Bool) → (x == 34) ≡ q → (x == 92) ≡ b → is_operator x ≡ o → is_space x ≡ s → Good (lex between t)
      go true b o s eq eb eo es = as_class quote (is_class true b o s eq eb eo es) (quote_step x xs l eq kept)
      go false true o s eq eb eo es = as_class backslash (is_class false true o s eq eb eo es) (good_bad (lex in_word xs))
      go false false true s eq eb eo es = as_class operator (is_class false false true s eq eb eo es) (operator_step x xs l eo kept)
      go false false false true eq eb eo es = as_class space (is_class false false false true eq eb eo es) (space_step x xs l es kept)
      go false false false false eq eb eo es = word_step (is_class false false false false eq eb eo es)

lexed : (n : ℕ) (u : List ℕ) → length u ≤ n → Lexed u
lexed n [] h = lexed_end
lexed zero (x ∷ xs) h = let never : ⊥ = omega arith in absurd never
lexed (suc n) (x ∷ xs) h =
    let shorter : (r : List ℕ) → length r ≤ length xs → Lexed r = λ r k. lexed n r (omega arith) in
    let l = shorter xs (omega arith) in
    record { outside = λ k. outside_step x xs shorter k; inside = inside_step x xs l; escaped = escaped_step x xs l }

pub tokens_are_whole : (u : List ℕ) → Kept (pieces at.outside u) → AreWhole (tokens u)
tokens_are_whole u kept = (lexed (length u) u (omega arith)).outside kept fresh

-- ---- what was wrapped has nothing left to wrap

wrapped_kept : (ps : List Piece) → Kept (flat_map wrapped_pieces ps)
wrapped_kept [] = tt
wrapped_kept (run r ∷ ps) = go (is_decimal r) refl (wrapped_kept ps)
  where
    go : (b : Bool) → is_decimal r ≡ b → Kept (flat_map wrapped_pieces ps) → Kept (cond b (byte 91 ∷ text r ∷ byte 93 ∷ []) (run r ∷ []) ++ flat_map wrapped_pieces ps)
    go true e ih = ih
    go false e ih = (e, ih)
wrapped_kept (text s ∷ ps) = wrapped_kept ps
wrapped_kept (unended s ∷ ps) = wrapped_kept ps
wrapped_kept (byte b ∷ ps) = wrapped_kept ps

pub kept_wrapped : (t : List ℕ) → Kept (pieces at.outside (at.wrapped_text t))
kept_wrapped t = subst Kept (sym (wrapped_pieces_are t)) (wrapped_kept (pieces at.outside t))

marked_kept : (ps : List Piece) → Kept (all_marked ps)
marked_kept [] = tt
marked_kept (run r ∷ ps) = go (is_decimal r) refl (marked_kept ps)
  where
    go : (b : Bool) → is_decimal r ≡ b → Kept (all_marked ps) → Kept (cond b (text (at.escape_mark ++ r)) (run r) ∷ all_marked ps)
    go true e ih = ih
    go false e ih = (e, ih)
marked_kept (text s ∷ ps) = go (at.begins_marked s) (marked_kept ps)
  where
    go : (b : Bool) → Kept (all_marked ps) → Kept (cond b (text (at.escape_mark ++ s)) (text s) ∷ all_marked ps)
    go true ih = ih
    go false ih = ih
marked_kept (unended s ∷ ps) = marked_kept ps
marked_kept (byte b ∷ ps) = marked_kept ps

pub kept_marked : (t : List ℕ) → Kept (pieces at.outside (at.marked_text t))
kept_marked t = subst Kept (sym (marked_pieces t)) (marked_kept (pieces at.outside t))
