-- Strings of marked texts: what they say, and how they are written.
use Rattle.std.proofs.Common.{◌≡◌, ℕ, zero, suc, ◌<◌, ◌≤◌, List, [], ◌∷◌, ◌++◌, length, take, drop, Bool, true, false}
use Rattle.std.proofs.Common.{not, cond, ◌&&◌, ◌||◌, ◌==◌, ◌⊎◌, inl, inr, refl, sym, ap, ap₂, ◌∙◌, subst, arith, Option}
use Rattle.std.proofs.Common.{Some, None, is_some, bytes_eq}
use Rattle.std.proofs.lemmas.Bool.{and_parts, false≢true, true≢false, eqb-true, cases_eq, cases_lt, ne_eqb}
use Rattle.std.specs.List.{list_all}
use Rattle.json.specs.Print.{escape_byte, escape, token_text, IsNumber}
use Rattle.json.specs.Token.{Token}
use Rattle.json.specs.Word.{after_number}
use Rattle.json.proofs.Printed.Strings.{escape_byte_plain}
use Rattle.ss_text.specs.Decimals.{Piece, run, text, bytes_of_piece, is_number_byte, is_all, is_inexact, is_decimal}
use Rattle.ss_text.specs.Decimals.{escape_mark, begins_marked as raw_marked, marked_piece, unmarked_piece}
use Rattle.ss_text.proofs.Pieces.{begins_run, Cut}
use Rattle.ss_text.proofs.Marks.{run_unmarked}
use Rattle.ss_text.proofs.Printed.{escape_raw}
use Rattle.ss_text.proofs.WholeTokens.{number_bytes, some_front}
use Rattle.ss_record.specs.Kinds.{kind_name}
use Rattle.ss_record.specs.declared.kinds.Kind.{Kind}
use Rattle.ss_record.specs.declared.kinds.Kind.TheVariants.{Bookmark, Query, Folder, Livemark, Separator}
use Rattle.ss_record.specs.Marks.{begins_marked, marked_string, said_text, is_string_or_decimal}

-- ---- what a string says

pub said_marked : (s : List ℕ) → said_text (marked_string s) ≡ Some s
unfolding said_text marked_string
said_marked [] = refl
said_marked (x ∷ s) = go (x == 1) refl
  where
    go : (b : Bool) → (x == 1) ≡ b → said_text (cond b (1 ∷ x ∷ s) (x ∷ s)) ≡ Some (x ∷ s)
    go true e = ap (λ b. cond b (Some (x ∷ s)) None) e
    go false e = ap (λ b. cond b (cond (begins_marked s) (Some s) None) (Some (x ∷ s))) e

pub string_plain : (s : List ℕ) → is_string_or_decimal (marked_string s) ≡ true
unfolding is_string_or_decimal
string_plain s = ap (λ o. is_some o || is_decimal (drop 1 (marked_string s))) (said_marked s)

pub kind_unmarked : (k : Kind) → marked_string (kind_name k) ≡ kind_name k
unfolding marked_string
kind_unmarked Bookmark = refl
kind_unmarked Query = refl
kind_unmarked Folder = refl
kind_unmarked Livemark = refl
kind_unmarked Separator = refl

pub kind_said : (k : Kind) → said_text (kind_name k) ≡ Some (kind_name k)
unfolding said_text
kind_said Bookmark = refl
kind_said Query = refl
kind_said Folder = refl
kind_said Livemark = refl
kind_said Separator = refl

pub name_plain : (s : List ℕ) → is_some (said_text s) ≡ true → is_string_or_decimal s ≡ true
unfolding is_string_or_decimal
name_plain s h = ap (λ b. b || is_decimal (drop 1 s)) h

-- ---- tests of small numbers

unfoldable below : (ℕ → Bool) → ℕ → Bool
below p zero = true
below p (suc n) = p n && below p n

below_sound : (p : ℕ → Bool) (n : ℕ) → below p n ≡ true → (x : ℕ) → x < n → p x ≡ true
unfolding below
below_sound p zero h x lt = let never : ⊥ = omega arith in absurd never
below_sound p (suc n) h x lt = go (cases_eq x n) (below_sound p n parts.1 x)
  where
    parts : (p n ≡ true) × (below p n ≡ true)
    parts = and_parts (p n) (below p n) h

    go : (x ≡ n) ⊎ (x ≡ n → ⊥) → (x < n → p x ≡ true) → p x ≡ true
    go (inl e) ih = ap p e ∙ parts.0
    go (inr ne) ih = ih (omega arith)

-- ---- what is written begins with the mark where the text does

-- the lists differ at a place that both have
unfoldable apart : List ℕ → List ℕ → Bool
apart [] ys = false
apart (x ∷ xs) [] = false
apart (x ∷ xs) (y ∷ ys) = not (x == y) || apart xs ys

apart_sound : (xs ys r : List ℕ) → apart xs ys ≡ true → bytes_eq (take (length ys) (xs ++ r)) ys ≡ false
unfolding apart
apart_sound [] ys r h = absurd (false≢true h)
apart_sound (x ∷ xs) [] r h = absurd (false≢true h)
apart_sound (x ∷ xs) (y ∷ ys) r h = go (x == y) h (λ k. apart_sound xs ys r k)
  where
    go : (b : Bool) → (not b || apart xs ys) ≡ true → (apart xs ys ≡ true → bytes_eq (take (length ys) (xs ++ r)) ys ≡ false) → (b && bytes_eq (take (length ys) (xs ++ r)) ys) ≡ false
    go true k ih = ih k
    go false k ih = refl

unfoldable unmarked_test : ℕ → Bool
unmarked_test x = (x == 1) || apart (escape_byte x) escape_mark

controls_apart : below unmarked_test 32 ≡ true
unfolding below unmarked_test apart escape_byte
controls_apart = refl

unmarked_front : (x : ℕ) (s : List ℕ) → (x == 1) ≡ false → raw_marked (escape (x ∷ s)) ≡ false
unfolding unmarked_test escape_byte
unmarked_front x s e = go (cases_lt x 32) (cases_eq x 34) (cases_eq x 92)
  where
    go : (x < 32) ⊎ (32 ≤ x) → (x ≡ 34) ⊎ (x ≡ 34 → ⊥) → (x ≡ 92) ⊎ (x ≡ 92 → ⊥) → raw_marked (escape_byte x ++ escape s) ≡ false
    go (inl low) q b = apart_sound (escape_byte x) escape_mark (escape s) (sym (ap (λ c. c || apart (escape_byte x) escape_mark) e) ∙ below_sound unmarked_test 32 controls_apart x low)
    go (inr high) (inl q) b = ap (λ y. raw_marked (escape_byte y ++ escape s)) q
    go (inr high) (inr q) (inl b) = ap (λ y. raw_marked (escape_byte y ++ escape s)) b
    go (inr high) (inr q) (inr b) = ap (λ l. raw_marked (l ++ escape s)) (escape_byte_plain x q b high) ∙ ap (λ c. c && bytes_eq (take 5 (escape s)) (117 ∷ 48 ∷ 48 ∷ 48 ∷ 49 ∷ [])) (ne_eqb x 92 b)

-- ---- a number is written as it is

low_number : below (λ x. not (is_number_byte x)) 32 ≡ true
unfolding below
low_number = refl

number_high : (x : ℕ) → is_number_byte x ≡ true → 32 ≤ x
number_high x h = go (cases_lt x 32)
  where
    go : (x < 32) ⊎ (32 ≤ x) → 32 ≤ x
    go (inl low) = absurd (false≢true (sym (ap not h) ∙ below_sound (λ y. not (is_number_byte y)) 32 low_number x low))
    go (inr high) = high

number_is : (x c : ℕ) → is_number_byte c ≡ false → is_number_byte x ≡ true → x ≡ c → ⊥
number_is x c n e k = true≢false (sym e ∙ ap is_number_byte k ∙ n)

escape_number : (r : List ℕ) → list_all is_number_byte r ≡ true → escape r ≡ r
escape_number [] h = refl
escape_number (x ∷ r) h =
    let p = and_parts (is_number_byte x) (list_all is_number_byte r) h in
    ap₂ (λ a b. a ++ b) (escape_byte_plain x (number_is x 34 refl p.0) (number_is x 92 refl p.0) (number_high x p.0)) (escape_number r p.1)

all_is : (o : Option (List ℕ)) → is_all o ≡ true → o ≡ Some []
all_is None h = absurd (false≢true h)
all_is (Some []) h = refl
all_is (Some (x ∷ xs)) h = absurd (false≢true h)

pub decimal_number : (r : List ℕ) → is_decimal r ≡ true → IsNumber r
unfolding is_decimal
decimal_number r h = all_is (after_number r) (and_parts (is_inexact r) (is_all (after_number r)) h).1

-- ---- a string unmarked, and marked again

-- the token that a string is where its marks are undone
abbrev pub told_token : Option (List ℕ) → List ℕ → Token
told_token None s = Token.number (drop 1 s)
told_token (Some t) s = Token.string t

pub record Unmarks (s : List ℕ) : Type 0 where
  pub cut : (ps : List Piece) → begins_run ps ≡ false → Cut ps → Cut (unmarked_piece (text (escape s)) ∷ ps)
  pub back : marked_piece (unmarked_piece (text (escape s))) ≡ text (escape s)
  pub told : bytes_of_piece (unmarked_piece (text (escape s))) ≡ token_text (told_token (said_text s) s)

as_it_is : (s : List ℕ) → raw_marked (escape s) ≡ false → said_text s ≡ Some s → Unmarks s
as_it_is s e said =
    let same : unmarked_piece (text (escape s)) ≡ text (escape s) = ap (λ b. cond b (cond (raw_marked (drop 6 (escape s))) (text (drop 6 (escape s))) (run (drop 6 (escape s)))) (text (escape s))) e in
    record {
      cut = λ ps h c. subst (λ p. Cut (p ∷ ps)) (sym same) (escape_raw s, c);
      back = ap marked_piece same ∙ ap (λ b. cond b (text (escape_mark ++ escape s)) (text (escape s))) e;
      told = ap bytes_of_piece same ∙ ap (λ o. token_text (told_token o s)) (sym said);
    }

-- behind the mark: another mark, or a decimal
marked_text : (s : List ℕ) → raw_marked (escape s) ≡ true → begins_marked s ≡ true → Unmarks (1 ∷ s)
unfolding escape_byte said_text
marked_text s e begins =
    let same : unmarked_piece (text (escape_mark ++ escape s)) ≡ text (escape s) = ap (λ b. cond b (text (escape s)) (run (escape s))) e in
    record {
      cut = λ ps h c. subst (λ p. Cut (p ∷ ps)) (sym same) (escape_raw s, c);
      back = ap marked_piece same ∙ ap (λ b. cond b (text (escape_mark ++ escape s)) (text (escape s))) e;
      told = ap bytes_of_piece same ∙ ap (λ b. token_text (told_token (cond b (Some s) None) (1 ∷ s))) (sym begins);
    }

marked_number : (s : List ℕ) → is_decimal s ≡ true → begins_marked s ≡ false → Unmarks (1 ∷ s)
unfolding escape_byte said_text
marked_number s d begins =
    let number = decimal_number s d in
    let bytes = number_bytes s number in
    let written = escape_number s bytes in
    let none : raw_marked (escape s) ≡ false = ap raw_marked written ∙ run_unmarked s bytes in
    let same : unmarked_piece (text (escape_mark ++ escape s)) ≡ run s = ap (λ b. cond b (text (escape s)) (run (escape s))) none ∙ ap run written in
    record {
      cut = λ ps h c. subst (λ p. Cut (p ∷ ps)) (sym same) (bytes, some_front s number, h, c);
      back = ap marked_piece same ∙ ap (λ b. cond b (text (escape_mark ++ s)) (run s)) d ∙ ap (λ t. text (escape_mark ++ t)) (sym written);
      told = ap bytes_of_piece same ∙ ap (λ b. token_text (told_token (cond b (Some s) None) (1 ∷ s))) (sym begins);
    }

marked_first : (s : List ℕ) → begins_marked s ≡ true → raw_marked (escape s) ≡ true
unfolding escape_byte
marked_first [] h = absurd (false≢true h)
marked_first (x ∷ s) h = ap (λ y. raw_marked (escape (y ∷ s))) (eqb-true x 1 h)

pub unmarks : (s : List ℕ) → is_string_or_decimal s ≡ true → Unmarks s
unfolding is_string_or_decimal said_text
unmarks [] h = as_it_is [] refl refl
unmarks (x ∷ s) h = go (x == 1) refl h
  where
    behind : (b : Bool) → begins_marked s ≡ b → (is_some (cond b (Some s) None) || is_decimal s) ≡ true → Unmarks (1 ∷ s)
    behind true e k = marked_text s (marked_first s e) e
    behind false e k = marked_number s k e

    go : (b : Bool) → (x == 1) ≡ b → (is_some (cond b (cond (begins_marked s) (Some s) None) (Some (x ∷ s))) || is_decimal s) ≡ true → Unmarks (x ∷ s)
    go true e k = subst (λ y. Unmarks (y ∷ s)) (sym (eqb-true x 1 e)) (behind (begins_marked s) refl k)
    go false e k = as_it_is (x ∷ s) (unmarked_front x s e) (ap (λ b. cond b (cond (begins_marked s) (Some s) None) (Some (x ∷ s))) e)
