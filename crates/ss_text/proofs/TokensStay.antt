-- Wrapping and marking, token by token.
use Rattle.std.proofs.Common.{◌≡◌, ℕ, zero, suc, ◌-◌, ◌<◌, ◌≤◌, List, [], ◌∷◌, ◌++◌, length, map, drop, take, Bool}
use Rattle.std.proofs.Common.{true, false, cond, ◌&&◌, ◌||◌, ◌==◌, Option, Some, None, is_some, ◌⊎◌, ⊎_elim, leb, ltb}
use Rattle.std.proofs.Common.{le-ltb, ne_eqb, refl, sym, ap, ap₂, ◌∙◌, subst, arith, lit<, append_assoc, append-nil}
use Rattle.std.proofs.Common.{length-append}
use Rattle.std.specs.Prelude.{nat_eq}
use Rattle.std.specs.List.{flat_map, list_all, starts_with}
use Rattle.std.proofs.lemmas.Bool.{true≢false, false≢true, and_parts, or_cases, leb-true, eqb-true}
use Rattle.json.specs.Token.{Token, begin_object, end_object, begin_array, end_array, key, string, number, boolean}
use Rattle.json.specs.Token.{null, bad}
use Rattle.json.specs.Align.{is_good}
use Rattle.std.specs.Char.{is_ascii_digit, encode_utf8}
use Rattle.json.specs.Text.{content, plain, after_backslash, code_unit, prepend}
use Rattle.json.specs.Word.{is_operator, is_space, ends_word, after_number, number_before, literal, word}
use Rattle.json.specs.Lex.{Lexeme, token, comma, colon, Class, quote, backslash, operator, space, other, class}
use Rattle.json.specs.Lex.{string_token, between, in_word, in_string, lex_byte, lex, Place, fresh, after_value}
use Rattle.json.specs.Lex.{after_comma, after_key, begins_colon, may_begin, may_close, if_allowed, place_token}
use Rattle.json.specs.Lex.{punctuate, tokens, operator_lexeme}
use Rattle.json.specs.Print.{IsNumber}
use Rattle.json.proofs.Printed.Numbers.{number_alone, lex-number, in_word-ended}
use Rattle.ss_text.specs.declared.decimals.Change.{Change}
use Rattle.ss_text.specs.declared.decimals.Change.TheVariants.{Wrap, Mark}
use Rattle.ss_text.specs.Decimals as at
use Rattle.ss_text.specs.Decimals.{is_number_byte, Piece, run, text, byte, bytes_of_piece, pieces, changed_piece}
use Rattle.ss_text.specs.Decimals.{changed_text, wrapped_text, marked_text, is_decimal, begins_marked, escape_mark}
use Rattle.ss_text.specs.Tokens.{Lexes, wrapped_token, marked_once_more, marked_token}
use Rattle.ss_text.proofs.Marks.{flat-append, begins_split}
use Rattle.ss_text.proofs.Pieces.{at_byte, string_there, raw_run, Raw}
use Rattle.ss_text.proofs.WholeTokens.{Eats, EatsIf, if_number, one_of_six, one_of_four, end_is_no_part, run_front}
use Rattle.ss_text.proofs.WholeTokens.{literal_is, some_front}
use Rattle.ss_text.proofs.StringTokens.{ended, skip_string, begins_one}

-- ---- the two changes, of pieces and of tokens

abbrev change : Bool → Change
change false = Wrap
change true = Mark

abbrev after : Bool → Token → List Token
after false t = wrapped_token t
after true t = marked_token t ∷ []

abbrev lexemes : Bool → Lexeme → List Lexeme
lexemes m (token t) = map token (after m t)
lexemes m comma = comma ∷ []
lexemes m colon = colon ∷ []

-- the text with its pieces changed
abbrev now : Bool → List ℕ → List ℕ
now m u = flat_map bytes_of_piece (flat_map (changed_piece (change m)) (pieces at.outside u))

-- what is made of the tokens
abbrev made : Bool → List Lexeme → List Lexeme
made m ls = flat_map (lexemes m) ls

-- no lexeme is a fault
abbrev Fine : List Lexeme → Type 0
Fine [] = Unit {0}
Fine (token t ∷ ls) = (is_good t ≡ true) × Fine ls
Fine (comma ∷ ls) = Fine ls
Fine (colon ∷ ls) = Fine ls

-- ---- what stands at the front

now_byte : (m : Bool) (x : ℕ) (xs : List ℕ) → (x == 34) ≡ false → is_number_byte x ≡ false → now m (x ∷ xs) ≡ x ∷ now m xs
now_byte false x xs q n = ap (λ ps. flat_map bytes_of_piece (flat_map (changed_piece Wrap) ps)) (at_byte x xs q n)
now_byte true x xs q n = ap (λ ps. flat_map bytes_of_piece (flat_map (changed_piece Mark) ps)) (at_byte x xs q n)

end_apart : (x : ℕ) → (is_operator x || is_space x) ≡ true → (x == 34) ≡ false
end_apart x h = ⊎_elim (one_of_six (λ y. (y == 34) ≡ false) refl refl refl refl refl refl x) (one_of_four (λ y. (y == 34) ≡ false) refl refl refl refl x) (or_cases (is_operator x) (is_space x) h)

-- where a word ends it ends in the changed text
now_ends : (m : Bool) (rest : List ℕ) → ends_word rest ≡ true → ends_word (now m rest) ≡ true
unfolding pieces
now_ends false [] h = refl
now_ends true [] h = refl
now_ends m (x ∷ xs) h = ap ends_word (now_byte m x xs (end_apart x h) (end_is_no_part x h)) ∙ h

number_cases : (P : ℕ → Type 0) → ((y : ℕ) → 48 ≤ y → y ≤ 57 → P y) → P 43 → P 45 → P 46 → P 101 → P 69 → (x : ℕ) → is_number_byte x ≡ true → P x
number_cases P d a b c e f x h = at5 (or_cases (is_ascii_digit x || x == 43 || x == 45 || x == 46 || x == 101) (x == 69) h)
  where
    is : (k : ℕ) → P k → (x == k) ≡ true → P x
    is k p e = subst P (sym (eqb-true x k e)) p

    at1 : (is_ascii_digit x || x == 43) ≡ true → P x
    at1 k = ⊎_elim (λ g. let parts = and_parts (leb 48 x) (leb x 57) g in d x (leb-true 48 x parts.0) (leb-true x 57 parts.1)) (is 43 a) (or_cases (is_ascii_digit x) (x == 43) k)

    at2 : (is_ascii_digit x || x == 43 || x == 45) ≡ true → P x
    at2 k = ⊎_elim at1 (is 45 b) (or_cases (is_ascii_digit x || x == 43) (x == 45) k)

    at3 : (is_ascii_digit x || x == 43 || x == 45 || x == 46) ≡ true → P x
    at3 k = ⊎_elim at2 (is 46 c) (or_cases (is_ascii_digit x || x == 43 || x == 45) (x == 46) k)

    at4 : (is_ascii_digit x || x == 43 || x == 45 || x == 46 || x == 101) ≡ true → P x
    at4 k = ⊎_elim at3 (is 101 e) (or_cases (is_ascii_digit x || x == 43 || x == 45 || x == 46) (x == 101) k)

    at5 : ((is_ascii_digit x || x == 43 || x == 45 || x == 46 || x == 101) ≡ true) ⊎ ((x == 69) ≡ true) → P x
    at5 k = ⊎_elim at4 (is 69 f) k

-- a byte of a number stands in a string as it is
plain_number : (x : ℕ) → is_number_byte x ≡ true → ((x == 34) ≡ false) × ((x == 92) ≡ false) × (ltb x 32 ≡ false)
plain_number x h =
    number_cases (λ y. ((y == 34) ≡ false) × ((y == 92) ≡ false) × (ltb y 32 ≡ false))
    (λ y low high. (ne_eqb y 34 (λ e. omega arith), ne_eqb y 92 (λ e. omega arith), le-ltb y 32 (omega arith)))
    (refl, refl, refl) (refl, refl, refl) (refl, refl, refl) (refl, refl, refl) (refl, refl, refl) x h

-- the characters of a number between quotes are read as they are
number_content : (s t : List ℕ) → list_all is_number_byte s ≡ true → content plain (s ++ 34 ∷ t) ≡ Some s
unfolding content
number_content [] t h = refl
number_content (x ∷ s) t h =
    let parts = and_parts (is_number_byte x) (list_all is_number_byte s) h in
    let p = plain_number x parts.0 in
    (λ i. cond (p.0 i) (Some []) (cond (p.1 i) (content after_backslash (s ++ 34 ∷ t)) (cond (p.2 i) None (prepend (x ∷ []) (content plain (s ++ 34 ∷ t))))))
    ∙ ap (prepend (x ∷ [])) (number_content s t parts.1)

mark_content : (t : List ℕ) → content plain (escape_mark ++ t) ≡ prepend (1 ∷ []) (content plain t)
unfolding content code_unit encode_utf8
mark_content t = refl

-- a string in quotes is one token
quoted_lex : (s t v : List ℕ) → Raw at.inside s → content plain (s ++ 34 ∷ t) ≡ Some v → lex between (34 ∷ ((s ++ 34 ∷ []) ++ t)) ≡ token (string v) ∷ lex between t
unfolding lex
quoted_lex s t v raw e =
    ap (λ r. lex between (34 ∷ r)) (append_assoc s (34 ∷ []) t) ∙ ap₂ (λ o l. token (string_token o) ∷ l) e (skip_string s t raw)

-- ---- numbers

module _ (m : Bool) (s rest : List ℕ) (is_number : IsNumber s) (bytes : list_all is_number_byte s ≡ true) (some : 0 < length s) (ends : ends_word rest ≡ true) where
  now_number : now m (s ++ rest) ≡ flat_map bytes_of_piece (changed_piece (change m) (run s)) ++ now m rest
  now_number = ap (λ ps. flat_map bytes_of_piece (flat_map (changed_piece (change m)) ps)) (run_front s rest bytes some ends) ∙ flat-append (changed_piece (change m) (run s)) (flat_map (changed_piece (change m)) (pieces at.outside rest))

  plain_lex : (r : List ℕ) → ends_word r ≡ true → lex between ((s ++ []) ++ r) ≡ token (number s) ∷ lex between r
  plain_lex r e = ap (λ u. lex between (u ++ r)) (append-nil s) ∙ lex-number s r is_number e

  -- the changed number, before what ends a word
  wrapped_lex : (d : Bool) (r : List ℕ) → ends_word r ≡ true
      → lex between (flat_map bytes_of_piece (cond d (byte 91 ∷ text s ∷ byte 93 ∷ []) (run s ∷ [])) ++ r) ≡ map token (cond d (begin_array ∷ string s ∷ end_array ∷ []) (number s ∷ [])) ++ lex between r
  unfolding lex
  wrapped_lex true r e =
      ap (λ u. token begin_array ∷ lex between (34 ∷ u)) (append_assoc (s ++ 34 ∷ []) (93 ∷ []) r)
      ∙ ap (λ l. token begin_array ∷ l) (quoted_lex s (93 ∷ r) s (raw_run s bytes) (number_content s (93 ∷ r) bytes))
  wrapped_lex false r e = plain_lex r e

  marked_lex : (d : Bool) (r : List ℕ) → ends_word r ≡ true
      → lex between (flat_map bytes_of_piece (cond d (text (escape_mark ++ s)) (run s) ∷ []) ++ r) ≡ token (cond d (string (1 ∷ s)) (number s)) ∷ lex between r
  marked_lex true r e =
      ap (λ u. lex between (34 ∷ (u ++ r))) (append-nil ((escape_mark ++ s) ++ 34 ∷ []))
      ∙ quoted_lex (escape_mark ++ s) r (1 ∷ s) (raw_run s bytes) (mark_content (s ++ 34 ∷ r) ∙ ap (prepend (1 ∷ [])) (number_content s r bytes))
  marked_lex false r e = plain_lex r e

-- what is made of a text that begins so, where this is made of the rest
abbrev Stays : Bool → List ℕ → Type 0
Stays m u = Fine (lex between u) → lex between (now m u) ≡ made m (lex between u)

number_stays : (m : Bool) (s rest : List ℕ) → IsNumber s → list_all is_number_byte s ≡ true → 0 < length s → ends_word rest ≡ true → Stays m rest → Stays m (s ++ rest)
number_stays m s rest is_number bytes some ends ih fine =
    let read = lex-number s rest is_number ends in
    let good : Fine (token (number s) ∷ lex between rest) = subst Fine read fine in
    go m (now_number m s rest is_number bytes some ends) (now_ends m rest ends) (ih good.1) ∙ ap (made m) (sym read)
  where
    go : (k : Bool) → now k (s ++ rest) ≡ flat_map bytes_of_piece (changed_piece (change k) (run s)) ++ now k rest → ends_word (now k rest) ≡ true → lex between (now k rest) ≡ made k (lex between rest)
        → lex between (now k (s ++ rest)) ≡ made k (token (number s) ∷ lex between rest)
    go false e ended h = ap (lex between) e ∙ wrapped_lex false s rest is_number bytes some ends (is_decimal s) (now false rest) ended ∙ ap (λ l. map token (wrapped_token (number s)) ++ l) h
    go true e ended h = ap (lex between) e ∙ marked_lex true s rest is_number bytes some ends (is_decimal s) (now true rest) ended ∙ ap (λ l. token (marked_token (number s)) ∷ l) h

-- ---- strings

-- a string with the mark says that it begins with U+0001
marked_value : (s v : List ℕ) → begins_marked s ≡ true → ((t : List ℕ) → content plain (s ++ 34 ∷ t) ≡ Some v) → marked_once_more v ≡ 1 ∷ v
marked_value s v b h =
    let rest = drop 6 s in
    let e : prepend (1 ∷ []) (content plain (rest ++ 34 ∷ [])) ≡ Some v = sym (mark_content (rest ++ 34 ∷ [])) ∙ ap (λ u. content plain (u ++ 34 ∷ [])) (sym (begins_split s b)) ∙ h [] in
    go (content plain (rest ++ 34 ∷ [])) e
  where
    go : (o : Option (List ℕ)) → prepend (1 ∷ []) o ≡ Some v → marked_once_more v ≡ 1 ∷ v
    go None e = let f : Option (List ℕ) → Bool = λ o. is_some o in absurd (false≢true (ap f e))
    go (Some w) e = let is : 1 ∷ w ≡ v = cc in subst (λ u. marked_once_more u ≡ 1 ∷ u) is refl

unmarked_value : (v : List ℕ) → begins_one v ≡ false → marked_once_more v ≡ v
unmarked_value [] h = refl
unmarked_value (x ∷ v) h = ap (λ b. cond b (1 ∷ x ∷ v) (x ∷ v)) h

not_one : (v s : List ℕ) → (begins_one v ≡ true → begins_marked s ≡ true) → begins_marked s ≡ false → begins_one v ≡ false
not_one v s f e = go (begins_one v) refl
  where
    go : (b : Bool) → begins_one v ≡ b → begins_one v ≡ false
    go true h = absurd (true≢false (sym (f h) ∙ e))
    go false h = h

module _ (s rest v : List ℕ) (raw : Raw at.inside s) (again : (t : List ℕ) → content plain (s ++ 34 ∷ t) ≡ Some v) (marks : begins_one v ≡ true → begins_marked s ≡ true) where
  string_lex : (r : List ℕ) → lex between ((34 ∷ (s ++ 34 ∷ []) ++ []) ++ r) ≡ token (string v) ∷ lex between r
  string_lex r = ap (λ u. lex between (34 ∷ (u ++ r))) (append-nil (s ++ 34 ∷ [])) ∙ quoted_lex s r v raw (again r)

  more_lex : (b : Bool) → begins_marked s ≡ b → (r : List ℕ) → lex between (flat_map bytes_of_piece (cond b (text (escape_mark ++ s)) (text s) ∷ []) ++ r) ≡ token (string (marked_once_more v)) ∷ lex between r
  more_lex true e r =
      ap (λ u. lex between (34 ∷ (u ++ r))) (append-nil ((escape_mark ++ s) ++ 34 ∷ []))
      ∙ quoted_lex (escape_mark ++ s) r (marked_once_more v) raw (mark_content (s ++ 34 ∷ r) ∙ ap (prepend (1 ∷ [])) (again r) ∙ ap Some (sym (marked_value s v e again)))
  more_lex false e r = string_lex r ∙ ap (λ u. token (string u) ∷ lex between r) (sym (unmarked_value v (not_one v s marks e)))

  now_string : (m : Bool) → now m (34 ∷ (s ++ 34 ∷ rest)) ≡ flat_map bytes_of_piece (changed_piece (change m) (text s)) ++ now m rest
  now_string m = ap (λ ps. flat_map bytes_of_piece (flat_map (changed_piece (change m)) ps)) (string_there s rest raw) ∙ flat-append (changed_piece (change m) (text s)) (flat_map (changed_piece (change m)) (pieces at.outside rest))

  string_read : lex between (34 ∷ (s ++ 34 ∷ rest)) ≡ token (string v) ∷ lex between rest
  unfolding lex
  string_read = ap₂ (λ o l. token (string_token o) ∷ l) (again rest) (skip_string s rest raw)

  string_stays : (m : Bool) → Stays m rest → Stays m (34 ∷ (s ++ 34 ∷ rest))
  string_stays m ih fine =
      let good : Fine (token (string v) ∷ lex between rest) = subst Fine string_read fine in
      go m (ih good.1) ∙ ap (made m) (sym string_read)
    where
      go : (k : Bool) → lex between (now k rest) ≡ made k (lex between rest) → lex between (now k (34 ∷ (s ++ 34 ∷ rest))) ≡ made k (token (string v) ∷ lex between rest)
      go false h = ap (lex between) (now_string false) ∙ string_lex (now false rest) ∙ ap (λ l. token (string v) ∷ l) h
      go true h = ap (lex between) (now_string true) ∙ more_lex (begins_marked s) refl (now true rest) ∙ ap (λ l. token (string (marked_once_more v)) ∷ l) h

-- ---- literals

lex_true : (r : List ℕ) → ends_word r ≡ true → lex between (116 ∷ 114 ∷ 117 ∷ 101 ∷ r) ≡ token (boolean true) ∷ lex between r
unfolding lex word
lex_true r e = ap (λ b. token (cond b (boolean true) bad) ∷ lex in_word r) e ∙ ap (λ l. token (boolean true) ∷ l) (in_word-ended r e)

lex_false : (r : List ℕ) → ends_word r ≡ true → lex between (102 ∷ 97 ∷ 108 ∷ 115 ∷ 101 ∷ r) ≡ token (boolean false) ∷ lex between r
unfolding lex word
lex_false r e = ap (λ b. token (cond b (boolean false) bad) ∷ lex in_word r) e ∙ ap (λ l. token (boolean false) ∷ l) (in_word-ended r e)

lex_null : (r : List ℕ) → ends_word r ≡ true → lex between (110 ∷ 117 ∷ 108 ∷ 108 ∷ r) ≡ token null ∷ lex between r
unfolding lex word
lex_null r e = ap (λ b. token (cond b null bad) ∷ lex in_word r) e ∙ ap (λ l. token null ∷ l) (in_word-ended r e)

now_true : (m : Bool) (r : List ℕ) → ends_word r ≡ true → now m (116 ∷ 114 ∷ 117 ∷ 101 ∷ r) ≡ 116 ∷ 114 ∷ 117 ∷ 101 ∷ now m r
unfolding pieces is_decimal after_number
now_true false r e = ap (λ ps. 116 ∷ 114 ∷ 117 ∷ flat_map bytes_of_piece (flat_map (changed_piece Wrap) ps)) (run_front (101 ∷ []) r refl (lit< tt) e)
now_true true r e = ap (λ ps. 116 ∷ 114 ∷ 117 ∷ flat_map bytes_of_piece (flat_map (changed_piece Mark) ps)) (run_front (101 ∷ []) r refl (lit< tt) e)

now_false : (m : Bool) (r : List ℕ) → ends_word r ≡ true → now m (102 ∷ 97 ∷ 108 ∷ 115 ∷ 101 ∷ r) ≡ 102 ∷ 97 ∷ 108 ∷ 115 ∷ 101 ∷ now m r
unfolding pieces is_decimal after_number
now_false false r e = ap (λ ps. 102 ∷ 97 ∷ 108 ∷ 115 ∷ flat_map bytes_of_piece (flat_map (changed_piece Wrap) ps)) (run_front (101 ∷ []) r refl (lit< tt) e)
now_false true r e = ap (λ ps. 102 ∷ 97 ∷ 108 ∷ 115 ∷ flat_map bytes_of_piece (flat_map (changed_piece Mark) ps)) (run_front (101 ∷ []) r refl (lit< tt) e)

now_null : (m : Bool) (r : List ℕ) → now m (110 ∷ 117 ∷ 108 ∷ 108 ∷ r) ≡ 110 ∷ 117 ∷ 108 ∷ 108 ∷ now m r
unfolding pieces
now_null false r = refl
now_null true r = refl

-- a lexeme that stays
abbrev IsKept : Lexeme → Type 0
IsKept l = (m : Bool) → lexemes m l ≡ l ∷ []

kept_boolean : (b : Bool) → IsKept (token (boolean b))
kept_boolean b false = refl
kept_boolean b true = refl

kept_null : IsKept (token null)
kept_null false = refl
kept_null true = refl

kept_front : (m : Bool) (l : Lexeme) (u v rest : List ℕ) → IsKept l → lex between u ≡ l ∷ lex between rest → now m u ≡ v → lex between v ≡ l ∷ lex between (now m rest) → (Fine (l ∷ lex between rest) → Fine (lex between rest)) → Stays m rest → Stays m u
kept_front m l u v rest kept read changed_is new_read fine_rest ih fine =
    ap (lex between) changed_is ∙ new_read ∙ ap (λ ls. l ∷ ls) (ih (fine_rest (subst Fine read fine))) ∙ ap (λ ls. ls ++ made m (lex between rest)) (sym (kept m)) ∙ ap (made m) (sym read)

true_stays : (m : Bool) (r : List ℕ) → ends_word r ≡ true → Stays m r → Stays m (116 ∷ 114 ∷ 117 ∷ 101 ∷ r)
true_stays m r e ih = kept_front m (token (boolean true)) _ _ r (kept_boolean true) (lex_true r e) (now_true m r e) (lex_true (now m r) (now_ends m r e)) (λ f. f.1) ih

false_stays : (m : Bool) (r : List ℕ) → ends_word r ≡ true → Stays m r → Stays m (102 ∷ 97 ∷ 108 ∷ 115 ∷ 101 ∷ r)
false_stays m r e ih = kept_front m (token (boolean false)) _ _ r (kept_boolean false) (lex_false r e) (now_false m r e) (lex_false (now m r) (now_ends m r e)) (λ f. f.1) ih

null_stays : (m : Bool) (r : List ℕ) → ends_word r ≡ true → Stays m r → Stays m (110 ∷ 117 ∷ 108 ∷ 108 ∷ r)
null_stays m r e ih = kept_front m (token null) _ _ r kept_null (lex_null r e) (now_null m r) (lex_null (now m r) (now_ends m r e)) (λ f. f.1) ih

-- ---- words

literal_good : (name t : List ℕ) (w : Token) (P : Type 0) → is_good (literal name w t) ≡ true → (t ≡ name ++ drop (length name) t → ends_word (drop (length name) t) ≡ true → P) → P
literal_good name t w P good f = go (starts_with nat_eq t name) (ends_word (drop (length name) t)) refl refl good
  where
    go : (b c : Bool) → starts_with nat_eq t name ≡ b → ends_word (drop (length name) t) ≡ c → is_good (cond (b && c) w bad) ≡ true → P
    go true true b c g = f (literal_is name t b) c
    go true false b c g = absurd (false≢true g)
    go false c b d g = absurd (false≢true g)

module _ (m : Bool) (x : ℕ) (xs : List ℕ) (shorter : (r : List ℕ) → length r ≤ length xs → Stays m r) where
  abbrev t : List ℕ
  t = x ∷ xs

  number_word : (o : Option (List ℕ)) → after_number t ≡ o → is_good (number_before t o) ≡ true → Stays m t
  number_word None e g = absurd (false≢true g)
  number_word (Some r) e g = go (ends_word r) refl g
    where
      eaten : Eats t r
      eaten = subst (EatsIf t) e (if_number t)

      is_there : (b : Bool) → ends_word r ≡ b → is_good (cond b (number (take (length t - length r) t)) bad) ≡ true → Stays m t
      is_there false ends h = absurd (false≢true h)
      is_there true ends h =
          let is_number : IsNumber eaten.front = number_alone eaten.front r ends (ap after_number (sym eaten.is) ∙ e) in
          let some = some_front eaten.front is_number in
          let short : length r ≤ length xs = omega (arith, ap length eaten.is, length-append eaten.front r) in
          subst (Stays m) (sym eaten.is) (number_stays m eaten.front r is_number eaten.bytes some ends (shorter r short))

      go : (b : Bool) → ends_word r ≡ b → is_good (cond b (number (take (length t - length r) t)) bad) ≡ true → Stays m t
      go b ends h = is_there b ends h

  short_drop : (name : List ℕ) → t ≡ name ++ drop (length name) t → 0 < length name → length (drop (length name) t) ≤ length xs
  short_drop name e some = omega (arith, ap length e, length-append name (drop (length name) t))

  word_stays : is_good (word t) ≡ true → Stays m t
  unfolding word
  word_stays good = go (x == 116) (x == 102) (x == 110) good
    where
      go : (a b c : Bool) → is_good (cond a (literal (116 ∷ 114 ∷ 117 ∷ 101 ∷ []) (boolean true) t) (cond b (literal (102 ∷ 97 ∷ 108 ∷ 115 ∷ 101 ∷ []) (boolean false) t)
          (cond c (literal (110 ∷ 117 ∷ 108 ∷ 108 ∷ []) null t) (number_before t (after_number t))))) ≡ true → Stays m t
      go true b c g = literal_good (116 ∷ 114 ∷ 117 ∷ 101 ∷ []) t (boolean true) (Stays m t) g
          (λ e k. subst (Stays m) (sym e) (true_stays m (drop 4 t) k (shorter (drop 4 t) (short_drop (116 ∷ 114 ∷ 117 ∷ 101 ∷ []) e (lit< tt)))))
      go false true c g = literal_good (102 ∷ 97 ∷ 108 ∷ 115 ∷ 101 ∷ []) t (boolean false) (Stays m t) g
          (λ e k. subst (Stays m) (sym e) (false_stays m (drop 5 t) k (shorter (drop 5 t) (short_drop (102 ∷ 97 ∷ 108 ∷ 115 ∷ 101 ∷ []) e (lit< tt)))))
      go false false true g = literal_good (110 ∷ 117 ∷ 108 ∷ 108 ∷ []) t null (Stays m t) g
          (λ e k. subst (Stays m) (sym e) (null_stays m (drop 4 t) k (shorter (drop 4 t) (short_drop (110 ∷ 117 ∷ 108 ∷ 108 ∷ []) e (lit< tt)))))
      go false false false g = number_word (after_number t) refl g

  -- ---- what begins with the byte x

  abbrev KeptAt : ℕ → Type 0
  KeptAt y = Fine (operator_lexeme y ∷ lex between xs) → (operator_lexeme y ∷ lex between (now m xs)) ≡ made m (operator_lexeme y ∷ lex between xs)

  operator_kept : (k : Bool) → (Fine (lex between xs) → lex between (now k xs) ≡ made k (lex between xs)) → is_operator x ≡ true
      → Fine (operator_lexeme x ∷ lex between xs) → (operator_lexeme x ∷ lex between (now k xs)) ≡ made k (operator_lexeme x ∷ lex between xs)
  operator_kept false ih h =
      one_of_six (λ y. Fine (operator_lexeme y ∷ lex between xs) → (operator_lexeme y ∷ lex between (now false xs)) ≡ made false (operator_lexeme y ∷ lex between xs))
      (λ f. ap (λ l. token begin_object ∷ l) (ih f.1)) (λ f. ap (λ l. token end_object ∷ l) (ih f.1)) (λ f. ap (λ l. token begin_array ∷ l) (ih f.1))
      (λ f. ap (λ l. token end_array ∷ l) (ih f.1)) (λ f. ap (λ l. colon ∷ l) (ih f)) (λ f. ap (λ l. comma ∷ l) (ih f)) x h
  operator_kept true ih h =
      one_of_six (λ y. Fine (operator_lexeme y ∷ lex between xs) → (operator_lexeme y ∷ lex between (now true xs)) ≡ made true (operator_lexeme y ∷ lex between xs))
      (λ f. ap (λ l. token begin_object ∷ l) (ih f.1)) (λ f. ap (λ l. token end_object ∷ l) (ih f.1)) (λ f. ap (λ l. token begin_array ∷ l) (ih f.1))
      (λ f. ap (λ l. token end_array ∷ l) (ih f.1)) (λ f. ap (λ l. colon ∷ l) (ih f)) (λ f. ap (λ l. comma ∷ l) (ih f)) x h

  class_is : (q b o p : Bool) → (x == 34) ≡ q → (x == 92) ≡ b → is_operator x ≡ o → is_space x ≡ p → class x ≡ cond q quote (cond b backslash (cond o operator (cond p space other)))
  class_is q b o p eq eb eo ep = λ i. cond (eq i) quote (cond (eb i) backslash (cond (eo i) operator (cond (ep i) space other)))

  read_as : (c : Class) → class x ≡ c → (r : List ℕ) → lex between (x ∷ r) ≡ lex_byte between c x r (λ n. lex n r)
  unfolding lex
  read_as c e r = ap (λ k. lex_byte between k x r (λ n. lex n r)) e

  quote_stays : class x ≡ quote → (x == 34) ≡ true → Stays m t
  quote_stays k q fine = go (content plain xs) refl (subst Fine (read_as quote k xs) fine) fine
    where
      go : (o : Option (List ℕ)) → content plain xs ≡ o → Fine (token (string_token o) ∷ lex in_string xs) → Stays m t
      go None e f = absurd (false≢true f.0)
      go (Some v) e f =
          let s = ended xs v e in
          let short : length s.rest ≤ length xs = omega (arith, ap length s.is, length-append s.inner (34 ∷ s.rest)) in
          let is : x ∷ xs ≡ 34 ∷ (s.inner ++ 34 ∷ s.rest) = ap₂ (λ a b. a ∷ b) (eqb-true x 34 q) s.is in
          subst (Stays m) (sym is) (string_stays s.inner s.rest v s.raw s.again s.marks m (shorter s.rest short))

  byte_stays : Stays m t
  byte_stays fine = go (x == 34) (x == 92) (is_operator x) (is_space x) refl refl refl refl
    where
      ih : Stays m xs
      ih = shorter xs (omega arith)

      go : (q b o p : Bool) → (x == 34) ≡ q → (x == 92) ≡ b → is_operator x ≡ o → is_space x ≡ p → lex between (now m t) ≡ made m (lex between t)
      go true b o p eq eb eo ep = quote_stays (class_is true b o p eq eb eo ep) eq fine
      go false true o p eq eb eo ep = let bad_one = subst Fine (read_as backslash (class_is false true o p eq eb eo ep) xs) fine in absurd (false≢true bad_one.0)
      go false false true p eq eb eo ep =
          let k = class_is false false true p eq eb eo ep in
          ap (lex between) (now_byte m x xs eq (end_is_no_part x (ap (λ a. a || is_space x) eo))) ∙ read_as operator k (now m xs)
          ∙ operator_kept m ih eo (subst Fine (read_as operator k xs) fine) ∙ ap (made m) (sym (read_as operator k xs))
      go false false false true eq eb eo ep =
          let k = class_is false false false true eq eb eo ep in
          ap (lex between) (now_byte m x xs eq (end_is_no_part x (ap₂ (λ a b. a || b) eo ep))) ∙ read_as space k (now m xs)
          ∙ ih (subst Fine (read_as space k xs) fine) ∙ ap (made m) (sym (read_as space k xs))
      go false false false false eq eb eo ep = let f = subst Fine (read_as other (class_is false false false false eq eb eo ep) xs) fine in word_stays f.0 fine

stays_within : (m : Bool) (n : ℕ) (u : List ℕ) → length u ≤ n → Stays m u
unfolding lex pieces
stays_within false n [] h fine = refl
stays_within true n [] h fine = refl
stays_within m zero (x ∷ xs) h fine = let never : ⊥ = omega arith in absurd never
stays_within m (suc n) (x ∷ xs) h fine = byte_stays m x xs (λ r k. stays_within m n r (omega arith)) fine

lexemes_stay : (m : Bool) (u : List ℕ) → Stays m u
lexemes_stay m u = stays_within m (length u) u (omega arith)

-- ---- commas and colons

abbrev AllGood : List Token → Type 0
AllGood ts = list_all is_good ts ≡ true

at_token : (p : Place) (t : Token) (ls : List Lexeme) → punctuate p (token t ∷ ls) ≡ place_token p t (begins_colon ls) (λ next. punctuate next ls)
unfolding punctuate
at_token fresh t ls = refl
at_token after_value t ls = refl
at_token after_comma t ls = refl
at_token after_key t ls = refl

-- no colon stands behind a value
no_colon : (ls : List Lexeme) → begins_colon ls ≡ true → AllGood (punctuate after_value ls) → ⊥
unfolding punctuate
no_colon [] h g = false≢true h
no_colon (token t ∷ ls) h g = false≢true h
no_colon (comma ∷ ls) h g = false≢true h
no_colon (colon ∷ ls) h g = false≢true g

colon_stays : (m : Bool) (ls : List Lexeme) → begins_colon (made m ls) ≡ begins_colon ls
colon_stays m [] = refl
colon_stays false (token t ∷ ls) = go t
  where
    number_there : (d : Bool) (s : List ℕ) → begins_colon (map token (cond d (begin_array ∷ string s ∷ end_array ∷ []) (number s ∷ [])) ++ made false ls) ≡ false
    number_there true s = refl
    number_there false s = refl

    go : (u : Token) → begins_colon (map token (wrapped_token u) ++ made false ls) ≡ false
    go begin_object = refl
    go end_object = refl
    go begin_array = refl
    go end_array = refl
    go (key s) = refl
    go (string s) = refl
    go (number s) = number_there (is_decimal s) s
    go (boolean b) = refl
    go null = refl
    go bad = refl
colon_stays true (token t ∷ ls) = refl
colon_stays m (comma ∷ ls) = refl
colon_stays m (colon ∷ ls) = refl

-- ---- a token in its place

allowed_good : (b : Bool) (t : Token) (k : Place → List Token) (next : Place) → AllGood (if_allowed b t k next) → (b ≡ true) × (is_good t ≡ true) × AllGood (k next)
allowed_good true t k next g = let parts = and_parts (is_good t) (list_all is_good (k next)) g in (refl, parts.0, parts.1)
allowed_good false t k next g = absurd (false≢true g)

-- a token that becomes one token which is placed as it is
one_stays : (m b : Bool) (t u : Token) (k new : Place → List Token) (next : Place) → after m t ≡ u ∷ [] → (AllGood (k next) → new next ≡ flat_map (after m) (k next)) → AllGood (if_allowed b t k next)
    → if_allowed b u new next ≡ flat_map (after m) (if_allowed b t k next)
one_stays m true t u k new next e h g =
    ap (λ l. u ∷ l) (h (and_parts (is_good t) (list_all is_good (k next)) g).1) ∙ ap (λ l. l ++ flat_map (after m) (k next)) (sym e)
one_stays m false t u k new next e h g = absurd (false≢true g)

fine_token : (t : Token) (p : Place) (c : Bool) (ls : List Lexeme) → ((q : Place) → AllGood (punctuate q ls) → Fine ls) → AllGood (place_token p t c (λ n. punctuate n ls)) → (is_good t ≡ true) × Fine ls
fine_token begin_object p c ls f g = let a = allowed_good (may_begin p) begin_object (λ n. punctuate n ls) fresh g in (refl, f fresh a.2)
fine_token end_object p c ls f g = let a = allowed_good (may_close p) end_object (λ n. punctuate n ls) after_value g in (refl, f after_value a.2)
fine_token begin_array p c ls f g = let a = allowed_good (may_begin p) begin_array (λ n. punctuate n ls) fresh g in (refl, f fresh a.2)
fine_token end_array p c ls f g = let a = allowed_good (may_close p) end_array (λ n. punctuate n ls) after_value g in (refl, f after_value a.2)
fine_token (key s) p c ls f g = absurd (false≢true g)
fine_token (string s) p true ls f g = let a = allowed_good (may_begin p) (key s) (λ n. punctuate n ls) after_key g in (refl, f after_key a.2)
fine_token (string s) p false ls f g = let a = allowed_good (may_begin p) (string s) (λ n. punctuate n ls) after_value g in (refl, f after_value a.2)
fine_token (number s) p c ls f g = let a = allowed_good (may_begin p) (number s) (λ n. punctuate n ls) after_value g in (refl, f after_value a.2)
fine_token (boolean b) p c ls f g = let a = allowed_good (may_begin p) (boolean b) (λ n. punctuate n ls) after_value g in (refl, f after_value a.2)
fine_token null p c ls f g = let a = allowed_good (may_begin p) null (λ n. punctuate n ls) after_value g in (refl, f after_value a.2)
fine_token bad p c ls f g = absurd (false≢true g)

all_fine : (ls : List Lexeme) (p : Place) → AllGood (punctuate p ls) → Fine ls
unfolding punctuate
all_fine [] p g = tt
all_fine (token t ∷ ls) p g = fine_token t p (begins_colon ls) ls (all_fine ls) (subst AllGood (at_token p t ls) g)
all_fine (comma ∷ ls) fresh g = absurd (false≢true g)
all_fine (comma ∷ ls) after_value g = all_fine ls after_comma g
all_fine (comma ∷ ls) after_comma g = absurd (false≢true g)
all_fine (comma ∷ ls) after_key g = absurd (false≢true g)
all_fine (colon ∷ ls) fresh g = absurd (false≢true g)
all_fine (colon ∷ ls) after_value g = absurd (false≢true g)
all_fine (colon ∷ ls) after_comma g = absurd (false≢true g)
all_fine (colon ∷ ls) after_key g = all_fine ls fresh g

wrapped_number : (d : Bool) (s : List ℕ) (ls new_ls : List Lexeme) (p : Place) → new_ls ≡ made false ls → (AllGood (punctuate after_value ls) → punctuate after_value new_ls ≡ flat_map wrapped_token (punctuate after_value ls))
    → AllGood (if_allowed (may_begin p) (number s) (λ n. punctuate n ls) after_value)
    → punctuate p (map token (cond d (begin_array ∷ string s ∷ end_array ∷ []) (number s ∷ [])) ++ new_ls) ≡ (cond d (begin_array ∷ string s ∷ end_array ∷ []) (number s ∷ [])) ++ flat_map wrapped_token (punctuate after_value ls)
unfolding punctuate
wrapped_number true s ls new_ls fresh e h g = ap (λ l. begin_array ∷ string s ∷ end_array ∷ l) (h g)
wrapped_number true s ls new_ls after_comma e h g = ap (λ l. begin_array ∷ string s ∷ end_array ∷ l) (h g)
wrapped_number true s ls new_ls after_value e h g = absurd (false≢true g)
wrapped_number true s ls new_ls after_key e h g = absurd (false≢true g)
wrapped_number false s ls new_ls fresh e h g = ap (λ l. number s ∷ l) (h g)
wrapped_number false s ls new_ls after_comma e h g = ap (λ l. number s ∷ l) (h g)
wrapped_number false s ls new_ls after_value e h g = absurd (false≢true g)
wrapped_number false s ls new_ls after_key e h g = absurd (false≢true g)

abbrev Keeps : Bool → List Lexeme → Type 0
Keeps m ls = (p : Place) → AllGood (punctuate p ls) → punctuate p (made m ls) ≡ flat_map (after m) (punctuate p ls)

module _ (m : Bool) (ls : List Lexeme) (ih : Keeps m ls) (p : Place) where
  abbrev old : Place → List Token
  old n = punctuate n ls

  abbrev new : Place → List Token
  new n = punctuate n (made m ls)

  -- a token t that becomes the token u; as placed they are t' and u'
  one_kept : (t u t' u' : Token) (b : Bool) (next : Place) → after m t ≡ u ∷ [] → after m t' ≡ u' ∷ [] → place_token p u (begins_colon (made m ls)) new ≡ if_allowed b u' new next
      → place_token p t (begins_colon ls) old ≡ if_allowed b t' old next → AllGood (place_token p t (begins_colon ls) old) → punctuate p (made m (token t ∷ ls)) ≡ flat_map (after m) (punctuate p (token t ∷ ls))
  one_kept t u t' u' b next e e' new_is old_is g =
      ap (λ us. punctuate p (map token us ++ made m ls)) e ∙ at_token p u (made m ls) ∙ new_is
      ∙ one_stays m b t' u' old new next e' (ih next) (subst AllGood old_is g) ∙ ap (flat_map (after m)) (sym (at_token p t ls ∙ old_is))

  string_kept : (s v : List ℕ) (c : Bool) → begins_colon ls ≡ c → after m (string s) ≡ string v ∷ [] → after m (key s) ≡ key v ∷ [] → AllGood (place_token p (string s) (begins_colon ls) old)
      → punctuate p (made m (token (string s) ∷ ls)) ≡ flat_map (after m) (punctuate p (token (string s) ∷ ls))
  string_kept s v true c e e' g =
      one_kept (string s) (string v) (key s) (key v) (may_begin p) after_key e e' (ap (λ b. place_token p (string v) b new) (colon_stays m ls ∙ c)) (ap (λ b. place_token p (string s) b old) c) g
  string_kept s v false c e e' g =
      one_kept (string s) (string v) (string s) (string v) (may_begin p) after_value e e (ap (λ b. place_token p (string v) b new) (colon_stays m ls ∙ c)) (ap (λ b. place_token p (string s) b old) c) g

  marked_number : (s : List ℕ) (d c : Bool) → begins_colon ls ≡ c → after m (number s) ≡ cond d (string (1 ∷ s)) (number s) ∷ [] → AllGood (place_token p (number s) (begins_colon ls) old)
      → punctuate p (made m (token (number s) ∷ ls)) ≡ flat_map (after m) (punctuate p (token (number s) ∷ ls))
  marked_number s true true c e g = absurd (no_colon ls c (allowed_good (may_begin p) (number s) old after_value g).2)
  marked_number s true false c e g =
      one_kept (number s) (string (1 ∷ s)) (number s) (string (1 ∷ s)) (may_begin p) after_value e e (ap (λ b. place_token p (string (1 ∷ s)) b new) (colon_stays m ls ∙ c)) refl g
  marked_number s false b c e g = one_kept (number s) (number s) (number s) (number s) (may_begin p) after_value e e refl refl g

wrapped_kept : (ls : List Lexeme) → Keeps false ls → (t : Token) (p : Place) → AllGood (place_token p t (begins_colon ls) (λ n. punctuate n ls)) → punctuate p (made false (token t ∷ ls)) ≡ flat_map wrapped_token (punctuate p (token t ∷ ls))
wrapped_kept ls ih begin_object p g = one_kept false ls ih p begin_object begin_object begin_object begin_object (may_begin p) fresh refl refl refl refl g
wrapped_kept ls ih end_object p g = one_kept false ls ih p end_object end_object end_object end_object (may_close p) after_value refl refl refl refl g
wrapped_kept ls ih begin_array p g = one_kept false ls ih p begin_array begin_array begin_array begin_array (may_begin p) fresh refl refl refl refl g
wrapped_kept ls ih end_array p g = one_kept false ls ih p end_array end_array end_array end_array (may_close p) after_value refl refl refl refl g
wrapped_kept ls ih (key s) p g = absurd (false≢true g)
wrapped_kept ls ih (string s) p g = string_kept false ls ih p s s (begins_colon ls) refl refl refl g
wrapped_kept ls ih (number s) p g =
    wrapped_number (is_decimal s) s ls (made false ls) p refl (ih after_value) g
    ∙ sym (ap (flat_map wrapped_token) (at_token p (number s) ls ∙ if_number_placed (may_begin p) (allowed_good (may_begin p) (number s) (λ n. punctuate n ls) after_value g).0))
  where
    if_number_placed : (b : Bool) → b ≡ true → if_allowed b (number s) (λ n. punctuate n ls) after_value ≡ number s ∷ punctuate after_value ls
    if_number_placed true e = refl
    if_number_placed false e = absurd (false≢true e)
wrapped_kept ls ih (boolean b) p g = one_kept false ls ih p (boolean b) (boolean b) (boolean b) (boolean b) (may_begin p) after_value refl refl refl refl g
wrapped_kept ls ih null p g = one_kept false ls ih p null null null null (may_begin p) after_value refl refl refl refl g
wrapped_kept ls ih bad p g = absurd (false≢true g)

marked_kept : (ls : List Lexeme) → Keeps true ls → (t : Token) (p : Place) → AllGood (place_token p t (begins_colon ls) (λ n. punctuate n ls)) → punctuate p (made true (token t ∷ ls)) ≡ flat_map (after true) (punctuate p (token t ∷ ls))
marked_kept ls ih begin_object p g = one_kept true ls ih p begin_object begin_object begin_object begin_object (may_begin p) fresh refl refl refl refl g
marked_kept ls ih end_object p g = one_kept true ls ih p end_object end_object end_object end_object (may_close p) after_value refl refl refl refl g
marked_kept ls ih begin_array p g = one_kept true ls ih p begin_array begin_array begin_array begin_array (may_begin p) fresh refl refl refl refl g
marked_kept ls ih end_array p g = one_kept true ls ih p end_array end_array end_array end_array (may_close p) after_value refl refl refl refl g
marked_kept ls ih (key s) p g = absurd (false≢true g)
marked_kept ls ih (string s) p g = string_kept true ls ih p s (marked_once_more s) (begins_colon ls) refl refl refl g
marked_kept ls ih (number s) p g = marked_number true ls ih p s (is_decimal s) (begins_colon ls) refl refl g
marked_kept ls ih (boolean b) p g = one_kept true ls ih p (boolean b) (boolean b) (boolean b) (boolean b) (may_begin p) after_value refl refl refl refl g
marked_kept ls ih null p g = one_kept true ls ih p null null null null (may_begin p) after_value refl refl refl refl g
marked_kept ls ih bad p g = absurd (false≢true g)

kept_in : (m : Bool) (ls : List Lexeme) → Keeps m ls
unfolding punctuate
kept_in m [] fresh g = refl
kept_in m [] after_value g = refl
kept_in m [] after_comma g = absurd (false≢true g)
kept_in m [] after_key g = absurd (false≢true g)
kept_in false (token t ∷ ls) p g = wrapped_kept ls (kept_in false ls) t p (subst AllGood (at_token p t ls) g)
kept_in true (token t ∷ ls) p g = marked_kept ls (kept_in true ls) t p (subst AllGood (at_token p t ls) g)
kept_in m (comma ∷ ls) fresh g = absurd (false≢true g)
kept_in m (comma ∷ ls) after_value g = kept_in m ls after_comma g
kept_in m (comma ∷ ls) after_comma g = absurd (false≢true g)
kept_in m (comma ∷ ls) after_key g = absurd (false≢true g)
kept_in m (colon ∷ ls) fresh g = absurd (false≢true g)
kept_in m (colon ∷ ls) after_value g = absurd (false≢true g)
kept_in m (colon ∷ ls) after_comma g = absurd (false≢true g)
kept_in m (colon ∷ ls) after_key g = kept_in m ls fresh g

-- ---- the laws

all_stay : (m : Bool) (t : List ℕ) → Lexes t → tokens (now m t) ≡ flat_map (after m) (tokens t)
all_stay m t h = ap (punctuate fresh) (lexemes_stay m t (all_fine (lex between t) fresh h)) ∙ kept_in m (lex between t) fresh h

pub wrapped_stay : (t : List ℕ) → Lexes t → tokens (wrapped_text t) ≡ flat_map wrapped_token (tokens t)
wrapped_stay t h = all_stay false t h

one_each : (ts : List Token) → flat_map (after true) ts ≡ map marked_token ts
one_each [] = refl
one_each (t ∷ ts) = ap (λ us. marked_token t ∷ us) (one_each ts)

pub marked_stay : (t : List ℕ) → Lexes t → tokens (marked_text t) ≡ map marked_token (tokens t)
marked_stay t h = all_stay true t h ∙ one_each (tokens t)
