-- A printed text whose numbers are not to be wrapped stays as it is.
use Rattle.std.proofs.Common.{◌≡◌, ℕ, ◌+◌, ◌/◌, ◌%◌, ◌<◌, ◌≤◌, List, [], ◌∷◌, ◌++◌, length, filter, Bool, true, false}
use Rattle.std.proofs.Common.{cond, ◌==◌, ltb, refl, sym, ap, ap₂, ◌∙◌, subst, arith, lit<, append_assoc, inl, inr, ◌⊎◌}
use Rattle.std.proofs.Common.{lt-ltb, le-ltb, ne_eqb}
use Rattle.std.proofs.lemmas.Bool.{true≢false, cases_eq, cases_lt}
use Rattle.std.specs.Char.{digit_char}
use Rattle.std.specs.List.{flat_map, prefix_len}
use Rattle.json.specs.Token.{Token, begin_object, end_object, begin_array, end_array, key, string, number, boolean}
use Rattle.json.specs.Token.{null, bad}
use Rattle.json.specs.Lex.{tokens}
use Rattle.json.specs.Print.{escape_letter, escape_byte, escape, quoted, token_text, ends, separator, print, print_from}
use Rattle.json.specs.Print.{ArePrintable, IsPrintable}
use Rattle.json.specs.Word.{after_number}
use Rattle.json.proofs.Printed.Strings.{escape_byte_plain}
use Rattle.ss_text.specs.Decimals.{is_number_byte, outside, inside, escaped, Piece, run, text, unended, byte, pieces}
use Rattle.ss_text.specs.Decimals.{bytes_of_piece, is_decimal, is_wrapped, wrapped_pieces, wrapped_text, count_of}
use Rattle.ss_text.specs.Tokens.{IsWhole, AreWhole}
use Rattle.ss_text.proofs.Pieces.{at_byte, run_there, Raw, string_there, pieces_text}
use Rattle.ss_text.proofs.WholeTokens.{Kept, number_bytes, some_front, tokens_are_whole}

-- ---- nothing is wrapped where the count is 0

kept_there : (b : Bool) (p : Piece) (ps : List Piece) → is_wrapped p ≡ b → length (cond b (p ∷ filter is_wrapped ps) (filter is_wrapped ps)) ≡ 0 → (is_wrapped p ≡ false) × (length (filter is_wrapped ps) ≡ 0)
kept_there true p ps e h = let never : ⊥ = omega arith in absurd never
kept_there false p ps e h = (e, h)

kept_pieces : (ps : List Piece) → length (filter is_wrapped ps) ≡ 0 → Kept ps
kept_pieces [] h = tt
kept_pieces (run r ∷ ps) h = let parts = kept_there (is_decimal r) (run r) ps refl h in (parts.0, kept_pieces ps parts.1)
kept_pieces (text s ∷ ps) h = kept_pieces ps h
kept_pieces (unended s ∷ ps) h = kept_pieces ps h
kept_pieces (byte b ∷ ps) h = kept_pieces ps h

pub count_from_kept : (ps : List Piece) → Kept ps → length (filter is_wrapped ps) ≡ 0
count_from_kept [] h = refl
count_from_kept (run r ∷ ps) h = ap (λ b. length (cond b (run r ∷ filter is_wrapped ps) (filter is_wrapped ps))) h.0 ∙ count_from_kept ps h.1
count_from_kept (text s ∷ ps) h = count_from_kept ps h
count_from_kept (unended s ∷ ps) h = count_from_kept ps h
count_from_kept (byte b ∷ ps) h = count_from_kept ps h

pub kept_from_count : (t : List ℕ) → count_of t ≡ 0 → Kept (pieces outside t)
kept_from_count t h = kept_pieces (pieces outside t) h

kept_text : (ps : List Piece) → Kept ps → flat_map bytes_of_piece (flat_map wrapped_pieces ps) ≡ flat_map bytes_of_piece ps
kept_text [] h = refl
kept_text (run r ∷ ps) h = ap (λ b. flat_map bytes_of_piece (cond b (byte 91 ∷ text r ∷ byte 93 ∷ []) (run r ∷ []) ++ flat_map wrapped_pieces ps)) h.0 ∙ ap (λ t. r ++ t) (kept_text ps h.1)
kept_text (text s ∷ ps) h = ap (λ t. 34 ∷ ((s ++ 34 ∷ []) ++ t)) (kept_text ps h)
kept_text (unended s ∷ ps) h = ap (λ t. 34 ∷ (s ++ t)) (kept_text ps h)
kept_text (byte b ∷ ps) h = ap (λ t. b ∷ t) (kept_text ps h)

pub kept_stays : (t : List ℕ) → count_of t ≡ 0 → wrapped_text t ≡ t
kept_stays t h = kept_text (pieces outside t) (kept_from_count t h) ∙ pieces_text t

pub kept_tokens : (t : List ℕ) → count_of t ≡ 0 → AreWhole (tokens t)
kept_tokens t h = tokens_are_whole t (kept_from_count t h)

-- ---- strings

abbrev Out : List ℕ → Type 0
Out t = Kept (pieces outside t)

abbrev Passes : List ℕ → Type 0
Passes bytes = (t : List ℕ) → Raw inside t → Raw inside (bytes ++ t)

pair : (l : ℕ) → Passes (92 ∷ l ∷ [])
pair l t h = h

plain_byte : (x : ℕ) → (x == 34) ≡ false → (x == 92) ≡ false → (t : List ℕ) → Raw inside t → Raw inside (x ∷ t)
plain_byte x q b t h = subst (λ p. Raw p t) (sym (ap₂ (λ c d. cond c outside (cond d escaped inside)) q b)) h

-- a digit of an escape is no quote and no backslash
pub digit_plain : (d : ℕ) → d < 16 → ((digit_char d == 34) ≡ false) × ((digit_char d == 92) ≡ false)
digit_plain d h = at (cases_lt d 10)
  where
    at : (d < 10) ⊎ (10 ≤ d) → ((digit_char d == 34) ≡ false) × ((digit_char d == 92) ≡ false)
    at (inl low) =
        let e : digit_char d ≡ 48 + d = ap (λ b. cond b (48 + d) (87 + d)) (lt-ltb d 10 low) in
        (ap (λ c. c == 34) e ∙ ne_eqb (48 + d) 34 (λ k. omega arith), ap (λ c. c == 92) e ∙ ne_eqb (48 + d) 92 (λ k. omega arith))
    at (inr high) =
        let e : digit_char d ≡ 87 + d = ap (λ b. cond b (48 + d) (87 + d)) (le-ltb d 10 high) in
        (ap (λ c. c == 34) e ∙ ne_eqb (87 + d) 34 (λ k. omega arith), ap (λ c. c == 92) e ∙ ne_eqb (87 + d) 92 (λ k. omega arith))

unicode : (x : ℕ) → x < 32 → Passes (92 ∷ 117 ∷ 48 ∷ 48 ∷ digit_char (x / 16) ∷ digit_char (x % 16) ∷ [])
unicode x h t k =
    let a = digit_plain (x / 16) (omega arith) in
    let b = digit_plain (x % 16) (omega arith) in
    plain_byte (digit_char (x / 16)) a.0 a.1 (digit_char (x % 16) ∷ t) (plain_byte (digit_char (x % 16)) b.0 b.1 t k)

control : (b c : Bool) (l x : ℕ) → x < 32 → c ≡ true → Passes (cond b (92 ∷ l ∷ []) (cond c (92 ∷ 117 ∷ 48 ∷ 48 ∷ digit_char (x / 16) ∷ digit_char (x % 16) ∷ []) (x ∷ [])))
control true c l x h e = pair l
control false true l x h e = unicode x h
control false false l x h e = absurd (true≢false (sym e))

escape_passes : (x : ℕ) → Passes (escape_byte x)
unfolding escape_byte
escape_passes x = go (cases_eq x 34) (cases_eq x 92) (cases_lt x 32)
  where
    go : (x ≡ 34) ⊎ (x ≡ 34 → ⊥) → (x ≡ 92) ⊎ (x ≡ 92 → ⊥) → (x < 32) ⊎ (32 ≤ x) → Passes (escape_byte x)
    go (inl e) b c = subst (λ y. Passes (escape_byte y)) (sym e) (pair 34)
    go (inr q) (inl e) c = subst (λ y. Passes (escape_byte y)) (sym e) (pair 92)
    go (inr q) (inr b) (inl c) = control (ltb 0 (escape_letter x)) (ltb x 32) (escape_letter x) x c (lt-ltb x 32 c)
    go (inr q) (inr b) (inr l) = subst Passes (sym (escape_byte_plain x q b l)) (plain_byte x (ne_eqb x 34 q) (ne_eqb x 92 b))

-- what a string is written as ends at its own quote
pub escape_raw : (s : List ℕ) → Raw inside (escape s)
escape_raw [] = tt
escape_raw (x ∷ s) = escape_passes x (escape s) (escape_raw s)

-- a written string is a piece
pub quoted_there : (s r : List ℕ) → pieces outside (quoted s ++ r) ≡ text (escape s) ∷ pieces outside r
quoted_there s r = ap (λ t. pieces outside (34 ∷ t)) (append_assoc (escape s) (34 ∷ []) r) ∙ string_there (escape s) r (escape_raw s)

quoted_kept : (s r : List ℕ) → Out r → Out (quoted s ++ r)
quoted_kept s r h = subst Kept (sym (quoted_there s r)) h

-- ---- tokens

abbrev Fresh : List ℕ → Type 0
Fresh r = prefix_len is_number_byte r ≡ 0

-- what follows a token: where that ended a value, no run goes on
abbrev Follows : Bool → List ℕ → Type 0
Follows true r = Out r × Fresh r
Follows false r = Out r

mark : (x : ℕ) (r : List ℕ) → (x == 34) ≡ false → is_number_byte x ≡ false → Out r → Out (x ∷ r)
mark x r q n h = subst Kept (sym (at_byte x r q n)) h

number_kept : (s r : List ℕ) → IsWhole (number s) → Out r → Fresh r → Out (s ++ r)
number_kept s r w h f = subst Kept (sym (run_there s r (number_bytes s w.0) (some_front s w.0) f)) (w.1, h)

letter_kept : (r : List ℕ) → Out r → Fresh r → Out (101 ∷ r)
unfolding pieces is_decimal after_number
letter_kept r h f = subst Kept (sym (run_there (101 ∷ []) r refl (lit< tt) f)) (refl, h)

token_kept : (t : Token) (r : List ℕ) → IsPrintable t → IsWhole t → Follows (ends t) r → Out (token_text t ++ r)
token_kept begin_object r p w h = mark 123 r refl refl h
token_kept end_object r p w h = mark 125 r refl refl h.0
token_kept begin_array r p w h = mark 91 r refl refl h
token_kept end_array r p w h = mark 93 r refl refl h.0
token_kept (key s) r p w h = subst Out (sym (append_assoc (quoted s) (58 ∷ []) r)) (quoted_kept s (58 ∷ r) (mark 58 r refl refl h))
token_kept (string s) r p w h = quoted_kept s r h.0
token_kept (number s) r p w h = number_kept s r w h.0 h.1
token_kept (boolean true) r p w h = mark 116 _ refl refl (mark 114 _ refl refl (mark 117 _ refl refl (letter_kept r h.0 h.1)))
token_kept (boolean false) r p w h = mark 102 _ refl refl (mark 97 _ refl refl (mark 108 _ refl refl (mark 115 _ refl refl (letter_kept r h.0 h.1))))
token_kept null r p w h = mark 110 _ refl refl (mark 117 _ refl refl (mark 108 _ refl refl (mark 108 r refl refl h.0)))
token_kept bad r p w h = absurd p

-- a value that ended is followed by a comma or a closing bracket
after_end : (t : Token) (r : List ℕ) → Out (token_text t ++ r) → Follows true (separator true t ++ (token_text t ++ r))
after_end begin_object r h = (mark 44 _ refl refl h, refl)
after_end end_object r h = (h, refl)
after_end begin_array r h = (mark 44 _ refl refl h, refl)
after_end end_array r h = (h, refl)
after_end (key s) r h = (mark 44 _ refl refl h, refl)
after_end (string s) r h = (mark 44 _ refl refl h, refl)
after_end (number s) r h = (mark 44 _ refl refl h, refl)
after_end (boolean b) r h = (mark 44 _ refl refl h, refl)
after_end null r h = (mark 44 _ refl refl h, refl)
after_end bad r h = (mark 44 _ refl refl h, refl)

placed : (c : Bool) (t : Token) (r : List ℕ) → Out (token_text t ++ r) → Follows c (separator c t ++ (token_text t ++ r))
placed true t r h = after_end t r h
placed false t r h = h

nothing : (c : Bool) → Follows c []
unfolding pieces
nothing true = (tt, refl)
nothing false = tt

printed : (c : Bool) (ts : List Token) → ArePrintable ts → AreWhole ts → Follows c (print_from c ts)
unfolding print_from ArePrintable
printed c [] p w = nothing c
printed c (t ∷ ts) p w = placed c t (print_from (ends t) ts) (token_kept t (print_from (ends t) ts) p.0 w.0 (printed (ends t) ts p.1 w.1))

pub printed_stays : (ts : List Token) → ArePrintable ts → AreWhole ts → count_of (print ts) ≡ 0
printed_stays ts p w = count_from_kept (pieces outside (print ts)) (printed false ts p w)
