-- The pieces of a text: what stands at its front, that they are the text, and that a text put together of such pieces
-- is cut into them again.
use Rattle.std.proofs.Common.{◌≡◌, ℕ, suc, ◌+◌, ◌<◌, ◌≤◌, List, [], ◌∷◌, ◌++◌, length, drop, get_or, Bool, true, false}
use Rattle.std.proofs.Common.{cond, ◌&&◌, ◌||◌, ◌==◌, ◌⊎◌, inl, inr, ⊎_elim, refl, sym, ap, ap₂, ◌∙◌, subst, arith}
use Rattle.std.proofs.Common.{lit<, leb, append_assoc, append-nil}
use Rattle.std.proofs.lemmas.Bool.{true≢false, and_parts, or_cases, eqb-true, leb-true, ne_eqb, cases_lt}
use Rattle.std.proofs.lemmas.List.{get_or_past}
use Rattle.std.specs.Char.{is_ascii_digit}
use Rattle.std.specs.Bool.{⊤}
use Rattle.std.specs.List.{prefix_len, list_all, AllPass, flat_map}
use Rattle.std.specs.Str.{IsUtf8}
use Rattle.std.proofs.lemmas.Str.{IsUtf8-from_ascii}
use Rattle.ss_text.specs.Decimals.{is_number_byte, Place, outside, inside, escaped, next_place, Piece, run, text}
use Rattle.ss_text.specs.Decimals.{unended, byte, with_front, with_character, pieces, bytes_of_piece}

-- ---- bytes of numbers

-- a byte of a number is ASCII
pub small_byte : (x : ℕ) → is_number_byte x ≡ true → x < 128
small_byte x h = last (or_cases (is_ascii_digit x || x == 43 || x == 45 || x == 46 || x == 101) (x == 69) h)
  where
    digit : (is_ascii_digit x || x == 43) ≡ true → x < 128
    digit e = ⊎_elim (λ d. let high = leb-true x 57 (and_parts (leb 48 x) (leb x 57) d).1 in omega arith) (λ d. let same = eqb-true x 43 d in omega arith) (or_cases (is_ascii_digit x) (x == 43) e)

    sign : (is_ascii_digit x || x == 43 || x == 45) ≡ true → x < 128
    sign e = ⊎_elim digit (λ d. let same = eqb-true x 45 d in omega arith) (or_cases ((is_ascii_digit x || x == 43)) ((x == 45)) e)

    point : (is_ascii_digit x || x == 43 || x == 45 || x == 46) ≡ true → x < 128
    point e = ⊎_elim sign (λ d. let same = eqb-true x 46 d in omega arith) (or_cases ((is_ascii_digit x || x == 43 || x == 45)) ((x == 46)) e)

    small_e : (is_ascii_digit x || x == 43 || x == 45 || x == 46 || x == 101) ≡ true → x < 128
    small_e e = ⊎_elim point (λ d. let same = eqb-true x 101 d in omega arith) (or_cases ((is_ascii_digit x || x == 43 || x == 45 || x == 46)) ((x == 101)) e)

    last : ((is_ascii_digit x || x == 43 || x == 45 || x == 46 || x == 101) ≡ true) ⊎ ((x == 69) ≡ true) → x < 128
    last c = ⊎_elim small_e (λ d. let same = eqb-true x 69 d in omega arith) c

all_small : (r : List ℕ) → AllPass is_number_byte r → (i : ℕ) → get_or r i 0 < 128
all_small r h i = at (cases_lt i (length r))
  where
    at : (i < length r) ⊎ (length r ≤ i) → get_or r i 0 < 128
    at (inl few) = small_byte _ (h i 0 few)
    at (inr past) = rw (get_or_past r i 0 past) (lit< tt)

pub run_is_text : (r : List ℕ) → AllPass is_number_byte r → IsUtf8 r
run_is_text r h = IsUtf8-from_ascii r (all_small r h)

number_apart : (x c : ℕ) → is_number_byte c ≡ false → is_number_byte x ≡ true → (x == c) ≡ false
number_apart x c n e = ne_eqb x c (λ k. true≢false (sym e ∙ (ap is_number_byte k ∙ n)))

-- inside a string it changes nothing
pub number_stays : (x : ℕ) → is_number_byte x ≡ true → next_place inside x ≡ inside
number_stays x e = ap₂ (λ s t. cond s outside (cond t escaped inside)) (number_apart x 34 refl e) (number_apart x 92 refl e)

-- ---- what stands at the front

-- a byte outside a run and a string is a piece
pub at_byte : (x : ℕ) (xs : List ℕ) → (x == 34) ≡ false → is_number_byte x ≡ false → pieces outside (x ∷ xs) ≡ byte x ∷ pieces outside xs
unfolding pieces
at_byte x xs q n =
    ap (λ b. cond b (pieces (cond b inside outside) xs) (cond (is_number_byte x) (with_front x (pieces (cond b inside outside) xs)) (byte x ∷ pieces (cond b inside outside) xs))) q
    ∙ ap (λ b. cond b (with_front x (pieces outside xs)) (byte x ∷ pieces outside xs)) n

at_number : (x : ℕ) (xs : List ℕ) → is_number_byte x ≡ true → pieces outside (x ∷ xs) ≡ with_front x (pieces outside xs)
unfolding pieces
at_number x xs n =
    ap (λ b. cond b (pieces (cond b inside outside) xs) (cond (is_number_byte x) (with_front x (pieces (cond b inside outside) xs)) (byte x ∷ pieces (cond b inside outside) xs))) (number_apart x 34 refl n)
    ∙ ap (λ b. cond b (with_front x (pieces outside xs)) (byte x ∷ pieces outside xs)) n

abbrev pub begins_run : List Piece → Bool
begins_run [] = false
begins_run (run r ∷ ps) = true
begins_run (text s ∷ ps) = false
begins_run (unended s ∷ ps) = false
begins_run (byte b ∷ ps) = false

-- what stands before a piece that is no run begins a run of its own
new_front : (x : ℕ) (ps : List Piece) → begins_run ps ≡ false → with_front x ps ≡ run (x ∷ []) ∷ ps
new_front x [] h = refl
new_front x (run r ∷ ps) h = absurd (true≢false h)
new_front x (text s ∷ ps) h = refl
new_front x (unended s ∷ ps) h = refl
new_front x (byte b ∷ ps) h = refl

-- no run begins a string
abbrev IsString : Place → List Piece → Type 0
IsString outside ps = ⊤
IsString inside ps = begins_run ps ≡ false
IsString escaped ps = begins_run ps ≡ false

character_no_run : (x : ℕ) (ps : List Piece) → begins_run ps ≡ false → begins_run (with_character x ps) ≡ false
character_no_run x [] h = refl
character_no_run x (run r ∷ ps) h = h
character_no_run x (text s ∷ ps) h = refl
character_no_run x (unended s ∷ ps) h = refl
character_no_run x (byte b ∷ ps) h = refl

strings_first : (xs : List ℕ) (place : Place) → IsString place (pieces place xs)
unfolding pieces
strings_first [] outside = tt
strings_first [] inside = refl
strings_first [] escaped = refl
strings_first (x ∷ xs) outside = tt
strings_first (x ∷ xs) inside = go (x == 34) (x == 92) (strings_first xs escaped) (strings_first xs inside)
  where
    go : (q b : Bool) → begins_run (pieces escaped xs) ≡ false → begins_run (pieces inside xs) ≡ false
        → begins_run (cond q (text [] ∷ pieces (cond q outside (cond b escaped inside)) xs) (with_character x (pieces (cond q outside (cond b escaped inside)) xs))) ≡ false
    go true b h k = refl
    go false true h k = character_no_run x (pieces escaped xs) h
    go false false h k = character_no_run x (pieces inside xs) k
strings_first (x ∷ xs) escaped = character_no_run x (pieces inside xs) (strings_first xs inside)

-- no byte of a number, no run
no_run : (xs : List ℕ) → prefix_len is_number_byte xs ≡ 0 → begins_run (pieces outside xs) ≡ false
unfolding pieces
no_run [] h = refl
no_run (x ∷ xs) h = go (x == 34) (is_number_byte x) h
  where
    go : (q n : Bool) → cond n (1 + prefix_len is_number_byte xs) 0 ≡ 0
        → begins_run (cond q (pieces (cond q inside outside) xs) (cond n (with_front x (pieces (cond q inside outside) xs)) (byte x ∷ pieces (cond q inside outside) xs))) ≡ false
    go true n k = strings_first xs inside
    go false true k = let never : ⊥ = omega arith in absurd never
    go false false k = refl

-- a run is a piece
pub run_there : (r rest : List ℕ) → list_all is_number_byte r ≡ true → 0 < length r → prefix_len is_number_byte rest ≡ 0 → pieces outside (r ++ rest) ≡ run r ∷ pieces outside rest
run_there [] rest h some none = let never : ⊥ = omega arith in absurd never
run_there (x ∷ []) rest h some none = at_number x rest (and_parts (is_number_byte x) true h).0 ∙ new_front x (pieces outside rest) (no_run rest none)
run_there (x ∷ y ∷ r) rest h some none =
    let parts = and_parts (is_number_byte x) (list_all is_number_byte (y ∷ r)) h in
    at_number x (y ∷ (r ++ rest)) parts.0 ∙ ap (with_front x) (run_there (y ∷ r) rest parts.1 (omega arith) none)

pub front_count : (s rest : List ℕ) → list_all is_number_byte s ≡ true → prefix_len is_number_byte rest ≡ 0 → prefix_len is_number_byte (s ++ rest) ≡ length s
front_count [] rest h e = e
front_count (x ∷ s) rest h e =
    let parts = and_parts (is_number_byte x) (list_all is_number_byte s) h in
    let ih = front_count s rest parts.1 e in
    ap (λ b. cond b (1 + prefix_len is_number_byte (s ++ rest)) 0) parts.0 ∙ (let next : 1 + prefix_len is_number_byte (s ++ rest) ≡ suc (length s) = omega arith in next)

-- what stands between the quotes of a string, from a place in it on: no quote that no backslash escapes, and at its end
-- none is escaped
abbrev pub Raw : Place → List ℕ → Type 0
Raw outside xs = ⊥
Raw inside [] = ⊤
Raw inside (x ∷ xs) = Raw (next_place inside x) xs
Raw escaped [] = ⊥
Raw escaped (x ∷ xs) = Raw inside xs

pub text_there : (s t : List ℕ) (place : Place) → Raw place s → pieces place (s ++ 34 ∷ t) ≡ text s ∷ pieces outside t
unfolding pieces
text_there s t outside h = absurd h
text_there [] t inside h = refl
text_there [] t escaped h = absurd h
text_there (x ∷ s) t escaped h = ap (with_character x) (text_there s t inside h)
text_there (x ∷ s) t inside h = go (x == 34) (x == 92) h (λ p k. text_there s t p k)
  where
    go : (q b : Bool) → Raw (cond q outside (cond b escaped inside)) s → ((p : Place) → Raw p s → pieces p (s ++ 34 ∷ t) ≡ text s ∷ pieces outside t)
        → cond q (text [] ∷ pieces (cond q outside (cond b escaped inside)) (s ++ 34 ∷ t)) (with_character x (pieces (cond q outside (cond b escaped inside)) (s ++ 34 ∷ t))) ≡ text (x ∷ s) ∷ pieces outside t
    go true b k ih = absurd k
    go false true k ih = ap (with_character x) (ih escaped k)
    go false false k ih = ap (with_character x) (ih inside k)

-- a string is a piece
pub string_there : (s t : List ℕ) → Raw inside s → pieces outside (34 ∷ (s ++ 34 ∷ t)) ≡ text s ∷ pieces outside t
unfolding pieces
string_there s t h = text_there s t inside h

pub raw_run : (r : List ℕ) → list_all is_number_byte r ≡ true → Raw inside r
raw_run [] h = tt
raw_run (x ∷ r) h = let parts = and_parts (is_number_byte x) (list_all is_number_byte r) h in subst (λ p. Raw p r) (sym (number_stays x parts.0)) (raw_run r parts.1)

-- ---- pieces of a text

abbrev pub Alone : List Piece → Type 0
Alone [] = ⊤
Alone (p ∷ ps) = ⊥

-- these are the pieces of a text: no run follows a run
abbrev pub Cut : List Piece → Type 0
Cut [] = ⊤
Cut (run r ∷ ps) = (list_all is_number_byte r ≡ true) × (0 < length r) × (begins_run ps ≡ false) × Cut ps
Cut (text s ∷ ps) = Raw inside s × Cut ps
Cut (unended s ∷ ps) = (pieces inside s ≡ unended s ∷ []) × Alone ps
Cut (byte b ∷ ps) = ((b == 34) ≡ false) × (is_number_byte b ≡ false) × Cut ps

-- the first is a string from that place on
abbrev StringCut : Place → List Piece → Type 0
StringCut place [] = ⊥
StringCut place (run r ∷ ps) = ⊥
StringCut place (text s ∷ ps) = Raw place s × Cut ps
StringCut place (unended s ∷ ps) = (pieces place s ≡ unended s ∷ []) × Alone ps
StringCut place (byte b ∷ ps) = ⊥

abbrev CutAt : Place → List Piece → Type 0
CutAt outside ps = Cut ps
CutAt inside ps = StringCut inside ps
CutAt escaped ps = StringCut escaped ps

string_is_cut : (ps : List Piece) → StringCut inside ps → Cut ps
string_is_cut [] h = absurd h
string_is_cut (run r ∷ ps) h = absurd h
string_is_cut (text s ∷ ps) h = h
string_is_cut (unended s ∷ ps) h = h
string_is_cut (byte b ∷ ps) h = absurd h

front_cut : (x : ℕ) (ps : List Piece) → is_number_byte x ≡ true → Cut ps → Cut (with_front x ps)
front_cut x [] e h = (ap (λ b. b && true) e, lit< tt, refl, tt)
front_cut x (run r ∷ ps) e h = (ap₂ (λ a b. a && b) e h.0, omega arith, h.2, h.3)
front_cut x (text s ∷ ps) e h = (ap (λ b. b && true) e, lit< tt, refl, h)
front_cut x (unended s ∷ ps) e h = (ap (λ b. b && true) e, lit< tt, refl, h)
front_cut x (byte b ∷ ps) e h = (ap (λ b. b && true) e, lit< tt, refl, h)

escaped_cut : (x : ℕ) (ps : List Piece) → StringCut inside ps → StringCut escaped (with_character x ps)
unfolding pieces
escaped_cut x [] h = absurd h
escaped_cut x (run r ∷ ps) h = absurd h
escaped_cut x (text s ∷ ps) h = h
escaped_cut x (unended s ∷ ps) h = (ap (with_character x) h.0, h.1)
escaped_cut x (byte b ∷ ps) h = absurd h

inside_cut : (x : ℕ) (ps : List Piece) → (x == 34) ≡ false → StringCut (next_place inside x) ps → StringCut inside (with_character x ps)
unfolding pieces
inside_cut x [] q h = absurd h
inside_cut x (run r ∷ ps) q h = absurd h
inside_cut x (text s ∷ ps) q h = h
inside_cut x (unended s ∷ ps) q h = (ap (λ b. cond b (text [] ∷ pieces (next_place inside x) s) (with_character x (pieces (next_place inside x) s))) q ∙ ap (with_character x) h.0, h.1)
inside_cut x (byte b ∷ ps) q h = absurd h

pub cut_pieces : (xs : List ℕ) (place : Place) → CutAt place (pieces place xs)
unfolding pieces
cut_pieces [] outside = tt
cut_pieces [] inside = (refl, tt)
cut_pieces [] escaped = (refl, tt)
cut_pieces (x ∷ xs) escaped = escaped_cut x (pieces inside xs) (cut_pieces xs inside)
cut_pieces (x ∷ xs) outside = go (x == 34) (is_number_byte x) refl refl (cut_pieces xs inside) (cut_pieces xs outside)
  where
    go : (q n : Bool) → (x == 34) ≡ q → is_number_byte x ≡ n → StringCut inside (pieces inside xs) → Cut (pieces outside xs)
        → Cut (cond q (pieces (cond q inside outside) xs) (cond n (with_front x (pieces (cond q inside outside) xs)) (byte x ∷ pieces (cond q inside outside) xs)))
    go true n e f i o = string_is_cut (pieces inside xs) i
    go false true e f i o = front_cut x (pieces outside xs) f o
    go false false e f i o = (e, f, o)
cut_pieces (x ∷ xs) inside = go (x == 34) (x == 92) refl refl (cut_pieces xs outside) (cut_pieces xs escaped) (cut_pieces xs inside)
  where
    there : (b : Bool) → (x == 34) ≡ false → (x == 92) ≡ b → next_place inside x ≡ cond b escaped inside
    there b q r = ap₂ (λ s t. cond s outside (cond t escaped inside)) q r

    go : (q b : Bool) → (x == 34) ≡ q → (x == 92) ≡ b → Cut (pieces outside xs) → StringCut escaped (pieces escaped xs) → StringCut inside (pieces inside xs)
        → StringCut inside (cond q (text [] ∷ pieces (cond q outside (cond b escaped inside)) xs) (with_character x (pieces (cond q outside (cond b escaped inside)) xs)))
    go true b e f o k i = (tt, o)
    go false true e f o k i = inside_cut x (pieces escaped xs) e (subst (λ p. StringCut p (pieces escaped xs)) (sym (there true e f)) k)
    go false false e f o k i = inside_cut x (pieces inside xs) e (subst (λ p. StringCut p (pieces inside xs)) (sym (there false e f)) i)

-- ---- the pieces are the text

abbrev SpelledAt : Place → List Piece → List ℕ → Type 0
SpelledAt outside ps xs = flat_map bytes_of_piece ps ≡ xs
SpelledAt inside ps xs = flat_map bytes_of_piece ps ≡ 34 ∷ xs
SpelledAt escaped ps xs = flat_map bytes_of_piece ps ≡ 34 ∷ xs

front_spelled : (x : ℕ) (ps : List Piece) → flat_map bytes_of_piece (with_front x ps) ≡ x ∷ flat_map bytes_of_piece ps
front_spelled x [] = refl
front_spelled x (run r ∷ ps) = refl
front_spelled x (text s ∷ ps) = refl
front_spelled x (unended s ∷ ps) = refl
front_spelled x (byte b ∷ ps) = refl

character_spelled : (x : ℕ) (ps : List Piece) (xs : List ℕ) (place : Place) → StringCut place ps → flat_map bytes_of_piece ps ≡ 34 ∷ xs → flat_map bytes_of_piece (with_character x ps) ≡ 34 ∷ x ∷ xs
character_spelled x [] xs place h e = absurd h
character_spelled x (run r ∷ ps) xs place h e = absurd h
character_spelled x (text s ∷ ps) xs place h e = ap (λ l. 34 ∷ x ∷ drop 1 l) e
character_spelled x (unended s ∷ ps) xs place h e = ap (λ l. 34 ∷ x ∷ drop 1 l) e
character_spelled x (byte b ∷ ps) xs place h e = absurd h

spelled_at : (xs : List ℕ) (place : Place) → SpelledAt place (pieces place xs) xs
unfolding pieces
spelled_at [] outside = refl
spelled_at [] inside = refl
spelled_at [] escaped = refl
spelled_at (x ∷ xs) escaped = character_spelled x (pieces inside xs) xs inside (cut_pieces xs inside) (spelled_at xs inside)
spelled_at (x ∷ xs) outside = go (x == 34) (is_number_byte x) refl (spelled_at xs inside) (spelled_at xs outside)
  where
    go : (q n : Bool) → (x == 34) ≡ q → flat_map bytes_of_piece (pieces inside xs) ≡ 34 ∷ xs → flat_map bytes_of_piece (pieces outside xs) ≡ xs
        → flat_map bytes_of_piece (cond q (pieces (cond q inside outside) xs) (cond n (with_front x (pieces (cond q inside outside) xs)) (byte x ∷ pieces (cond q inside outside) xs))) ≡ x ∷ xs
    go true n e i o = i ∙ ap (λ y. y ∷ xs) (sym (eqb-true x 34 e))
    go false true e i o = front_spelled x (pieces outside xs) ∙ ap (λ l. x ∷ l) o
    go false false e i o = ap (λ l. x ∷ l) o
spelled_at (x ∷ xs) inside = go (x == 34) (x == 92) refl (spelled_at xs outside) (spelled_at xs escaped) (spelled_at xs inside)
  where
    go : (q b : Bool) → (x == 34) ≡ q → flat_map bytes_of_piece (pieces outside xs) ≡ xs → flat_map bytes_of_piece (pieces escaped xs) ≡ 34 ∷ xs → flat_map bytes_of_piece (pieces inside xs) ≡ 34 ∷ xs
        → flat_map bytes_of_piece (cond q (text [] ∷ pieces (cond q outside (cond b escaped inside)) xs) (with_character x (pieces (cond q outside (cond b escaped inside)) xs))) ≡ 34 ∷ x ∷ xs
    go true b e o k i = ap (λ l. 34 ∷ 34 ∷ l) o ∙ ap (λ y. 34 ∷ y ∷ xs) (sym (eqb-true x 34 e))
    go false true e o k i = character_spelled x (pieces escaped xs) xs escaped (cut_pieces xs escaped) k
    go false false e o k i = character_spelled x (pieces inside xs) xs inside (cut_pieces xs inside) i

pub pieces_text : (t : List ℕ) → flat_map bytes_of_piece (pieces outside t) ≡ t
pieces_text t = spelled_at t outside

-- ---- a text of such pieces is cut into them again

pub no_front : (ps : List Piece) → Cut ps → begins_run ps ≡ false → prefix_len is_number_byte (flat_map bytes_of_piece ps) ≡ 0
no_front [] h e = refl
no_front (run r ∷ ps) h e = absurd (true≢false e)
no_front (text s ∷ ps) h e = refl
no_front (unended s ∷ ps) h e = refl
no_front (byte b ∷ ps) h e = ap (λ t. cond t (1 + prefix_len is_number_byte (flat_map bytes_of_piece ps)) 0) h.1

pub recut : (ps : List Piece) → Cut ps → pieces outside (flat_map bytes_of_piece ps) ≡ ps
unfolding pieces
recut [] h = refl
recut (run r ∷ ps) h = run_there r (flat_map bytes_of_piece ps) h.0 h.1 (no_front ps h.3 h.2) ∙ ap (λ qs. run r ∷ qs) (recut ps h.3)
recut (text s ∷ ps) h = ap (λ t. pieces outside (34 ∷ t)) (append_assoc s (34 ∷ []) (flat_map bytes_of_piece ps)) ∙ string_there s (flat_map bytes_of_piece ps) h.0 ∙ ap (λ qs. text s ∷ qs) (recut ps h.1)
recut (unended s ∷ []) h = ap (pieces inside) (append-nil s) ∙ h.0
recut (unended s ∷ p ∷ ps) h = absurd h.1
recut (byte b ∷ ps) h = at_byte b (flat_map bytes_of_piece ps) h.0 h.1 ∙ ap (λ qs. byte b ∷ qs) (recut ps h.2)
