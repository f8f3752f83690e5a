-- What the scan finds: the end of a string, the end of a run, and the piece that begins at a place.
use Rattle.std.proofs.Common.{◌≡◌, ℕ, zero, suc, ◌+◌, ◌-◌, ◌<◌, ◌≤◌, List, [], ◌∷◌, ◌++◌, length, take, drop, get_or, Bool}
use Rattle.std.proofs.Common.{true, false, cond, ◌&&◌, ◌||◌, ◌==◌, refl, sym, ap, ap₂, ◌∙◌, subst, arith, lit≤, append_assoc}
use Rattle.std.proofs.Common.{filter}
use Rattle.std.proofs.lemmas.Bool.{eqb-true, true≢false, false_from_ne_true}
use Rattle.memchr.specs.Find.{is_byte2}
use Rattle.std.proofs.lemmas.List.{take-append-drop, drop_more, drop-drop, drop_all, length-drop, length-take, take_rest}
use Rattle.std.proofs.lemmas.List.{get_or-take}
use Rattle.std.proofs.lemmas.List.Sums.{prefix_len_passes, prefix_len-drop_yes, prefix_len-le-length}
use Rattle.std.specs.List.{prefix_len, list_all, AllPass, flat_map}
use Rattle.ss_text.specs.Decimals.{is_number_byte, Place, outside, inside, escaped, next_place, Piece, run, text}
use Rattle.ss_text.specs.Decimals.{unended, byte, with_character, pieces, bytes_of_piece, changed_piece, is_wrapped}
use Rattle.ss_text.specs.declared.decimals.Change.{Change}
use Rattle.ss_text.specs.Scan.{inside_len}
use Rattle.ss_text.proofs.Pieces.{Raw, text_there, run_there, at_byte}

-- ---- strings

pub record Ends (place : Place) (xs : List ℕ) (n : ℕ) : Type 0 where
  pub within : n ≤ length xs
  pub closed : n < length xs → Raw place (take n xs) × (get_or xs n 0 ≡ 34)
  pub unclosed : length xs ≤ n → pieces place xs ≡ unended xs ∷ []

abbrev place_of : Bool → Place
place_of true = escaped
place_of false = inside

ends_escaped : (x : ℕ) (xs : List ℕ) (n : ℕ) → Ends inside xs n → Ends escaped (x ∷ xs) (suc n)
unfolding pieces
ends_escaped x xs n e = record { within = omega (arith, e.within); closed = λ h. e.closed (omega arith); unclosed = λ h. ap (with_character x) (e.unclosed (omega arith)) }

ends_inside : (q b : Bool) (x : ℕ) (xs : List ℕ) → (x == 34) ≡ q → (x == 92) ≡ b → Ends (place_of b) xs (inside_len (place_of b) xs)
    → Ends inside (x ∷ xs) (cond q 0 (suc (inside_len (cond q outside (cond b escaped inside)) xs)))
unfolding pieces
ends_inside true b x xs q r e = record { within = omega arith; closed = λ h. (tt, eqb-true x 34 q); unclosed = λ h. let never : ⊥ = omega arith in absurd never }
ends_inside false b x xs q r e = go b r e
  where
    there : (b : Bool) → (x == 92) ≡ b → next_place inside x ≡ cond b escaped inside
    there b r = ap₂ (λ s t. cond s outside (cond t escaped inside)) q r

    shut : (b : Bool) → (x == 92) ≡ b → (ps : List Piece) → pieces (cond b escaped inside) xs ≡ ps → pieces inside (x ∷ xs) ≡ with_character x ps
    shut b r ps e =
        ap₂ (λ s t. cond s (text [] ∷ pieces (cond s outside (cond t escaped inside)) xs) (with_character x (pieces (cond s outside (cond t escaped inside)) xs))) q r
        ∙ ap (with_character x) e

    go : (b : Bool) → (x == 92) ≡ b → Ends (place_of b) xs (inside_len (place_of b) xs) → Ends inside (x ∷ xs) (suc (inside_len (cond b escaped inside) xs))
    go true r e = record {
      within = omega (arith, e.within);
      closed = λ h. let c = e.closed (omega arith) in (subst (λ p. Raw p (take (inside_len escaped xs) xs)) (sym (there true r)) c.0, c.1);
      unclosed = λ h. shut true r (unended xs ∷ []) (e.unclosed (omega arith));
    }
    go false r e = record {
      within = omega (arith, e.within);
      closed = λ h. let c = e.closed (omega arith) in (subst (λ p. Raw p (take (inside_len inside xs) xs)) (sym (there false r)) c.0, c.1);
      unclosed = λ h. shut false r (unended xs ∷ []) (e.unclosed (omega arith));
    }

ends : (xs : List ℕ) (b : Bool) → Ends (place_of b) xs (inside_len (place_of b) xs)
unfolding pieces
ends [] true = record { within = lit≤ tt; closed = λ h. let never : ⊥ = omega arith in absurd never; unclosed = λ h. refl }
ends [] false = record { within = lit≤ tt; closed = λ h. let never : ⊥ = omega arith in absurd never; unclosed = λ h. refl }
ends (x ∷ xs) true = ends_escaped x xs (inside_len inside xs) (ends xs false)
ends (x ∷ xs) false = ends_inside (x == 34) (x == 92) x xs refl refl (ends xs (x == 92))

split_at : (xs : List ℕ) (n : ℕ) → n < length xs → get_or xs n 0 ≡ 34 → xs ≡ take n xs ++ 34 ∷ drop (n + 1) xs
split_at xs n h e = sym (take-append-drop n xs) ∙ ap (λ t. take n xs ++ t) (drop_more xs n 0 h ∙ ap (λ c. c ∷ drop (n + 1) xs) e)

text_at : (xs : List ℕ) (n : ℕ) → Ends inside xs n → n < length xs → pieces inside xs ≡ text (take n xs) ∷ pieces outside (drop (n + 1) xs)
text_at xs n e h = let c = e.closed h in ap (pieces inside) (split_at xs n h c.1) ∙ text_there (take n xs) (drop (n + 1) xs) inside c.0

quote_there : (t : List ℕ) (at : ℕ) → at < length t → get_or t at 0 ≡ 34 → pieces outside (drop at t) ≡ pieces inside (drop (at + 1) t)
unfolding pieces
quote_there t at h e = ap (pieces outside) (drop_more t at 0 h ∙ ap (λ c. c ∷ drop (at + 1) t) e)

-- the string whose quote stands at a place; end is where its closing quote stands
pub record StringAt (t : List ℕ) (at end : ℕ) : Type 0 where
  pub later : at < end
  pub within : end ≤ length t
  pub closed : end < length t → pieces outside (drop at t) ≡ text (take (end - (at + 1)) (drop (at + 1) t)) ∷ pieces outside (drop (end + 1) t)
  pub unclosed : length t ≤ end → pieces outside (drop at t) ≡ unended (drop (at + 1) t) ∷ pieces outside (drop end t)

pub string_at : (t : List ℕ) (at end : ℕ) → at < length t → get_or t at 0 ≡ 34 → end ≡ at + 1 + inside_len inside (drop (at + 1) t) → StringAt t at end
unfolding pieces
string_at t at end h q is =
    let rest = drop (at + 1) t in
    let n = inside_len inside rest in
    let e = ends rest false in
    let long : length rest ≡ length t - (at + 1) = length-drop (at + 1) t in
    let gap : n ≡ end - (at + 1) = omega arith in
    record {
      later = omega arith;
      within = omega (arith, e.within);
      closed = λ k.
          quote_there t at h q ∙ text_at rest n e (omega arith)
          ∙ ap₂ (λ a b. text (take a rest) ∷ pieces outside b) gap (drop-drop (n + 1) (at + 1) t ∙ (let same : at + 1 + (n + 1) ≡ end + 1 = omega arith in ap (λ m. drop m t) same));
      unclosed = λ k. quote_there t at h q ∙ e.unclosed (omega arith) ∙ ap (λ ps. unended rest ∷ ps) (ap (pieces outside) (sym (drop_all end t k)));
    }

-- ---- runs

passing : (xs : List ℕ) (n : ℕ) → n ≡ prefix_len is_number_byte xs → AllPass is_number_byte (take n xs)
passing xs n e k d h =
    let few : k < n = omega (arith, length-take n xs) in
    ap is_number_byte (get_or-take n xs k d few) ∙ prefix_len_passes is_number_byte xs k d (omega arith)

all_front : (xs : List ℕ) → list_all is_number_byte (take (prefix_len is_number_byte xs) xs) ≡ true
all_front [] = refl
all_front (x ∷ xs) = go (is_number_byte x) refl (all_front xs)
  where
    go : (b : Bool) → is_number_byte x ≡ b → list_all is_number_byte (take (prefix_len is_number_byte xs) xs) ≡ true → list_all is_number_byte (take (cond b (1 + prefix_len is_number_byte xs) 0) (x ∷ xs)) ≡ true
    go true e ih =
        let one : suc (prefix_len is_number_byte xs) ≡ 1 + prefix_len is_number_byte xs = omega arith in
        subst (λ n. list_all is_number_byte (take n (x ∷ xs)) ≡ true) one (ap₂ (λ a b. a && b) e ih)
    go false e ih = refl

none_behind : (xs : List ℕ) → prefix_len is_number_byte (drop (prefix_len is_number_byte xs) xs) ≡ 0
none_behind [] = refl
none_behind (x ∷ xs) = go (is_number_byte x) refl (none_behind xs)
  where
    go : (b : Bool) → is_number_byte x ≡ b → prefix_len is_number_byte (drop (prefix_len is_number_byte xs) xs) ≡ 0 → prefix_len is_number_byte (drop (cond b (1 + prefix_len is_number_byte xs) 0) (x ∷ xs)) ≡ 0
    go true e ih =
        let one : suc (prefix_len is_number_byte xs) ≡ 1 + prefix_len is_number_byte xs = omega arith in
        subst (λ n. prefix_len is_number_byte (drop n (x ∷ xs)) ≡ 0) one ih
    go false e ih = ap (λ b. cond b (1 + prefix_len is_number_byte xs) 0) e

pub at_run : (xs : List ℕ) → 0 < prefix_len is_number_byte xs
    → pieces outside xs ≡ run (take (prefix_len is_number_byte xs) xs) ∷ pieces outside (drop (prefix_len is_number_byte xs) xs)
at_run xs h =
    let n = prefix_len is_number_byte xs in
    let some : 0 < length (take n xs) = omega (arith, length-take n xs, prefix_len-le-length is_number_byte xs) in
    ap (pieces outside) (sym (take-append-drop n xs)) ∙ run_there (take n xs) (drop n xs) (all_front xs) some (none_behind xs)

pub record RunAt (t : List ℕ) (at end : ℕ) : Type 0 where
  pub later : at < end
  pub within : end ≤ length t
  pub pass : AllPass is_number_byte (take (end - at) (drop at t))
  pub cut : pieces outside (drop at t) ≡ run (take (end - at) (drop at t)) ∷ pieces outside (drop end t)

pub run_at : (t : List ℕ) (at end : ℕ) → at < length t → is_number_byte (get_or t at 0) ≡ true → end ≡ at + prefix_len is_number_byte (drop at t) → RunAt t at end
run_at t at end within e is =
    let some = prefix_len-drop_yes is_number_byte t at 0 within e in
    let n : end - at ≡ prefix_len is_number_byte (drop at t) = omega arith in
    let later : at < end = omega arith in
    let whole : end ≤ length t = omega (arith, prefix_len-le-length is_number_byte (drop at t), length-drop at t) in
    let piece = at_run (drop at t) (omega arith) in
    let there : drop (end - at) (drop at t) ≡ drop end t = drop-drop (end - at) at t ∙ ap (λ k. drop k t) (let e : at + (end - at) ≡ end = omega arith in e) in
    record {
      later = later;
      within = whole;
      pass = passing (drop at t) (end - at) n;
      cut = piece ∙ rw (← n) (ap (λ r. run (take (end - at) (drop at t)) ∷ pieces outside r) there);
    }

-- ---- bytes between

pub byte_at : (t : List ℕ) (at : ℕ) → at < length t → (get_or t at 0 == 34) ≡ false → is_number_byte (get_or t at 0) ≡ false
    → pieces outside (drop at t) ≡ byte (get_or t at 0) ∷ pieces outside (drop (at + 1) t)
byte_at t at h q n = ap (pieces outside) (drop_more t at 0 h) ∙ at_byte (get_or t at 0) (drop (at + 1) t) q n

-- ---- what a step of a loop leaves

pub nothing_left : (t : List ℕ) (at : ℕ) → length t ≤ at → pieces outside (drop at t) ≡ []
unfolding pieces
nothing_left t at past = ap (pieces outside) (drop_all at t past)

pub step_text : (change : Change) (out : List ℕ) (p : Piece) (ps qs : List Piece) (all : List ℕ) → ps ≡ p ∷ qs → out ++ flat_map bytes_of_piece (flat_map (changed_piece change) ps) ≡ all
    → (out ++ flat_map bytes_of_piece (changed_piece change p)) ++ flat_map bytes_of_piece (flat_map (changed_piece change) qs) ≡ all
step_text change out p ps qs all e h =
    append_assoc out (flat_map bytes_of_piece (changed_piece change p)) (flat_map bytes_of_piece (flat_map (changed_piece change) qs))
    ∙ ap (λ t. out ++ t) (sym (join (changed_piece change p) (flat_map (changed_piece change) qs)) ∙ sym (ap (λ l. flat_map bytes_of_piece (flat_map (changed_piece change) l)) e)) ∙ h
  where
    join : (ks bs : List Piece) → flat_map bytes_of_piece (ks ++ bs) ≡ flat_map bytes_of_piece ks ++ flat_map bytes_of_piece bs
    join [] bs = refl
    join (k ∷ ks) bs = ap (λ t. bytes_of_piece k ++ t) (join ks bs) ∙ sym (append_assoc (bytes_of_piece k) (flat_map bytes_of_piece ks) (flat_map bytes_of_piece bs))

pub step_count : (count : ℕ) (p : Piece) (ps qs : List Piece) (total : ℕ) → ps ≡ p ∷ qs → count + length (filter is_wrapped ps) ≡ total
    → (is_wrapped p ≡ true → count + 1 + length (filter is_wrapped qs) ≡ total) × (is_wrapped p ≡ false → count + length (filter is_wrapped qs) ≡ total)
step_count count p ps qs total e h =
    let whole = ap (λ l. length (filter is_wrapped l)) e in (
      (λ k. let more = whole ∙ ap (λ b. length (cond b (p ∷ filter is_wrapped qs) (filter is_wrapped qs))) k in omega arith),
      (λ k. let more = whole ∙ ap (λ b. length (cond b (p ∷ filter is_wrapped qs) (filter is_wrapped qs))) k in omega arith),
    )

-- a backslash takes the byte after it
pub two_more : (t : List ℕ) (at : ℕ) → at + 1 < length t → get_or t at 0 ≡ 92 → inside_len inside (drop at t) ≡ suc (suc (inside_len inside (drop (at + 2) t)))
two_more t at h e =
    ap (inside_len inside) (drop_more t at 0 (omega arith) ∙ ap₂ (λ c r. c ∷ r) e (drop_more t (at + 1) 0 h))
    ∙ ap (λ n. suc (suc (inside_len inside (drop n t)))) (let two : at + 1 + 1 ≡ at + 2 = omega arith in two)

-- at the end it takes none
pub one_more : (t : List ℕ) (at : ℕ) → at + 1 ≡ length t → get_or t at 0 ≡ 92 → inside_len inside (drop at t) ≡ 1
one_more t at h e = ap (inside_len inside) (drop_more t at 0 (omega arith) ∙ ap₂ (λ c r. c ∷ r) e (drop_all (at + 1) t (omega arith)))

-- a quote ends the string
pub no_more : (t : List ℕ) (at : ℕ) → at < length t → get_or t at 0 ≡ 34 → inside_len inside (drop at t) ≡ 0
no_more t at h e = ap (inside_len inside) (drop_more t at 0 h ∙ ap (λ c. c ∷ drop (at + 1) t) e)

-- other bytes are passed, each for one
passed_one : (q b : Bool) (x : ℕ) (xs : List ℕ) → (x == 34) ≡ q → (x == 92) ≡ b → (q || b) ≡ false → inside_len inside (x ∷ xs) ≡ suc (inside_len inside xs)
passed_one true b x xs e f h = absurd (true≢false h)
passed_one false true x xs e f h = absurd (true≢false h)
passed_one false false x xs e f h = ap₂ (λ q b. cond q 0 (suc (inside_len (cond q outside (cond b escaped inside)) xs))) e f

passed_all : (n : ℕ) (xs : List ℕ) → n ≤ length xs → ((k : ℕ) → k < n → is_byte2 34 92 (get_or xs k 0) ≡ false) → inside_len inside xs ≡ n + inside_len inside (drop n xs)
passed_all zero xs h none = omega arith
passed_all (suc n) [] h none = let never : ⊥ = omega arith in absurd never
passed_all (suc n) (x ∷ xs) h none =
    omega (arith, passed_one (x == 34) (x == 92) x xs refl refl (none 0 (omega arith)), passed_all n xs (omega arith) (λ k m. none (suc k) (omega arith)))

-- what a search for quotes and backslashes passes from a place on
pub passed_from : (t : List ℕ) (start n : ℕ) → start + n ≤ length t → ((k : ℕ) → 0 ≤ k → k < n → is_byte2 34 92 (get_or (take (length t - start) (drop start t)) k 0) ≡ true → ⊥)
    → start + inside_len inside (drop start t) ≡ (start + n) + inside_len inside (drop (start + n) t)
passed_from t start n h none =
    let rest = drop start t in
    let all = passed_all n rest (omega (arith, length-drop start t)) (λ k m. false_from_ne_true _ (λ e. none k (omega arith) m (ap (λ l. is_byte2 34 92 (get_or l k 0)) (take_rest t start) ∙ e))) in
    omega (arith, all ∙ ap (λ r. n + inside_len inside r) (drop-drop n start t))

-- what such a search found and is no backslash is a quote
pub a_quote : (x : ℕ) → is_byte2 34 92 x ≡ true → (x ≡ 92 → ⊥) → x ≡ 34
a_quote x found other = go (x == 34) (x == 92) refl refl found
  where
    go : (q b : Bool) → (x == 34) ≡ q → (x == 92) ≡ b → (q || b) ≡ true → x ≡ 34
    go true b e f h = eqb-true x 34 e
    go false true e f h = absurd (other (eqb-true x 92 f))
    go false false e f h = absurd (true≢false (sym h))
