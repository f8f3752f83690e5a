-- What was marked and is unmarked is the text, and each is UTF-8 where the text is.
use Rattle.std.proofs.Common.{◌≡◌, ℕ, zero, suc, ◌+◌, ◌<◌, List, [], ◌∷◌, ◌++◌, length, take, drop, get_or, Bool, true}
use Rattle.std.proofs.Common.{false, cond, ◌&&◌, ◌==◌, bytes_eq, refl, sym, ap, ap₂, ◌∙◌, subst, arith, lit<}
use Rattle.std.proofs.Common.{append_assoc, append-nil, length-append}
use Rattle.std.proofs.lemmas.Bool.{true≢false, and_parts, eqb-true}
use Rattle.std.specs.List.{flat_map, list_all}
use Rattle.std.specs.Str.{IsUtf8}
use Rattle.std.proofs.lemmas.Str.{IsUtf8-append, IsUtf8-take, IsUtf8-drop, IsUtf8-from_ascii}
use Rattle.std.proofs.lemmas.Str.{IsCharBoundary-before_ascii, IsCharBoundary-after_ascii}
use Rattle.std.proofs.lemmas.List.{get_or_at, take_at, drop_at, drop-drop, take-append-drop}
use Rattle.ss_text.specs.Decimals.{is_number_byte, outside, Piece, run, text, unended, byte, pieces, bytes_of_piece}
use Rattle.ss_text.specs.Decimals.{is_decimal, escape_mark, begins_marked, marked_piece, unmarked_piece, changed_piece}
use Rattle.ss_text.specs.Decimals.{changed_text, wrapped_text, marked_text, unmarked_text}
use Rattle.ss_text.specs.declared.decimals.Change.{Change}
use Rattle.ss_text.specs.declared.decimals.Change.TheVariants.{Wrap, Mark, Unmark}
use Rattle.ss_text.proofs.Pieces.{small_byte, begins_run, raw_run, Cut, cut_pieces, pieces_text, recut}
use Rattle.ss_text.proofs.Basics.{same_text}

-- ---- a changed text is cut into the changed pieces

number_is_no_mark : (x : ℕ) → is_number_byte x ≡ true → (x == 92) ≡ false
number_is_no_mark x e = apart (x == 92) refl
  where
    apart : (b : Bool) → (x == 92) ≡ b → (x == 92) ≡ false
    apart true q = absurd (true≢false (sym e ∙ ap is_number_byte (eqb-true x 92 q)))
    apart false q = q

-- a run doesn't begin with the mark
pub run_unmarked : (r : List ℕ) → list_all is_number_byte r ≡ true → begins_marked r ≡ false
run_unmarked [] h = refl
run_unmarked (x ∷ r) h = ap (λ b. b && bytes_eq (take 5 r) (117 ∷ 48 ∷ 48 ∷ 48 ∷ 49 ∷ [])) (number_is_no_mark x (and_parts (is_number_byte x) (list_all is_number_byte r) h).0)

marked_no_run : (ps : List Piece) → begins_run ps ≡ false → begins_run (flat_map (changed_piece Mark) ps) ≡ false
marked_no_run [] h = refl
marked_no_run (run r ∷ ps) h = absurd (true≢false h)
marked_no_run (text s ∷ ps) h = go (begins_marked s)
  where
    go : (b : Bool) → begins_run (cond b (text (escape_mark ++ s)) (text s) ∷ flat_map (changed_piece Mark) ps) ≡ false
    go true = refl
    go false = refl
marked_no_run (unended s ∷ ps) h = refl
marked_no_run (byte b ∷ ps) h = refl

pub mark_cut : (ps : List Piece) → Cut ps → Cut (flat_map (changed_piece Mark) ps)
mark_cut [] h = tt
mark_cut (run r ∷ ps) h = go (is_decimal r) (mark_cut ps h.3)
  where
    go : (b : Bool) → Cut (flat_map (changed_piece Mark) ps) → Cut (cond b (text (escape_mark ++ r)) (run r) ∷ flat_map (changed_piece Mark) ps)
    go true ih = (raw_run r h.0, ih)
    go false ih = (h.0, h.1, marked_no_run ps h.2, ih)
mark_cut (text s ∷ ps) h = go (begins_marked s) (mark_cut ps h.1)
  where
    go : (b : Bool) → Cut (flat_map (changed_piece Mark) ps) → Cut (cond b (text (escape_mark ++ s)) (text s) ∷ flat_map (changed_piece Mark) ps)
    go true ih = (h.0, ih)
    go false ih = (h.0, ih)
mark_cut (unended s ∷ []) h = (h.0, tt)
mark_cut (unended s ∷ p ∷ ps) h = absurd h.1
mark_cut (byte b ∷ ps) h = (h.0, h.1, mark_cut ps h.2)

pub wrap_cut : (ps : List Piece) → Cut ps → Cut (flat_map (changed_piece Wrap) ps)
wrap_cut [] h = tt
wrap_cut (run r ∷ ps) h = go (is_decimal r) (wrap_cut ps h.3)
  where
    no_run : (qs : List Piece) → begins_run qs ≡ false → begins_run (flat_map (changed_piece Wrap) qs) ≡ false
    no_run [] k = refl
    no_run (run q ∷ qs) k = absurd (true≢false k)
    no_run (text s ∷ qs) k = refl
    no_run (unended s ∷ qs) k = refl
    no_run (byte b ∷ qs) k = refl

    go : (b : Bool) → Cut (flat_map (changed_piece Wrap) ps) → Cut (cond b (byte 91 ∷ text r ∷ byte 93 ∷ []) (run r ∷ []) ++ flat_map (changed_piece Wrap) ps)
    go true ih = (refl, refl, (raw_run r h.0, (refl, refl, ih)))
    go false ih = (h.0, h.1, no_run ps h.2, ih)
wrap_cut (text s ∷ ps) h = (h.0, wrap_cut ps h.1)
wrap_cut (unended s ∷ []) h = (h.0, tt)
wrap_cut (unended s ∷ p ∷ ps) h = absurd h.1
wrap_cut (byte b ∷ ps) h = (h.0, h.1, wrap_cut ps h.2)

pub marked_pieces : (t : List ℕ) → pieces outside (marked_text t) ≡ flat_map (changed_piece Mark) (pieces outside t)
marked_pieces t = recut (flat_map (changed_piece Mark) (pieces outside t)) (mark_cut (pieces outside t) (cut_pieces t outside))

pub wrapped_pieces_are : (t : List ℕ) → pieces outside (wrapped_text t) ≡ flat_map (changed_piece Wrap) (pieces outside t)
wrapped_pieces_are t = recut (flat_map (changed_piece Wrap) (pieces outside t)) (wrap_cut (pieces outside t) (cut_pieces t outside))

-- ---- marked and unmarked

piece_back : (p : Piece) (ps : List Piece) → Cut (p ∷ ps) → unmarked_piece (marked_piece p) ≡ p
piece_back (run r) ps h = go (is_decimal r)
  where
    go : (b : Bool) → unmarked_piece (cond b (text (escape_mark ++ r)) (run r)) ≡ run r
    go true = ap (λ b. cond b (text r) (run r)) (run_unmarked r h.0)
    go false = refl
piece_back (text s) ps h = go (begins_marked s) refl
  where
    go : (b : Bool) → begins_marked s ≡ b → unmarked_piece (cond b (text (escape_mark ++ s)) (text s)) ≡ text s
    go true e = ap (λ b. cond b (text s) (run s)) e
    go false e = ap (λ b. cond b (cond (begins_marked (drop 6 s)) (text (drop 6 s)) (run (drop 6 s))) (text s)) e
piece_back (unended s) ps h = refl
piece_back (byte b) ps h = refl

cut_rest : (p : Piece) (ps : List Piece) → Cut (p ∷ ps) → Cut ps
cut_rest (run r) ps h = h.3
cut_rest (text s) ps h = h.1
cut_rest (unended s) [] h = tt
cut_rest (unended s) (p ∷ ps) h = absurd h.1
cut_rest (byte b) ps h = h.2

pieces_back : (ps : List Piece) → Cut ps → flat_map (changed_piece Unmark) (flat_map (changed_piece Mark) ps) ≡ ps
pieces_back [] h = refl
pieces_back (p ∷ ps) h = ap₂ (λ q qs. q ∷ qs) (piece_back p ps h) (pieces_back ps (cut_rest p ps h))

pub unmarked-marked : (t : List ℕ) → unmarked_text (marked_text t) ≡ t
unmarked-marked t =
    ap (λ ps. flat_map bytes_of_piece (flat_map (changed_piece Unmark) ps)) (marked_pieces t)
    ∙ ap (flat_map bytes_of_piece) (pieces_back (pieces outside t) (cut_pieces t outside)) ∙ pieces_text t

-- each piece marked, and each unmarked
abbrev pub all_marked : List Piece → List Piece
all_marked ps = flat_map (changed_piece Mark) ps

abbrev pub all_unmarked : List Piece → List Piece
all_unmarked ps = flat_map (changed_piece Unmark) ps

-- a text whose pieces are marked again into what they were
pub marked-unmarked : (ps : List Piece) → Cut (flat_map (changed_piece Unmark) ps) → flat_map (changed_piece Mark) (flat_map (changed_piece Unmark) ps) ≡ ps → marked_text (flat_map bytes_of_piece (flat_map (changed_piece Unmark) ps)) ≡ flat_map bytes_of_piece ps
marked-unmarked ps h e =
    ap (λ qs. flat_map bytes_of_piece (flat_map (changed_piece Mark) qs)) (recut (flat_map (changed_piece Unmark) ps) h) ∙ ap (flat_map bytes_of_piece) e

-- ---- what is changed is UTF-8

pub cut_at_byte : (a b : List ℕ) (x : ℕ) → x < 128 → IsUtf8 (a ++ x ∷ b) → IsUtf8 a × IsUtf8 b
cut_at_byte a b x small u =
    let t = a ++ x ∷ b in
    let long : length t ≡ length a + suc (length b) = length-append a (x ∷ b) in
    let here : get_or t (length a) 0 ≡ x = get_or_at a x b 0 (length a) refl in
    let front = IsUtf8-take t (length a) u (IsCharBoundary-before_ascii t (length a) (omega arith) (omega arith)) in
    let rest = IsUtf8-drop t (length a + 1) u (IsCharBoundary-after_ascii t (length a) u (omega arith) (omega arith)) in
    let gone : drop (length a + 1) t ≡ b = sym (drop-drop 1 (length a) t) ∙ ap (drop 1) (drop_at a (x ∷ b) (length a) refl) in
    (subst IsUtf8 (take_at a (x ∷ b) (length a) refl) front, subst IsUtf8 gone rest)

one_ascii : (x : ℕ) → x < 128 → IsUtf8 (x ∷ [])
one_ascii x h = IsUtf8-from_ascii (x ∷ []) at
  where
    at : (i : ℕ) → get_or (x ∷ []) i 0 < 128
    at zero = h
    at (suc i) = lit< tt

cut_at_run : (a r b : List ℕ) → list_all is_number_byte r ≡ true → 0 < length r → IsUtf8 (a ++ (r ++ b)) → IsUtf8 a × IsUtf8 r × IsUtf8 b
cut_at_run a [] b h some u = let never : ⊥ = omega arith in absurd never
cut_at_run a (x ∷ []) b h some u =
    let small = small_byte x (and_parts (is_number_byte x) true h).0 in
    let c = cut_at_byte a b x small u in
    (c.0, one_ascii x small, c.1)
cut_at_run a (x ∷ y ∷ r) b h some u =
    let parts = and_parts (is_number_byte x) (list_all is_number_byte (y ∷ r)) h in
    let small = small_byte x parts.0 in
    let c = cut_at_byte a ((y ∷ r) ++ b) x small u in
    let d = cut_at_run [] (y ∷ r) b parts.1 (omega arith) c.1 in
    (c.0, IsUtf8-append (x ∷ []) (y ∷ r) (one_ascii x small) d.1, d.2)

quoted_utf8 : (s : List ℕ) → IsUtf8 s → IsUtf8 (34 ∷ (s ++ 34 ∷ []))
quoted_utf8 s u = IsUtf8-append (34 ∷ []) (s ++ 34 ∷ []) (one_ascii 34 (lit< tt)) (IsUtf8-append s (34 ∷ []) u (one_ascii 34 (lit< tt)))

mark_utf8 : IsUtf8 escape_mark
mark_utf8 = first 92 (lit< tt) _ (first 117 (lit< tt) _ (first 48 (lit< tt) _ (first 48 (lit< tt) _ (first 48 (lit< tt) _ (one_ascii 49 (lit< tt))))))
  where
    first : (x : ℕ) → x < 128 → (xs : List ℕ) → IsUtf8 xs → IsUtf8 (x ∷ xs)
    first x h xs u = IsUtf8-append (x ∷ []) xs (one_ascii x h) u

pub begins_split : (s : List ℕ) → begins_marked s ≡ true → s ≡ escape_mark ++ drop 6 s
begins_split s e = sym (take-append-drop 6 s) ∙ ap (λ m. m ++ drop 6 s) (same_text (take 6 s) escape_mark e)

rest_utf8 : (s : List ℕ) → begins_marked s ≡ true → IsUtf8 s → IsUtf8 (drop 6 s)
rest_utf8 s e u = (cut_at_byte (92 ∷ 117 ∷ 48 ∷ 48 ∷ 48 ∷ []) (drop 6 s) 49 (lit< tt) (subst IsUtf8 (begins_split s e) u)).1

text_utf8 : (change : Change) (s : List ℕ) → IsUtf8 s → IsUtf8 (flat_map bytes_of_piece (changed_piece change (text s)))
text_utf8 Wrap s u = subst IsUtf8 (sym (append-nil (34 ∷ (s ++ 34 ∷ [])))) (quoted_utf8 s u)
text_utf8 Mark s u = go (begins_marked s)
  where
    go : (b : Bool) → IsUtf8 (flat_map bytes_of_piece (cond b (text (escape_mark ++ s)) (text s) ∷ []))
    go true = subst IsUtf8 (sym (append-nil (34 ∷ ((escape_mark ++ s) ++ 34 ∷ [])))) (quoted_utf8 (escape_mark ++ s) (IsUtf8-append escape_mark s mark_utf8 u))
    go false = subst IsUtf8 (sym (append-nil (34 ∷ (s ++ 34 ∷ [])))) (quoted_utf8 s u)
text_utf8 Unmark s u = go (begins_marked s) (begins_marked (drop 6 s)) refl
  where
    go : (b c : Bool) → begins_marked s ≡ b → IsUtf8 (flat_map bytes_of_piece (cond b (cond c (text (drop 6 s)) (run (drop 6 s))) (text s) ∷ []))
    go true true e = subst IsUtf8 (sym (append-nil (34 ∷ (drop 6 s ++ 34 ∷ [])))) (quoted_utf8 (drop 6 s) (rest_utf8 s e u))
    go true false e = subst IsUtf8 (sym (append-nil (drop 6 s))) (rest_utf8 s e u)
    go false c e = subst IsUtf8 (sym (append-nil (34 ∷ (s ++ 34 ∷ [])))) (quoted_utf8 s u)

run_utf8 : (change : Change) (r : List ℕ) → IsUtf8 r → IsUtf8 (flat_map bytes_of_piece (changed_piece change (run r)))
run_utf8 Wrap r u = go (is_decimal r)
  where
    go : (b : Bool) → IsUtf8 (flat_map bytes_of_piece (cond b (byte 91 ∷ text r ∷ byte 93 ∷ []) (run r ∷ [])))
    go true = IsUtf8-append (91 ∷ []) (34 ∷ (r ++ 34 ∷ []) ++ 93 ∷ []) (one_ascii 91 (lit< tt)) (IsUtf8-append (34 ∷ (r ++ 34 ∷ [])) (93 ∷ []) (quoted_utf8 r u) (one_ascii 93 (lit< tt)))
    go false = subst IsUtf8 (sym (append-nil r)) u
run_utf8 Mark r u = go (is_decimal r)
  where
    go : (b : Bool) → IsUtf8 (flat_map bytes_of_piece (cond b (text (escape_mark ++ r)) (run r) ∷ []))
    go true = subst IsUtf8 (sym (append-nil (34 ∷ ((escape_mark ++ r) ++ 34 ∷ [])))) (quoted_utf8 (escape_mark ++ r) (IsUtf8-append escape_mark r mark_utf8 u))
    go false = subst IsUtf8 (sym (append-nil r)) u
run_utf8 Unmark r u = subst IsUtf8 (sym (append-nil r)) u

pub flat-append : (ps qs : List Piece) → flat_map bytes_of_piece (ps ++ qs) ≡ flat_map bytes_of_piece ps ++ flat_map bytes_of_piece qs
flat-append [] qs = refl
flat-append (p ∷ ps) qs = ap (λ t. bytes_of_piece p ++ t) (flat-append ps qs) ∙ sym (append_assoc (bytes_of_piece p) (flat_map bytes_of_piece ps) (flat_map bytes_of_piece qs))

-- the front a stands before the piece already; what comes after is changed
utf8_joined : (change : Change) (a : List ℕ) (p : Piece) (ps : List Piece) → IsUtf8 a → IsUtf8 (flat_map bytes_of_piece (changed_piece change p)) → IsUtf8 (flat_map bytes_of_piece (flat_map (changed_piece change) ps))
    → IsUtf8 (a ++ flat_map bytes_of_piece (changed_piece change p ++ flat_map (changed_piece change) ps))
utf8_joined change a p ps u v w =
    subst (λ t. IsUtf8 (a ++ t)) (sym (flat-append (changed_piece change p) (flat_map (changed_piece change) ps)))
    (IsUtf8-append a _ u (IsUtf8-append (flat_map bytes_of_piece (changed_piece change p)) _ v w))

changed_utf8 : (change : Change) (a : List ℕ) (ps : List Piece) → Cut ps → IsUtf8 (a ++ flat_map bytes_of_piece ps) → IsUtf8 (a ++ flat_map bytes_of_piece (flat_map (changed_piece change) ps))
changed_utf8 change a [] h u = u
changed_utf8 change a (run r ∷ ps) h u =
    let c = cut_at_run a r (flat_map bytes_of_piece ps) h.0 h.1 u in
    utf8_joined change a (run r) ps c.0 (run_utf8 change r c.1) (changed_utf8 change [] ps h.3 c.2)
changed_utf8 change a (text s ∷ ps) h u =
    let first = cut_at_byte a ((s ++ 34 ∷ []) ++ flat_map bytes_of_piece ps) 34 (lit< tt) u in
    let second = cut_at_byte s (flat_map bytes_of_piece ps) 34 (lit< tt) (subst IsUtf8 (append_assoc s (34 ∷ []) (flat_map bytes_of_piece ps)) first.1) in
    utf8_joined change a (text s) ps first.0 (text_utf8 change s second.0) (changed_utf8 change [] ps h.1 second.1)
changed_utf8 Wrap a (unended s ∷ []) h u = u
changed_utf8 Mark a (unended s ∷ []) h u = u
changed_utf8 Unmark a (unended s ∷ []) h u = u
changed_utf8 change a (unended s ∷ p ∷ ps) h u = absurd h.1
changed_utf8 Wrap a (byte b ∷ ps) h u = subst IsUtf8 (append_assoc a (b ∷ []) _) (changed_utf8 Wrap (a ++ b ∷ []) ps h.2 (subst IsUtf8 (sym (append_assoc a (b ∷ []) (flat_map bytes_of_piece ps))) u))
changed_utf8 Mark a (byte b ∷ ps) h u = subst IsUtf8 (append_assoc a (b ∷ []) _) (changed_utf8 Mark (a ++ b ∷ []) ps h.2 (subst IsUtf8 (sym (append_assoc a (b ∷ []) (flat_map bytes_of_piece ps))) u))
changed_utf8 Unmark a (byte b ∷ ps) h u = subst IsUtf8 (append_assoc a (b ∷ []) _) (changed_utf8 Unmark (a ++ b ∷ []) ps h.2 (subst IsUtf8 (sym (append_assoc a (b ∷ []) (flat_map bytes_of_piece ps))) u))

pub written_utf8 : (change : Change) (t : List ℕ) → IsUtf8 t → IsUtf8 (changed_text change t)
written_utf8 change t u = changed_utf8 change [] (pieces outside t) (cut_pieces t outside) (subst IsUtf8 (sym (pieces_text t)) u)
