-- No line break stands inside a line.
use Rattle.std.proofs.Common.{◌≡◌, ◌≢◌, ℕ, zero, suc, ◌+◌, ◌==◌, Bool, true, false, cond, List, [], ◌∷◌, ◌++◌, drop}
use Rattle.std.proofs.Common.{refl, sym, subst, arith}
use Rattle.std.specs.Bool.{⊤}
use Rattle.std.specs.List.{flat_map}
use Rattle.ss_text.specs.Decimals.{Place, outside, inside, escaped, Piece, run, text, unended, byte, pieces, next_place}
use Rattle.ss_text.specs.Decimals.{with_byte, with_front, with_character, at_end, is_number_byte, bytes_of_piece}
use Rattle.ss_text.specs.Decimals.{unmarked_piece, begins_marked, unmarked_text}
use Rattle.ss_record.proofs.OneLine.{NoLine, noline_append}

-- ---- unmarking makes no line break

-- of each piece's text
abbrev EachNoLine : List Piece → Type 0
EachNoLine [] = ⊤
EachNoLine (p ∷ ps) = NoLine (bytes_of_piece p) × EachNoLine ps

noline_tail : (xs ys : List ℕ) → NoLine (xs ++ ys) → NoLine xs
noline_tail [] ys h = tt
noline_tail (x ∷ xs) ys h = (h.0, noline_tail xs ys h.1)

noline_back : (xs ys : List ℕ) → NoLine (xs ++ ys) → NoLine ys
noline_back [] ys h = h
noline_back (x ∷ xs) ys h = noline_back xs ys h.1

noline_drop : (n : ℕ) (xs : List ℕ) → NoLine xs → NoLine (drop n xs)
noline_drop zero xs h = h
noline_drop (suc n) [] h = tt
noline_drop (suc n) (x ∷ xs) h = noline_drop n xs h.1

front_noline : (x : ℕ) (ps : List Piece) → x ≢ 10 → EachNoLine ps → EachNoLine (with_front x ps)
front_noline x [] n h = ((n, tt), tt)
front_noline x (run r ∷ ps) n h = ((n, h.0), h.1)
front_noline x (text s ∷ ps) n h = ((n, tt), h)
front_noline x (unended s ∷ ps) n h = ((n, tt), h)
front_noline x (byte b ∷ ps) n h = ((n, tt), h)

character_noline : (x : ℕ) (ps : List Piece) → x ≢ 10 → EachNoLine ps → EachNoLine (with_character x ps)
character_noline x [] n h = tt
character_noline x (run r ∷ ps) n h = h
character_noline x (text s ∷ ps) n h = ((h.0.0, (n, h.0.1)), h.1)
character_noline x (unended s ∷ ps) n h = ((h.0.0, (n, h.0.1)), h.1)
character_noline x (byte b ∷ ps) n h = h

quote_other : ◌≢◌ {A = ℕ} 34 10
quote_other e = omega arith

byte_kept : (place : Place) (x : ℕ) (ps : List Piece) → x ≢ 10 → EachNoLine ps → EachNoLine (with_byte place x ps)
byte_kept outside x ps n h = go (x == 34) (is_number_byte x)
  where
    go : (a b : Bool) → EachNoLine (cond a ps (cond b (with_front x ps) (byte x ∷ ps)))
    go true b = h
    go false true = front_noline x ps n h
    go false false = ((n, tt), h)
byte_kept inside x ps n h = go (x == 34)
  where
    go : (a : Bool) → EachNoLine (cond a (text [] ∷ ps) (with_character x ps))
    go true = ((quote_other, (quote_other, tt)), h)
    go false = character_noline x ps n h
byte_kept escaped x ps n h = character_noline x ps n h

end_noline : (place : Place) → EachNoLine (at_end place)
end_noline outside = tt
end_noline inside = ((quote_other, tt), tt)
end_noline escaped = ((quote_other, tt), tt)

pieces_noline : (place : Place) (t : List ℕ) → NoLine t → EachNoLine (pieces place t)
unfolding pieces
pieces_noline place [] h = end_noline place
pieces_noline place (x ∷ xs) h = byte_kept place x (pieces (next_place place x) xs) h.0 (pieces_noline (next_place place x) xs h.1)

unquoted_noline : (s : List ℕ) → NoLine (34 ∷ (s ++ 34 ∷ [])) → NoLine s
unquoted_noline s h = noline_tail s (34 ∷ []) h.1

quote_noline : (s : List ℕ) → NoLine s → NoLine (34 ∷ (s ++ 34 ∷ []))
quote_noline s h = (quote_other, noline_append s (34 ∷ []) h (quote_other, tt))

piece_unmarked : (p : Piece) → NoLine (bytes_of_piece p) → NoLine (bytes_of_piece (unmarked_piece p))
piece_unmarked (run r) h = h
piece_unmarked (text s) h = go (begins_marked s) (begins_marked (drop 6 s))
  where
    rest : NoLine (drop 6 s)
    rest = noline_drop 6 s (unquoted_noline s h)

    go : (a b : Bool) → NoLine (bytes_of_piece (cond a (cond b (text (drop 6 s)) (run (drop 6 s))) (text s)))
    go true true = quote_noline (drop 6 s) rest
    go true false = rest
    go false b = h
piece_unmarked (unended s) h = h
piece_unmarked (byte b) h = h

all_unmarked : (change : Piece → List Piece) → ((p : Piece) → change p ≡ unmarked_piece p ∷ []) → (ps : List Piece) → EachNoLine ps → NoLine (flat_map bytes_of_piece (flat_map change ps))
all_unmarked change is [] h = tt
all_unmarked change is (p ∷ ps) h =
    subst (λ (qs : List Piece). NoLine (flat_map bytes_of_piece (qs ++ flat_map change ps))) (sym (is p))
    (noline_append (bytes_of_piece (unmarked_piece p)) (flat_map bytes_of_piece (flat_map change ps)) (piece_unmarked p h.0) (all_unmarked change is ps h.1))

pub unmarked_noline : (t : List ℕ) → NoLine t → NoLine (unmarked_text t)
unmarked_noline t h = all_unmarked _ (λ p. refl) (pieces outside t) (pieces_noline outside t h)
