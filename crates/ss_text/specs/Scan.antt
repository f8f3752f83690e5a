-- What the scan of a text says, for private clauses.
use Rattle.std.specs.Prelude.{ℕ, suc, Bool, not, ◌&&◌, ◌||◌, nat_le, nat_lt, List, [], ◌∷◌, ◌==◌, ⊤, if◌then◌else◌}
use Rattle.std.specs.List.{AllPass}
use Rattle.ss_text.specs.Decimals as piece
use Rattle.ss_text.specs.Decimals.{Place, outside, inside, escaped, next_place, is_number_byte}
use Rattle.ss_text.specs.declared.decimals.Piece.{Piece}
use Rattle.ss_text.specs.declared.decimals.Piece.TheVariants.{Run, Text, Unended, Byte}

-- how many bytes stand before the quote that ends a string
abbrev pub inside_len : Place → List ℕ → ℕ
inside_len place [] = 0
inside_len outside (x ∷ xs) = 0
inside_len inside (x ∷ xs) = if x == 34 then 0 else suc (inside_len (next_place inside x) xs)
inside_len escaped (x ∷ xs) = suc (inside_len inside xs)

-- the piece that the scan found
abbrev pub scanned_piece : Piece → piece.Piece
scanned_piece (Run r) = piece.run r.now
scanned_piece (Text s) = piece.text s.now
scanned_piece (Unended s) = piece.unended s.now
scanned_piece (Byte b) = piece.byte b

-- a run has bytes of numbers alone
abbrev pub HasRun : Piece → Type 0
HasRun (Run r) = AllPass is_number_byte r.now
HasRun (Text s) = ⊤
HasRun (Unended s) = ⊤
HasRun (Byte b) = ⊤

-- a byte that stands in a string as it is
abbrev pub is_unescaped : ℕ → Bool
is_unescaped x = nat_le 32 x && not (x == 34) && not (x == 92)

-- a byte that has an escape there
abbrev pub is_escaped : ℕ → Bool
is_escaped x = (x == 34) || (x == 92) || nat_lt x 32
