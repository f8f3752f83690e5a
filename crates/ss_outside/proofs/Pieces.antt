-- What a read takes of bytes in pieces.
use Rattle.std.proofs.Common.{◌≡◌, ◌<◌, ◌≤◌, ◌+◌, ◌-◌, ℕ, min, List, [], ◌∷◌, ◌++◌, length, map, take, drop, get_or}
use Rattle.std.proofs.Common.{suc, Option, None, Some, refl, sym, ◌∙◌, ap, arith, append_assoc, length-drop, drop-cons}
use Rattle.std.specs.Global.{Vec}
use Rattle.std.proofs.lemmas.List.{take-append-le, drop-append-le, take-append-drop, drop-drop}
use Rattle.std.proofs.Math.Seq.{take-add}
use Rattle.ss_outside.specs.Memory.{Pieces, bytes_of_pieces, flat, filled_pieces, behind, read_size, source_tells}
use Rattle.ss_outside.specs.Plans.{Plan, fault_count}
use Rattle.ss_outside.specs.Told.{Meanings, HasRead}

-- empty pieces hold no byte
pub flat-filled : (pieces : List (List ℕ)) → flat (filled_pieces pieces) ≡ flat pieces
flat-filled [] = refl
flat-filled ([] ∷ pieces) = flat-filled pieces
flat-filled ((b ∷ piece) ∷ pieces) = ap (λ rest. (b ∷ piece) ++ rest) (flat-filled pieces)

flat-map : (pieces : List (Vec ℕ)) → flat (map (λ piece. piece.items) pieces) ≡ bytes_of_pieces pieces
flat-map [] = refl
flat-map (piece ∷ pieces) = ap (λ rest. piece.items ++ rest) (flat-map pieces)

filled-filled : (pieces : List (List ℕ)) → filled_pieces (filled_pieces pieces) ≡ filled_pieces pieces
filled-filled [] = refl
filled-filled ([] ∷ pieces) = filled-filled pieces
filled-filled ((b ∷ piece) ∷ pieces) = ap (λ rest. (b ∷ piece) ∷ rest) (filled-filled pieces)

filled-cons : (piece : List ℕ) (pieces : List (List ℕ)) → 0 < length piece → filled_pieces (piece ∷ pieces) ≡ piece ∷ filled_pieces pieces
filled-cons [] pieces some = absurd (omega arith)
filled-cons (b ∷ piece) pieces some = refl

filled-again : (piece : List ℕ) (pieces : List (List ℕ)) → filled_pieces (piece ∷ filled_pieces pieces) ≡ filled_pieces (piece ∷ pieces)
filled-again [] pieces = filled-filled pieces
filled-again (b ∷ piece) pieces = ap (λ rest. (b ∷ piece) ∷ rest) (filled-filled pieces)

-- what a source of these pieces tells before the first read
pub told_fresh :
    (taken : List ℕ) (left : List (List ℕ)) (pieces : List (Vec ℕ)) (plan : Option Plan)
    → taken ≡ [] → left ≡ filled_pieces (map (λ piece. piece.items) pieces) → fault_count plan ≡ 0
    → source_tells (record { taken = taken; pieces = left; plan = plan })
    ≡ record { taken = Some []; left = Some (bytes_of_pieces pieces); read_faults = 0; written = None; write_faults = 0 }
told_fresh taken left pieces plan first is none =
    let tells : List ℕ → List ℕ → ℕ → Meanings = λ taken left faults. record { taken = Some taken; left = Some left; read_faults = faults; written = None; write_faults = 0 } in
    ap (λ t. tells t (flat left) (fault_count plan)) first
    ∙ ap (λ l. tells [] l (fault_count plan)) (ap flat is ∙ flat-filled (map (λ piece. piece.items) pieces) ∙ flat-map pieces)
    ∙ ap (tells [] (bytes_of_pieces pieces)) none

-- the present piece stands first, without what was taken of it
parted :
    (pieces : List (Vec ℕ)) (k at : ℕ) (piece : Vec ℕ)
    → k < length pieces → piece ≡ get_or pieces k piece
    → behind at (map (λ piece. piece.items) (drop k pieces)) ≡ drop at piece.items ∷ map (λ piece. piece.items) (drop (suc k) pieces)
parted pieces k at piece inside is =
    ap (λ rest. behind at (map (λ piece. piece.items) rest)) (drop-cons pieces k piece inside)
    ∙ ap (λ p. drop at p.items ∷ map (λ piece. piece.items) (drop (suc k) pieces)) (sym is)

-- a read takes at most the rest of the present piece, and leaves what is behind that
pub pieces_after :
    (old : List (List ℕ)) (pieces : List (Vec ℕ)) (k at n room : ℕ) (piece : Vec ℕ)
    → k < length pieces → piece ≡ get_or pieces k piece → at < length piece.items → n ≡ min room (length piece.items - at)
    → old ≡ filled_pieces (behind at (map (λ piece. piece.items) (drop k pieces)))
    → (n ≡ read_size room old) × (filled_pieces (behind (at + n) (map (λ piece. piece.items) (drop k pieces))) ≡ filled_pieces (behind (read_size room old) old))
pieces_after old pieces k at n room piece inside is within size was =
    let more = map (λ (p : Vec ℕ). p.items) (drop (suc k) pieces) in
    let rest = drop at piece.items in
    let some : 0 < length rest = omega (arith, length-drop at piece.items) in
    let now : old ≡ rest ∷ filled_pieces more = was ∙ ap filled_pieces (parted pieces k at piece inside is) ∙ filled-cons rest more some in
    let count : n ≡ read_size room old = size ∙ ap (min room) (sym (length-drop at piece.items)) ∙ sym (ap (read_size room) now) in (
      count,
      ap filled_pieces (parted pieces k (at + n) piece inside is)
          ∙ ap (λ bytes. filled_pieces (bytes ∷ more)) (sym (drop-drop n at piece.items))
          ∙ sym (filled-again (drop n rest) more)
          ∙ sym (ap (λ left. filled_pieces (behind n left)) now)
          ∙ ap (λ k. filled_pieces (behind k old)) count,
    )

-- a read takes bytes from the front of what is left
pub HasRead-piece :
    (old : Pieces) (pieces : List (Vec ℕ)) (k at n : ℕ) (piece : Vec ℕ) (got : List ℕ) (plan : Option Plan)
    → k < length pieces → piece ≡ get_or pieces k piece → at + n ≤ length piece.items
    → old.taken ≡ bytes_of_pieces (take k pieces) ++ take at (bytes_of_pieces (drop k pieces))
    → old.pieces ≡ filled_pieces (behind at (map (λ piece. piece.items) (drop k pieces)))
    → got ≡ take n (drop at piece.items)
    → HasRead got (source_tells old)
    (source_tells (record { taken = bytes_of_pieces (take k pieces) ++ take (at + n) (bytes_of_pieces (drop k pieces)); pieces = filled_pieces (behind (at + n) (map (λ piece. piece.items) (drop k pieces))); plan = plan }))
HasRead-piece old pieces k at n piece got plan inside is fits taken left took =
    let all = bytes_of_pieces (drop k pieces) in
    let rest = bytes_of_pieces (drop (suc k) pieces) in
    let more = map (λ (p : Vec ℕ). p.items) (drop (suc k) pieces) in
    let before = bytes_of_pieces (take k pieces) in
    let whole : all ≡ piece.items ++ rest = ap bytes_of_pieces (drop-cons pieces k piece inside) ∙ ap (λ p. p.items ++ rest) (sym is) in
    let early : at ≤ length piece.items = omega arith in
    let bound : n ≤ length (drop at piece.items) = omega (arith, length-drop at piece.items) in
    let first : take n (drop at all) ≡ got =
    ap (λ bytes. take n (drop at bytes)) whole ∙ ap (take n) (drop-append-le at piece.items rest early) ∙ take-append-le n (drop at piece.items) rest bound ∙ sym took in
    let split : drop at piece.items ≡ got ++ drop (at + n) piece.items =
    sym (take-append-drop n (drop at piece.items)) ∙ ap (λ bytes. bytes ++ drop n (drop at piece.items)) (sym took) ∙ ap (λ bytes. got ++ bytes) (drop-drop n at piece.items) in
    let laid : (m : ℕ) → flat (filled_pieces (behind m (map (λ piece. piece.items) (drop k pieces)))) ≡ drop m piece.items ++ flat more =
    λ m. flat-filled (behind m (map (λ piece. piece.items) (drop k pieces))) ∙ ap flat (parted pieces k m piece inside is) in
    record {
      taken = ap Some (ap (λ t. before ++ t) (take-add at n all ∙ ap (λ t. take at all ++ t) first) ∙ sym (append_assoc before (take at all) got) ∙ ap (λ t. t ++ got) (sym taken));
      left = ap Some (ap flat left ∙ laid at ∙ ap (λ t. t ++ flat more) split ∙ append_assoc got (drop (at + n) piece.items) (flat more) ∙ ap (λ t. got ++ t) (sym (laid (at + n))));
      written = refl;
      write_faults = refl;
    }
