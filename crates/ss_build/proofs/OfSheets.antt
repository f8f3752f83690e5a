-- The laws over sheets.
use Rattle.std.proofs.Common.{◌≡◌, List, [], ◌∷◌, inl, inr, map, refl, sym, ap, subst}
use Rattle.ss_record.specs.Ids.{Apart}
use Rattle.ss_record.specs.declared.readings.Sheet.{Sheet}
use Rattle.ss_tree.specs.Trees.{IsValidTree, PlacedItem}
use Rattle.ss_build.specs.Built.{built}
use Rattle.ss_build.specs.Rows.{row_of, rows_of}
use Rattle.ss_build.specs.Stand.{IsSameUntimed, StandFor}
use Rattle.ss_build.proofs.Items.{In}
use Rattle.ss_record.proofs.OfId.{IsRead, reading_is_read}
use Rattle.ss_build.proofs.OfRows.{AreRows, built_valid}
use Rattle.ss_build.proofs.Stand.{stand_built}

In-map : {X Y : Type 0} (f : X → Y) (xs : List X) (y : Y) → In y (map f xs) → (x : X) × (y ≡ f x)
unfolding In
In-map f [] y i = absurd i
In-map f (x ∷ xs) y (inl q) = (x, q)
In-map f (x ∷ xs) y (inr i) = In-map f xs y i

row_read : (s : Sheet) → IsRead (row_of s).id (row_of s).reading
unfolding row_of
row_read s = reading_is_read s.id s.payload

pub row_ids : (sheets : List Sheet) → map (λ r. r.id) (map row_of sheets) ≡ map (λ s. s.id) sheets
unfolding row_of
row_ids [] = refl
row_ids (s ∷ ss) = ap (λ xs. s.id ∷ xs) (row_ids ss)

pub sheets_are_rows : (sheets : List Sheet) → Apart (map (λ s. s.id) sheets) → AreRows (rows_of sheets)
sheets_are_rows sheets a = record {
  apart = subst Apart (sym (row_ids sheets)) a;
  reads = λ r i. let s = In-map row_of sheets r i in subst (λ w. IsRead w.id w.reading) (sym s.1) (row_read s.0);
}

pub sheets_built_valid : (sheets : List Sheet) → Apart (map (λ s. s.id) sheets) → IsValidTree (built (rows_of sheets))
sheets_built_valid sheets a = built_valid (rows_of sheets) (sheets_are_rows sheets a)

pub sheets_built_back : (t : List PlacedItem) (sheets : List Sheet) → IsValidTree t → Apart (map (λ s. s.id) sheets) → StandFor t (rows_of sheets) → IsSameUntimed (built (rows_of sheets)) t
sheets_built_back t sheets v a h = stand_built t (rows_of sheets) v (sheets_are_rows sheets a) h
