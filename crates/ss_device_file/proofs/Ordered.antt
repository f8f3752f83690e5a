-- The rows and the deleted ids of lines that come one behind the other stand by id.
use Rattle.std.proofs.Common.{◌≡◌, ℕ, ◌+◌, ◌-◌, true, List, [], ◌∷◌, ◌++◌, length, map, filter_map, Option, Some, None}
use Rattle.std.proofs.Common.{refl, sym, ap, subst, ◌∙◌, arith, Ordering, Less, Equal, Greater, length-append}
use Rattle.std.specs.List.{AllByRecursion, slice_get}
use Rattle.std.specs.List.Sorted.{IsStrictlySortedBy}
use Rattle.std.proofs.lemmas.Bool.{and_parts, false≢true}
use Rattle.std.proofs.lemmas.Cmp.{nat_list_cmp_total}
use Rattle.std.specs.Ordering.{is_lt}
use Rattle.ss_text.specs.Texts.{text_cmp}
use Rattle.ss_record.specs.Ids.{before}
use Rattle.ss_record.specs.declared.readings.Sheet.{Sheet}
use Rattle.ss_device.specs.Device.{AreById, row_ids, dead_ids}
use Rattle.ss_device_file.specs.declared.lines.Line.{Line}
use Rattle.ss_device_file.specs.declared.lines.Line.TheVariants.{Head, Synced, Row, Item, Dead, End}
use Rattle.ss_device_file.specs.Lines.{AreLines, ComeAfter, follows, last_of, may_come, suits, version_in}
use Rattle.ss_device_file.specs.Files.{death_in, deaths_in, row_in, rows_in}

-- ---- each line follows the one in front

abbrev pub Chain : Option Line → List Line → Type 0
Chain o [] = Unit {0}
Chain o (l ∷ ls) = (follows o l ≡ true) × Chain (Some l) ls

get_last : (ls : List Line) (l : Line) → slice_get (ls ++ l ∷ []) (length ls) ≡ Some l
get_last [] l = refl
get_last (x ∷ ls) l = get_last ls l

pub last_is : (ls : List Line) (l : Line) → last_of (ls ++ l ∷ []) ≡ Some l
last_is ls l = let n : length (ls ++ l ∷ []) ≡ length ls + 1 = length-append ls (l ∷ []) in let m : length (ls ++ l ∷ []) - 1 ≡ length ls = omega arith in ap (slice_get (ls ++ l ∷ [])) m ∙ get_last ls l

chained : (front ls : List Line) → ComeAfter front ls → Chain (last_of front) ls
unfolding may_come
chained front [] h = tt
chained front (l ∷ ls) h = ((and_parts (follows (last_of front) l) (suits (version_in front) l) h.0).0, subst (λ o. Chain o ls) (last_is front l) (chained (front ++ l ∷ []) ls h.2))

pub lines_chain : (ls : List Line) → AreLines ls → Chain None ls
unfolding AreLines
lines_chain ls h = chained [] ls h

-- ---- ids in order

less_of : (x y : List ℕ) → before x y ≡ true → text_cmp x y ≡ Less
unfolding before
less_of x y h = go (text_cmp x y) h
  where
    go : (o : Ordering) → is_lt o ≡ true → o ≡ Less
    go Less e = refl
    go Equal e = absurd (false≢true e)
    go Greater e = absurd (false≢true e)

-- the first id is above this one
abbrev IsAbove : List ℕ → List (List ℕ) → Type 0
IsAbove x [] = Unit {0}
IsAbove x (y ∷ ys) = text_cmp x y ≡ Less

all_above : (x y : List ℕ) (ys : List (List ℕ)) → text_cmp x y ≡ Less → AllByRecursion (λ z. text_cmp y z ≡ Less) ys → AllByRecursion (λ z. text_cmp x z ≡ Less) ys
all_above x y [] h a = tt
all_above x y (z ∷ zs) h a = (nat_list_cmp_total.trans x y z h a.0, all_above x y zs h a.1)

one_first : (x : List ℕ) (xs : List (List ℕ)) → IsAbove x xs → AreById xs → AreById (x ∷ xs)
unfolding AreById IsStrictlySortedBy
one_first x [] h s = (tt, tt)
one_first x (y ∷ ys) h s = ((h, all_above x y ys h s.0), s)

no_ids : AreById []
unfolding AreById IsStrictlySortedBy
no_ids = tt

-- ---- rows

abbrev ids_of_rows : List Line → List (List ℕ)
ids_of_rows ls = map (λ (s : Sheet). s.id) (filter_map row_in ls)

abbrev RowsAbove : Option Line → List (List ℕ) → Type 0
RowsAbove None xs = Unit {0}
RowsAbove (Some (Head v)) xs = Unit {0}
RowsAbove (Some (Synced t)) xs = Unit {0}
RowsAbove (Some (Row q)) xs = IsAbove q.id xs
RowsAbove (Some (Item i)) xs = xs ≡ []
RowsAbove (Some (Dead x t)) xs = xs ≡ []
RowsAbove (Some End) xs = xs ≡ []

rows_none : (o : Option Line) → RowsAbove o []
rows_none None = tt
rows_none (Some (Head v)) = tt
rows_none (Some (Synced t)) = tt
rows_none (Some (Row q)) = tt
rows_none (Some (Item i)) = refl
rows_none (Some (Dead x t)) = refl
rows_none (Some End) = refl

rows_early : (o : Option Line) (l : Line) (xs : List (List ℕ)) → follows o l ≡ true → RowsAbove (Some l) xs → row_in l ≡ None → RowsAbove o xs
rows_early o (Row r) xs f a e = cc
rows_early o (Item i) xs f a e = subst (RowsAbove o) (sym a) (rows_none o)
rows_early o (Dead x t) xs f a e = subst (RowsAbove o) (sym a) (rows_none o)
rows_early o End xs f a e = subst (RowsAbove o) (sym a) (rows_none o)
rows_early None (Head v) xs f a e = tt
rows_early (Some (Head w)) (Head v) xs f a e = tt
rows_early (Some (Synced t)) (Head v) xs f a e = tt
rows_early (Some (Row q)) (Head v) xs f a e = absurd (false≢true f)
rows_early (Some (Item i)) (Head v) xs f a e = absurd (false≢true f)
rows_early (Some (Dead x t)) (Head v) xs f a e = absurd (false≢true f)
rows_early (Some End) (Head v) xs f a e = absurd (false≢true f)
rows_early None (Synced v) xs f a e = tt
rows_early (Some (Head w)) (Synced v) xs f a e = tt
rows_early (Some (Synced t)) (Synced v) xs f a e = tt
rows_early (Some (Row q)) (Synced v) xs f a e = absurd (false≢true f)
rows_early (Some (Item i)) (Synced v) xs f a e = absurd (false≢true f)
rows_early (Some (Dead x t)) (Synced v) xs f a e = absurd (false≢true f)
rows_early (Some End) (Synced v) xs f a e = absurd (false≢true f)

row_above : (o : Option Line) (r : Sheet) (xs : List (List ℕ)) → follows o (Row r) ≡ true → RowsAbove o (r.id ∷ xs)
row_above None r xs f = tt
row_above (Some (Head v)) r xs f = tt
row_above (Some (Synced t)) r xs f = tt
row_above (Some (Row q)) r xs f = less_of q.id r.id f
row_above (Some (Item i)) r xs f = absurd (false≢true f)
row_above (Some (Dead x t)) r xs f = absurd (false≢true f)
row_above (Some End) r xs f = absurd (false≢true f)

rows_ordered : (o : Option Line) (ls : List Line) → Chain o ls → AreById (ids_of_rows ls) × RowsAbove o (ids_of_rows ls)
rows_ordered o [] c = (no_ids, rows_none o)
rows_ordered o (l ∷ ls) c = go l refl (rows_ordered (Some l) ls c.1)
  where
    go : (m : Line) → l ≡ m → AreById (ids_of_rows ls) × RowsAbove (Some l) (ids_of_rows ls) → AreById (ids_of_rows (l ∷ ls)) × RowsAbove o (ids_of_rows (l ∷ ls))
    go (Row r) q ih =
        let a : RowsAbove (Some (Row r)) (ids_of_rows ls) = subst (λ m. RowsAbove (Some m) (ids_of_rows ls)) q ih.1 in
        subst (λ m. AreById (ids_of_rows (m ∷ ls)) × RowsAbove o (ids_of_rows (m ∷ ls))) (sym q) (one_first r.id (ids_of_rows ls) a ih.0, row_above o r (ids_of_rows ls) (ap (follows o) (sym q) ∙ c.0))
    go (Head v) q ih = subst (λ m. AreById (ids_of_rows (m ∷ ls)) × RowsAbove o (ids_of_rows (m ∷ ls))) (sym q) (ih.0, rows_early o l (ids_of_rows ls) c.0 ih.1 (ap row_in q))
    go (Synced v) q ih = subst (λ m. AreById (ids_of_rows (m ∷ ls)) × RowsAbove o (ids_of_rows (m ∷ ls))) (sym q) (ih.0, rows_early o l (ids_of_rows ls) c.0 ih.1 (ap row_in q))
    go (Item i) q ih = subst (λ m. AreById (ids_of_rows (m ∷ ls)) × RowsAbove o (ids_of_rows (m ∷ ls))) (sym q) (ih.0, rows_early o l (ids_of_rows ls) c.0 ih.1 (ap row_in q))
    go (Dead x t) q ih = subst (λ m. AreById (ids_of_rows (m ∷ ls)) × RowsAbove o (ids_of_rows (m ∷ ls))) (sym q) (ih.0, rows_early o l (ids_of_rows ls) c.0 ih.1 (ap row_in q))
    go End q ih = subst (λ m. AreById (ids_of_rows (m ∷ ls)) × RowsAbove o (ids_of_rows (m ∷ ls))) (sym q) (ih.0, rows_early o l (ids_of_rows ls) c.0 ih.1 (ap row_in q))

pub rows_by_id : (ls : List Line) → AreLines ls → AreById (row_ids (rows_in ls))
unfolding rows_in
rows_by_id ls h = (rows_ordered None ls (lines_chain ls h)).0

-- ---- deleted ids

abbrev ids_of_deaths : List Line → List (List ℕ)
ids_of_deaths ls = map (λ (d : List ℕ × ℕ). d.0) (filter_map death_in ls)

abbrev DeathsAbove : Option Line → List (List ℕ) → Type 0
DeathsAbove (Some (Dead x t)) xs = IsAbove x xs
DeathsAbove (Some End) xs = xs ≡ []
DeathsAbove _ xs = Unit {0}

deaths_none : (o : Option Line) → DeathsAbove o []
deaths_none None = tt
deaths_none (Some (Head v)) = tt
deaths_none (Some (Synced t)) = tt
deaths_none (Some (Row q)) = tt
deaths_none (Some (Item i)) = tt
deaths_none (Some (Dead x t)) = tt
deaths_none (Some End) = refl

early : (o : Option Line) (l : Line) (xs : List (List ℕ)) → follows o l ≡ true → DeathsAbove (Some l) xs → death_in l ≡ None → DeathsAbove o xs
early None l xs f a e = tt
early (Some (Head v)) l xs f a e = tt
early (Some (Synced t)) l xs f a e = tt
early (Some (Row q)) l xs f a e = tt
early (Some (Item i)) l xs f a e = tt
early (Some (Dead x t)) (Head v) xs f a e = absurd (false≢true f)
early (Some (Dead x t)) (Synced v) xs f a e = absurd (false≢true f)
early (Some (Dead x t)) (Row r) xs f a e = absurd (false≢true f)
early (Some (Dead x t)) (Item i) xs f a e = absurd (false≢true f)
early (Some (Dead x t)) (Dead y s) xs f a e = cc
early (Some (Dead x t)) End xs f a e = subst (IsAbove x) (sym a) tt
early (Some End) (Head v) xs f a e = absurd (false≢true f)
early (Some End) (Synced v) xs f a e = absurd (false≢true f)
early (Some End) (Row r) xs f a e = absurd (false≢true f)
early (Some End) (Item i) xs f a e = absurd (false≢true f)
early (Some End) (Dead y s) xs f a e = absurd (false≢true f)
early (Some End) End xs f a e = absurd (false≢true f)

death_above : (o : Option Line) (x : List ℕ) (t : ℕ) (xs : List (List ℕ)) → follows o (Dead x t) ≡ true → DeathsAbove o (x ∷ xs)
death_above None x t xs f = tt
death_above (Some (Head v)) x t xs f = tt
death_above (Some (Synced s)) x t xs f = tt
death_above (Some (Row q)) x t xs f = tt
death_above (Some (Item i)) x t xs f = tt
death_above (Some (Dead y s)) x t xs f = less_of y x f
death_above (Some End) x t xs f = absurd (false≢true f)

deaths_ordered : (o : Option Line) (ls : List Line) → Chain o ls → AreById (ids_of_deaths ls) × DeathsAbove o (ids_of_deaths ls)
deaths_ordered o [] c = (no_ids, deaths_none o)
deaths_ordered o (l ∷ ls) c = go l refl (deaths_ordered (Some l) ls c.1)
  where
    plain : (m : Line) → l ≡ m → AreById (ids_of_deaths ls) × DeathsAbove (Some l) (ids_of_deaths ls) → death_in m ≡ None → ids_of_deaths (m ∷ ls) ≡ ids_of_deaths ls → AreById (ids_of_deaths (l ∷ ls)) × DeathsAbove o (ids_of_deaths (l ∷ ls))
    plain m q ih e same = subst (λ n. AreById (ids_of_deaths (n ∷ ls)) × DeathsAbove o (ids_of_deaths (n ∷ ls))) (sym q) (subst (λ xs. AreById xs × DeathsAbove o xs) (sym same) (ih.0, early o l (ids_of_deaths ls) c.0 ih.1 (ap death_in q ∙ e)))

    go : (m : Line) → l ≡ m → AreById (ids_of_deaths ls) × DeathsAbove (Some l) (ids_of_deaths ls) → AreById (ids_of_deaths (l ∷ ls)) × DeathsAbove o (ids_of_deaths (l ∷ ls))
    go (Dead x t) q ih =
        let a : DeathsAbove (Some (Dead x t)) (ids_of_deaths ls) = subst (λ m. DeathsAbove (Some m) (ids_of_deaths ls)) q ih.1 in
        subst (λ m. AreById (ids_of_deaths (m ∷ ls)) × DeathsAbove o (ids_of_deaths (m ∷ ls))) (sym q) (one_first x (ids_of_deaths ls) a ih.0, death_above o x t (ids_of_deaths ls) (ap (follows o) (sym q) ∙ c.0))
    go (Head v) q ih = plain (Head v) q ih refl refl
    go (Synced v) q ih = plain (Synced v) q ih refl refl
    go (Row r) q ih = plain (Row r) q ih refl refl
    go (Item i) q ih = plain (Item i) q ih refl refl
    go End q ih = plain End q ih refl refl

pub deaths_by_id : (ls : List Line) → AreLines ls → AreById (dead_ids (deaths_in ls))
unfolding deaths_in
deaths_by_id ls h = (deaths_ordered None ls (lines_chain ls h)).0
