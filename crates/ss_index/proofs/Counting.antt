-- What is counted of each collection, drawer after drawer.
use Rattle.std.specs.Prelude.{◌≡◌, ℕ, zero, suc, ◌+◌, ◌≤◌, true, false, not, cond, List, [], ◌∷◌, ◌++◌, length, take}
use Rattle.std.specs.Prelude.{filter, map, slice_get, bytes_eq, refl}
use Rattle.std.proofs.Common.{sym, ap, ◌∙◌, arith, append_assoc, append-nil}
use Rattle.std.proofs.lemmas.List.{take_all}
use Rattle.std.proofs.lemmas.List.Elements.{filter-append}
use Rattle.std.specs.Map.{keys_of}
use Rattle.std.specs.Option.{option_to_list}
use Rattle.std.specs.Ordering.{is_lt}
use Rattle.ss_text.specs.Texts.{sorted, text_cmp}
use Rattle.ss_bso.specs.declared.rows.Row.{Row}
use Rattle.ss_bso.specs.Lists.{Each}
use Rattle.ss_bso.specs.Limits.{rows_of}
use Rattle.ss_bso.proofs.Lists.{Each-and, Each-filter, Each-imp}
use Rattle.ss_query.specs.Told.{by_name}
use Rattle.ss_index.specs.declared.numbers.Measure.{Measure}
use Rattle.ss_index.specs.Held.{HeldRows, some_rows}
use Rattle.ss_index.specs.Numbers.{names_of, per_name, measured_rows, entry_of, entries_of}
use Rattle.ss_index.specs.Shelved.{rows_in, NamesDrawers, NamesApart}
use Rattle.ss_index.proofs.Shelves.{filter-every, filter-none, of_collection, of_another, others_named}
use Rattle.ss_text.proofs.Basics.{bytes_eq-same}

-- ---- one drawer more

pub take_one : {X : Type 0} (xs : List X) (i : ℕ) → take (i + 1) xs ≡ take i xs ++ option_to_list (slice_get xs i)
take_one {X} xs i = let next : i + 1 ≡ suc i = omega arith in ap (λ n. take n xs) next ∙ by xs i
  where
    by : (ys : List X) (k : ℕ) → take (suc k) ys ≡ take k ys ++ option_to_list (slice_get ys k)
    by [] zero = refl
    by [] (suc k) = refl
    by (y ∷ ys) zero = refl
    by (y ∷ ys) (suc k) = ap (λ l. y ∷ l) (by ys k)

pub rows_in-append : (drawers others : List (List ℕ × HeldRows)) → rows_in (drawers ++ others) ≡ rows_in drawers ++ rows_in others
rows_in-append [] others = refl
rows_in-append (drawer ∷ drawers) others = ap (λ l. drawer.1.rows ++ l) (rows_in-append drawers others) ∙ sym (append_assoc drawer.1.rows (rows_in drawers) (rows_in others))

pub entries_of-append : (measure : Measure) (drawers others : List (List ℕ × HeldRows)) → entries_of measure (drawers ++ others) ≡ entries_of measure drawers ++ entries_of measure others
entries_of-append measure [] others = refl
entries_of-append measure (drawer ∷ drawers) others = ap (λ l. entry_of measure drawer ++ l) (entries_of-append measure drawers others) ∙ sym (append_assoc (entry_of measure drawer) (entries_of measure drawers) (entries_of measure others))

-- ---- names

names_other : (name : List ℕ) (rows : List Row) → Each (λ (row : Row). bytes_eq row.collection name ≡ false) rows → Each (λ (other : List ℕ). not (bytes_eq other name) ≡ true) (names_of rows)
names_other name [] e = tt
names_other name (row ∷ rows) e =
    (ap not e.0, Each-filter (λ (other : List ℕ). not (bytes_eq other name) ≡ true) (λ other. not (bytes_eq other row.collection)) (names_of rows) (names_other name rows e.1))

-- rows of one collection, before rows of others
names_run : (name : List ℕ) (row : Row) (rest more : List Row) → row.collection ≡ name → Each (λ (one : Row). one.collection ≡ name) rest → Each (λ (one : Row). bytes_eq one.collection name ≡ false) more
    → names_of (row ∷ (rest ++ more)) ≡ name ∷ names_of more
names_run name row [] more e n o =
    ap (λ (one : List ℕ). one ∷ filter (λ other. not (bytes_eq other one)) (names_of more)) e
    ∙ ap (λ l. name ∷ l) (filter-every (λ other. not (bytes_eq other name)) (names_of more) (names_other name more o))
names_run name row (next ∷ rest) more e n o =
    let others : List (List ℕ) = filter (λ other. not (bytes_eq other name)) (names_of more) in
    ap (λ (one : List ℕ). one ∷ filter (λ other. not (bytes_eq other one)) (names_of (next ∷ (rest ++ more)))) e
    ∙ ap (λ l. name ∷ filter (λ other. not (bytes_eq other name)) l) (names_run name next rest more n.0 n.1 o)
    ∙ ap (λ v. name ∷ cond (not v) (name ∷ others) others) (bytes_eq-same name name refl)
    ∙ ap (λ l. name ∷ l) (filter-every (λ other. not (bytes_eq other name)) (names_of more) (names_other name more o))

keys-each : (P : List ℕ → Type 0) (drawers : List (List ℕ × HeldRows)) → Each P (keys_of drawers) → Each (λ (drawer : List ℕ × HeldRows). P drawer.0) drawers
keys-each P [] e = tt
keys-each P (drawer ∷ drawers) e = (e.0, keys-each P drawers e.1)

-- a drawer has the rows of its collection
own_rows : (drawers : List (List ℕ × HeldRows)) → NamesDrawers drawers → NamesApart (keys_of drawers) → Each (λ (drawer : List ℕ × HeldRows). rows_of drawer.0 (rows_in drawers) ≡ drawer.1.rows) drawers
own_rows [] n a = tt
own_rows (drawer ∷ drawers) n a = (
  filter-append (λ row. bytes_eq row.collection drawer.0) drawer.1.rows (rows_in drawers)
      ∙ ap (λ l. l ++ rows_of drawer.0 (rows_in drawers)) (filter-every (λ row. bytes_eq row.collection drawer.0) drawer.1.rows (of_collection drawer.0 drawer (bytes_eq-same drawer.0 drawer.0 refl) n.0))
      ∙ ap (λ l. drawer.1.rows ++ l) (filter-none (λ row. bytes_eq row.collection drawer.0) (rows_in drawers) (others_named drawer.0 drawers a.0 n.1))
      ∙ append-nil drawer.1.rows,
  Each-imp (λ (one : List ℕ × HeldRows). (bytes_eq one.0 drawer.0 ≡ false) × (rows_of one.0 (rows_in drawers) ≡ one.1.rows)) (λ (one : List ℕ × HeldRows). rows_of one.0 (drawer.1.rows ++ rows_in drawers) ≡ one.1.rows)
      (λ one h.
      filter-append (λ row. bytes_eq row.collection one.0) drawer.1.rows (rows_in drawers)
      ∙ ap (λ l. l ++ rows_of one.0 (rows_in drawers)) (filter-none (λ row. bytes_eq row.collection one.0) drawer.1.rows (of_another one.0 drawer h.0 n.0))
      ∙ h.1) drawers
      (Each-and (λ (one : List ℕ × HeldRows). bytes_eq one.0 drawer.0 ≡ false) (λ (one : List ℕ × HeldRows). rows_of one.0 (rows_in drawers) ≡ one.1.rows) drawers
      (keys-each (λ (name : List ℕ). bytes_eq name drawer.0 ≡ false) drawers a.0) (own_rows drawers n.1 a.1)),
)

module _ (measure : Measure) (all : List Row) where
  abbrev numbered : List ℕ → List ℕ × ℕ
  numbered name = (name, measured_rows measure (rows_of name all))

  one_drawer : (name : List ℕ) (rows more : List Row) → Each (λ (row : Row). row.collection ≡ name) rows → Each (λ (row : Row). bytes_eq row.collection name ≡ false) more → rows_of name all ≡ rows
      → cond (some_rows rows) ((name, measured_rows measure rows) ∷ []) [] ++ map numbered (names_of more) ≡ map numbered (names_of (rows ++ more))
  one_drawer name [] more n o own = refl
  one_drawer name (row ∷ rows) more n o own =
      ap (λ (number : ℕ). (name, number) ∷ map numbered (names_of more)) (ap (λ (l : List Row). measured_rows measure l) (sym own))
      ∙ ap (λ l. map numbered l) (sym (names_run name row rows more n.0 n.1 o))

  all_drawers : (drawers : List (List ℕ × HeldRows)) → NamesDrawers drawers → NamesApart (keys_of drawers) → Each (λ (drawer : List ℕ × HeldRows). rows_of drawer.0 all ≡ drawer.1.rows) drawers
      → entries_of measure drawers ≡ map numbered (names_of (rows_in drawers))
  all_drawers [] n a own = refl
  all_drawers (drawer ∷ drawers) n a own =
      ap (λ l. entry_of measure drawer ++ l) (all_drawers drawers n.1 a.1 own.1)
      ∙ one_drawer drawer.0 drawer.1.rows (rows_in drawers) n.0 (others_named drawer.0 drawers a.0 n.1) own.0

-- the drawers with rows, with what is counted of each, are the collections of the rows
pub entries_are : (measure : Measure) (drawers : List (List ℕ × HeldRows)) (i : ℕ) → NamesDrawers drawers → NamesApart (keys_of drawers) → length drawers ≤ i
    → by_name (entries_of measure (take i drawers)) ≡ per_name (measured_rows measure) (rows_in drawers)
entries_are measure drawers i n a past =
    ap (λ l. by_name (entries_of measure l)) (take_all i drawers past) ∙ ap by_name (all_drawers measure (rows_in drawers) drawers n a (own_rows drawers n a))

-- a sort gives the numbers by name
pub by_name_is : (numbers ordered : List (List ℕ × ℕ)) → map (λ entry. entry) ordered ≡ sorted (λ entry other. is_lt (text_cmp entry.0 other.0)) (map (λ entry. entry) numbers) → ordered ≡ by_name numbers
by_name_is numbers ordered e = sym (map-same ordered) ∙ e ∙ ap by_name (map-same numbers)
  where
    map-same : (xs : List (List ℕ × ℕ)) → map (λ entry. entry) xs ≡ xs
    map-same [] = refl
    map-same (x ∷ xs) = ap (λ rest. x ∷ rest) (map-same xs)
