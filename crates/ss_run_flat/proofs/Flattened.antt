-- What rows come to is one text, whatever their order and repeats.
use Rattle.std.proofs.Common.{◌≡◌, ℕ, List, [], ◌∷◌, map, Contains, ⊎_elim, sym, subst, ◌∙◌}
use Rattle.ss_bso.specs.declared.rows.Row.{Row as Stored}
use Rattle.ss_record.specs.declared.readings.Sheet.{Sheet}
use Rattle.ss_flat.specs.declared.kinds.FlatKind.{FlatKind}
use Rattle.ss_flat.specs.Laws.{SameSet}
use Rattle.ss_flat.proofs.Contained.{contains_cases, contains_here, contains_nothing, contains_there}
use Rattle.ss_flat.proofs.SameSets.{same_gone, same_shown, same_skipped}
use Rattle.ss_run_flat.specs.Files.{IsFile, SameRows, stored_row, stored_rows}
use Rattle.ss_run_flat.specs.Tellings.{IsTelling, flat_text}
use Rattle.ss_run_flat.specs.Runs.{IsFlatOf}
use Rattle.ss_run_flat.proofs.Unique.{one_file}

-- what is among mapped elements is one of them, mapped
from_mapped : {X Y : Type 0} (f : X → Y) (xs : List X) (y : Y) → Contains (map f xs) y → (x : X) × Contains xs x × (f x ≡ y)
from_mapped f [] y c = absurd (contains_nothing y c)
from_mapped {X} {Y} f (x ∷ xs) y c =
    ⊎_elim (λ (e : f x ≡ y). (x, contains_here x xs, e)) (λ (h : Contains (map f xs) y). let m = from_mapped f xs y h in (m.0, contains_there x m.0 xs m.1, m.2)) (contains_cases (f x) y (map f xs) c)

to_mapped : {X Y : Type 0} (f : X → Y) (xs : List X) (x : X) → Contains xs x → Contains (map f xs) (f x)
to_mapped f [] x c = absurd (contains_nothing x c)
to_mapped {X} {Y} f (z ∷ xs) x c =
    ⊎_elim (λ (e : z ≡ x). subst (λ (w : X). Contains (f z ∷ map f xs) (f w)) e (contains_here (f z) (map f xs))) (λ (h : Contains xs x). contains_there (f z) (f x) (map f xs) (to_mapped f xs x h)) (contains_cases z x xs c)

stored_within : (kind : FlatKind) (rows others : List Sheet) → ((r : Sheet) → Contains rows r → Contains others r) → (s : Stored) → Contains (stored_rows kind rows) s → Contains (stored_rows kind others) s
stored_within kind rows others within s c =
    let m = from_mapped (stored_row kind) rows s c in
    subst (λ (w : Stored). Contains (stored_rows kind others) w) m.2 (to_mapped (stored_row kind) others m.0 (within m.0 m.1))

stored_same : (kind : FlatKind) (rows others : List Sheet) → SameRows rows others → SameSet (stored_rows kind rows) (stored_rows kind others)
stored_same kind rows others same = record { there = stored_within kind rows others same.there; back = stored_within kind others rows same.back }

-- rows that are the same as a set come to one text
same_telling : (kind : FlatKind) (rows others : List Stored) → SameSet rows others → (out other : List ℕ) → IsTelling kind rows out → IsTelling kind others other → out ≡ other
same_telling kind rows others same out other a b =
    let s = same_shown kind rows others same a.shown b.shown a.are_shown b.are_shown in
    let g = same_gone kind rows others same a.gone b.gone a.are_gone b.are_gone in
    let k = same_skipped kind rows others same a.skipped b.skipped a.are_skipped b.are_skipped in
    a.out_is ∙ (cc_text s g k ∙ sym b.out_is)
  where
    cc_text : a.shown ≡ b.shown → a.gone ≡ b.gone → a.skipped ≡ b.skipped → flat_text a.shown a.gone a.skipped ≡ flat_text b.shown b.gone b.skipped
    cc_text s g k = cc

pub same_rows : (kind : FlatKind) (text other : List ℕ) (rows others : List Sheet) → IsFile text rows → IsFile other others → SameRows rows others
    → (out other_out : List ℕ) → IsFlatOf kind text out → IsFlatOf kind other other_out → out ≡ other_out
same_rows kind text other rows others h k same out other_out a b =
    same_telling kind (stored_rows kind a.rows) (stored_rows kind b.rows) (stored_same kind a.rows b.rows
    (subst (λ (rs : List Sheet). SameRows rs b.rows) (one_file text rows a.rows h a.file) (subst (λ (rs : List Sheet). SameRows rows rs) (one_file other others b.rows k b.file) same)))
    out other_out a.telling b.telling

pub one_out : (kind : FlatKind) (text out other : List ℕ) → IsFlatOf kind text out → IsFlatOf kind text other → out ≡ other
one_out kind text out other a b = same_rows kind text text a.rows a.rows a.file a.file (record { there = λ r h. h; back = λ r h. h }) out other a b
