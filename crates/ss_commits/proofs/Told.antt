-- The lines of a commit tell its changes.
use Rattle.std.proofs.Common.{◌≡◌, ℕ, List, [], ◌∷◌, ◌++◌, map, Option, Some, None, option_map, option_and_then}
use Rattle.std.proofs.Common.{append_assoc, append-nil, refl, sym, ap, ◌∙◌}
use Rattle.std.specs.List.{flat_map}
use Rattle.ss_bso.specs.declared.parts.Part.{Part}
use Rattle.ss_bso.specs.declared.account.Staged.{Staged}
use Rattle.ss_bso.specs.declared.changes.Changes.{Changes}
use Rattle.ss_bso.specs.declared.changes.RowChange.{RowChange}
use Rattle.ss_bso.specs.declared.changes.RowChange.TheVariants as row
use Rattle.ss_bso.specs.declared.changes.CollectionChange.{CollectionChange}
use Rattle.ss_bso.specs.declared.changes.CollectionChange.TheVariants as collection
use Rattle.ss_bso.specs.declared.changes.BatchChange.{BatchChange}
use Rattle.ss_bso.specs.declared.changes.BatchChange.TheVariants as batch
use Rattle.ss_commits.specs.declared.notes.Note.{Note}
use Rattle.ss_commits.specs.Commits.{batch_notes, changes_notes, collection_note, part_note, row_note}
use Rattle.ss_commits.specs.Telling.{nothing, told_by, told_from, with_batch, with_collection, with_part}
use Rattle.ss_commits.specs.Telling.{with_part_last, with_part_of, with_row}

abbrev made : ℕ → List RowChange → List CollectionChange → ℕ → ℕ → ℕ → List BatchChange → Changes
made m rs cs s l n bs = record { moment = m; rows = rs; collections = cs; store = s; last_delete = l; counter = n; batches = bs }

-- ---- collections and rows

one_collection : (told : Changes) (c : CollectionChange) → told_by told (collection_note c) ≡ with_collection told c
one_collection told (collection.Set name time) = refl
one_collection told (collection.Drop name) = refl

one_row : (told : Changes) (c : RowChange) → told_by told (row_note c) ≡ with_row told c
one_row told (row.Put new) = refl
one_row told (row.Drop of id) = refl

collections_told : (m : ℕ) (rs : List RowChange) (s l n : ℕ) (bs : List BatchChange) (done cs : List CollectionChange) (rest : List Note)
    → told_from (made m rs done s l n bs) (map collection_note cs ++ rest) ≡ told_from (made m rs (done ++ cs) s l n bs) rest
collections_told m rs s l n bs done [] rest = ap (λ d. told_from (made m rs d s l n bs) rest) (sym (append-nil done))
collections_told m rs s l n bs done (c ∷ cs) rest =
    ap (λ o. option_and_then (λ t. told_from t (map collection_note cs ++ rest)) o) (one_collection (made m rs done s l n bs) c)
    ∙ (collections_told m rs s l n bs (done ++ c ∷ []) cs rest
    ∙ ap (λ d. told_from (made m rs d s l n bs) rest) (append_assoc done (c ∷ []) cs))

rows_told : (m : ℕ) (cs : List CollectionChange) (s l n : ℕ) (bs : List BatchChange) (done rs : List RowChange) (rest : List Note)
    → told_from (made m done cs s l n bs) (map row_note rs ++ rest) ≡ told_from (made m (done ++ rs) cs s l n bs) rest
rows_told m cs s l n bs done [] rest = ap (λ d. told_from (made m d cs s l n bs) rest) (sym (append-nil done))
rows_told m cs s l n bs done (r ∷ rs) rest =
    ap (λ o. option_and_then (λ t. told_from t (map row_note rs ++ rest)) o) (one_row (made m done cs s l n bs) r)
    ∙ (rows_told m cs s l n bs (done ++ r ∷ []) rs rest
    ∙ ap (λ d. told_from (made m d cs s l n bs) rest) (append_assoc done (r ∷ []) rs))

-- ---- batches

pub with_last : (done : List BatchChange) (b e : BatchChange) (p : Part) → with_part_of b p ≡ Some e → with_part_last (done ++ b ∷ []) p ≡ Some (done ++ e ∷ [])
with_last [] b e p h = ap (option_map (λ more. more ∷ [])) h
with_last (x ∷ []) b e p h = ap (option_map (λ rest. x ∷ rest)) (with_last [] b e p h)
with_last (x ∷ y ∷ zs) b e p h = ap (option_map (λ rest. x ∷ rest)) (with_last (y ∷ zs) b e p h)

with_last_none : (done : List BatchChange) (b : BatchChange) (p : Part) → with_part_of b p ≡ None → with_part_last (done ++ b ∷ []) p ≡ None
with_last_none [] b p h = ap (option_map (λ more. more ∷ [])) h
with_last_none (x ∷ []) b p h = ap (option_map (λ rest. x ∷ rest)) (with_last_none [] b p h)
with_last_none (x ∷ y ∷ zs) b p h = ap (option_map (λ rest. x ∷ rest)) (with_last_none (y ∷ zs) b p h)

pub part_added : (told : Changes) (rest new : List BatchChange) (b e : BatchChange) (p : Part) → told.batches ≡ rest ++ b ∷ [] → new ≡ rest ++ e ∷ [] → with_part_of b p ≡ Some e
    → Some (record told { batches = new }) ≡ with_part told p
part_added told rest new b e p k n h =
    let last : with_part_last told.batches p ≡ Some new = ap (λ bs. with_part_last bs p) k ∙ (with_last rest b e p h ∙ ap (λ x. Some x) (sym n)) in
    sym (ap (option_map (λ bs. record told { batches = bs })) last)

pub part_refused : (told : Changes) (rest : List BatchChange) (b : BatchChange) (p : Part) → told.batches ≡ rest ++ b ∷ [] → with_part_of b p ≡ None → None ≡ with_part told p
part_refused told rest b p k h = sym (ap (option_map (λ bs. record told { batches = bs })) (ap (λ bs. with_part_last bs p) k ∙ with_last_none rest b p h))

abbrev with_parts : Staged → List Part → Staged
with_parts b ps = record b { parts = ps }

begun_told : (m : ℕ) (rs : List RowChange) (cs : List CollectionChange) (s l n : ℕ) (done : List BatchChange) (b : Staged) (front ps : List Part) (rest : List Note)
    → told_from (made m rs cs s l n (done ++ batch.Begin (with_parts b front) ∷ [])) (map part_note ps ++ rest)
    ≡ told_from (made m rs cs s l n (done ++ batch.Begin (with_parts b (front ++ ps)) ∷ [])) rest
begun_told m rs cs s l n done b front [] rest = ap (λ f. told_from (made m rs cs s l n (done ++ batch.Begin (with_parts b f) ∷ [])) rest) (sym (append-nil front))
begun_told m rs cs s l n done b front (p ∷ ps) rest =
    ap (λ o. option_and_then (λ t. told_from t (map part_note ps ++ rest)) (option_map (λ bs. made m rs cs s l n bs) o)) (with_last done (batch.Begin (with_parts b front)) (batch.Begin (with_parts b (front ++ p ∷ []))) p refl)
    ∙ (begun_told m rs cs s l n done b (front ++ p ∷ []) ps rest
    ∙ ap (λ f. told_from (made m rs cs s l n (done ++ batch.Begin (with_parts b f) ∷ [])) rest) (append_assoc front (p ∷ []) ps))

added_told : (m : ℕ) (rs : List RowChange) (cs : List CollectionChange) (s l n : ℕ) (done : List BatchChange) (k : ℕ) (front ps : List Part) (rest : List Note)
    → told_from (made m rs cs s l n (done ++ batch.Append k front ∷ [])) (map part_note ps ++ rest)
    ≡ told_from (made m rs cs s l n (done ++ batch.Append k (front ++ ps) ∷ [])) rest
added_told m rs cs s l n done k front [] rest = ap (λ f. told_from (made m rs cs s l n (done ++ batch.Append k f ∷ [])) rest) (sym (append-nil front))
added_told m rs cs s l n done k front (p ∷ ps) rest =
    ap (λ o. option_and_then (λ t. told_from t (map part_note ps ++ rest)) (option_map (λ bs. made m rs cs s l n bs) o)) (with_last done (batch.Append k front) (batch.Append k (front ++ p ∷ [])) p refl)
    ∙ (added_told m rs cs s l n done k (front ++ p ∷ []) ps rest
    ∙ ap (λ f. told_from (made m rs cs s l n (done ++ batch.Append k f ∷ [])) rest) (append_assoc front (p ∷ []) ps))

one_batch : (m : ℕ) (rs : List RowChange) (cs : List CollectionChange) (s l n : ℕ) (done : List BatchChange) (b : BatchChange) (rest : List Note)
    → told_from (made m rs cs s l n done) (batch_notes b ++ rest) ≡ told_from (made m rs cs s l n (done ++ b ∷ [])) rest
one_batch m rs cs s l n done (batch.End k) rest = refl
one_batch m rs cs s l n done (batch.Begin b) rest = begun_told m rs cs s l n done b [] b.parts rest
one_batch m rs cs s l n done (batch.Append k ps) rest = added_told m rs cs s l n done k [] ps rest

batches_told : (m : ℕ) (rs : List RowChange) (cs : List CollectionChange) (s l n : ℕ) (done bs : List BatchChange)
    → told_from (made m rs cs s l n done) (flat_map batch_notes bs) ≡ Some (made m rs cs s l n (done ++ bs))
batches_told m rs cs s l n done [] = ap (λ d. Some (made m rs cs s l n d)) (sym (append-nil done))
batches_told m rs cs s l n done (b ∷ bs) =
    one_batch m rs cs s l n done b (flat_map batch_notes bs)
    ∙ (batches_told m rs cs s l n (done ++ b ∷ []) bs
    ∙ ap (λ d. Some (made m rs cs s l n d)) (append_assoc done (b ∷ []) bs))

-- ---- the whole

pub told_changes : (c : Changes) → told_from nothing (changes_notes c) ≡ Some c
unfolding changes_notes
told_changes c =
    let rs : List Note = map row_note c.rows in
    let bs : List Note = flat_map batch_notes c.batches in
    collections_told c.moment [] c.store c.last_delete c.counter [] [] c.collections (rs ++ bs)
    ∙ (rows_told c.moment c.collections c.store c.last_delete c.counter [] [] c.rows bs
    ∙ batches_told c.moment c.rows c.collections c.store c.last_delete c.counter [] c.batches)
