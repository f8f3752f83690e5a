-- Changes made one after the other, and together.
use Rattle.std.specs.Prelude.{◌≡◌, ℕ, Bool, true, false, not, cond, ◌&&◌, ◌||◌, List, [], ◌∷◌, ◌++◌, filter, fold}
use Rattle.std.specs.Prelude.{bytes_eq, refl}
use Rattle.std.specs.List.{list_any}
use Rattle.std.proofs.Common.{sym, ap, ◌∙◌, append_assoc}
use Rattle.std.proofs.lemmas.List.{append-nil}
use Rattle.std.proofs.lemmas.List.Elements.{filter-append}
use Rattle.ss_bso.specs.declared.rows.Row.{Row}
use Rattle.ss_bso.specs.declared.account.Staged.{Staged}
use Rattle.ss_bso.specs.declared.changes.Kept.{Kept}
use Rattle.ss_bso.specs.declared.changes.Changes.{Changes}
use Rattle.ss_bso.specs.declared.changes.RowChange.{RowChange}
use Rattle.ss_bso.specs.declared.changes.RowChange.TheVariants as row
use Rattle.ss_bso.specs.declared.changes.CollectionChange.{CollectionChange}
use Rattle.ss_bso.specs.declared.changes.CollectionChange.TheVariants as collection
use Rattle.ss_bso.specs.Account.{is_alive}
use Rattle.ss_bso.specs.Changes.{batches_changed, kept_after_changes, drops, row_changed, rows_but, time_changed}
use Rattle.ss_bso.specs.Write.{times_without}
use Rattle.ss_keeper.specs.Memory.{after_commits}
use Rattle.ss_keeper.specs.Together.{collection_of, id_of, is_set, is_spared, is_time_spared, is_touched, last_puts}
use Rattle.ss_keeper.specs.Together.{last_times, spared_puts, spared_times, spares, spares_time, touches}

-- two filters are one
pub filter-both : {X : Type 0} (p q r : X → Bool) → ((x : X) → r x ≡ (q x && p x)) → (xs : List X) → filter p (filter q xs) ≡ filter r xs
filter-both p q r h [] = refl
filter-both p q r h (x ∷ xs) =
    elim (q x) as (λ v. r x ≡ (v && p x) → filter p (cond v (x ∷ filter q xs) (filter q xs)) ≡ cond (r x) (x ∷ filter r xs) (filter r xs)) [
      | true ↦ (λ e. ap (λ rest. cond (p x) (x ∷ rest) rest) (filter-both p q r h xs) ∙ ap (λ b. cond b (x ∷ filter r xs) (filter r xs)) (sym e))
      | false ↦ (λ e. filter-both p q r h xs ∙ ap (λ b. cond b (x ∷ filter r xs) (filter r xs)) (sym e))
    ] (h x)

pub filter-all : {X : Type 0} (xs : List X) → filter (λ _. true) xs ≡ xs
filter-all [] = refl
filter-all (x ∷ xs) = ap (λ rest. x ∷ rest) (filter-all xs)

pub filter-alike : {X : Type 0} (p q : X → Bool) → ((x : X) → p x ≡ q x) → (xs : List X) → filter p xs ≡ filter q xs
filter-alike p q h [] = refl
filter-alike p q h (x ∷ xs) = λ i. cond (h x i) (x ∷ filter-alike p q h xs i) (filter-alike p q h xs i)

neither : (p q : Bool) → not (p || q) ≡ (not p && not q)
neither true q = refl
neither false q = refl

-- what is left of one thing that is put
last-one : {X : Type 0} (p : X → Bool) (x : X) (later : List X) → filter (λ y. not (p y)) (x ∷ []) ++ later ≡ cond (not (p x)) (x ∷ later) later
last-one p x later = elim (p x) as (λ v. cond (not v) (x ∷ []) [] ++ later ≡ cond (not v) (x ∷ later) later) [ true ↦ refl | false ↦ refl ]

rows_left : (change : RowChange) (changes : List RowChange) (rows : List Row) → filter (λ row. not (is_touched changes row)) (rows_but (collection_of change) (id_of change) rows) ≡ filter (λ row. not (is_touched (change ∷ changes) row)) rows
rows_left change changes rows =
    filter-both (λ row. not (is_touched changes row)) (λ row. not (touches row change)) (λ row. not (is_touched (change ∷ changes) row))
    (λ row. neither (touches row change) (is_touched changes row)) rows

-- rows that are changed one after the other: those that no change touches, and what the changes leave of what they put
pub fold-rows : (rows : List Row) (changes : List RowChange) → fold row_changed rows changes ≡ filter (λ row. not (is_touched changes row)) rows ++ last_puts changes
fold-rows rows [] = sym (append-nil (filter (λ _. true) rows) ∙ filter-all rows)
fold-rows rows (row.Put new ∷ changes) =
    let later : Row → Bool = λ row. not (is_touched changes row) in
    let but = rows_but new.collection new.id rows in
    let change = row.Put new in
    fold-rows (but ++ new ∷ []) changes
    ∙ ap (λ left. left ++ last_puts changes) (filter-append later but (new ∷ []))
    ∙ append_assoc (filter later but) (filter later (new ∷ [])) (last_puts changes)
    ∙ (λ i. rows_left change changes rows i ++ last-one (is_touched changes) new (last_puts changes) i)
fold-rows rows (row.Drop collection id ∷ changes) =
    fold-rows (rows_but collection id rows) changes
    ∙ ap (λ left. left ++ last_puts changes) (rows_left (row.Drop collection id) changes rows)

-- the times alike
pub fold-times : (times : List (List ℕ × ℕ)) (changes : List CollectionChange) → fold time_changed times changes ≡ filter (λ entry. not (is_set changes entry.0)) times ++ last_times changes
fold-times times [] = sym (append-nil (filter (λ _. true) times) ∙ filter-all times)
fold-times times (collection.Set name time ∷ changes) =
    let later : (List ℕ × ℕ) → Bool = λ entry. not (is_set changes entry.0) in
    let but = times_without name times in
    fold-times (but ++ (name, time) ∷ []) changes
    ∙ ap (λ left. left ++ last_times changes) (filter-append later but ((name, time) ∷ []))
    ∙ append_assoc (filter later but) (filter later ((name, time) ∷ [])) (last_times changes)
    ∙ (λ i. times_left i ++ last-one (λ (entry : List ℕ × ℕ). is_set changes entry.0) (name, time) (last_times changes) i)
  where
    times_left : filter (λ entry. not (is_set changes entry.0)) (times_without name times) ≡ filter (λ entry. not (is_set (collection.Set name time ∷ changes) entry.0)) times
    times_left =
        filter-both (λ entry. not (is_set changes entry.0)) (λ entry. not (bytes_eq entry.0 name)) (λ entry. not (is_set (collection.Set name time ∷ changes) entry.0))
        (λ entry. neither (bytes_eq entry.0 name) (is_set changes entry.0)) times
fold-times times (collection.Drop name ∷ changes) = fold-times times changes

-- the rows after one commit
rows-after_one : (rows : List Row) (commit : Changes)
    → fold row_changed (filter (λ row. not (list_any (drops row.collection) commit.collections)) (filter (is_alive commit.moment) rows)) commit.rows ≡ filter (spares commit) rows ++ last_puts commit.rows
rows-after_one rows commit =
    fold-rows (filter (λ row. not (list_any (drops row.collection) commit.collections)) (filter (is_alive commit.moment) rows)) commit.rows
    ∙ ap (λ left. left ++ last_puts commit.rows) (
    filter-both (λ row. not (is_touched commit.rows row)) (λ row. not (list_any (drops row.collection) commit.collections))
    (λ row. not (list_any (drops row.collection) commit.collections) && not (is_touched commit.rows row)) (λ row. refl) (filter (is_alive commit.moment) rows)
    ∙ filter-both (λ row. not (list_any (drops row.collection) commit.collections) && not (is_touched commit.rows row)) (is_alive commit.moment) (spares commit) (λ row. refl) rows)

-- the collections after it
times-after_one : (times : List (List ℕ × ℕ)) (commit : Changes)
    → fold time_changed (filter (λ entry. not (list_any (drops entry.0) commit.collections)) times) commit.collections ≡ filter (λ entry. spares_time commit entry.0) times ++ last_times commit.collections
times-after_one times commit =
    fold-times (filter (λ entry. not (list_any (drops entry.0) commit.collections)) times) commit.collections
    ∙ ap (λ left. left ++ last_times commit.collections)
    (filter-both (λ entry. not (is_set commit.collections entry.0)) (λ entry. not (list_any (drops entry.0) commit.collections)) (λ entry. spares_time commit entry.0) (λ entry. refl) times)

-- one step more of a fold that leaves some of what was there and brings something
one-more : {X : Type 0} (later now all : X → Bool) → ((x : X) → all x ≡ (now x && later x)) → (old brought more left : List X)
    → left ≡ filter now old ++ brought → filter later left ++ more ≡ filter all old ++ (filter later brought ++ more)
one-more later now all h old brought more left e =
    ap (λ xs. filter later xs ++ more) e
    ∙ ap (λ xs. xs ++ more) (filter-append later (filter now old) brought)
    ∙ append_assoc (filter later (filter now old)) (filter later brought) more
    ∙ ap (λ xs. xs ++ (filter later brought ++ more)) (filter-both later now all h old)

-- the rows after the changes of commits
pub rows-after : (kept : Kept) (commits : List Changes) → (after_commits kept commits).rows ≡ filter (is_spared commits) kept.rows ++ spared_puts commits
rows-after kept [] = sym (append-nil (filter (λ _. true) kept.rows) ∙ filter-all kept.rows)
rows-after kept (commit ∷ commits) =
    rows-after (kept_after_changes kept commit) commits
    ∙ one-more (is_spared commits) (spares commit) (is_spared (commit ∷ commits)) (λ row. refl) kept.rows (last_puts commit.rows) (spared_puts commits) (kept_after_changes kept commit).rows (rows-after_one kept.rows commit)

-- the collections after them
pub times-after : (kept : Kept) (commits : List Changes) → (after_commits kept commits).collections ≡ filter (λ entry. is_time_spared commits entry.0) kept.collections ++ spared_times commits
times-after kept [] = sym (append-nil (filter (λ _. true) kept.collections) ∙ filter-all kept.collections)
times-after kept (commit ∷ commits) =
    times-after (kept_after_changes kept commit) commits
    ∙ one-more (λ (entry : List ℕ × ℕ). is_time_spared commits entry.0) (λ entry. spares_time commit entry.0) (λ entry. is_time_spared (commit ∷ commits) entry.0) (λ entry. refl)
    kept.collections (last_times commit.collections) (spared_times commits) (kept_after_changes kept commit).collections (times-after_one kept.collections commit)

-- the rest after them
pub store-after : (kept : Kept) (commits : List Changes) → (after_commits kept commits).store ≡ fold (λ _ commit. commit.store) kept.store commits
store-after kept [] = refl
store-after kept (commit ∷ commits) = store-after (kept_after_changes kept commit) commits

pub last_delete-after : (kept : Kept) (commits : List Changes) → (after_commits kept commits).last_delete ≡ fold (λ _ commit. commit.last_delete) kept.last_delete commits
last_delete-after kept [] = refl
last_delete-after kept (commit ∷ commits) = last_delete-after (kept_after_changes kept commit) commits

pub counter-after : (kept : Kept) (commits : List Changes) → (after_commits kept commits).counter ≡ fold (λ _ commit. commit.counter) kept.counter commits
counter-after kept [] = refl
counter-after kept (commit ∷ commits) = counter-after (kept_after_changes kept commit) commits

pub batches-after : (kept : Kept) (commits : List Changes) → (after_commits kept commits).batches ≡ fold (λ held commit. batches_changed held commit.batches) kept.batches commits
batches-after kept [] = refl
batches-after kept (commit ∷ commits) = batches-after (kept_after_changes kept commit) commits

-- one more commit
pub fold-push : {A B : Type 0} (f : B → A → B) (start : B) (xs : List A) (x : A) → fold f start (xs ++ x ∷ []) ≡ f (fold f start xs) x
fold-push f start [] x = refl
fold-push f start (y ∷ xs) x = fold-push f (f start y) xs x
