-- What each element of a list says has the form of lines.
use Rattle.std.proofs.Common.{◌≡◌, ℕ, ◌+◌, ◌^◌, ◌<◌, ◌≤◌, List, [], ◌∷◌, ◌++◌, length, map, take, get_or, sym, subst}
use Rattle.std.proofs.lemmas.List.{take_all}
use Rattle.std.specs.List.{AllByRecursion, flat_map}
use Rattle.ss_text.specs.Time.{last_stamp}
use Rattle.ss_text.proofs.Basics.{take_push}
use Rattle.ss_bso.specs.declared.changes.Kept.{Kept}
use Rattle.ss_lines.specs.Lines.{IsLine}
use Rattle.ss_lines.specs.declared.lines.Line.{Line}
use Rattle.ss_lines.specs.declared.lines.Line.TheVariants.{Row as RowLine}
use Rattle.ss_dump.specs.Dumps.{account_lines, batch_lines, collection_line}
use Rattle.ss_dump.proofs.Exact.{all_append}
use Rattle.ss_dump.proofs.Told.{all_back, all_front}

map_push : {X : Type 0} (f : X → Line) (xs : List X) (x : X) → AllByRecursion IsLine (map f xs) → IsLine (f x) → AllByRecursion IsLine (map f (xs ++ x ∷ []))
map_push f [] x h here = (here, tt)
map_push f (y ∷ ys) x h here = (h.0, map_push f ys x h.1 here)

-- one line more
pub map_more : {X : Type 0} (f : X → Line) (xs : List X) (i : ℕ) (x : X) → i < length xs → x ≡ get_or xs i x → AllByRecursion IsLine (map f (take i xs)) → IsLine (f x)
    → AllByRecursion IsLine (map f (take (i + 1) xs))
map_more f xs i x lt is h here = subst (λ ys. AllByRecursion IsLine (map f ys)) (sym (take_push xs i x lt is)) (map_push f (take i xs) x h here)

pub map_whole : {X : Type 0} (f : X → Line) (xs : List X) (i : ℕ) → length xs ≤ i → AllByRecursion IsLine (map f (take i xs)) → AllByRecursion IsLine (map f xs)
map_whole f xs i le h = subst (λ ys. AllByRecursion IsLine (map f ys)) (take_all i xs le) h

flat_push : {X : Type 0} (f : X → List Line) (xs : List X) (x : X) → AllByRecursion IsLine (flat_map f xs) → AllByRecursion IsLine (f x) → AllByRecursion IsLine (flat_map f (xs ++ x ∷ []))
flat_push f [] x h here = all_append (f x) [] here tt
flat_push f (y ∷ ys) x h here =
    all_append (f y) (flat_map f (ys ++ x ∷ [])) (all_front (f y) (flat_map f ys) h) (flat_push f ys x (all_back (f y) (flat_map f ys) h) here)

-- the lines of one element more
pub flat_more : {X : Type 0} (f : X → List Line) (xs : List X) (i : ℕ) (x : X) → i < length xs → x ≡ get_or xs i x → AllByRecursion IsLine (flat_map f (take i xs)) → AllByRecursion IsLine (f x)
    → AllByRecursion IsLine (flat_map f (take (i + 1) xs))
flat_more f xs i x lt is h here = subst (λ ys. AllByRecursion IsLine (flat_map f ys)) (sym (take_push xs i x lt is)) (flat_push f (take i xs) x h here)

pub flat_whole : {X : Type 0} (f : X → List Line) (xs : List X) (i : ℕ) → length xs ≤ i → AllByRecursion IsLine (flat_map f (take i xs)) → AllByRecursion IsLine (flat_map f xs)
flat_whole f xs i le h = subst (λ ys. AllByRecursion IsLine (flat_map f ys)) (take_all i xs le) h

-- what is kept, from its parts
pub kept_formed : (kept : Kept) → kept.store ≤ last_stamp → kept.last_delete ≤ last_stamp → kept.counter < 2 ^ 64 → AllByRecursion IsLine (map collection_line kept.collections)
    → AllByRecursion IsLine (map (λ r. RowLine r) kept.rows) → AllByRecursion IsLine (flat_map batch_lines kept.batches) → AllByRecursion IsLine (account_lines kept)
unfolding account_lines
kept_formed kept store last_delete counter collections rows batches = (
  tt,
  (
    (store, last_delete, counter),
    all_append (map collection_line kept.collections) (map (λ r. RowLine r) kept.rows ++ flat_map batch_lines kept.batches) collections
        (all_append (map (λ r. RowLine r) kept.rows) (flat_map batch_lines kept.batches) rows batches),
  ),
)
