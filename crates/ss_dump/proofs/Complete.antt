-- The lines of an account whose lists are in order tell it.
use Rattle.std.proofs.Common.{◌≡◌, ℕ, Bool, true, false, not, cond, List, [], ◌∷◌, ◌++◌, map, Some, None, option_map}
use Rattle.std.proofs.Common.{option_and_then, append_assoc, append-nil, refl, sym, ap, ◌∙◌, subst}
use Rattle.std.specs.List.{flat_map}
use Rattle.std.specs.Option.{option_map_or}
use Rattle.std.specs.Cmp.{IsTotalOrder, nat_cmp_total, on_total, then_total}
use Rattle.std.specs.Cmp.Lexicographic.{nat_list_cmp_total}
use Rattle.std.specs.declared.cmp.Ordering.{Ordering}
use Rattle.std.proofs.lemmas.List.Sorted.{ranks_by}
use Rattle.ss_text.specs.Texts.{list_with, sorted}
use Rattle.ss_bso.specs.declared.rows.Row.{Row}
use Rattle.ss_bso.specs.declared.parts.Part.{Part}
use Rattle.ss_bso.specs.declared.account.Staged.{Staged}
use Rattle.ss_bso.specs.declared.changes.Kept.{Kept}
use Rattle.ss_lines.specs.declared.lines.Line.{Line}
use Rattle.ss_lines.specs.declared.lines.Line.TheVariants.{Row as RowLine, Part as PartLine, Digest, End}
use Rattle.ss_dump.specs.Dumps.{account_lines, batch_lines, collection_line, comes_before, in_order, name_cmp}
use Rattle.ss_dump.specs.Dumps.{number_cmp, place_cmp}
use Rattle.ss_dump.specs.Telling.{State, account, may_end, next, state_of_lines, told_from, whole}
use Rattle.ss_dump.proofs.Ascending.{IsAscending, last_step}
use Rattle.ss_dump.proofs.Told.{IsOrdered, with_last}

-- ---- sorted lists ascend

placed_ascending : {X : Type 0} (before : X → X → Bool) → ((x y : X) → before x y ≡ true → before y x ≡ false) → (x : X) (ys : List X) → IsAscending before ys → IsAscending before (list_with before x ys)
placed_ascending before one_way x [] h = tt
placed_ascending before one_way x (y ∷ []) h = go (before y x) refl
  where
    go : (b : Bool) → before y x ≡ b → IsAscending before (cond b (y ∷ x ∷ []) (x ∷ y ∷ []))
    go true q = (one_way y x q, tt)
    go false q = (q, tt)
placed_ascending before one_way x (y ∷ z ∷ zs) h = go (before y x) refl (before z x) (placed_ascending before one_way x (z ∷ zs) h.1)
  where
    go : (b : Bool) → before y x ≡ b → (c : Bool) → IsAscending before (cond c (z ∷ list_with before x zs) (x ∷ z ∷ zs))
        → IsAscending before (cond b (y ∷ cond c (z ∷ list_with before x zs) (x ∷ z ∷ zs)) (x ∷ y ∷ z ∷ zs))
    go true q true k = (h.0, k)
    go true q false k = (one_way y x q, k)
    go false q c k = (q, h)

pub sorted_ascending : {X : Type 0} (before : X → X → Bool) → ((x y : X) → before x y ≡ true → before y x ≡ false) → (xs : List X) → IsAscending before (sorted before xs)
sorted_ascending before one_way [] = tt
sorted_ascending before one_way (x ∷ xs) = placed_ascending before one_way x (sorted before xs) (sorted_ascending before one_way xs)

pub one_way : {X : Type 0} (cmp : X → X → Ordering) → IsTotalOrder cmp → (x y : X) → comes_before cmp x y ≡ true → comes_before cmp y x ≡ false
one_way {X} cmp total x y e = (ranks_by total (λ (z : X). z)).one_way x y e

ascends : {X : Type 0} (cmp : X → X → Ordering) → IsTotalOrder cmp → (xs : List X) → sorted (comes_before cmp) xs ≡ xs → IsAscending (comes_before cmp) xs
ascends cmp total xs e = subst (IsAscending (comes_before cmp)) e (sorted_ascending (comes_before cmp) (one_way cmp total) xs)

pub name_total : IsTotalOrder name_cmp
name_total = on_total (λ (entry : List ℕ × ℕ). entry.0) nat_list_cmp_total

pub place_total : IsTotalOrder place_cmp
place_total = then_total (on_total (λ (row : Row). row.collection) nat_list_cmp_total) (on_total (λ (row : Row). row.id) nat_list_cmp_total)

pub number_total : IsTotalOrder number_cmp
number_total = on_total (λ (batch : Staged). batch.number) nat_cmp_total

pub is_ordered : (kept : Kept) → in_order kept ≡ kept → IsOrdered kept
is_ordered kept e = record {
  collections = ascends name_cmp name_total kept.collections (ap (λ k. k.collections) e);
  rows = ascends place_cmp place_total kept.rows (ap (λ k. k.rows) e);
  batches = ascends number_cmp number_total kept.batches (ap (λ k. k.batches) e);
}

-- ---- what stands behind a front of an ascending list may end it

may_follow : {X : Type 0} (before : X → X → Bool) (done : List X) (x : X) (xs : List X) → IsAscending before (done ++ x ∷ xs) → may_end before done x ≡ true
may_follow before [] x xs h = refl
may_follow before (y ∷ []) x xs h = ap not h.0
may_follow before (y ∷ z ∷ zs) x xs h = ap (λ o. option_map_or (λ w. not (before x w)) o true) (last_step y z zs) ∙ may_follow before (z ∷ zs) x xs h.1

next_front : {X : Type 0} (before : X → X → Bool) (done : List X) (x : X) (xs : List X) → IsAscending before (done ++ x ∷ xs) → IsAscending before ((done ++ x ∷ []) ++ xs)
next_front before done x xs h = subst (IsAscending before) (sym (append_assoc done (x ∷ []) xs)) h

-- ---- line by line

abbrev made : List Row → List (List ℕ × ℕ) → ℕ → ℕ → ℕ → List Staged → State
made rs cs s l n bs = account (record { rows = rs; collections = cs; store = s; last_delete = l; counter = n; batches = bs })

collections_told : (done cs : List (List ℕ × ℕ)) (s l n : ℕ) (rest : List Line) → IsAscending (comes_before name_cmp) (done ++ cs)
    → told_from (made [] done s l n []) (map collection_line cs ++ rest) ≡ told_from (made [] (done ++ cs) s l n []) rest
unfolding next
collections_told done [] s l n rest h = ap (λ d. told_from (made [] d s l n []) rest) (sym (append-nil done))
collections_told done (c ∷ cs) s l n rest h =
    ap (λ b. option_and_then (λ t. told_from t (map collection_line cs ++ rest)) (cond b (Some (made [] (done ++ c ∷ []) s l n [])) None)) (may_follow (comes_before name_cmp) done c cs h)
    ∙ (collections_told (done ++ c ∷ []) cs s l n rest (next_front (comes_before name_cmp) done c cs h)
    ∙ ap (λ d. told_from (made [] d s l n []) rest) (append_assoc done (c ∷ []) cs))

rows_told : (done rs : List Row) (cs : List (List ℕ × ℕ)) (s l n : ℕ) (rest : List Line) → IsAscending (comes_before place_cmp) (done ++ rs)
    → told_from (made done cs s l n []) (map (λ r. RowLine r) rs ++ rest) ≡ told_from (made (done ++ rs) cs s l n []) rest
unfolding next
rows_told done [] cs s l n rest h = ap (λ d. told_from (made d cs s l n []) rest) (sym (append-nil done))
rows_told done (r ∷ rs) cs s l n rest h =
    ap (λ b. option_and_then (λ t. told_from t (map (λ q. RowLine q) rs ++ rest)) (cond b (Some (made (done ++ r ∷ []) cs s l n [])) None)) (may_follow (comes_before place_cmp) done r rs h)
    ∙ (rows_told (done ++ r ∷ []) rs cs s l n rest (next_front (comes_before place_cmp) done r rs h)
    ∙ ap (λ d. told_from (made d cs s l n []) rest) (append_assoc done (r ∷ []) rs))

abbrev with_parts : Staged → List Part → Staged
with_parts b ps = record b { parts = ps }

parts_told : (rs : List Row) (cs : List (List ℕ × ℕ)) (s l n : ℕ) (done : List Staged) (b : Staged) (front ps : List Part) (rest : List Line)
    → told_from (made rs cs s l n (done ++ with_parts b front ∷ [])) (map (λ p. PartLine p) ps ++ rest) ≡ told_from (made rs cs s l n (done ++ with_parts b (front ++ ps) ∷ [])) rest
unfolding next
parts_told rs cs s l n done b front [] rest = ap (λ f. told_from (made rs cs s l n (done ++ with_parts b f ∷ [])) rest) (sym (append-nil front))
parts_told rs cs s l n done b front (p ∷ ps) rest =
    ap (λ o. option_and_then (λ t. told_from t (map (λ q. PartLine q) ps ++ rest)) (option_map (λ bs. made rs cs s l n bs) o)) (with_last done (with_parts b front) p)
    ∙ (parts_told rs cs s l n done b (front ++ p ∷ []) ps rest
    ∙ ap (λ f. told_from (made rs cs s l n (done ++ with_parts b f ∷ [])) rest) (append_assoc front (p ∷ []) ps))

batches_told : (rs : List Row) (cs : List (List ℕ × ℕ)) (s l n : ℕ) (done bs : List Staged) (rest : List Line) → IsAscending (comes_before number_cmp) (done ++ bs)
    → told_from (made rs cs s l n done) (flat_map batch_lines bs ++ rest) ≡ told_from (made rs cs s l n (done ++ bs)) rest
unfolding next
batches_told rs cs s l n done [] rest h = ap (λ d. told_from (made rs cs s l n d) rest) (sym (append-nil done))
batches_told rs cs s l n done (b ∷ bs) rest h =
    let behind : List Line = flat_map batch_lines bs ++ rest in
    ap (λ ls. told_from (made rs cs s l n done) ls) (append_assoc (batch_lines b) (flat_map batch_lines bs) rest)
    ∙ (ap (λ c. option_and_then (λ t. told_from t (map (λ p. PartLine p) b.parts ++ behind)) (cond c (Some (made rs cs s l n (done ++ with_parts b [] ∷ []))) None)) (may_follow (comes_before number_cmp) done b bs h)
    ∙ (parts_told rs cs s l n done b [] b.parts behind
    ∙ (batches_told rs cs s l n (done ++ b ∷ []) bs rest (next_front (comes_before number_cmp) done b bs h)
    ∙ ap (λ d. told_from (made rs cs s l n d) rest) (append_assoc done (b ∷ []) bs))))

-- behind the lines of an account what they tell goes on
pub account_told : (kept : Kept) (rest : List Line) → IsOrdered kept → state_of_lines (account_lines kept ++ rest) ≡ told_from (account kept) rest
unfolding state_of_lines account_lines next
account_told kept rest h =
    let cs : List Line = map collection_line kept.collections in
    let rs : List Line = map (λ r. RowLine r) kept.rows in
    let bs : List Line = flat_map batch_lines kept.batches in
    ap (told_from (made [] [] kept.store kept.last_delete kept.counter [])) (append_assoc cs (rs ++ bs) rest ∙ ap (λ t. cs ++ t) (append_assoc rs bs rest))
    ∙ (collections_told [] kept.collections kept.store kept.last_delete kept.counter (rs ++ (bs ++ rest)) h.collections
    ∙ (rows_told [] kept.rows kept.collections kept.store kept.last_delete kept.counter (bs ++ rest) h.rows
    ∙ batches_told kept.rows kept.collections kept.store kept.last_delete kept.counter [] kept.batches rest h.batches))

pub told_account : (kept : Kept) (digest : List ℕ) → IsOrdered kept → state_of_lines (account_lines kept ++ Digest digest ∷ End ∷ []) ≡ Some (whole kept digest)
unfolding next
told_account kept digest h = account_told kept (Digest digest ∷ End ∷ []) h
