-- A shelf that is filled with rows in the order of time.
use Rattle.std.specs.Prelude.{◌≡◌, ℕ, zero, suc, ◌+◌, ◌≤◌, true, not, List, [], ◌∷◌, ◌++◌, length, get_or, drop}
use Rattle.std.specs.Prelude.{bytes_eq, IsSortedBy, refl}
use Rattle.std.proofs.Common.{sym, ap, subst, ◌∙◌, arith, append_assoc, append-nil, length-append}
use Rattle.std.proofs.lemmas.List.Sorted.{sorted_far, ranks_by}
use Rattle.std.proofs.Math.Seq.{drop-nil}
use Rattle.std.proofs.lemmas.Fn.{always_returns_same}
use Rattle.std.specs.declared.cmp.Ordering.{Ordering}
use Rattle.std.specs.Fn.{Called}
use Rattle.std.specs.List.Sorted.{IsSortedByClosure}
use denote.Ref.{Bor}
use denote.Param.Members.{Mut}
use Rattle.std.proofs.lemmas.Map.Keys.{ge_from_not_lt}
use Rattle.std.specs.Cmp.{nat_cmp_total}
use Rattle.std.specs.Ordering.{nat_cmp, is_lt}
use Rattle.ss_text.specs.Texts.{IsReordering, head, swapped, chain}
use Rattle.ss_bso.specs.declared.rows.Row.{Row}
use Rattle.ss_bso.specs.Account.{is_at}
use Rattle.ss_bso.specs.Changes.{rows_but}
use Rattle.ss_bso.specs.Limits.{rows_of}
use Rattle.ss_index.specs.Layout.{NoLater}
use Rattle.ss_bso.specs.Lists.{Apart}
use Rattle.ss_bso.proofs.Lists.{Each, Each-append, Each-imp, Each-filter, Pairs, Pairs-from_AllPairs}
use Rattle.ss_bso.proofs.Reordering.{reordered-refl, reordered-sym, reordered-append_right, Each-reordered}
use Rattle.ss_bso.proofs.Reordering.{Pairs-reordered, length-reordered}
use Rattle.ss_index.proofs.Shelves.{filter-every}
use Rattle.std.proofs.lemmas.Bool.{and_from}
use Rattle.ss_bso.proofs.Places.{apart_flip}

-- a sorted list is in the order of time
pub in_time_sorted : (rows : List Row) → IsSortedBy (λ (a b : Row). is_lt (nat_cmp a.modified b.modified)) rows → Pairs NoLater rows
in_time_sorted rows up =
    let far = sorted_far (λ (a b : Row). is_lt (nat_cmp a.modified b.modified)) (ranks_by nat_cmp_total (λ (row : Row). row.modified)) rows up in
    Pairs-from_AllPairs NoLater rows (λ i j d lt within. ge_from_not_lt (get_or rows j d).modified (get_or rows i d).modified (far i j d (omega arith) within))

-- how far the filling has come: the rows that are in, and those to come
pub record Filled (all inside rest : List Row) : Type 0 where
  pub same : IsReordering all (inside ++ rest)
  pub times : Pairs NoLater rest
  pub later : Each (λ (row : Row). Each (NoLater row) rest) inside

pub fill_begun : (rows inside : List Row) → inside ≡ [] → Pairs NoLater rows → Filled rows inside rows
fill_begun rows inside none times = record {
  same = subst (λ l. IsReordering rows (l ++ rows)) (sym none) (reordered-refl rows);
  times = times;
  later = subst (λ l. Each (λ (row : Row). Each (NoLater row) rows) l) (sym none) tt;
}

-- the next row stands at a place of its own, and no row is later
module _ {all inside : List Row} {row : Row} {rest : List Row} (f : Filled all inside (row ∷ rest)) where
  pub next_last : Each (λ (other : Row). other.modified ≤ row.modified) (rows_of row.collection inside)
  next_last =
      Each-filter (λ (other : Row). other.modified ≤ row.modified) (λ one. bytes_eq one.collection row.collection) inside
      (Each-imp (λ (one : Row). Each (NoLater one) (row ∷ rest)) (λ (other : Row). other.modified ≤ row.modified) (λ one h. h.0) inside f.later)

  row_first : IsReordering (inside ++ row ∷ rest) (row ∷ (inside ++ rest))
  row_first = to_front inside
    where
      to_front : (us : List Row) → IsReordering (us ++ row ∷ rest) (row ∷ (us ++ rest))
      to_front [] = reordered-refl (row ∷ rest)
      to_front (u ∷ us) = chain (head u (to_front us)) (swapped u row (us ++ rest))

  pub next_new : Pairs Apart all → rows_but row.collection row.id inside ≡ inside
  next_new apart =
      let all_apart : Pairs Apart (row ∷ (inside ++ rest)) = Pairs-reordered Apart apart_flip (chain f.same row_first) apart in
      filter-every (λ one. not (is_at row.collection row.id one)) inside
      (Each-imp (Apart row) (λ (one : Row). not (is_at row.collection row.id one) ≡ true) (λ one h. ap not h) inside (front inside all_apart.0))
    where
      front : (us : List Row) → Each (Apart row) (us ++ rest) → Each (Apart row) us
      front [] e = tt
      front (u ∷ us) e = (e.0, front us e.1)

  pub fill_more : (after : List Row) → Pairs Apart all → IsReordering after (rows_but row.collection row.id inside ++ row ∷ []) → Filled all after rest
  fill_more after apart put =
      let put_last : IsReordering after (inside ++ row ∷ []) = subst (λ l. IsReordering after (l ++ row ∷ [])) (next_new apart) put in
      record {
        same = chain f.same (subst (λ l. IsReordering l (after ++ rest)) (append_assoc inside (row ∷ []) rest) (reordered-append_right rest (reordered-sym put_last)));
        times = f.times.1;
        later = Each-reordered (λ (one : Row). Each (NoLater one) rest) (reordered-sym put_last)
            (Each-append (λ (one : Row). Each (NoLater one) rest) inside (row ∷ [])
            (Each-imp (λ (one : Row). Each (NoLater one) (row ∷ rest)) (λ (one : Row). Each (NoLater one) rest) (λ one h. h.1) inside f.later) (f.times.0, tt));
      }

pub fill_done : {all inside rest : List Row} → Filled all inside rest → rest ≡ [] → IsReordering all inside
fill_done {all} {inside} f e = subst (λ l. IsReordering all l) (append-nil inside) (subst (λ l. IsReordering all (inside ++ l)) e f.same)

pub fill_number : {all inside : List Row} {row : Row} {rest : List Row} → Filled all inside (row ∷ rest) → length inside + 1 ≤ length all
fill_number {all} {inside} {row} {rest} f = omega (arith, length-reordered f.same, length-append inside (row ∷ rest))

pub apart-reordered : {rows others : List Row} → IsReordering rows others → Pairs Apart rows → Pairs Apart others
apart-reordered r e = Pairs-reordered Apart apart_flip r e

-- what a sort by time leaves
pub in_time_closure : {F : Type 0} {g : Mut F (Bor Row × (Bor Row × Unit {0})) Ordering} {f : F} (rows : List Row) → IsSortedByClosure g f rows
    → ((a : Bor Row × (Bor Row × Unit {0})) (r : Ordering) (f' : F) → Called g f a r f' → (r ≡ nat_cmp a.0.now.modified a.1.0.now.modified) × (f' ≡ f)) → Pairs NoLater rows
in_time_closure {g = g} {f = f} rows up calls =
    let order = ranks_by nat_cmp_total (λ (row : Row). row.modified) in
    let answers = always_returns_same g (λ a r. is_lt r ≡ is_lt (nat_cmp a.0.now.modified a.1.0.now.modified)) f (λ a r f' k. (ap is_lt (calls a r f' k).0, (calls a r f' k).1)) in
    in_time_sorted rows (up (λ (a b : Row). is_lt (nat_cmp a.modified b.modified)) order answers)

pub drop_more : {X : Type 0} (k : ℕ) (xs : List X) → drop 1 (drop k xs) ≡ drop (k + 1) xs
drop_more zero xs = refl
drop_more (suc k) [] = sym (drop-nil (suc k + 1))
drop_more (suc k) (x ∷ xs) =
    let next : suc k + 1 ≡ suc (k + 1) = omega arith in
    drop_more k xs ∙ ap (λ n. drop n (x ∷ xs)) (sym next)
