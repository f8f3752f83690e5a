-- The rows that ids name, one id after the other.
use Rattle.std.specs.Prelude.{◌≡◌, ℕ, ◌+◌, ◌<◌, nat_lt, Bool, true, false, ◌&&◌, ◌||◌, cond, List, [], ◌∷◌, ◌++◌}
use Rattle.std.specs.Prelude.{length, take, get_or, Option, Some, None, find, filter, bytes_eq, refl}
use Rattle.std.proofs.Common.{sym, ap, subst, ◌∙◌, append-nil}
use Rattle.std.proofs.lemmas.List.Elements.{filter-append}
use Rattle.std.proofs.lemmas.List.Folds.{list_any_more}
use Rattle.std.specs.Option.{option_to_list, option_map_or}
use Rattle.ss_text.specs.Texts.{IsReordering, nothing, head, swapped, chain}
use Rattle.ss_bso.specs.declared.rows.Row.{Row}
use Rattle.ss_bso.specs.Write.{is_among}
use Rattle.ss_query.specs.declared.requests.Query.{Query}
use Rattle.ss_query.specs.Answer.{is_asked}
use Rattle.ss_index.specs.Held.{has_id, picked_row}
use Rattle.ss_bso.specs.Lists.{OtherId}
use Rattle.ss_bso.proofs.Lists.{Each, Each-imp, Pairs}
use Rattle.ss_bso.proofs.Lists.{Each-any}
use Rattle.ss_bso.proofs.Reordering.{reordered-refl, reordered-append_right, reordered-filter}
use Rattle.ss_index.proofs.Shelves.{filter-every, filter-same}
use Rattle.std.proofs.Math.Bool.{or-false}
use Rattle.std.proofs.lemmas.Bool.{and_from}
use Rattle.ss_text.proofs.Basics.{bytes_eq-sym, same_text}

to_end : {X : Type 0} (x : X) (us : List X) → IsReordering (x ∷ us) (us ++ x ∷ [])
to_end x [] = reordered-refl (x ∷ [])
to_end x (u ∷ us) = chain (swapped x u us) (head u (to_end x us))

pub Each-find_none : {X : Type 0} (p : X → Bool) (xs : List X) → find p xs ≡ None → Each (λ (x : X). p x ≡ false) xs
Each-find_none p [] e = tt
Each-find_none {X} p (x ∷ xs) e =
    elim (p x) as (λ v. p x ≡ v → cond v (Some x) (find p xs) ≡ None → (p x ≡ false) × Each (λ (y : X). p y ≡ false) xs) [
      | true ↦ (λ t h. cc)
      | false ↦ (λ t h. (t, Each-find_none p xs h))
    ] refl e

-- one more row passes
module _ (p : Row → Bool) (id : List ℕ) (row : Row) (new : (one : Row) → has_id id one ≡ true → p one ≡ false) where
  added : (rows : List Row) → Pairs OtherId rows → find (has_id id) rows ≡ Some row → IsReordering (filter (λ one. p one || has_id id one) rows) (filter p rows ++ row ∷ [])
  added [] a e = cc
  added (one ∷ rows) a e =
      let more : List Row = filter (λ r. p r || has_id id r) rows in
      let kept : List Row = filter p rows in
      elim (has_id id one) as (λ v. has_id id one ≡ v → cond v (Some one) (find (has_id id) rows) ≡ Some row → IsReordering (cond (p one || v) (one ∷ more) more) (cond (p one) (one ∷ kept) kept ++ row ∷ [])) [
        | true ↦ (λ t h.
            let same : one ≡ row = cc in
            let none : p one ≡ false = new one t in
            let others : more ≡ kept = filter-same (λ r. p r || has_id id r) p rows
            (Each-imp (OtherId one) (λ (r : Row). (p r || has_id id r) ≡ p r)
            (λ r f. ap (λ v. p r || v) (ap (λ name. bytes_eq r.id name) (sym (same_text one.id id t)) ∙ f) ∙ or-false (p r)) rows a.0) in
            subst (λ b. IsReordering (cond (b || true) (one ∷ more) more) (cond b (one ∷ kept) kept ++ row ∷ [])) (sym none)
            (subst (λ l. IsReordering (one ∷ l) (kept ++ row ∷ [])) (sym others)
            (subst (λ r. IsReordering (one ∷ kept) (kept ++ r ∷ [])) same (to_end one kept))))
        | false ↦ (λ t h.
            elim (p one) as (λ b. IsReordering (cond (b || false) (one ∷ more) more) (cond b (one ∷ kept) kept ++ row ∷ [])) [
              | true ↦ head one (added rows a.1 h)
              | false ↦ added rows a.1 h
            ])
      ] refl e

among : List (List ℕ) → List Row → List Row
among ids rows = filter (λ row. is_among ids row.id) rows

module _ (query : Query) (rows : List Row) (distinct : Pairs OtherId rows) (ids : List (List ℕ)) (i : ℕ) (id : List ℕ) (lt : i < length ids) (is : id ≡ get_or ids i id) where
  more_among : (x : List ℕ) → is_among (take (i + 1) ids) x ≡ (is_among (take i ids) x || bytes_eq id x)
  more_among x = list_any_more (λ other. bytes_eq other x) ids i id lt ∙ ap (λ name. is_among (take i ids) x || bytes_eq name x) (sym is)

  asked_among : List (List ℕ) → List Row
  asked_among names = filter (is_asked query) (filter (λ row. is_among names row.id) rows)

  more_rows : filter (λ row. is_among (take (i + 1) ids) row.id) rows ≡ filter (λ row. is_among (take i ids) row.id || has_id id row) rows
  more_rows =
      filter-same (λ row. is_among (take (i + 1) ids) row.id) (λ row. is_among (take i ids) row.id || has_id id row) rows
      (Each-imp (λ (row : Row). Unit {0}) (λ (row : Row). is_among (take (i + 1) ids) row.id ≡ (is_among (take i ids) row.id || has_id id row))
      (λ row u. more_among row.id ∙ ap (λ v. is_among (take i ids) row.id || v) (bytes_eq-sym id row.id)) rows (Each-any rows))

  same_rows_again : ((row : Row) → has_id id row ≡ true → is_among (take i ids) row.id ≡ true) → filter (λ row. is_among (take i ids) row.id || has_id id row) rows ≡ filter (λ row. is_among (take i ids) row.id) rows
  same_rows_again h =
      filter-same (λ row. is_among (take i ids) row.id || has_id id row) (λ row. is_among (take i ids) row.id) rows
      (Each-imp (λ (row : Row). Unit {0}) (λ (row : Row). (is_among (take i ids) row.id || has_id id row) ≡ is_among (take i ids) row.id)
      (λ row u. elim (has_id id row) as (λ v. has_id id row ≡ v → (is_among (take i ids) row.id || v) ≡ is_among (take i ids) row.id) [
        | true ↦ (λ t. ap (λ b. b || true) (h row t) ∙ sym (h row t))
        | false ↦ (λ t. or-false (is_among (take i ids) row.id))
      ] refl) rows (Each-any rows))

  -- one id more
  pub picked_more : (old new : List Row) → IsReordering (filter (is_asked query) (filter (λ row. is_among (take i ids) row.id) rows)) old → new ≡ old ++ picked_row query rows (take i ids) id
      → IsReordering (filter (is_asked query) (filter (λ row. is_among (take (i + 1) ids) row.id) rows)) new
  picked_more old new r e =
      subst (λ l. IsReordering (filter (is_asked query) l) new) (sym more_rows)
      (subst (λ l. IsReordering (filter (is_asked query) (filter (λ row. is_among (take i ids) row.id || has_id id row) rows)) l) (sym e)
      (by (is_among (take i ids) id) (find (has_id id) rows) refl refl))
    where
      by : (b : Bool) (o : Option Row) → is_among (take i ids) id ≡ b → find (has_id id) rows ≡ o
          → IsReordering (filter (is_asked query) (filter (λ row. is_among (take i ids) row.id || has_id id row) rows)) (old ++ cond b [] (filter (is_asked query) (option_to_list o)))
      by true o b f =
          subst (λ l. IsReordering (filter (is_asked query) (filter (λ row. is_among (take i ids) row.id || has_id id row) rows)) l) (sym (append-nil old))
          (subst (λ l. IsReordering (filter (is_asked query) l) old) (sym (same_rows_again (λ row t. ap (λ name. is_among (take i ids) name) (same_text row.id id t) ∙ b))) r)
      by false None b f =
          subst (λ l. IsReordering (filter (is_asked query) (filter (λ row. is_among (take i ids) row.id || has_id id row) rows)) l) (sym (append-nil old))
          (subst (λ l. IsReordering (filter (is_asked query) l) old) (sym (filter-same (λ row. is_among (take i ids) row.id || has_id id row) (λ row. is_among (take i ids) row.id) rows
          (Each-imp (λ (row : Row). has_id id row ≡ false) (λ (row : Row). (is_among (take i ids) row.id || has_id id row) ≡ is_among (take i ids) row.id)
          (λ row t. ap (λ v. is_among (take i ids) row.id || v) t ∙ or-false (is_among (take i ids) row.id)) rows (Each-find_none (has_id id) rows f)))) r)
      by false (Some row) b f =
          let step = added (λ one. is_among (take i ids) one.id) id row (λ one t. ap (λ name. is_among (take i ids) name) (same_text one.id id t) ∙ b) rows distinct f in
          chain (subst (λ l. IsReordering (filter (is_asked query) (filter (λ one. is_among (take i ids) one.id || has_id id one) rows)) l)
          (filter-append (is_asked query) (filter (λ one. is_among (take i ids) one.id) rows) (row ∷ [])) (reordered-filter (is_asked query) step))
          (reordered-append_right (filter (is_asked query) (row ∷ [])) r)

-- where a query has ids, it asks only for those
pub asked_of_ids : (query : Query) (ids : List (List ℕ)) (rows : List Row) → query.ids ≡ Some ids → filter (is_asked query) (filter (λ row. is_among ids row.id) rows) ≡ filter (is_asked query) rows
asked_of_ids query ids [] e = refl
asked_of_ids query ids (row ∷ rows) e =
    let rest : List Row = filter (is_asked query) (filter (λ one. is_among ids one.id) rows) in
    elim (is_among ids row.id) as (λ v. is_among ids row.id ≡ v → filter (is_asked query) (cond v (row ∷ filter (λ one. is_among ids one.id) rows) (filter (λ one. is_among ids one.id) rows)) ≡ cond (is_asked query row) (row ∷ filter (is_asked query) rows) (filter (is_asked query) rows)) [
      | true ↦ (λ t. ap (λ l. cond (is_asked query row) (row ∷ l) l) (asked_of_ids query ids rows e))
      | false ↦ (λ t. asked_of_ids query ids rows e ∙ sym (ap (λ v. cond v (row ∷ filter (is_asked query) rows) (filter (is_asked query) rows)) (not_asked query ids row e t)))
    ] refl
  where
    not_asked : (q : Query) (names : List (List ℕ)) (one : Row) → q.ids ≡ Some names → is_among names one.id ≡ false → is_asked q one ≡ false
    not_asked q names one s t =
        let newer : Bool = option_map_or (λ time. nat_lt time one.modified) q.newer true in
        let older : Bool = option_map_or (λ time. nat_lt one.modified time) q.older true in
        ap (λ o. option_map_or (λ list. is_among list one.id) o true && newer && older) s ∙ ap (λ v. v && newer && older) t

-- no id names no row
pub none_among : (query : Query) (rows : List Row) → IsReordering (filter (is_asked query) (filter (λ row. is_among [] row.id) rows)) []
none_among query [] = nothing
none_among query (row ∷ rows) = none_among query rows

-- a query without ids and bounds asks for all rows
pub asks_all : (query : Query) (rows : List Row) → query.ids ≡ None → query.newer ≡ None → query.older ≡ None → filter (is_asked query) rows ≡ rows
asks_all query rows ids newer older = filter-every (is_asked query) rows (each rows)
  where
    asked : (row : Row) → is_asked query row ≡ true
    asked row =
        let by_ids : option_map_or (λ (l : List (List ℕ)). is_among l row.id) query.ids true ≡ true = ap (λ o. option_map_or (λ (l : List (List ℕ)). is_among l row.id) o true) ids in
        let by_newer : option_map_or (λ time. nat_lt time row.modified) query.newer true ≡ true = ap (λ o. option_map_or (λ time. nat_lt time row.modified) o true) newer in
        let by_older : option_map_or (λ time. nat_lt row.modified time) query.older true ≡ true = ap (λ o. option_map_or (λ time. nat_lt row.modified time) o true) older in
        and_from (option_map_or (λ (l : List (List ℕ)). is_among l row.id) query.ids true && option_map_or (λ time. nat_lt time row.modified) query.newer true) (option_map_or (λ time. nat_lt row.modified time) query.older true)
        (and_from (option_map_or (λ (l : List (List ℕ)). is_among l row.id) query.ids true) (option_map_or (λ time. nat_lt time row.modified) query.newer true) by_ids by_newer) by_older

    each : (xs : List Row) → Each (λ (row : Row). is_asked query row ≡ true) xs
    each [] = tt
    each (x ∷ xs) = (asked x, each xs)
