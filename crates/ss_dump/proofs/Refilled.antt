-- What changes make of nothing.
use Rattle.std.proofs.Common.{◌≡◌, ℕ, suc, ◌==◌, ◌+◌, ◌&&◌, ◌||◌, Bool, true, false, not, cond, List, [], ◌∷◌, ◌++◌}
use Rattle.std.proofs.Common.{length, map, filter, filter_map, Option, Some, None, option_map, refl, sym, ap, ap₂, ◌∙◌}
use Rattle.std.proofs.Common.{subst, arith, append_assoc, append-nil, bytes_eq}
use Rattle.std.proofs.lemmas.Bool.{and_parts, eqb-true}
use Rattle.std.specs.List.{list_any}
use Rattle.std.specs.Prelude.{fold}
use Rattle.std.specs.Option.{IfSome}
use Rattle.ss_text.proofs.Basics.{neither_left}
use Rattle.ss_bso.specs.declared.rows.Row.{Row}
use Rattle.ss_bso.specs.declared.account.Staged.{Staged}
use Rattle.ss_bso.specs.declared.changes.Kept.{Kept}
use Rattle.ss_bso.specs.declared.changes.Changes.{Changes}
use Rattle.ss_bso.specs.declared.changes.RowChange.TheVariants.{Put}
use Rattle.ss_bso.specs.declared.changes.CollectionChange.TheVariants.{Set}
use Rattle.ss_bso.specs.declared.changes.BatchChange.TheVariants.{Begin}
use Rattle.ss_bso.specs.Account.{is_at}
use Rattle.ss_bso.specs.Changes.{batch_grown, begun_by, kept_after_changes, fresh_kept, row_changed, time_changed}
use Rattle.ss_keeper.specs.Keeping.{TellsKept, changed_by}
use Rattle.ss_account.specs.Opening.{IsGood, first_bad, is_bad_collection, is_bad_row}
use Rattle.ss_dump.specs.Refilled.{filling, is_fresh}
use Rattle.ss_dump.specs.Telling.{is_empty}

-- ---- nothing is kept

none_there : {X : Type 0} (xs : List X) → is_empty xs ≡ true → xs ≡ []
none_there [] e = refl
none_there (x ∷ xs) e = let n : suc (length xs) ≡ 0 = eqb-true (suc (length xs)) 0 e in let never : ⊥ = omega arith in absurd never

abbrev made : List Row → List (List ℕ × ℕ) → ℕ → ℕ → ℕ → List Staged → Kept
made rs cs s l n bs = record { rows = rs; collections = cs; store = s; last_delete = l; counter = n; batches = bs }

pub fresh_is : (kept : Kept) → is_fresh kept ≡ true → kept ≡ fresh_kept
unfolding is_fresh
fresh_is kept e =
    let a = and_parts (is_empty kept.rows && is_empty kept.collections && is_empty kept.batches && kept.store == 0 && kept.last_delete == 0) (kept.counter == 0) e in
    let b = and_parts (is_empty kept.rows && is_empty kept.collections && is_empty kept.batches && kept.store == 0) (kept.last_delete == 0) a.0 in
    let c = and_parts (is_empty kept.rows && is_empty kept.collections && is_empty kept.batches) (kept.store == 0) b.0 in
    let d = and_parts (is_empty kept.rows && is_empty kept.collections) (is_empty kept.batches) c.0 in
    let f = and_parts (is_empty kept.rows) (is_empty kept.collections) d.0 in
    let rows : kept.rows ≡ [] = none_there kept.rows f.0 in
    let collections : kept.collections ≡ [] = none_there kept.collections f.1 in
    let batches : kept.batches ≡ [] = none_there kept.batches d.1 in
    let store : kept.store ≡ 0 = eqb-true kept.store 0 c.1 in
    let last_delete : kept.last_delete ≡ 0 = eqb-true kept.last_delete 0 b.1 in
    let counter : kept.counter ≡ 0 = eqb-true kept.counter 0 a.1 in
    ap₂ (λ rs cs. made rs cs kept.store kept.last_delete kept.counter kept.batches) rows collections
    ∙ (ap₂ (λ bs s. made [] [] s kept.last_delete kept.counter bs) batches store
    ∙ ap₂ (λ l n. made [] [] 0 l n []) last_delete counter)

-- ---- rows that are apart

none_map : (o : Option ℕ) → option_map (λ n. n + 1) o ≡ None → o ≡ None
none_map None e = refl
none_map (Some n) e = cc

pub first_good : {X : Type 0} (bad : List X → X → Bool) (x : X) (xs : List X) → first_bad bad (x ∷ xs) ≡ None → (bad [] x ≡ false) × (first_bad (λ before. bad (x ∷ before)) xs ≡ None)
first_good bad x xs e = go (bad [] x) refl e
  where
    go : (b : Bool) → bad [] x ≡ b → cond b (Some 1) (option_map (λ n. n + 1) (first_bad (λ before. bad (x ∷ before)) xs)) ≡ None → (bad [] x ≡ false) × (first_bad (λ before. bad (x ∷ before)) xs ≡ None)
    go true q h = cc
    go false q h = (q, none_map (first_bad (λ before. bad (x ∷ before)) xs) h)

kept_all : {X : Type 0} (p : X → Bool) (xs : List X) → list_any p xs ≡ false → filter (λ x. not (p x)) xs ≡ xs
kept_all p [] e = refl
kept_all p (x ∷ xs) e = go (p x) (neither_left (p x) (list_any p xs) e) (kept_all p xs (rest (p x) (list_any p xs) e))
  where
    rest : (a b : Bool) → (a || b) ≡ false → b ≡ false
    rest true b h = cc
    rest false b h = h

    go : (b : Bool) → b ≡ false → filter (λ y. not (p y)) xs ≡ xs → cond (not b) (x ∷ filter (λ y. not (p y)) xs) (filter (λ y. not (p y)) xs) ≡ x ∷ xs
    go true q ih = cc
    go false q ih = ap (λ l. x ∷ l) ih

-- elements of which each is put behind those in front of it, where none of these has its place
module _ {X C : Type 0} (change : X → C) (make : List X → C → List X) (same : X → X → Bool) (makes : (xs : List X) (x : X) → make xs (change x) ≡ filter (λ y. not (same x y)) xs ++ x ∷ []) where
  all_put : (bad : List X → X → Bool) → ((before : List X) (x : X) → bad before x ≡ false → list_any (same x) before ≡ false)
      → (done xs : List X) → first_bad (λ before. bad (done ++ before)) xs ≡ None → fold make done (map change xs) ≡ done ++ xs
  all_put bad apart done [] e = sym (append-nil done)
  all_put bad apart done (x ∷ xs) e =
      let g = first_good (λ before. bad (done ++ before)) x xs e in
      let other : list_any (same x) (done ++ []) ≡ false = apart (done ++ []) x g.0 in
      let none : list_any (same x) done ≡ false = ap (list_any (same x)) (sym (append-nil done)) ∙ other in
      let put : make done (change x) ≡ done ++ x ∷ [] = makes done x ∙ ap (λ l. l ++ x ∷ []) (kept_all (same x) done none) in
      let shift : (before : List X) → bad (done ++ x ∷ before) ≡ bad ((done ++ x ∷ []) ++ before) = λ before. ap bad (sym (append_assoc done (x ∷ []) before)) in
      ap (λ l. fold make l (map change xs)) put
      ∙ (all_put bad apart (done ++ x ∷ []) xs (same_first (λ before. bad (done ++ x ∷ before)) (λ before. bad ((done ++ x ∷ []) ++ before)) shift xs g.1)
      ∙ append_assoc done (x ∷ []) xs)
    where
      same_first : (f g : List X → X → Bool) → ((before : List X) → f before ≡ g before) → (ys : List X) → first_bad f ys ≡ None → first_bad g ys ≡ None
      same_first f g h [] k = refl
      same_first f g h (y ∷ ys) k =
          let r = first_good f y ys k in
          let here : g [] y ≡ false = ap (λ p. p y) (sym (h [])) ∙ r.0 in
          ap (λ b. cond b (Some 1) (option_map (λ n. n + 1) (first_bad (λ before. g (y ∷ before)) ys))) here
          ∙ ap (option_map (λ n. n + 1)) (same_first (λ before. f (y ∷ before)) (λ before. g (y ∷ before)) (λ before. h (y ∷ before)) ys r.1)

rows_put : (kept : Kept) → IsGood kept → fold row_changed [] (map (λ row. Put row) kept.rows) ≡ kept.rows
rows_put kept h = all_put (λ row. Put row) row_changed (λ row other. is_at row.collection row.id other) (λ xs x. refl)
    (is_bad_row kept.collections) (λ before x e. neither_left _ _ e) [] kept.rows h.rows

times_put : (kept : Kept) → IsGood kept → fold time_changed [] (map (λ entry. Set entry.0 entry.1) kept.collections) ≡ kept.collections
times_put kept h = all_put (λ entry. Set entry.0 entry.1) time_changed (λ entry other. bytes_eq other.0 entry.0) (λ xs x. refl)
    (is_bad_collection kept.store) (λ before x e. neither_left _ _ e) [] kept.collections h.collections

-- ---- batches that begin

begun_all : (bs : List Staged) → filter_map begun_by (map (λ batch. Begin batch) bs) ≡ bs
begun_all [] = refl
begun_all (b ∷ bs) = ap (λ l. b ∷ l) (begun_all bs)

none_grows : (bs all : List Staged) → fold batch_grown all (map (λ batch. Begin batch) bs) ≡ all
none_grows [] all = refl
none_grows (b ∷ bs) all = none_grows bs all

-- ---- nothing becomes what is kept

filled : (kept : Kept) → IsGood kept → kept_after_changes fresh_kept (filling kept) ≡ kept
filled kept h =
    let rows = rows_put kept h in
    let collections = times_put kept h in
    let batches : fold batch_grown (filter_map begun_by (map (λ batch. Begin batch) kept.batches)) (map (λ batch. Begin batch) kept.batches) ≡ kept.batches =
    none_grows kept.batches (filter_map begun_by (map (λ batch. Begin batch) kept.batches)) ∙ begun_all kept.batches in
    ap₂ (λ rs cs. record kept { rows = rs; collections = cs; batches = fold batch_grown (filter_map begun_by (map (λ batch. Begin batch) kept.batches)) (map (λ batch. Begin batch) kept.batches) }) rows collections
    ∙ ap (λ bs. record kept { batches = bs }) batches

-- ---- what the keeper tells

-- what was loaded is what is told
pub told_is : (P : Kept → Type 0) (held : Kept) (told : Option Kept) → TellsKept held told → P held → IfSome told P
told_is P held None h p = tt
told_is P held (Some k) h p = subst P (h k refl) p

pub told_filled : (kept held : Kept) (before after : Option Kept) (changes : Changes) → IsGood kept → TellsKept held before → is_fresh held ≡ true → changes ≡ filling kept → after ≡ changed_by changes before
    → IfSome after (λ k. k ≡ kept)
told_filled kept held before after changes g t fresh c e = subst (λ o. IfSome o (λ k. k ≡ kept)) (sym e) (go before t)
  where
    go : (told : Option Kept) → TellsKept held told → IfSome (changed_by changes told) (λ k. k ≡ kept)
    go None h = tt
    go (Some k) h =
        let same : k ≡ fresh_kept = sym (h k refl) ∙ fresh_is held fresh in
        ap₂ (λ x y. kept_after_changes x y) same c ∙ filled kept g
