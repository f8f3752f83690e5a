-- The rows that parts make, one part after the other, each under its id.
use Rattle.std.specs.Prelude.{◌≡◌, ℕ, ◌+◌, ◌≤◌, ◌<◌, Bool, true, false, cond, ◌||◌, List, [], ◌∷◌, ◌++◌, length, take}
use Rattle.std.specs.Prelude.{get_or, map, filter_map, fold, bytes_eq, Option, Some, None, refl}
use Rattle.std.specs.List.{list_any, cons_option}
use Rattle.std.specs.Map.{keys_of, lookup}
use Rattle.std.specs.Option.{option_to_list}
use Rattle.std.proofs.Common.{sym, ap, subst, ◌∙◌, arith}
use Rattle.std.proofs.lemmas.List.{take_more, append-nil, length-append}
use Rattle.indexmap.specs.IndexMap.{insert_entry}
use Rattle.ss_bso.specs.declared.rows.Row.{Row}
use Rattle.ss_bso.specs.declared.parts.Part.{Part}
use Rattle.ss_bso.specs.Put.{row_after_put}
use Rattle.ss_bso.specs.Write.{ids_of, is_among, parts_of, put_all}
use Rattle.ss_writes.specs.Parts.{OtherText, or_else, with_id, with_part_id, with_row}
use Rattle.ss_bso.proofs.Lists.{Each-imp, Pairs-append}
use Rattle.ss_bso.specs.Lists.{Each, Pairs}
use Rattle.ss_laws.proofs.Times.{once_by-distinct}
use Rattle.ss_writes.proofs.Making.{ids-more}
use Rattle.ss_laws.proofs.Reading.{among-once, none_named, put_all-append, parts_of-append}
use Rattle.ss_text.proofs.Basics.{bytes_eq-sym, bytes_eq-flip, same_text, bytes_eq-same}

-- a fold over one list and then another, and over one element more
pub fold-append : {X Y : Type 0} (f : Y → X → Y) (xs ys : List X) (y : Y) → fold f y (xs ++ ys) ≡ fold f (fold f y xs) ys
fold-append f [] ys y = refl
fold-append f (x ∷ xs) ys y = fold-append f xs ys (f y x)

pub fold-more : {X Y : Type 0} (f : Y → X → Y) (y : Y) (xs : List X) (k : ℕ) (x : X) → k < length xs → x ≡ get_or xs k x → fold f y (take (k + 1) xs) ≡ f (fold f y (take k xs)) x
fold-more f y xs k x lt at =
    ap (fold f y) (take_more xs k x lt ∙ ap (λ z. take k xs ++ z ∷ []) (sym at)) ∙ fold-append f (take k xs) (x ∷ []) y

-- a search for an id from either side
pub among-turn : (id : List ℕ) (ids : List (List ℕ)) → list_any (bytes_eq id) ids ≡ is_among ids id
among-turn id [] = refl
among-turn id (x ∷ ids) = λ i. bytes_eq-sym id x i || among-turn id ids i

-- the ids of parts, one after the other
pub ids-fold : (past parts : List Part) → fold with_part_id (ids_of past) parts ≡ ids_of (past ++ parts)
ids-fold past [] = sym (ap ids_of (append-nil past))
ids-fold past (part ∷ parts) =
    ap (λ ids. fold with_part_id ids parts) (sym (ids-more past part (ids_of past) (is_among (ids_of past) part.id) refl refl))
    ∙ ids-fold (past ++ part ∷ []) parts
    ∙ ap ids_of (append-cons past part parts)
  where
    append-cons : (xs : List Part) (y : Part) (ys : List Part) → (xs ++ y ∷ []) ++ ys ≡ xs ++ y ∷ ys
    append-cons [] y ys = refl
    append-cons (x ∷ xs) y ys = ap (λ rest. x ∷ rest) (append-cons xs y ys)

-- one id more among those that are named
pub among-more : (ids : List (List ℕ)) (k : ℕ) (id : List ℕ) (named left : List (List ℕ)) → k < length ids → id ≡ get_or ids k id → ((other : List ℕ) → is_among named other ≡ is_among (take k ids) other) → left ≡ with_id named id
    → (other : List ℕ) → is_among left other ≡ is_among (take (k + 1) ids) other
among-more ids k id named left lt at same e other =
    ap (λ l. is_among l other) e
    ∙ by (is_among named id) refl
    ∙ sym (ap (λ l. is_among l other) (take_more ids k id lt ∙ ap (λ x. take k ids ++ x ∷ []) (sym at)) ∙ among-append (take k ids))
  where
    among-append : (xs : List (List ℕ)) → is_among (xs ++ id ∷ []) other ≡ (is_among xs other || bytes_eq id other)
    among-append [] = or_false (bytes_eq id other)
      where
        or_false : (b : Bool) → (b || false) ≡ b
        or_false true = refl
        or_false false = refl
    among-append (x ∷ xs) = ap (λ b. bytes_eq x other || b) (among-append xs) ∙ sym (or-assoc (bytes_eq x other) (is_among xs other) (bytes_eq id other))
      where
        or-assoc : (a b c : Bool) → ((a || b) || c) ≡ (a || (b || c))
        or-assoc true b c = refl
        or-assoc false b c = refl

    known : is_among named id ≡ true → is_among named other ≡ (is_among (take k ids) other || bytes_eq id other)
    known t =
        elim (bytes_eq id other) as (λ v. bytes_eq id other ≡ v → is_among named other ≡ (is_among (take k ids) other || v)) [
          | true ↦ (λ h. sym (ap (is_among named) (same_text id other h)) ∙ t ∙ sym (or_true (is_among (take k ids) other)))
          | false ↦ (λ h. same other ∙ sym (or_no (is_among (take k ids) other)))
        ] refl
      where
        or_true : (b : Bool) → (b || true) ≡ true
        or_true true = refl
        or_true false = refl

        or_no : (b : Bool) → (b || false) ≡ b
        or_no true = refl
        or_no false = refl

    by : (v : Bool) → is_among named id ≡ v → is_among (cond v named (named ++ id ∷ [])) other ≡ (is_among (take k ids) other || bytes_eq id other)
    by true t = known t
    by false t = among-append named ∙ ap (λ b. b || bytes_eq id other) (same other)

-- the rows that parts made, each under its id
module _ (collection : List ℕ) (old : List ℕ → Option Row) (time : ℕ) where
  abbrev made_of : List Part → List ℕ → Option Row
  made_of parts id = put_all collection (parts_of id parts) time (old id)

  -- they are under the ids of the parts, and each is what its parts make
  pub record AreMade (parts : List Part) (made : List (List ℕ × Row)) : Type 0 where
    pub ids : keys_of made ≡ ids_of parts
    pub rows : Each (λ (entry : List ℕ × Row). made_of parts entry.0 ≡ Some entry.1) made

  keys-insert : (made : List (List ℕ × Row)) (id : List ℕ) (row : Row) → keys_of (insert_entry bytes_eq made id row) ≡ with_id (keys_of made) id
  keys-insert [] id row = refl
  keys-insert (entry ∷ made) id row =
      elim (bytes_eq id entry.0) as (λ v. bytes_eq id entry.0 ≡ v → keys_of (cond v ((entry.0, row) ∷ made) (entry ∷ insert_entry bytes_eq made id row)) ≡ with_id (entry.0 ∷ keys_of made) id) [
        | true ↦ (λ e. sym (ap (λ b. cond (b || is_among (keys_of made) id) (entry.0 ∷ keys_of made) ((entry.0 ∷ keys_of made) ++ id ∷ [])) (bytes_eq-sym entry.0 id ∙ e)))
        | false ↦ (λ e.
            ap (λ rest. entry.0 ∷ rest) (keys-insert made id row)
            ∙ joins (is_among (keys_of made) id)
            ∙ sym (ap (λ b. cond (b || is_among (keys_of made) id) (entry.0 ∷ keys_of made) ((entry.0 ∷ keys_of made) ++ id ∷ [])) (bytes_eq-sym entry.0 id ∙ e)))
      ] refl
    where
      joins : (b : Bool) → entry.0 ∷ cond b (keys_of made) (keys_of made ++ id ∷ []) ≡ cond b (entry.0 ∷ keys_of made) ((entry.0 ∷ keys_of made) ++ id ∷ [])
      joins true = refl
      joins false = refl

  -- one part more, for its own id and for the others
  more-here : (parts : List Part) (part : Part) → made_of (parts ++ part ∷ []) part.id ≡ Some (row_after_put (made_of parts part.id) collection part time)
  more-here parts part =
      ap (λ ps. put_all collection ps time (old part.id)) (parts_of-append part.id parts (part ∷ []) ∙ ap (λ b. parts_of part.id parts ++ cond b (part ∷ []) []) (bytes_eq-same part.id part.id refl))
      ∙ put_all-append collection (parts_of part.id parts) (part ∷ []) time (old part.id)

  more-elsewhere : (parts : List Part) (part : Part) (id : List ℕ) → bytes_eq part.id id ≡ false → made_of (parts ++ part ∷ []) id ≡ made_of parts id
  more-elsewhere parts part id e =
      ap (λ ps. put_all collection ps time (old id)) (parts_of-append id parts (part ∷ []) ∙ ap (λ b. parts_of id parts ++ cond b (part ∷ []) []) e ∙ append-nil (parts_of id parts))

  others-more : (parts : List Part) (part : Part) (made : List (List ℕ × Row)) → Each (λ (entry : List ℕ × Row). bytes_eq part.id entry.0 ≡ false) made
      → Each (λ (entry : List ℕ × Row). made_of parts entry.0 ≡ Some entry.1) made → Each (λ (entry : List ℕ × Row). made_of (parts ++ part ∷ []) entry.0 ≡ Some entry.1) made
  others-more parts part [] apart rows = tt
  others-more parts part (entry ∷ made) apart rows = (more-elsewhere parts part entry.0 apart.0 ∙ rows.0, others-more parts part made apart.1 rows.1)

  rows-insert : (parts : List Part) (part : Part) (made : List (List ℕ × Row)) (row : Row) → Pairs (λ (one other : List ℕ). bytes_eq one other ≡ false) (keys_of made)
      → Each (λ (entry : List ℕ × Row). made_of parts entry.0 ≡ Some entry.1) made
      → ((found : Row) → lookup (bytes_eq part.id) made ≡ Some found → row ≡ row_after_put (Some found) collection part time)
      → (lookup (bytes_eq part.id) made ≡ None → row ≡ row_after_put (made_of parts part.id) collection part time)
      → Each (λ (entry : List ℕ × Row). made_of (parts ++ part ∷ []) entry.0 ≡ Some entry.1) (insert_entry bytes_eq made part.id row)
  rows-insert parts part [] row distinct rows there new = (more-here parts part ∙ sym (ap Some (new refl)), tt)
  rows-insert parts part (entry ∷ made) row distinct rows there new =
      elim (bytes_eq part.id entry.0) as (λ v. bytes_eq part.id entry.0 ≡ v
      → ((found : Row) → cond v (Some entry.1) (lookup (bytes_eq part.id) made) ≡ Some found → row ≡ row_after_put (Some found) collection part time)
      → (cond v (Some entry.1) (lookup (bytes_eq part.id) made) ≡ None → row ≡ row_after_put (made_of parts part.id) collection part time)
      → Each (λ (one : List ℕ × Row). made_of (parts ++ part ∷ []) one.0 ≡ Some one.1) (cond v ((entry.0, row) ∷ made) (entry ∷ insert_entry bytes_eq made part.id row))) [
        | true ↦ (λ e is none.
            let same : part.id ≡ entry.0 = same_text part.id entry.0 e in (
              sym (ap (made_of (parts ++ part ∷ [])) same) ∙ more-here parts part
                  ∙ ap (λ o. Some (row_after_put o collection part time)) (ap (made_of parts) same ∙ rows.0)
                  ∙ sym (ap Some (is entry.1 refl)),
              others-more parts part made (apart-keys made (subst (λ id. Each (λ (other : List ℕ). bytes_eq id other ≡ false) (keys_of made)) (sym same) distinct.0)) rows.1,
            ))
        | false ↦ (λ e is none. (more-elsewhere parts part entry.0 e ∙ rows.0, rows-insert parts part made row distinct.1 rows.1 is none))
      ] refl there new
    where
      apart-keys : (others : List (List ℕ × Row)) → Each (λ (other : List ℕ). bytes_eq part.id other ≡ false) (keys_of others) → Each (λ (one : List ℕ × Row). bytes_eq part.id one.0 ≡ false) others
      apart-keys [] h = tt
      apart-keys (one ∷ others) h = (h.0, apart-keys others h.1)

  -- an id that no row is under is that of no part
  not-among : (id : List ℕ) (made : List (List ℕ × Row)) → lookup (bytes_eq id) made ≡ None → is_among (keys_of made) id ≡ false
  not-among id [] e = refl
  not-among id (entry ∷ made) e =
      elim (bytes_eq id entry.0) as (λ v. bytes_eq id entry.0 ≡ v → cond v (Some entry.1) (lookup (bytes_eq id) made) ≡ None → (bytes_eq entry.0 id || is_among (keys_of made) id) ≡ false) [
        | true ↦ (λ t h. cc)
        | false ↦ (λ t h. ap (λ b. b || is_among (keys_of made) id) (bytes_eq-sym entry.0 id ∙ t) ∙ not-among id made h)
      ] refl e

  no-parts : (parts : List Part) (id : List ℕ) → is_among (ids_of parts) id ≡ false → parts_of id parts ≡ []
  no-parts parts id e = none_named id parts (sym (among-once id (map (λ part. part.id) parts)) ∙ e)

  distinct-ids : (parts : List Part) → Pairs (λ (one other : List ℕ). bytes_eq one other ≡ false) (ids_of parts)
  distinct-ids parts = turned (ids_of parts) (once_by-distinct (λ (id : List ℕ). id) (map (λ part. part.id) parts))
    where
      turned : (ids : List (List ℕ)) → Pairs (λ (one other : List ℕ). bytes_eq other one ≡ false) ids → Pairs (λ (one other : List ℕ). bytes_eq one other ≡ false) ids
      turned [] h = tt
      turned (id ∷ ids) h = (Each-imp (λ (other : List ℕ). bytes_eq other id ≡ false) (λ (other : List ℕ). bytes_eq id other ≡ false) (λ other e. bytes_eq-flip other id e) ids h.0, turned ids h.1)

  -- one part more
  made-step : (parts : List Part) (part : Part) (made : List (List ℕ × Row)) → AreMade parts made → AreMade (parts ++ part ∷ []) (with_row collection old time made part)
  made-step parts part made are =
      let row : Row = row_after_put (or_else (lookup (bytes_eq part.id) made) (old part.id)) collection part time in
      record {
        ids = keys-insert made part.id row ∙ ap (λ ids. with_id ids part.id) are.ids ∙ sym (ids-more parts part (ids_of parts) (is_among (ids_of parts) part.id) refl refl);
        rows = rows-insert parts part made row (subst (Pairs (λ (one other : List ℕ). bytes_eq one other ≡ false)) (sym are.ids) (distinct-ids parts)) are.rows
            (λ found e. ap (λ o. row_after_put (or_else o (old part.id)) collection part time) e)
            (λ e.
            ap (λ o. row_after_put (or_else o (old part.id)) collection part time) e
            ∙ ap (λ o. row_after_put o collection part time)
            (sym (ap (λ ps. put_all collection ps time (old part.id)) (no-parts parts part.id (ap (λ ids. is_among ids part.id) (sym are.ids) ∙ not-among part.id made e)))));
      }

  made-fold : (past parts : List Part) (made : List (List ℕ × Row)) → AreMade past made → AreMade (past ++ parts) (fold (with_row collection old time) made parts)
  made-fold past [] made are = subst (λ ps. AreMade ps made) (sym (append-nil past)) are
  made-fold past (part ∷ parts) made are =
      subst (λ ps. AreMade ps (fold (with_row collection old time) made (part ∷ parts))) (append-cons past part parts)
      (made-fold (past ++ part ∷ []) parts (with_row collection old time made part) (made-step past part made are))
    where
      append-cons : (xs : List Part) (y : Part) (ys : List Part) → (xs ++ y ∷ []) ++ ys ≡ xs ++ y ∷ ys
      append-cons [] y ys = refl
      append-cons (x ∷ xs) y ys = ap (λ rest. x ∷ rest) (append-cons xs y ys)

  -- the rows alone, in the order of the ids
  rows-alone : (make : List ℕ → Option Row) (made : List (List ℕ × Row)) → Each (λ (entry : List ℕ × Row). make entry.0 ≡ Some entry.1) made → map (λ (entry : List ℕ × Row). entry.1) made ≡ filter_map make (keys_of made)
  rows-alone make [] rows = refl
  rows-alone make (entry ∷ made) rows = ap (λ rest. entry.1 ∷ rest) (rows-alone make made rows.1) ∙ sym (ap (λ o. cons_option o (filter_map make (keys_of made))) rows.0)

  pub rows-made : (first more : List Part) → map (λ (entry : List ℕ × Row). entry.1) (fold (with_row collection old time) (fold (with_row collection old time) [] first) more) ≡ filter_map (made_of (first ++ more)) (ids_of (first ++ more))
  rows-made first more =
      let are = made-fold [] (first ++ more) [] (record { ids = refl; rows = tt }) in
      ap (map (λ (entry : List ℕ × Row). entry.1)) (sym (fold-append (with_row collection old time) first more []))
      ∙ rows-alone (made_of (first ++ more)) (fold (with_row collection old time) [] (first ++ more)) are.rows
      ∙ ap (filter_map (made_of (first ++ more))) are.ids

-- ids stay apart with one more that isn't among them
pub apart-with : (ids : List (List ℕ)) (id : List ℕ) → Pairs OtherText ids → Pairs OtherText (with_id ids id)
apart-with ids id e =
    elim (is_among ids id) as (λ v. is_among ids id ≡ v → Pairs OtherText (cond v ids (ids ++ id ∷ []))) [
      | true ↦ (λ _. e)
      | false ↦ (λ none. Pairs-append OtherText ids (id ∷ []) e (tt, tt) (others ids none))
    ] refl
  where
    left : (p q : Bool) → (p || q) ≡ false → p ≡ false
    left true q h = cc
    left false q h = refl

    right : (p q : Bool) → (p || q) ≡ false → q ≡ false
    right true q h = cc
    right false q h = h

    others : (xs : List (List ℕ)) → is_among xs id ≡ false → Each (λ (x : List ℕ). Each (OtherText x) (id ∷ [])) xs
    others [] none = tt
    others (x ∷ xs) none = ((bytes_eq-flip x id (left (bytes_eq x id) (is_among xs id) none), tt), others xs (right (bytes_eq x id) (is_among xs id) none))

pub length-with : (ids : List (List ℕ)) (id : List ℕ) → length (with_id ids id) ≤ length ids + 1
length-with ids id = elim (is_among ids id) as (λ v. length (cond v ids (ids ++ id ∷ [])) ≤ length ids + 1) [ true ↦ omega arith | false ↦ (let one : length (ids ++ id ∷ []) ≡ length ids + 1 = length-append ids (id ∷ []) in omega (arith, one)) ]

-- the ids of parts are apart
pub ids-apart : (parts : List Part) → Pairs OtherText (ids_of parts)
ids-apart parts = once_by-distinct (λ (id : List ℕ). id) (map (λ part. part.id) parts)

-- one more of those that are found
pub found-more : (old : List ℕ → Option Row) (ids : List (List ℕ)) (k : ℕ) (id : List ℕ) → k < length ids → id ≡ get_or ids k id
    → filter_map old (take (k + 1) ids) ≡ filter_map old (take k ids) ++ option_to_list (old id)
found-more old ids k id lt at = ap (filter_map old) (take_more ids k id lt ∙ ap (λ x. take k ids ++ x ∷ []) (sym at)) ∙ found (take k ids)
  where
    one : (o : Option Row) → cons_option o [] ≡ option_to_list o
    one None = refl
    one (Some row) = refl

    front : (o : Option Row) (rows more : List Row) → cons_option o (rows ++ more) ≡ cons_option o rows ++ more
    front None rows more = refl
    front (Some row) rows more = refl

    found : (past : List (List ℕ)) → filter_map old (past ++ id ∷ []) ≡ filter_map old past ++ option_to_list (old id)
    found [] = one (old id)
    found (x ∷ past) = ap (cons_option (old x)) (found past) ∙ front (old x) (filter_map old past) (option_to_list (old id))
