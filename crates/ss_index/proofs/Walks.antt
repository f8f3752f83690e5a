-- The steps of a walk from the back, and from the front.
use Rattle.std.specs.Prelude.{◌≡◌, ◌⊎◌, ℕ, ◌+◌, ◌-◌, ◌≤◌, ◌<◌, nat_lt, Bool, true, false, ◌&&◌, cond, List, [], ◌∷◌}
use Rattle.std.specs.Prelude.{◌++◌, length, filter, reverse, count_by, slice_get, Option, Some, None, nat_eq, refl}
use Rattle.std.proofs.Common.{sym, ap, subst, inl, inr, ◌∙◌, arith, eq-eqb, append_assoc, append-nil, length-append}
use Rattle.std.proofs.lemmas.Bool.Decides.{Decides-ltb}
use Rattle.std.proofs.lemmas.List.{reverse-append}
use Rattle.std.proofs.lemmas.List.Elements.{filter-append}
use Rattle.std.proofs.lemmas.List.Sums.{sum_by-cons, sum_by-append}
use Rattle.std.specs.Map.{lookup, keys_of, values_of}
use Rattle.std.specs.Option.{option_map_or}
use Rattle.ss_bso.specs.declared.rows.Row.{Row}
use Rattle.ss_bso.specs.Write.{is_among}
use Rattle.ss_query.specs.declared.requests.Query.{Query}
use Rattle.ss_query.specs.Answer.{is_asked}
use Rattle.ss_list.specs.Chain.{Chain, times, places, value_of, first_of, last_of, IsWhole, IsBefore, IsAfter}
use Rattle.ss_index.specs.Layout.{NoLater}
use Rattle.ss_index.specs.Walk.{is_above, is_past, Ahead, Earlier, Enough, Later, WalkView}
use Rattle.ss_bso.proofs.Lists.{Each, Each-append, Each-filter, Each-imp, Pairs}

-- ---- lists of nodes

pub keys-append : (xs ys : List (ℕ × Row)) → keys_of (xs ++ ys) ≡ keys_of xs ++ keys_of ys
keys-append [] ys = refl
keys-append (x ∷ xs) ys = ap (λ rest. x.0 ∷ rest) (keys-append xs ys)

pub values-append : (xs ys : List (ℕ × Row)) → values_of (xs ++ ys) ≡ values_of xs ++ values_of ys
values-append [] ys = refl
values-append (x ∷ xs) ys = ap (λ rest. x.1 ∷ rest) (values-append xs ys)

pub last_of-push : (ps : List ℕ) (p : ℕ) → last_of (ps ++ p ∷ []) ≡ Some p
last_of-push ps p =
    let size : length (ps ++ p ∷ []) - 1 ≡ length ps = omega (arith, length-append ps (p ∷ [])) in
    ap (λ n. slice_get (ps ++ p ∷ []) n) size ∙ at_end ps
  where
    at_end : (qs : List ℕ) → slice_get (qs ++ p ∷ []) (length qs) ≡ Some p
    at_end [] = refl
    at_end (q ∷ qs) = at_end qs

-- a list is empty or has a last element
pub record Ends {X : Type 0} (xs : List X) : Type 0 where
  pub front : List X
  pub last : X
  pub split : xs ≡ front ++ last ∷ []

ends : {X : Type 0} (x : X) (xs : List X) → Ends (x ∷ xs)
ends x [] = record { front = []; last = x; split = refl }
ends x (y ∷ ys) = let rest = ends y ys in record { front = x ∷ rest.front; last = rest.last; split = ap (λ l. x ∷ l) rest.split }

pub empty_or_ends : {X : Type 0} (xs : List X) → (xs ≡ []) ⊎ Ends xs
empty_or_ends [] = inl refl
empty_or_ends (x ∷ xs) = inr (ends x xs)

-- ---- places that stand once

lookup_once : (p : ℕ) (row : Row) (front after : List (ℕ × Row)) → times p (keys_of (front ++ (p, row) ∷ after)) ≤ 1 → lookup (nat_eq p) (front ++ (p, row) ∷ after) ≡ Some row
lookup_once p row [] after once = ap (λ v. cond v (Some row) (lookup (nat_eq p) after)) (eq-eqb p p refl)
lookup_once p row (node ∷ front) after once =
    let rest : List (ℕ × Row) = front ++ (p, row) ∷ after in
    let size : times p (node.0 ∷ keys_of rest) ≡ cond (nat_eq p node.0) 1 0 + times p (keys_of rest) = sum_by-cons (λ x. cond (nat_eq p x) 1 0) node.0 (keys_of rest) in
    elim (nat_eq p node.0) as (λ v. times p (node.0 ∷ keys_of rest) ≡ cond v 1 0 + times p (keys_of rest) → cond v (Some node.1) (lookup (nat_eq p) rest) ≡ Some row) [
      | true ↦ (λ s. let there : 1 ≤ times p (keys_of rest) = there_once front in absurd (omega arith))
      | false ↦ (λ s. lookup_once p row front after (omega arith))
    ] size
  where
    there_once : (ns : List (ℕ × Row)) → 1 ≤ times p (keys_of (ns ++ (p, row) ∷ after))
    there_once [] = let e : ◌≡◌ {A = ℕ} (cond (nat_eq p p) 1 0) 1 = ap (λ v. cond v 1 0) (eq-eqb p p refl) in omega (arith, e, sum_by-cons (λ x. cond (nat_eq p x) 1 0) p (keys_of after))
    there_once (n ∷ ns) = omega (arith, there_once ns, sum_by-cons (λ x. cond (nat_eq p x) 1 0) n.0 (keys_of (ns ++ (p, row) ∷ after)))

once_in : (c : Chain Row) → IsWhole c → (p : ℕ) → times p (places c) ≤ 1
once_in c whole p = below (nat_lt p (length c.nodes + length c.free)) (whole p)
  where
    below : (b : Bool) → times p (places c) + times p c.free ≡ cond b 1 0 → times p (places c) ≤ 1
    below true e = omega arith
    below false e = omega arith

-- ---- what a query asks for is above its bound

not_asked : (query : Query) (row : Row) → is_above query.newer row ≡ false → is_asked query row ≡ false
not_asked query row e = middle_false (option_map_or (λ ids. is_among ids row.id) query.ids true) (is_above query.newer row) (option_map_or (λ time. nat_lt row.modified time) query.older true) e
  where
    middle_false : (a b c : Bool) → b ≡ false → (a && b && c) ≡ false
    middle_false true b c e = ap (λ v. v && c) e
    middle_false false b c e = refl

none_asked : (query : Query) (rows : List Row) → Each (λ (row : Row). is_above query.newer row ≡ false) rows → filter (is_asked query) rows ≡ []
none_asked query [] e = refl
none_asked query (row ∷ rows) e = ap (λ v. cond v (row ∷ filter (is_asked query) rows) (filter (is_asked query) rows)) (not_asked query row e.0) ∙ none_asked query rows e.1

earlier_not_above : (newer : Option ℕ) (row other : Row) → other.modified ≤ row.modified → is_above newer row ≡ false → is_above newer other ≡ false
earlier_not_above None row other le e = cc
earlier_not_above (Some time) row other le e =
    elim (nat_lt time other.modified) as (λ v. nat_lt time other.modified ≡ v → v ≡ false) [
      | true ↦ (λ t.
          let less : time < other.modified = (Decides-ltb time other.modified).0 t in
          sym ((Decides-ltb time row.modified).1 (omega arith)) ∙ e)
      | false ↦ (λ t. refl)
    ] refl

Each-reverse : {X : Type 0} (P : X → Type 0) (xs : List X) → Each P xs → Each P (reverse xs)
Each-reverse P [] e = tt
Each-reverse P (x ∷ xs) e = subst (λ l. Each P l) (sym (reverse-append (x ∷ []) xs)) (Each-append P (reverse xs) (x ∷ []) (Each-reverse P xs e.1) (e.0, tt))

pub Each-values : (P : Row → Type 0) (nodes : List (ℕ × Row)) → Each (λ (node : ℕ × Row). P node.1) nodes → Each P (values_of nodes)
Each-values P [] e = tt
Each-values P (node ∷ nodes) e = (e.0, Each-values P nodes e.1)

-- rows that stand before another are no later
pub no_later : (p : ℕ) (row : Row) (front after : List (ℕ × Row)) → Pairs NoLater (values_of (front ++ (p, row) ∷ after)) → Each (λ (node : ℕ × Row). node.1.modified ≤ row.modified) front
no_later p row [] after e = tt
no_later p row (node ∷ front) after e = (first front e.0, no_later p row front after e.1)
  where
    first : (ns : List (ℕ × Row)) → Each (NoLater node.1) (values_of (ns ++ (p, row) ∷ after)) → node.1.modified ≤ row.modified
    first [] h = h.0
    first (n ∷ ns) h = first ns h.1

-- rows that stand after another are no earlier
later_ones : (p : ℕ) (row : Row) (front after : List (ℕ × Row)) → Pairs NoLater (values_of (front ++ (p, row) ∷ after)) → Each (λ (node : ℕ × Row). row.modified ≤ node.1.modified) after
later_ones p row [] after e = nodes after e.0
  where
    nodes : (ns : List (ℕ × Row)) → Each (NoLater row) (values_of ns) → Each (λ (node : ℕ × Row). row.modified ≤ node.1.modified) ns
    nodes [] h = tt
    nodes (n ∷ ns) h = (h.0, nodes ns h.1)
later_ones p row (node ∷ front) after e = later_ones p row front after e.1

-- ---- the walk

pub walk_begun : (query : Query) (nodes : List (ℕ × Row)) (at : Option ℕ) → at ≡ last_of (keys_of nodes) → WalkView query nodes at 0 [] 0
walk_begun query nodes at e = record { before = nodes; after = []; split = sym (append-nil nodes); at_is = e; above = tt; later = tt; rows = refl; count = refl }

module _ {query : Query} (c : Chain Row) {time : ℕ} {found : List Row} {passed : ℕ} (whole : IsWhole c) where
  -- the node where the walk stands
  stands : (here : ℕ) (row : Row) (w : WalkView query c.nodes (Some here) time found passed) → value_of c here ≡ Some row → (front : List (ℕ × Row)) × (w.before ≡ front ++ (here, row) ∷ [])
  stands here row w v =
      elim (empty_or_ends w.before) [
        | inl none ↦ (let clash : Some here ≡ None = w.at_is ∙ ap (λ l. last_of (keys_of l)) none in cc)
        | inr e ↦
            let at : Some here ≡ Some e.last.0 = w.at_is ∙ ap (λ l. last_of (keys_of l)) e.split ∙ ap last_of (keys-append e.front (e.last ∷ [])) ∙ last_of-push (keys_of e.front) e.last.0 in
            let same : here ≡ e.last.0 = cc in
            let whole_list : c.nodes ≡ e.front ++ e.last ∷ w.after = w.split ∙ ap (λ l. l ++ w.after) e.split ∙ append_assoc e.front (e.last ∷ []) w.after in
            let found_there : lookup (nat_eq e.last.0) (e.front ++ e.last ∷ w.after) ≡ Some e.last.1 =
            lookup_once e.last.0 e.last.1 e.front w.after (subst (λ l. times e.last.0 (keys_of l) ≤ 1) whole_list (once_in c whole e.last.0)) in
            let value : Some row ≡ Some e.last.1 = sym v ∙ ap (λ p. lookup (nat_eq p) c.nodes) same ∙ ap (λ l. lookup (nat_eq e.last.0) l) whole_list ∙ found_there in
            let same_row : row ≡ e.last.1 = cc in
            (e.front, e.split ∙ (λ i. e.front ++ (sym same i, sym same_row i) ∷ []))
      ]

  pub walk_on : (here : ℕ) (row : Row) (next : Option ℕ) (more : List Row) → WalkView query c.nodes (Some here) time found passed → value_of c here ≡ Some row → is_above query.newer row ≡ true
      → IsBefore (places c) here next → more ≡ found ++ filter (is_asked query) (row ∷ []) → Pairs NoLater (values_of c.nodes) → WalkView query c.nodes next row.modified more (passed + 1)
  walk_on here row next more w v above prev noted in_time =
      let s = stands here row w v in
      let whole_list : c.nodes ≡ s.0 ++ (here, row) ∷ w.after = w.split ∙ ap (λ l. l ++ w.after) s.1 ∙ append_assoc s.0 ((here, row) ∷ []) w.after in
      record {
        before = s.0;
        after = (here, row) ∷ w.after;
        split = whole_list;
        at_is = prev (keys_of s.0) (keys_of w.after) (ap (λ l. keys_of l) whole_list ∙ keys-append s.0 ((here, row) ∷ w.after));
        above = (above, w.above);
        later = ((omega arith), later_ones here row s.0 w.after (subst (λ l. Pairs NoLater (values_of l)) whole_list in_time));
        rows = noted ∙ ap (λ l. l ++ filter (is_asked query) (row ∷ [])) w.rows ∙ sym (filter-append (is_asked query) (reverse (values_of w.after)) (row ∷ []))
            ∙ ap (λ l. filter (is_asked query) l) (sym (reverse-append (row ∷ []) (values_of w.after)));
        count = omega (arith, w.count);
      }

module _ {query : Query} {nodes : List (ℕ × Row)} {at : Option ℕ} {time : ℕ} {found : List Row} {passed : ℕ} (w : WalkView query nodes at time found passed) where
  -- nothing before is above
  pub walk_rows : Each (λ (node : ℕ × Row). is_above query.newer node.1 ≡ false) w.before → found ≡ filter (is_asked query) (reverse (values_of nodes))
  walk_rows below =
      let cut : reverse (values_of nodes) ≡ reverse (values_of w.after) ++ reverse (values_of w.before) =
      ap (λ l. reverse (values_of l)) w.split ∙ ap reverse (values-append w.before w.after) ∙ reverse-append (values_of w.before) (values_of w.after) in
      let none : filter (is_asked query) (reverse (values_of w.before)) ≡ [] =
      none_asked query (reverse (values_of w.before)) (Each-reverse (λ (row : Row). is_above query.newer row ≡ false) (values_of w.before) (Each-values (λ (row : Row). is_above query.newer row ≡ false) w.before below)) in
      w.rows ∙ sym (append-nil (filter (is_asked query) (reverse (values_of w.after))))
      ∙ ap (λ l. filter (is_asked query) (reverse (values_of w.after)) ++ l) (sym none)
      ∙ sym (filter-append (is_asked query) (reverse (values_of w.after)) (reverse (values_of w.before)))
      ∙ ap (λ l. filter (is_asked query) l) (sym cut)

  pub walk_count : passed ≤ count_by (is_above query.newer) (values_of nodes)
  walk_count =
      omega (
        arith,
        w.count,
        all_above w.after w.above,
        sum_by-append (λ x. cond (is_above query.newer x) 1 0) (values_of w.before) (values_of w.after),
        ap (λ l. count_by (is_above query.newer) (values_of l)) w.split,
        ap (λ l. count_by (is_above query.newer) l) (values-append w.before w.after),
      )
    where
      all_above : (ns : List (ℕ × Row)) → Each (λ (node : ℕ × Row). is_above query.newer node.1 ≡ true) ns → length ns ≤ count_by (is_above query.newer) (values_of ns)
      all_above [] e = omega arith
      all_above (n ∷ ns) e =
          let one : ◌≡◌ {A = ℕ} (cond (is_above query.newer n.1) 1 0) 1 = ap (λ v. cond v 1 0) e.0 in
          omega (arith, one, all_above ns e.1, sum_by-cons (λ x. cond (is_above query.newer x) 1 0) n.1 (values_of ns))

-- three ways to end: at the front, where the count says so, and at a row that is not above
pub walk_front : {query : Query} {nodes : List (ℕ × Row)} {time : ℕ} {found : List Row} {passed : ℕ} (w : WalkView query nodes None time found passed) → found ≡ filter (is_asked query) (reverse (values_of nodes))
walk_front {query} w =
    elim (empty_or_ends w.before) [
      | inl none ↦ walk_rows w (subst (λ l. Each (λ (node : ℕ × Row). is_above query.newer node.1 ≡ false) l) (sym none) tt)
      | inr e ↦ (
          let at : None ≡ Some e.last.0 = w.at_is ∙ ap (λ l. last_of (keys_of l)) e.split ∙ ap last_of (keys-append e.front (e.last ∷ [])) ∙ last_of-push (keys_of e.front) e.last.0 in
          cc)
    ]

pub walk_all : {query : Query} {nodes : List (ℕ × Row)} {at : Option ℕ} {time : ℕ} {found : List Row} {passed : ℕ} (w : WalkView query nodes at time found passed) → passed ≡ length nodes → found ≡ filter (is_asked query) (reverse (values_of nodes))
walk_all {query} {nodes} w e =
    elim (empty_or_ends w.before) [
      | inl none ↦ walk_rows w (subst (λ l. Each (λ (node : ℕ × Row). is_above query.newer node.1 ≡ false) l) (sym none) tt)
      | inr s ↦ absurd (omega (arith, w.count, ap length w.split, length-append w.before w.after, ap length s.split, length-append s.front (s.last ∷ [])))
    ]

pub walk_below : {query : Query} (c : Chain Row) {time : ℕ} {found : List Row} {passed : ℕ} (whole : IsWhole c) (here : ℕ) (row : Row) (w : WalkView query c.nodes (Some here) time found passed) → value_of c here ≡ Some row
    → is_above query.newer row ≡ false → Pairs NoLater (values_of c.nodes) → found ≡ filter (is_asked query) (reverse (values_of c.nodes))
walk_below {query} c whole here row w v below in_time =
    let s = stands c whole here row w v in
    let whole_list : c.nodes ≡ s.0 ++ (here, row) ∷ w.after = w.split ∙ ap (λ l. l ++ w.after) s.1 ∙ append_assoc s.0 ((here, row) ∷ []) w.after in
    let no_later_ones = no_later here row s.0 w.after (subst (λ l. Pairs NoLater (values_of l)) whole_list in_time) in
    let front_below : Each (λ (node : ℕ × Row). is_above query.newer node.1 ≡ false) s.0 =
    Each-imp (λ (node : ℕ × Row). node.1.modified ≤ row.modified) (λ (node : ℕ × Row). is_above query.newer node.1 ≡ false) (λ node le. earlier_not_above query.newer row node.1 le below) s.0 no_later_ones in
    walk_rows w (subst (λ l. Each (λ (node : ℕ × Row). is_above query.newer node.1 ≡ false) l) (sym s.1)
    (Each-append (λ (node : ℕ × Row). is_above query.newer node.1 ≡ false) s.0 ((here, row) ∷ []) front_below (below, tt)))

-- all rows are enough
pub enough_whole : {R : Row → Row → Type 0} {end : Option ℕ} {all found : List Row} → found ≡ all → Enough R end all found
enough_whole {R} {end} {all} {found} e = record { rest = []; split = sym e ∙ sym (append-nil found); cut = inl refl }

-- a fourth way: past the page's end, at a row of an earlier time
pub walk_past : {query : Query} (c : Chain Row) {time : ℕ} {found : List Row} {passed : ℕ} (whole : IsWhole c) (end : Option ℕ) (here : ℕ) (row : Row) (w : WalkView query c.nodes (Some here) time found passed) → value_of c here ≡ Some row
    → row.modified < time → is_past end (length found) ≡ true → Pairs NoLater (values_of c.nodes) → Enough Later end (filter (is_asked query) (reverse (values_of c.nodes))) found
walk_past {query} c {time} {found} whole end here row w v sooner past in_time =
    let s = stands c whole here row w v in
    let whole_list : c.nodes ≡ s.0 ++ (here, row) ∷ w.after = w.split ∙ ap (λ l. l ++ w.after) s.1 ∙ append_assoc s.0 ((here, row) ∷ []) w.after in
    let Sooner : Row → Type 0 = λ other. other.modified < time in
    let front : Each (λ (node : ℕ × Row). Sooner node.1) s.0 =
    Each-imp (λ (node : ℕ × Row). node.1.modified ≤ row.modified) (λ (node : ℕ × Row). Sooner node.1) (λ node le. omega (arith, le, sooner)) s.0
    (no_later here row s.0 w.after (subst (λ l. Pairs NoLater (values_of l)) whole_list in_time)) in
    let before : Each (λ (node : ℕ × Row). Sooner node.1) w.before =
    subst (λ l. Each (λ (node : ℕ × Row). Sooner node.1) l) (sym s.1) (Each-append (λ (node : ℕ × Row). Sooner node.1) s.0 ((here, row) ∷ []) front (sooner, tt)) in
    let rest : List Row = filter (is_asked query) (reverse (values_of w.before)) in
    let rest_sooner : Each Sooner rest = Each-filter Sooner (is_asked query) (reverse (values_of w.before)) (Each-reverse Sooner (values_of w.before) (Each-values Sooner w.before before)) in
    let found_later : Each (λ (x : Row). time ≤ x.modified) found =
    subst (λ l. Each (λ (x : Row). time ≤ x.modified) l) (sym w.rows)
    (Each-filter (λ (x : Row). time ≤ x.modified) (is_asked query) (reverse (values_of w.after)) (Each-reverse (λ (x : Row). time ≤ x.modified) (values_of w.after) (Each-values (λ (x : Row). time ≤ x.modified) w.after w.later))) in
    let cut : reverse (values_of c.nodes) ≡ reverse (values_of w.after) ++ reverse (values_of w.before) =
    ap (λ l. reverse (values_of l)) w.split ∙ ap reverse (values-append w.before w.after) ∙ reverse-append (values_of w.before) (values_of w.after) in
    record {
      rest = rest;
      split = ap (filter (is_asked query)) cut ∙ filter-append (is_asked query) (reverse (values_of w.after)) (reverse (values_of w.before)) ∙ ap (λ l. l ++ rest) (sym w.rows);
      cut = inr (past, Each-imp (λ (x : Row). time ≤ x.modified) (λ (x : Row). Each (Later x) rest) (λ x le. Each-imp Sooner (Later x) (λ y lt. omega (arith, le, lt)) rest rest_sooner) found found_later);
    }

-- ---- the walk from the front

pub ahead_begun : (query : Query) (nodes : List (ℕ × Row)) (at : Option ℕ) (time : ℕ) → at ≡ first_of (keys_of nodes) → Ahead query nodes at time [] 0
ahead_begun query nodes at time e = record { before = []; after = nodes; split = refl; at_is = e; sooner = tt; rows = refl; count = refl }

module _ {query : Query} (c : Chain Row) {time : ℕ} {found : List Row} {passed : ℕ} (whole : IsWhole c) where
  -- the node where the walk stands
  stands_ahead : (here : ℕ) (row : Row) (w : Ahead query c.nodes (Some here) time found passed) → value_of c here ≡ Some row → (after : List (ℕ × Row)) × (w.after ≡ (here, row) ∷ after)
  stands_ahead here row w v = by w.after w.at_is w.split
    where
      by : (after : List (ℕ × Row)) → Some here ≡ first_of (keys_of after) → c.nodes ≡ w.before ++ after → (rest : List (ℕ × Row)) × (after ≡ (here, row) ∷ rest)
      by [] e split = cc
      by (node ∷ after) e split =
          let same : here ≡ node.0 = cc in
          let found_there : lookup (nat_eq node.0) (w.before ++ node ∷ after) ≡ Some node.1 =
          lookup_once node.0 node.1 w.before after (subst (λ l. times node.0 (keys_of l) ≤ 1) split (once_in c whole node.0)) in
          let value : Some row ≡ Some node.1 = sym v ∙ ap (λ p. lookup (nat_eq p) c.nodes) same ∙ ap (λ l. lookup (nat_eq node.0) l) split ∙ found_there in
          let same_row : row ≡ node.1 = cc in
          (after, (λ i. (sym same i, sym same_row i) ∷ after))

  pub ahead_on : (here : ℕ) (row : Row) (next : Option ℕ) (more : List Row) → Ahead query c.nodes (Some here) time found passed → value_of c here ≡ Some row
      → IsAfter (places c) here next → more ≡ found ++ filter (is_asked query) (row ∷ []) → Pairs NoLater (values_of c.nodes) → Ahead query c.nodes next row.modified more (passed + 1)
  ahead_on here row next more w v after noted in_time =
      let s = stands_ahead here row w v in
      let whole_list : c.nodes ≡ w.before ++ (here, row) ∷ s.0 = w.split ∙ ap (λ l. w.before ++ l) s.1 in
      record {
        before = w.before ++ (here, row) ∷ [];
        after = s.0;
        split = whole_list ∙ sym (append_assoc w.before ((here, row) ∷ []) s.0);
        at_is = after (keys_of w.before) (keys_of s.0) (ap (λ l. keys_of l) whole_list ∙ keys-append w.before ((here, row) ∷ s.0));
        sooner = Each-append (λ (node : ℕ × Row). node.1.modified ≤ row.modified) w.before ((here, row) ∷ []) (no_later here row w.before s.0 (subst (λ l. Pairs NoLater (values_of l)) whole_list in_time)) ((omega arith), tt);
        rows = noted ∙ ap (λ l. l ++ filter (is_asked query) (row ∷ [])) w.rows ∙ sym (filter-append (is_asked query) (values_of w.before) (row ∷ []))
            ∙ ap (filter (is_asked query)) (sym (values-append w.before ((here, row) ∷ [])));
        count = omega (arith, w.count, length-append w.before ((here, row) ∷ []));
      }

  -- past the page's end, at a row of a later time
  pub ahead_past : (end : Option ℕ) (here : ℕ) (row : Row) (w : Ahead query c.nodes (Some here) time found passed) → value_of c here ≡ Some row
      → time < row.modified → is_past end (length found) ≡ true → Pairs NoLater (values_of c.nodes) → Enough Earlier end (filter (is_asked query) (values_of c.nodes)) found
  ahead_past end here row w v later past in_time =
      let s = stands_ahead here row w v in
      let whole_list : c.nodes ≡ w.before ++ (here, row) ∷ s.0 = w.split ∙ ap (λ l. w.before ++ l) s.1 in
      let After : Row → Type 0 = λ other. time < other.modified in
      let behind : Each (λ (node : ℕ × Row). After node.1) s.0 =
      Each-imp (λ (node : ℕ × Row). row.modified ≤ node.1.modified) (λ (node : ℕ × Row). After node.1) (λ node le. omega (arith, le, later)) s.0
      (later_ones here row w.before s.0 (subst (λ l. Pairs NoLater (values_of l)) whole_list in_time)) in
      let after : Each (λ (node : ℕ × Row). After node.1) w.after = subst (λ l. Each (λ (node : ℕ × Row). After node.1) l) (sym s.1) (later, behind) in
      let rest : List Row = filter (is_asked query) (values_of w.after) in
      let rest_after : Each After rest = Each-filter After (is_asked query) (values_of w.after) (Each-values After w.after after) in
      let found_sooner : Each (λ (x : Row). x.modified ≤ time) found =
      subst (λ l. Each (λ (x : Row). x.modified ≤ time) l) (sym w.rows) (Each-filter (λ (x : Row). x.modified ≤ time) (is_asked query) (values_of w.before) (Each-values (λ (x : Row). x.modified ≤ time) w.before w.sooner)) in
      record {
        rest = rest;
        split = ap (λ l. filter (is_asked query) (values_of l)) w.split ∙ ap (filter (is_asked query)) (values-append w.before w.after) ∙ filter-append (is_asked query) (values_of w.before) (values_of w.after) ∙ ap (λ l. l ++ rest) (sym w.rows);
        cut = inr (past, Each-imp (λ (x : Row). x.modified ≤ time) (λ (x : Row). Each (Earlier x) rest) (λ x le. Each-imp After (Earlier x) (λ y lt. omega (arith, le, lt)) rest rest_after) found found_sooner);
      }

-- the back is reached: by the links, or by the count
ahead_whole : {query : Query} {nodes : List (ℕ × Row)} {at : Option ℕ} {time : ℕ} {found : List Row} {passed : ℕ} (w : Ahead query nodes at time found passed) → w.after ≡ [] → found ≡ filter (is_asked query) (values_of nodes)
ahead_whole {query} w none = w.rows ∙ ap (λ l. filter (is_asked query) (values_of l)) (sym (append-nil w.before) ∙ ap (λ l. w.before ++ l) (sym none) ∙ sym w.split)

pub ahead_back : {query : Query} {nodes : List (ℕ × Row)} {time : ℕ} {found : List Row} {passed : ℕ} (w : Ahead query nodes None time found passed) → found ≡ filter (is_asked query) (values_of nodes)
ahead_back w = ahead_whole w (none w.after w.at_is)
  where
    none : (ns : List (ℕ × Row)) → None ≡ first_of (keys_of ns) → ns ≡ []
    none [] e = refl
    none (n ∷ ns) e = cc

pub ahead_all : {query : Query} {nodes : List (ℕ × Row)} {at : Option ℕ} {time : ℕ} {found : List Row} {passed : ℕ} (w : Ahead query nodes at time found passed) → passed ≡ length nodes → found ≡ filter (is_asked query) (values_of nodes)
ahead_all {query} {nodes} w e = ahead_whole w (none w.after (omega (arith, e, w.count, ap length w.split, length-append w.before w.after)))
  where
    none : (ns : List (ℕ × Row)) → length ns ≡ 0 → ns ≡ []
    none [] e = refl
    none (n ∷ ns) e = cc

-- where there is no bound all rows are above it
pub ahead_count : {query : Query} {nodes : List (ℕ × Row)} {at : Option ℕ} {time : ℕ} {found : List Row} {passed : ℕ} (w : Ahead query nodes at time found passed) → query.newer ≡ None → passed ≤ count_by (is_above query.newer) (values_of nodes)
ahead_count {query} {nodes} w none =
    omega (arith, w.count, ap length w.split, length-append w.before w.after, each_above nodes)
  where
    each_above : (ns : List (ℕ × Row)) → length ns ≤ count_by (is_above query.newer) (values_of ns)
    each_above [] = omega arith
    each_above (n ∷ ns) =
        let one : ◌≡◌ {A = ℕ} (cond (is_above query.newer n.1) 1 0) 1 = ap (λ o. cond (is_above o n.1) 1 0) none in
        omega (arith, one, each_above ns, sum_by-cons (λ x. cond (is_above query.newer x) 1 0) n.1 (values_of ns))
