-- What a drawer's map and chain say of its rows, and how they stay together.
use Rattle.std.specs.Prelude.{◌≡◌, ◌≢◌, ℕ, ◌+◌, ◌-◌, ◌≤◌, Bool, true, false, not, cond, List, [], ◌∷◌, ◌++◌, length}
use Rattle.std.specs.Prelude.{Option, Some, None, IsSomeAnd, find, bytes_eq, nat_eq, drop, refl}
use Rattle.std.proofs.Common.{sym, ap, subst, ◌∙◌, arith, eq-eqb}
use Rattle.std.proofs.lemmas.List.Sums.{sum_by-cons, sum_by_push}
use Rattle.std.specs.Map.{lookup, remove_entry, keys_of, values_of}
use Rattle.ss_bso.specs.declared.rows.Row.{Row}
use Rattle.ss_bso.specs.Limits.{row_bytes}
use Rattle.ss_list.specs.Chain.{Chain, value_of, without, first_of}
use Rattle.indexmap.specs.IndexMap.{IndexMap, get}
use Rattle.ss_index.specs.Held.{has_id, rows_but_id}
use Rattle.ss_index.specs.Layout.{NoLater, IsLayout}
use Rattle.ss_bso.specs.Lists.{OtherId}
use Rattle.ss_bso.proofs.Lists.{Each, Each-append, Each-imp, Pairs, Pairs-filter, Pairs-append}
use Rattle.ss_bso.proofs.SameRows.{find-none, filter-all}
use Rattle.ss_text.proofs.Basics.{some_same, bytes_eq-flip, same_text, bytes_eq-same}

cond_none : {X : Type 0} (b : Bool) (x : X) (rest : Option X) → cond b (Some x) rest ≡ None → rest ≡ None
cond_none true x rest e = cc
cond_none false x rest e = e

payload_size : Row → ℕ
payload_size row = length row.payload

module _ (at : List ℕ → Option ℕ) where
  abbrev Covers : List (ℕ × Row) → Type 0
  Covers nodes = Each (λ (node : ℕ × Row). at node.1.id ≡ Some node.0) nodes

  named : (id : List ℕ) (row : Row) (q : ℕ) (found : Option ℕ) → at id ≡ found → has_id id row ≡ true → at row.id ≡ Some q → found ≡ Some q
  named id row q found e h f = sym e ∙ ap at (sym (same_text row.id id h)) ∙ f

  -- a node at another place has another id
  elsewhere : (id : List ℕ) (p : ℕ) (node : ℕ × Row) → at id ≡ Some p → at node.1.id ≡ Some node.0 → nat_eq p node.0 ≡ false → has_id id node.1 ≡ false
  elsewhere id p node e c t =
      elim (has_id id node.1) as (λ v. has_id id node.1 ≡ v → v ≡ false) [
        | true ↦ (λ h. let same : p ≡ node.0 = some_same (named id node.1 node.0 (Some p) e h c) in sym (eq-eqb p node.0 same) ∙ t)
        | false ↦ (λ h. refl)
      ] refl

  -- no node has the place of an id
  abbrev NoNode : Option ℕ → List (ℕ × Row) → Type 0
  NoNode found nodes = (q : ℕ) → found ≡ Some q → lookup (nat_eq q) nodes ≡ None

  head_not : (id : List ℕ) (found : Option ℕ) → at id ≡ found → (node : ℕ × Row) (nodes : List (ℕ × Row)) → at node.1.id ≡ Some node.0 → NoNode found (node ∷ nodes) → has_id id node.1 ≡ false
  head_not id found e node nodes c none =
      elim (has_id id node.1) as (λ v. has_id id node.1 ≡ v → v ≡ false) [
        | true ↦ (λ h.
            let gone : cond (nat_eq node.0 node.0) (Some node.1) (lookup (nat_eq node.0) nodes) ≡ None = none node.0 (named id node.1 node.0 found e h c) in
            let there : Some node.1 ≡ None = sym (ap (λ v. cond v (Some node.1) (lookup (nat_eq node.0) nodes)) (eq-eqb node.0 node.0 refl)) ∙ gone in
            cc)
        | false ↦ (λ h. refl)
      ] refl

  tail_none : (found : Option ℕ) (node : ℕ × Row) (nodes : List (ℕ × Row)) → NoNode found (node ∷ nodes) → NoNode found nodes
  tail_none found node nodes none q e = cond_none (nat_eq q node.0) node.1 (lookup (nat_eq q) nodes) (none q e)

  none_named : (id : List ℕ) (found : Option ℕ) → at id ≡ found → (nodes : List (ℕ × Row)) → Covers nodes → NoNode found nodes → Each (λ (row : Row). has_id id row ≡ false) (values_of nodes)
  none_named id found e [] c none = tt
  none_named id found e (node ∷ nodes) c none = (head_not id found e node nodes c.0 none, none_named id found e nodes c.1 (tail_none found node nodes none))

  -- the node of an id has its row
  pub found_at : (id : List ℕ) (p : ℕ) (row : Row) → at id ≡ Some p → has_id id row ≡ true → (nodes : List (ℕ × Row)) → Covers nodes → lookup (nat_eq p) nodes ≡ Some row → find (has_id id) (values_of nodes) ≡ Some row
  found_at id p row e named_so [] c found = cc
  found_at id p row e named_so (node ∷ nodes) c found =
      let rest : Option Row = find (has_id id) (values_of nodes) in
      elim (nat_eq p node.0) as (λ v. nat_eq p node.0 ≡ v → cond v (Some node.1) (lookup (nat_eq p) nodes) ≡ Some row → cond (has_id id node.1) (Some node.1) rest ≡ Some row) [
        | true ↦ (λ t h.
            let same : node.1 ≡ row = some_same h in
            ap (λ v. cond v (Some node.1) rest) (ap (λ one. has_id id one) same ∙ named_so) ∙ h)
        | false ↦ (λ t h. ap (λ v. cond v (Some node.1) rest) (elsewhere id p node e c.0 t) ∙ found_at id p row e named_so nodes c.1 h)
      ] refl found

  -- without its node the rows are those of other ids
  without_is : (id : List ℕ) (p : ℕ) (row : Row) → at id ≡ Some p → has_id id row ≡ true → (nodes : List (ℕ × Row)) → Covers nodes → lookup (nat_eq p) nodes ≡ Some row
      → lookup (nat_eq p) (remove_entry (nat_eq p) nodes) ≡ None → values_of (remove_entry (nat_eq p) nodes) ≡ rows_but_id id (values_of nodes)
  without_is id p row e named_so [] c found gone = refl
  without_is id p row e named_so (node ∷ nodes) c found gone =
      let rest : List Row = rows_but_id id (values_of nodes) in
      elim (nat_eq p node.0) as (λ v. nat_eq p node.0 ≡ v → cond v (Some node.1) (lookup (nat_eq p) nodes) ≡ Some row
      → lookup (nat_eq p) (cond v nodes (node ∷ remove_entry (nat_eq p) nodes)) ≡ None
      → values_of (cond v nodes (node ∷ remove_entry (nat_eq p) nodes)) ≡ cond (not (has_id id node.1)) (node.1 ∷ rest) rest) [
        | true ↦ (λ t h k.
            let here : has_id id node.1 ≡ true = ap (λ one. has_id id one) (some_same h) ∙ named_so in
            let none : NoNode (Some p) nodes = λ q s. ap (λ at_q. lookup (nat_eq at_q) nodes) (sym (some_same s)) ∙ k in
            sym (filter-all (has_id id) (values_of nodes) (none_named id (Some p) e nodes c.1 none))
            ∙ sym (ap (λ v. cond (not v) (node.1 ∷ rest) rest) here))
        | false ↦ (λ t h k.
            ap (λ more. node.1 ∷ more) (without_is id p row e named_so nodes c.1 h (cond_none (nat_eq p node.0) node.1 (lookup (nat_eq p) (remove_entry (nat_eq p) nodes)) k))
            ∙ sym (ap (λ v. cond (not v) (node.1 ∷ rest) rest) (elsewhere id p node e c.0 t)))
      ] refl found gone

  covers-removed : (p : ℕ) (nodes : List (ℕ × Row)) → Covers nodes → Covers (remove_entry (nat_eq p) nodes)
  covers-removed p [] c = tt
  covers-removed p (node ∷ nodes) c =
      elim (nat_eq p node.0) as (λ v. Covers (cond v nodes (node ∷ remove_entry (nat_eq p) nodes))) [ true ↦ c.1 | false ↦ (c.0, covers-removed p nodes c.1) ]

  -- another map that has the same places at other ids
  covers-kept : (now : List ℕ → Option ℕ) (id : List ℕ) (found : Option ℕ) → at id ≡ found → ((q : List ℕ) → bytes_eq id q ≡ false → now q ≡ at q) → (nodes : List (ℕ × Row)) → Covers nodes → NoNode found nodes
      → Each (λ (node : ℕ × Row). now node.1.id ≡ Some node.0) nodes
  covers-kept now id found e others [] c none = tt
  covers-kept now id found e others (node ∷ nodes) c none = (
    others node.1.id (bytes_eq-flip node.1.id id (head_not id found e node nodes c.0 none)) ∙ c.0,
    covers-kept now id found e others nodes c.1 (tail_none found node nodes none),
  )

-- ---- the first node

pub front_at : (at : List ℕ → Option ℕ) (nodes : List (ℕ × Row)) (p : ℕ) (row : Row) → Each (λ (node : ℕ × Row). at node.1.id ≡ Some node.0) nodes → Some p ≡ first_of (keys_of nodes) → lookup (nat_eq p) nodes ≡ Some row → at row.id ≡ Some p
front_at at [] p row c e found = cc
front_at at (node ∷ nodes) p row c e found =
    let same : p ≡ node.0 = some_same e in
    let here : Some node.1 ≡ Some row = sym (ap (λ v. cond v (Some node.1) (lookup (nat_eq p) nodes)) (eq-eqb p node.0 same)) ∙ found in
    ap (λ (one : Row). at one.id) (sym (some_same here)) ∙ c.0 ∙ ap (λ n. Some n) (sym same)

pub front_rest : (nodes : List (ℕ × Row)) (p : ℕ) (row : Row) → Pairs OtherId (values_of nodes) → Some p ≡ first_of (keys_of nodes) → lookup (nat_eq p) nodes ≡ Some row → rows_but_id row.id (values_of nodes) ≡ drop 1 (values_of nodes)
front_rest [] p row a e found = cc
front_rest (node ∷ nodes) p row a e found =
    let same : p ≡ node.0 = some_same e in
    let here : node.1 ≡ row = some_same (sym (ap (λ v. cond v (Some node.1) (lookup (nat_eq p) nodes)) (eq-eqb p node.0 same)) ∙ found) in
    let rest : List Row = rows_but_id row.id (values_of nodes) in
    let first : has_id row.id node.1 ≡ true = bytes_eq-same node.1.id row.id (ap (λ (one : Row). one.id) here) in
    let others : Each (OtherId row) (values_of nodes) = subst (λ (one : Row). Each (OtherId one) (values_of nodes)) here a.0 in
    ap (λ v. cond (not v) (node.1 ∷ rest) rest) first ∙ filter-all (has_id row.id) (values_of nodes) others

pub front_none : (nodes : List (ℕ × Row)) → None ≡ first_of (keys_of nodes) → values_of nodes ≡ drop 1 (values_of nodes)
front_none [] e = refl
front_none (node ∷ nodes) e = cc

-- the sizes without a node
size-without : (p : ℕ) (row : Row) (nodes : List (ℕ × Row)) → lookup (nat_eq p) nodes ≡ Some row → row_bytes (values_of (remove_entry (nat_eq p) nodes)) + length row.payload ≡ row_bytes (values_of nodes)
size-without p row [] found = cc
size-without p row (node ∷ nodes) found =
    let size : Row → ℕ = λ one. length one.payload in
    elim (nat_eq p node.0) as (λ v. cond v (Some node.1) (lookup (nat_eq p) nodes) ≡ Some row
    → row_bytes (values_of (cond v nodes (node ∷ remove_entry (nat_eq p) nodes))) + length row.payload ≡ row_bytes (node.1 ∷ values_of nodes)) [
      | true ↦ (λ h.
          let same : node.1 ≡ row = some_same h in
          let sizes : length node.1.payload ≡ length row.payload = ap (λ (one : Row). length one.payload) same in
          omega (arith, sizes, sum_by-cons (λ (one : Row). length one.payload) node.1 (values_of nodes)))
      | false ↦ (λ h.
          omega (arith, size-without p row nodes h, sum_by-cons (λ (one : Row). length one.payload) node.1 (values_of nodes), sum_by-cons (λ (one : Row). length one.payload) node.1 (values_of (remove_entry (nat_eq p) nodes))))
    ] found

some_and : {X : Type 0} (P : X → Type 0) (o : Option X) (x : X) → o ≡ Some x → IsSomeAnd o P → P x
some_and P o x e h = subst (λ v. IsSomeAnd v P) e h

module _ {S : Type 0} {places : IndexMap (List ℕ) ℕ S} {chain : Chain Row} {bytes : ℕ} (kept : IsLayout places chain bytes) where
  -- the row at the place of an id
  pub live_id : (id : List ℕ) (p : ℕ) (row : Row) → get bytes_eq places id ≡ Some p → value_of chain p ≡ Some row → row.id ≡ id
  live_id id p row e v = some_and (λ (one : Row). one.id ≡ id) (value_of chain p) row v (kept.live id p e)

  pub find_some : (id : List ℕ) (p : ℕ) (row : Row) → get bytes_eq places id ≡ Some p → value_of chain p ≡ Some row → find (has_id id) (values_of chain.nodes) ≡ Some row
  find_some id p row e v = found_at (get bytes_eq places) id p row e (bytes_eq-same row.id id (live_id id p row e v)) chain.nodes kept.covers v

  none_of : (id : List ℕ) → get bytes_eq places id ≡ None → Each (λ (row : Row). has_id id row ≡ false) (values_of chain.nodes)
  none_of id e = none_named (get bytes_eq places) id None e chain.nodes kept.covers (λ q h. cc)

  pub find_no : (id : List ℕ) → get bytes_eq places id ≡ None → find (has_id id) (values_of chain.nodes) ≡ None
  find_no id e = find-none (has_id id) (values_of chain.nodes) (none_of id e)

  pub but_none : (id : List ℕ) → get bytes_eq places id ≡ None → rows_but_id id (values_of chain.nodes) ≡ values_of chain.nodes
  but_none id e = filter-all (has_id id) (values_of chain.nodes) (none_of id e)

  -- a place is live
  pub live_at : (id : List ℕ) (p : ℕ) → get bytes_eq places id ≡ Some p → (row : Row) × (value_of chain p ≡ Some row)
  live_at id p e = some_there (value_of chain p) (kept.live id p e)
    where
      some_there : (o : Option Row) → IsSomeAnd o (λ row. row.id ≡ id) → (row : Row) × (o ≡ Some row)
      some_there None h = absurd h
      some_there (Some row) h = (row, refl)

  -- an id that no row has
  pub none_from_find : (id : List ℕ) → find (has_id id) (values_of chain.nodes) ≡ None → get bytes_eq places id ≡ None
  none_from_find id e = by (get bytes_eq places id) refl
    where
      by : (o : Option ℕ) → get bytes_eq places id ≡ o → o ≡ None
      by None h = refl
      by (Some p) h = let there = live_at id p h in let clash : Some there.0 ≡ None = sym (find_some id p there.0 h there.1) ∙ e in cc

  module _ (now : IndexMap (List ℕ) ℕ S) (rest : Chain Row) (id : List ℕ) (p : ℕ) (row : Row) (e : get bytes_eq places id ≡ Some p) (v : value_of chain p ≡ Some row)
      (nodes : rest.nodes ≡ without p chain.nodes) (gone : value_of rest p ≡ None) (others : (q : ℕ) → q ≢ p → value_of rest q ≡ value_of chain q)
      (updates : (q : List ℕ) → get bytes_eq now q ≡ cond (bytes_eq id q) None (get bytes_eq places q)) where
    named_so : has_id id row ≡ true
    named_so = bytes_eq-same row.id id (live_id id p row e v)

    gone_there : lookup (nat_eq p) (remove_entry (nat_eq p) chain.nodes) ≡ None
    gone_there = ap (λ left. lookup (nat_eq p) left) (sym nodes) ∙ gone

    pub taken_rows : values_of rest.nodes ≡ rows_but_id id (values_of chain.nodes)
    taken_rows = ap (λ left. values_of left) nodes ∙ without_is (get bytes_eq places) id p row e named_so chain.nodes kept.covers v gone_there

    pub taken_size : length row.payload ≤ bytes
    taken_size = omega (arith, kept.bytes_count, size-without p row chain.nodes v)

    live_taken : (q : List ℕ) (r : ℕ) → get bytes_eq now q ≡ Some r → IsSomeAnd (value_of rest r) (λ one. one.id ≡ q)
    live_taken q r h =
        elim (bytes_eq id q) as (λ b. bytes_eq id q ≡ b → cond b None (get bytes_eq places q) ≡ Some r → IsSomeAnd (value_of rest r) (λ (one : Row). one.id ≡ q)) [
          | true ↦ (λ t f. cc)
          | false ↦ (λ t f.
              let other : r ≢ p = λ same.
              let there : value_of chain r ≡ Some row = ap (λ place. value_of chain place) same ∙ v in
              let here : id ≡ q = sym (live_id id p row e v) ∙ live_id q r row f there in
              let clash : true ≡ false = sym (bytes_eq-same id q here) ∙ t in cc in
              subst (λ o. IsSomeAnd o (λ (one : Row). one.id ≡ q)) (sym (others r other)) (kept.live q r f))
        ] refl (sym (updates q) ∙ h)

    pub taken_kept : IsLayout now rest (bytes - length row.payload)
    taken_kept = record {
      covers = subst (λ left. Each (λ (node : ℕ × Row). get bytes_eq now node.1.id ≡ Some node.0) left) (sym nodes)
          (covers-kept (get bytes_eq places) (get bytes_eq now) id (Some p) e (λ q t. updates q ∙ ap (λ b. cond b None (get bytes_eq places q)) t)
          (without p chain.nodes) (covers-removed (get bytes_eq places) p chain.nodes kept.covers) (λ q s. ap (λ place. lookup (nat_eq place) (without p chain.nodes)) (sym (some_same s)) ∙ gone_there));
      live = live_taken;
      in_time = subst (λ rows. Pairs NoLater rows) (sym taken_rows) (Pairs-filter NoLater (λ one. not (has_id id one)) (values_of chain.nodes) kept.in_time);
      apart = subst (λ rows. Pairs OtherId rows) (sym taken_rows) (Pairs-filter OtherId (λ one. not (has_id id one)) (values_of chain.nodes) kept.apart);
      bytes_count = omega (arith, kept.bytes_count, size-without p row chain.nodes v, ap (λ left. row_bytes (values_of left)) nodes);
    }

  -- a map that has lost an id that was not there
  pub kept_still : {now : IndexMap (List ℕ) ℕ S} → ((q : List ℕ) → get bytes_eq now q ≡ get bytes_eq places q) → IsLayout now chain bytes
  kept_still {now} same = record {
    covers = Each-imp (λ (node : ℕ × Row). get bytes_eq places node.1.id ≡ Some node.0) (λ (node : ℕ × Row). get bytes_eq now node.1.id ≡ Some node.0) (λ node h. same node.1.id ∙ h) chain.nodes kept.covers;
    live = λ q r h. kept.live q r (sym (same q) ∙ h);
    in_time = kept.in_time;
    apart = kept.apart;
    bytes_count = kept.bytes_count;
  }

  module _ (now : IndexMap (List ℕ) ℕ S) (more : Chain Row) (p : ℕ) (row : Row) (e : get bytes_eq places row.id ≡ None) (fresh : value_of chain p ≡ None)
      (nodes : more.nodes ≡ chain.nodes ++ (p, row) ∷ []) (here : value_of more p ≡ Some row) (others : (q : ℕ) → q ≢ p → value_of more q ≡ value_of chain q)
      (updates : (q : List ℕ) → get bytes_eq now q ≡ cond (bytes_eq row.id q) (Some p) (get bytes_eq places q)) (last : Each (λ (other : Row). other.modified ≤ row.modified) (values_of chain.nodes)) where
    values-push : (left : List (ℕ × Row)) → values_of (left ++ (p, row) ∷ []) ≡ values_of left ++ row ∷ []
    values-push [] = refl
    values-push (node ∷ left) = ap (λ rest. node.1 ∷ rest) (values-push left)

    pub put_rows : values_of more.nodes ≡ values_of chain.nodes ++ row ∷ []
    put_rows = ap (λ left. values_of left) nodes ∙ values-push chain.nodes

    live_put : (q : List ℕ) (r : ℕ) → get bytes_eq now q ≡ Some r → IsSomeAnd (value_of more r) (λ one. one.id ≡ q)
    live_put q r h =
        elim (bytes_eq row.id q) as (λ b. bytes_eq row.id q ≡ b → cond b (Some p) (get bytes_eq places q) ≡ Some r → IsSomeAnd (value_of more r) (λ (one : Row). one.id ≡ q)) [
          | true ↦ (λ t f.
              let there : value_of more r ≡ Some row = ap (λ place. value_of more place) (sym (some_same f)) ∙ here in
              subst (λ o. IsSomeAnd o (λ (one : Row). one.id ≡ q)) (sym there) (same_text row.id q t))
          | false ↦ (λ t f.
              let other : r ≢ p = λ same.
              let live = live_at q r f in
              let clash : Some live.0 ≡ None = sym live.1 ∙ ap (λ place. value_of chain place) same ∙ fresh in cc in
              subst (λ o. IsSomeAnd o (λ (one : Row). one.id ≡ q)) (sym (others r other)) (kept.live q r f))
        ] refl (sym (updates q) ∙ h)

    pub put_kept : IsLayout now more (bytes + length row.payload)
    put_kept = record {
      covers = subst (λ left. Each (λ (node : ℕ × Row). get bytes_eq now node.1.id ≡ Some node.0) left) (sym nodes)
          (Each-append (λ (node : ℕ × Row). get bytes_eq now node.1.id ≡ Some node.0) chain.nodes ((p, row) ∷ [])
          (covers-kept (get bytes_eq places) (get bytes_eq now) row.id None e (λ q t. updates q ∙ ap (λ b. cond b (Some p) (get bytes_eq places q)) t) chain.nodes kept.covers (λ q h. cc))
          (updates row.id ∙ ap (λ b. cond b (Some p) (get bytes_eq places row.id)) (bytes_eq-same row.id row.id refl), tt));
      live = live_put;
      in_time = subst (λ rows. Pairs NoLater rows) (sym put_rows)
          (Pairs-append NoLater (values_of chain.nodes) (row ∷ []) kept.in_time (tt, tt)
          (Each-imp (λ (other : Row). other.modified ≤ row.modified) (λ (other : Row). Each (NoLater other) (row ∷ [])) (λ other h. (h, tt)) (values_of chain.nodes) last));
      apart = subst (λ rows. Pairs OtherId rows) (sym put_rows)
          (Pairs-append OtherId (values_of chain.nodes) (row ∷ []) kept.apart (tt, tt)
          (Each-imp (λ (other : Row). has_id row.id other ≡ false) (λ (other : Row). Each (OtherId other) (row ∷ [])) (λ other h. (bytes_eq-flip other.id row.id h, tt)) (values_of chain.nodes) (none_of row.id e)));
      bytes_count = omega (arith, kept.bytes_count, ap (λ rows. row_bytes rows) put_rows, sum_by_push (λ (one : Row). length one.payload) (values_of chain.nodes) row);
    }
