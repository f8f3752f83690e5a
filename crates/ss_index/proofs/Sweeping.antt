-- The steps of a sweep from the front.
use Rattle.std.specs.Prelude.{◌≡◌, ℕ, ◌+◌, ◌≤◌, true, false, cond, List, [], ◌∷◌, ◌++◌, length, filter, find, Option}
use Rattle.std.specs.Prelude.{Some, None, IsSome, bytes_eq, nat_eq, refl}
use Rattle.std.proofs.Common.{sym, ap, subst, ◌∙◌, arith, eq-eqb, append_assoc, append-nil}
use Rattle.std.proofs.lemmas.Bool.Decides.{Decides-eqb}
use Rattle.std.proofs.lemmas.List.Elements.{filter-append}
use Rattle.std.specs.Map.{remove_entry, keys_of, values_of}
use Rattle.ss_bso.specs.declared.rows.Row.{Row}
use Rattle.ss_bso.specs.Account.{is_alive}
use Rattle.ss_list.specs.Chain.{Chain, value_of, without, first_of, IsAfter}
use Rattle.indexmap.specs.IndexMap.{IndexMap, get}
use Rattle.ss_index.specs.Held.{has_id}
use Rattle.ss_index.specs.Layout.{IsLayout}
use Rattle.ss_bso.specs.Lists.{OtherId}
use Rattle.ss_index.specs.Sweep.{Outlives, Swept}
use Rattle.ss_bso.proofs.Lists.{Each, Each-append, Each-imp, Pairs}
use Rattle.ss_index.proofs.Drawers.{find_some, live_at, live_id}
use Rattle.ss_index.proofs.Shelves.{filter-every, weaker_ends}
use Rattle.ss_index.proofs.Walks.{keys-append, values-append}
use Rattle.ss_text.proofs.Basics.{bytes_eq-flip, bytes_eq-same}

some_row : (x y : Row) → Some x ≡ Some y → x ≡ y
some_row x y e = cc

-- the row among others of other ids
find_middle : (row : Row) (front after : List (ℕ × Row)) (p : ℕ) → Pairs OtherId (values_of (front ++ (p, row) ∷ after)) → find (has_id row.id) (values_of (front ++ (p, row) ∷ after)) ≡ Some row
find_middle row [] after p a = ap (λ v. cond v (Some row) (find (has_id row.id) (values_of after))) (bytes_eq-same row.id row.id refl)
find_middle row (node ∷ front) after p a =
    ap (λ v. cond v (Some node.1) (find (has_id row.id) (values_of (front ++ (p, row) ∷ after)))) (bytes_eq-flip row.id node.1.id (other_of front a.0)) ∙ find_middle row front after p a.1
  where
    other_of : (ns : List (ℕ × Row)) → Each (OtherId node.1) (values_of (ns ++ (p, row) ∷ after)) → bytes_eq row.id node.1.id ≡ false
    other_of [] e = e.0
    other_of (n ∷ ns) e = other_of ns e.1

others_apart : (row : Row) (front after : List (ℕ × Row)) (p : ℕ) → Pairs OtherId (values_of (front ++ (p, row) ∷ after)) → Each (λ (node : ℕ × Row). bytes_eq row.id node.1.id ≡ false) front
others_apart row [] after p a = tt
others_apart row (node ∷ front) after p a = (other_of front a.0, others_apart row front after p a.1)
  where
    other_of : (ns : List (ℕ × Row)) → Each (OtherId node.1) (values_of (ns ++ (p, row) ∷ after)) → bytes_eq row.id node.1.id ≡ false
    other_of [] e = e.0
    other_of (n ∷ ns) e = other_of ns e.1

each_middle : (P : (ℕ × Row) → Type 0) (front : List (ℕ × Row)) (node : ℕ × Row) (after : List (ℕ × Row)) → Each P (front ++ node ∷ after) → P node
each_middle P [] node after e = e.0
each_middle P (n ∷ ns) node after e = each_middle P ns node after e.1

each_front : (P : (ℕ × Row) → Type 0) (front more : List (ℕ × Row)) → Each P (front ++ more) → Each P front
each_front P [] more e = tt
each_front P (n ∷ ns) more e = (e.0, each_front P ns more e.1)

remove_middle : (p : ℕ) (row : Row) (front after : List (ℕ × Row)) → Each (λ (node : ℕ × Row). nat_eq p node.0 ≡ false) front → remove_entry (nat_eq p) (front ++ (p, row) ∷ after) ≡ front ++ after
remove_middle p row [] after e = ap (λ v. cond v after ((p, row) ∷ remove_entry (nat_eq p) after)) (eq-eqb p p refl)
remove_middle p row (node ∷ front) after e =
    ap (λ v. cond v (front ++ (p, row) ∷ after) (node ∷ remove_entry (nat_eq p) (front ++ (p, row) ∷ after))) e.0 ∙ ap (λ rest. node ∷ rest) (remove_middle p row front after e.1)

module _ {S : Type 0} (rooms : IndexMap (List ℕ) ℕ S) (chain : Chain Row) (bytes : ℕ) (kept : IsLayout rooms chain bytes) (front : List (ℕ × Row)) (p : ℕ) (row : Row) (after : List (ℕ × Row)) (split : chain.nodes ≡ front ++ (p, row) ∷ after) where
  pub middle_place : get bytes_eq rooms row.id ≡ Some p
  middle_place = each_middle (λ (node : ℕ × Row). get bytes_eq rooms node.1.id ≡ Some node.0) front (p, row) after (subst (λ l. Each (λ (node : ℕ × Row). get bytes_eq rooms node.1.id ≡ Some node.0) l) split kept.covers)

  middle_apart : Pairs OtherId (values_of (front ++ (p, row) ∷ after))
  middle_apart = subst (λ l. Pairs OtherId (values_of l)) split kept.apart

  pub middle_value : value_of chain p ≡ Some row
  middle_value =
      let there = live_at kept row.id p middle_place in
      let found : Some there.0 ≡ Some row = sym (find_some kept row.id p there.0 middle_place there.1) ∙ ap (λ l. find (has_id row.id) (values_of l)) split ∙ find_middle row front after p middle_apart in
      there.1 ∙ found

  middle_alone : Each (λ (node : ℕ × Row). nat_eq p node.0 ≡ false) front
  middle_alone =
      alone front (each_front (λ (node : ℕ × Row). get bytes_eq rooms node.1.id ≡ Some node.0) front ((p, row) ∷ after) (subst (λ l. Each (λ (node : ℕ × Row). get bytes_eq rooms node.1.id ≡ Some node.0) l) split kept.covers))
      (others_apart row front after p middle_apart)
    where
      alone : (ns : List (ℕ × Row)) → Each (λ (node : ℕ × Row). get bytes_eq rooms node.1.id ≡ Some node.0) ns → Each (λ (node : ℕ × Row). bytes_eq row.id node.1.id ≡ false) ns → Each (λ (node : ℕ × Row). nat_eq p node.0 ≡ false) ns
      alone [] c a = tt
      alone (n ∷ ns) c a = (
        elim (nat_eq p n.0) as (λ v. nat_eq p n.0 ≡ v → v ≡ false) [
          | true ↦ (λ t.
              let same : p ≡ n.0 = (Decides-eqb p n.0).0 t in
              let place : get bytes_eq rooms n.1.id ≡ Some p = c.0 ∙ ap (λ q. Some q) (sym same) in
              let ids : row.id ≡ n.1.id = live_id kept n.1.id p row place middle_value in
              sym (bytes_eq-same row.id n.1.id ids) ∙ a.0)
          | false ↦ (λ t. refl)
        ] refl,
        alone ns c.1 a.1,
      )

  pub middle_without : without p chain.nodes ≡ front ++ after
  middle_without = ap (λ l. remove_entry (nat_eq p) l) split ∙ remove_middle p row front after middle_alone

-- ---- the sweep

pub sweep_begun : (moment : ℕ) (nodes : List (ℕ × Row)) (at : Option ℕ) → (least : ℕ) → at ≡ first_of (keys_of nodes) → Swept moment (values_of nodes) nodes at 0 least
sweep_begun moment nodes at least e = record { before = []; after = nodes; split = refl; at_is = e; alive = tt; outlive = tt; same = refl; count = omega (arith, length-values nodes) }
  where
    length-values : (ns : List (ℕ × Row)) → length ns ≡ length (values_of ns)
    length-values [] = refl
    length-values (n ∷ ns) = omega (arith, length-values ns)

-- where it stands there is a node
pub record Stands (nodes before : List (ℕ × Row)) (here : ℕ) (after : List (ℕ × Row)) : Type 0 where
  pub row : Row
  pub rest : List (ℕ × Row)
  pub is : after ≡ (here, row) ∷ rest
  pub split : nodes ≡ before ++ (here, row) ∷ rest

pub stands_at : {moment : ℕ} {all : List Row} (nodes : List (ℕ × Row)) {passed least : ℕ} (here : ℕ) (s : Swept moment all nodes (Some here) passed least) → Stands nodes s.before here s.after
stands_at nodes here s = by s.after s.at_is s.split
  where
    by : (after : List (ℕ × Row)) → Some here ≡ first_of (keys_of after) → nodes ≡ s.before ++ after → Stands nodes s.before here after
    by [] e f = cc
    by (node ∷ after) e f =
        let same : here ≡ node.0 = cc in
        record { row = node.1; rest = after; is = ap (λ q. (q, node.1) ∷ after) (sym same); split = f ∙ ap (λ q. s.before ++ (q, node.1) ∷ after) (sym same) }

next_first : (nodes before : List (ℕ × Row)) (here : ℕ) (row : Row) (rest : List (ℕ × Row)) (next : Option ℕ) → nodes ≡ before ++ (here, row) ∷ rest → IsAfter (keys_of nodes) here next → next ≡ first_of (keys_of rest)
next_first nodes before here row rest next split after = after (keys_of before) (keys_of rest) (ap (λ l. keys_of l) split ∙ keys-append before ((here, row) ∷ rest))

pub sweep_on : {moment : ℕ} {all : List Row} (nodes : List (ℕ × Row)) {passed least : ℕ} (here : ℕ) (next : Option ℕ) (s : Swept moment all nodes (Some here) passed least) (st : Stands nodes s.before here s.after) → is_alive moment st.row ≡ true
    → IsAfter (keys_of nodes) here next → (fewer : ℕ) → fewer ≤ least → Outlives fewer st.row → Swept moment all nodes next (passed + 1) fewer
sweep_on {moment} nodes {least = least} here next s st alive after fewer le out = record {
  before = s.before ++ (here, st.row) ∷ [];
  after = st.rest;
  split = st.split ∙ sym (append_assoc s.before ((here, st.row) ∷ []) st.rest);
  at_is = next_first nodes s.before here st.row st.rest next st.split after;
  alive = Each-append (λ (node : ℕ × Row). is_alive moment node.1 ≡ true) s.before ((here, st.row) ∷ []) s.alive (alive, tt);
  outlive = Each-append (λ (node : ℕ × Row). Outlives fewer node.1) s.before ((here, st.row) ∷ [])
      (Each-imp (λ (node : ℕ × Row). Outlives least node.1) (λ (node : ℕ × Row). Outlives fewer node.1) (λ node h. weaker_ends least fewer node.1 le h) s.before s.outlive) (out, tt);
  same = s.same;
  count = omega (arith, s.count, ap (λ l. length l) st.is);
}

pub sweep_out : {moment : ℕ} {all : List Row} (nodes : List (ℕ × Row)) {passed least : ℕ} (here : ℕ) (next : Option ℕ) (s : Swept moment all nodes (Some here) passed least) (st : Stands nodes s.before here s.after) → is_alive moment st.row ≡ false
    → IsAfter (keys_of nodes) here next → (left : List (ℕ × Row)) → left ≡ s.before ++ st.rest → Swept moment all left next (passed + 1) least
sweep_out {moment} nodes here next s st dead after left is =
    let kept : List Row = filter (is_alive moment) (values_of s.before) in
    let more : List Row = filter (is_alive moment) (values_of st.rest) in
    let now : filter (is_alive moment) (values_of left) ≡ kept ++ more =
    ap (λ l. filter (is_alive moment) (values_of l)) is ∙ ap (λ l. filter (is_alive moment) l) (values-append s.before st.rest) ∙ filter-append (is_alive moment) (values_of s.before) (values_of st.rest) in
    let old : filter (is_alive moment) (values_of nodes) ≡ kept ++ more =
    ap (λ l. filter (is_alive moment) (values_of l)) st.split ∙ ap (λ l. filter (is_alive moment) l) (values-append s.before ((here, st.row) ∷ st.rest))
    ∙ filter-append (is_alive moment) (values_of s.before) (st.row ∷ values_of st.rest)
    ∙ ap (λ v. kept ++ cond v (st.row ∷ more) more) dead in
    record {
      before = s.before;
      after = st.rest;
      split = is;
      at_is = next_first nodes s.before here st.row st.rest next st.split after;
      alive = s.alive;
      outlive = s.outlive;
      same = now ∙ sym old ∙ s.same;
      count = omega (arith, s.count, ap (λ l. length l) st.is);
    }

alive_values : (moment : ℕ) (nodes : List (ℕ × Row)) → Each (λ (node : ℕ × Row). is_alive moment node.1 ≡ true) nodes → Each (λ (row : Row). is_alive moment row ≡ true) (values_of nodes)
alive_values moment [] e = tt
alive_values moment (node ∷ nodes) e = (e.0, alive_values moment nodes e.1)

sweep_done : {moment : ℕ} {all : List Row} {nodes : List (ℕ × Row)} {at : Option ℕ} {passed least : ℕ} (s : Swept moment all nodes at passed least) → s.after ≡ [] → values_of nodes ≡ filter (is_alive moment) all
sweep_done {moment} {all} {nodes} s none =
    let whole : nodes ≡ s.before = s.split ∙ ap (λ l. s.before ++ l) none ∙ append-nil s.before in
    sym (filter-every (is_alive moment) (values_of nodes) (alive_values moment nodes (subst (λ l. Each (λ (node : ℕ × Row). is_alive moment node.1 ≡ true) l) (sym whole) s.alive))) ∙ s.same

pub sweep_all : {moment : ℕ} {all : List Row} {nodes : List (ℕ × Row)} {at : Option ℕ} {passed least : ℕ} (s : Swept moment all nodes at passed least) → length all ≤ passed → values_of nodes ≡ filter (is_alive moment) all
sweep_all s past = sweep_done s (none s.after (omega (arith, s.count, past)))
  where
    none : (l : List (ℕ × Row)) → length l ≤ 0 → l ≡ []
    none [] h = refl
    none (x ∷ xs) h = absurd (omega arith)

pub sweep_end : {moment : ℕ} {all : List Row} {nodes : List (ℕ × Row)} {passed least : ℕ} (s : Swept moment all nodes None passed least) → values_of nodes ≡ filter (is_alive moment) all
sweep_end s = sweep_done s (none s.after s.at_is)
  where
    none : (l : List (ℕ × Row)) → None ≡ first_of (keys_of l) → l ≡ []
    none [] h = refl
    none (x ∷ xs) h = cc

pub length-values : (ns : List (ℕ × Row)) → length ns ≡ length (values_of ns)
length-values [] = refl
length-values (n ∷ ns) = omega (arith, length-values ns)

pub is_some_from : {X : Type 0} (o : Option X) (x : X) → o ≡ Some x → IsSome o
is_some_from o x e = subst (λ v. IsSome v) (sym e) refl

pub row_is : (o : Option Row) (x y : Row) → o ≡ Some x → o ≡ Some y → x ≡ y
row_is o x y e f = some_row x y (sym e ∙ f)

outlive_values : (least : ℕ) (nodes : List (ℕ × Row)) → Each (λ (node : ℕ × Row). Outlives least node.1) nodes → Each (Outlives least) (values_of nodes)
outlive_values least [] e = tt
outlive_values least (node ∷ nodes) e = (e.0, outlive_values least nodes e.1)

outlive_done : {moment : ℕ} {all : List Row} {nodes : List (ℕ × Row)} {at : Option ℕ} {passed : ℕ} {least : ℕ} (s : Swept moment all nodes at passed least) → s.after ≡ [] → Each (Outlives least) (values_of nodes)
outlive_done {nodes = nodes} {least = least} s none =
    let whole : nodes ≡ s.before = s.split ∙ ap (λ l. s.before ++ l) none ∙ append-nil s.before in
    outlive_values least nodes (subst (λ l. Each (λ (node : ℕ × Row). Outlives least node.1) l) (sym whole) s.outlive)

pub outlive_all : {moment : ℕ} {all : List Row} {nodes : List (ℕ × Row)} {at : Option ℕ} {passed : ℕ} {least : ℕ} (s : Swept moment all nodes at passed least) → length all ≤ passed → Each (Outlives least) (values_of nodes)
outlive_all s past = outlive_done s (none s.after (omega (arith, s.count, past)))
  where
    none : (l : List (ℕ × Row)) → length l ≤ 0 → l ≡ []
    none [] h = refl
    none (x ∷ xs) h = absurd (omega arith)

pub outlive_end : {moment : ℕ} {all : List Row} {nodes : List (ℕ × Row)} {passed : ℕ} {least : ℕ} (s : Swept moment all nodes None passed least) → Each (Outlives least) (values_of nodes)
outlive_end s = outlive_done s (none s.after s.at_is)
  where
    none : (l : List (ℕ × Row)) → None ≡ first_of (keys_of l) → l ≡ []
    none [] h = refl
    none (x ∷ xs) h = cc
