-- A tree that is another one node by node, with time 0.
use Rattle.std.proofs.Common.{◌≡◌, inl, inr, ℕ, ◌+◌, ◌<◌, ◌≤◌, List, [], ◌∷◌, ◌++◌, length, map, take, get_or}
use Rattle.std.proofs.Common.{true, Option, Some, None, is_some, option_map, option_and_then, unwrap_or}
use Rattle.std.proofs.Common.{refl, sym, ap, ap₂, subst, ◌∙◌}
use Rattle.std.specs.Option.{IfSome}
use Rattle.std.proofs.lemmas.Option.{none-some}
use Rattle.std.proofs.lemmas.List.{map-append, take_more, take_all}
use Rattle.ss_text.proofs.Basics.{some_same}
use Rattle.ss_record.specs.Items.{ItemView}
use Rattle.ss_tree.specs.declared.entries.Entry.{Entry}
use Rattle.ss_tree.specs.Trees.{PlacedItem, node}
use Rattle.ss_tree.specs.Entries.{IsTree, above, entry, id_at, is_live, kid_ids, kids, placed, tree}
use Rattle.ss_tree.proofs.Live.{live_above}
use Rattle.ss_tree.proofs.Looked.{live_entry}
use Rattle.ss_tree.proofs.Valid.{In, entry_in, in_entry, node_at, node_found}
use Rattle.ss_tree.proofs.Settled.{kid_ids_are}
use Rattle.ss_build.specs.Stand.{without_time}
use Rattle.ss_dupe.specs.Looks.{Id}
use Rattle.ss_sync.specs.Equal.{AreUntimedAt, IsUntimed, ids_at, placed_at}

-- ---- elements

In-map : {A B : Type 0} (f : A → B) (xs : List A) (x : A) → In x xs → In (f x) (map f xs)
unfolding In
In-map f [] x i = absurd i
In-map f (y ∷ ys) x (inl e) = inl (ap f e)
In-map f (y ∷ ys) x (inr i) = inr (In-map f ys x i)

In-mapped : {A B : Type 0} (f : A → B) (xs : List A) (b : B) → In b (map f xs) → (x : A) × In x xs × (b ≡ f x)
unfolding In
In-mapped f [] b i = absurd i
In-mapped f (y ∷ ys) b (inl e) = (y, inl refl, e)
In-mapped f (y ∷ ys) b (inr i) = let r = In-mapped f ys b i in (r.0, inr r.1, r.2)

-- ---- one node

-- an entry's parent by its id
up_id : (es : List Entry) (k : ℕ) (e : Entry) → entry k es ≡ Some e → option_and_then (λ p. option_map (λ (f : Entry). f.item.id) (entry p es)) e.parent ≡ option_and_then (λ p. option_map (λ (f : Entry). f.item.id) (entry p es)) (above es k)
unfolding above
up_id es k e q = ap (option_and_then (λ p. option_map (λ (f : Entry). f.item.id) (entry p es))) (sym (ap (option_and_then (λ (f : Entry). f.parent)) q))

-- which is in the tree
id_there : (es : List Entry) (o : Option ℕ) → ((p : ℕ) → o ≡ Some p → is_live p es ≡ true) → option_and_then (λ p. option_map (λ (f : Entry). f.item.id) (entry p es)) o ≡ option_map (id_at es) o
id_there es None live = refl
id_there es (Some p) live = by (entry p es) (live p refl)
  where
    by : (o : Option Entry) → is_some o ≡ true → option_map (λ (f : Entry). f.item.id) o ≡ Some (unwrap_or (option_map (λ (f : Entry). f.item.id) o) [])
    by None h = cc
    by (Some f) h = refl

if_some : (o : Option ℕ) (P : ℕ → Type 0) → IfSome o P → (k : ℕ) → o ≡ Some k → P k
if_some o P h k e = subst (λ v. IfSome v P) e h

up_is : (es : List Entry) (k : ℕ) (e : Entry) → IsTree es → entry k es ≡ Some e → option_and_then (λ p. option_map (λ (f : Entry). f.item.id) (entry p es)) e.parent ≡ option_map (id_at es) (above es k)
up_is es k e t q = up_id es k e q ∙ id_there es (above es k) (if_some (above es k) (λ p. is_live p es ≡ true) (live_above es k t))

kids_are : (es : List Entry) (k : ℕ) (e : Entry) → IsTree es → entry k es ≡ Some e → kid_ids e.node es ≡ ids_at es (kids k es)
kids_are es k e t q = ap (λ n. kid_ids n es) (entry_in k es e q).1 ∙ kid_ids_are k es t.nodes

placed_same : (es fs : List Entry) (k j : ℕ) (e f : Entry) → IsTree es → IsTree fs → entry k es ≡ Some e → entry j fs ≡ Some f → e.time ≡ 0 → e.item ≡ f.item
    → option_map (id_at es) (above es k) ≡ option_map (id_at fs) (above fs j) → ids_at es (kids k es) ≡ ids_at fs (kids j fs) → placed es e ≡ without_time (placed fs f)
unfolding placed
placed_same es fs k j e f t u q r time item parents kids_same =
    let up = up_is es k e t q ∙ parents ∙ sym (up_is fs j f u r) in
    let ks = kids_are es k e t q ∙ kids_same ∙ sym (kids_are fs j f u r) in
    λ i. record { id = (item i).id; kind = (item i).kind; content = (item i).content; parent = up i; children = ks i; time = time i }

-- a node whose item, parent and children are those of another one
pub untimed_at : (es fs : List Entry) (k j : ℕ) (item other : ItemView) (time : ℕ) → IsTree es → IsTree fs → is_live k es ≡ true → is_live j fs ≡ true
    → option_map (λ (e : Entry). e.time) (entry k es) ≡ Some time → time ≡ 0
    → option_map (λ (e : Entry). e.item) (entry k es) ≡ Some item → option_map (λ (e : Entry). e.item) (entry j fs) ≡ Some other → item ≡ other
    → option_map (id_at es) (above es k) ≡ option_map (id_at fs) (above fs j) → ids_at es (kids k es) ≡ ids_at fs (kids j fs)
    → placed_at es k ≡ option_map without_time (placed_at fs j)
untimed_at es fs k j item other time t u lk lj tm zero it ot same parents kids_same =
    let e = live_entry es k lk in
    let f = live_entry fs j lj in
    let etime : e.0.time ≡ 0 = some_same (sym (ap (option_map (λ (e : Entry). e.time)) e.1) ∙ tm) ∙ zero in
    let eitem : e.0.item ≡ item = some_same (sym (ap (option_map (λ (e : Entry). e.item)) e.1) ∙ it) in
    let fitem : f.0.item ≡ other = some_same (sym (ap (option_map (λ (e : Entry). e.item)) f.1) ∙ ot) in
    ap (option_map (placed es)) e.1
    ∙ ap Some (placed_same es fs k j e.0 f.0 t u e.1 f.1 etime (eitem ∙ same ∙ sym fitem) parents kids_same)
    ∙ sym (ap (λ o. option_map without_time (option_map (placed fs) o)) f.1)

-- ---- nodes one after the other

pub untimed_more : (es fs : List Entry) (ks js : List ℕ) (i k j : ℕ) → i < length ks → i < length js → k ≡ get_or ks i k → j ≡ get_or js i j
    → AreUntimedAt es (take i ks) fs (take i js) → placed_at es k ≡ option_map without_time (placed_at fs j) → AreUntimedAt es (take (i + 1) ks) fs (take (i + 1) js)
untimed_more es fs ks js i k j lt lu k_is j_is old one =
    ap (map (placed_at es)) (take_more ks i k lt ∙ ap (λ n. take i ks ++ n ∷ []) (sym k_is)) ∙ map-append (placed_at es) (take i ks) (k ∷ [])
    ∙ ap₂ (λ xs x. xs ++ x ∷ []) old one
    ∙ sym (ap (map (λ n. option_map without_time (placed_at fs n))) (take_more js i j lu ∙ ap (λ n. take i js ++ n ∷ []) (sym j_is)) ∙ map-append (λ n. option_map without_time (placed_at fs n)) (take i js) (j ∷ []))

pub untimed_whole : (es fs : List Entry) (ks all js : List ℕ) (i : ℕ) → ks ≡ all → length ks ≤ i → length ks ≡ length js → AreUntimedAt es (take i ks) fs (take i js) → AreUntimedAt es all fs js
untimed_whole es fs ks all js i is end long same =
    ap (map (placed_at es)) (sym is ∙ sym (take_all i ks end)) ∙ same ∙ ap (map (λ n. option_map without_time (placed_at fs n))) (take_all i js (subst (λ n. n ≤ i) long end))

pub ids_more : (es fs : List Entry) (ks js : List ℕ) (i k j : ℕ) → i < length ks → i < length js → k ≡ get_or ks i k → j ≡ get_or js i j
    → ids_at es (take i ks) ≡ ids_at fs (take i js) → id_at es k ≡ id_at fs j → ids_at es (take (i + 1) ks) ≡ ids_at fs (take (i + 1) js)
ids_more es fs ks js i k j lt lu k_is j_is old one =
    ap (map (id_at es)) (take_more ks i k lt ∙ ap (λ n. take i ks ++ n ∷ []) (sym k_is)) ∙ map-append (id_at es) (take i ks) (k ∷ [])
    ∙ ap₂ (λ xs x. xs ++ x ∷ []) old one
    ∙ sym (ap (map (id_at fs)) (take_more js i j lu ∙ ap (λ n. take i js ++ n ∷ []) (sym j_is)) ∙ map-append (id_at fs) (take i js) (j ∷ []))

-- ---- the whole trees

by_its_id : (es : List Entry) (e : Entry) (x : Id) → IsTree es → In e es → e.item.id ≡ x → node x (tree es) ≡ Some (placed es e)
by_its_id es e x t i is = ap (λ z. node z (tree es)) (sym is) ∙ node_at es e t.ids i

id_placed : (es : List Entry) (e : Entry) → (placed es e).id ≡ e.item.id
unfolding placed
id_placed es e = refl

module _ (es fs : List Entry) (ks js : List ℕ) (t : IsTree es) (u : IsTree fs) (all_k : (k : ℕ) → is_live k es ≡ true → In k ks) (all_j : (j : ℕ) → is_live j fs ≡ true → In j js)
    (same : AreUntimedAt es ks fs js) where
  abbrev other : ℕ → Option PlacedItem
  other j = option_map without_time (placed_at fs j)

  -- each item of the second tree is in the first one
  back : (x : Id) (m : PlacedItem) → node x (tree fs) ≡ Some m → node x (tree es) ≡ Some (without_time m)
  back x m q =
      let f = node_found fs x m q in
      let own : entry f.0.node fs ≡ Some f.0 = in_entry fs f.0 u.nodes f.1 in
      let is : other f.0.node ≡ Some (without_time m) = ap (λ o. option_map without_time (option_map (placed fs) o)) own ∙ ap (λ n. Some (without_time n)) (sym f.3) in
      let inside = subst (In (other f.0.node)) (sym same) (In-map other js f.0.node (all_j f.0.node (ap is_some own))) in
      let k = In-mapped (placed_at es) ks (other f.0.node) inside in
      by k.0 (entry k.0 es) refl (sym k.2 ∙ is) (ap (λ (n : PlacedItem). n.id) f.3 ∙ id_placed fs f.0 ∙ f.2)
    where
      by : (k : ℕ) (o : Option Entry) → entry k es ≡ o → option_map (placed es) o ≡ Some (without_time m) → m.id ≡ x → node x (tree es) ≡ Some (without_time m)
      by k None e h id = absurd (none-some _ h)
      by k (Some e) r h id =
          let p : placed es e ≡ without_time m = some_same h in
          by_its_id es e x t (entry_in k es e r).0 (sym (id_placed es e) ∙ ap (λ (n : PlacedItem). n.id) p ∙ id) ∙ ap Some p

  -- and each of the first one is in the second
  there : (x : Id) (m : PlacedItem) → node x (tree es) ≡ Some m → node x (tree fs) ≡ None → ⊥
  there x m q none =
      let e = node_found es x m q in
      let own : entry e.0.node es ≡ Some e.0 = in_entry es e.0 t.nodes e.1 in
      let is : placed_at es e.0.node ≡ Some m = ap (option_map (placed es)) own ∙ ap Some (sym e.3) in
      let inside = subst (In (placed_at es e.0.node)) same (In-map (placed_at es) ks e.0.node (all_k e.0.node (ap is_some own))) in
      let j = In-mapped other js (placed_at es e.0.node) inside in
      by j.0 (entry j.0 fs) refl (sym j.2 ∙ is) (ap (λ (n : PlacedItem). n.id) e.3 ∙ id_placed es e.0 ∙ e.2)
    where
      by : (j : ℕ) (o : Option Entry) → entry j fs ≡ o → option_map without_time (option_map (placed fs) o) ≡ Some m → m.id ≡ x → ⊥
      by j None r h id = none-some _ h
      by j (Some f) r h id =
          let p : without_time (placed fs f) ≡ m = some_same h in
          none-some _ (sym none ∙ by_its_id fs f x u (entry_in j fs f r).0 (sym (id_placed fs f) ∙ ap (λ (n : PlacedItem). n.id) p ∙ id))

  pub untimed_all : IsUntimed (tree es) (tree fs)
  untimed_all x = at (node x (tree fs)) refl (node x (tree es)) refl
    where
      at : (o : Option PlacedItem) → node x (tree fs) ≡ o → (p : Option PlacedItem) → node x (tree es) ≡ p → node x (tree es) ≡ option_map without_time (node x (tree fs))
      at (Some m) e p f = back x m e ∙ sym (ap (option_map without_time) e)
      at None e None f = f ∙ sym (ap (option_map without_time) e)
      at None e (Some n) f = absurd (there x n f e)
