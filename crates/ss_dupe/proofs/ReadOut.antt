-- Reading a tree out.
use Rattle.std.proofs.Common.{◌≡◌, ◌⊎◌, ◌+◌, ◌<◌, Bool, true, false, cond, ◌||◌, List, [], ◌∷◌, ◌++◌, length, take}
use Rattle.std.proofs.Common.{take_all, get_or, ◌≤◌, map, filter, bytes_eq, Option, Some, None, is_some, unwrap_or}
use Rattle.std.proofs.Common.{option_map, option_and_then, refl, sym, ap, subst, ◌∙◌, inl, inr, ℕ, zero, suc, arith}
use Rattle.std.proofs.lemmas.List.{take_more}
use Rattle.ss_list.specs.Chain.{times}
use Rattle.ss_record.specs.Items.{ItemView}
use Rattle.ss_record.specs.Ids.{has}
use Rattle.ss_tree.specs.declared.entries.Entry.{Entry}
use Rattle.ss_tree.specs.Trees.{PlacedItem}
use Rattle.ss_tree.specs.Entries.{entry, is_live, above, kids, kid_ids, stands_under, placed, tree, preorder}
use Rattle.ss_tree.specs.Entries.{NodesApart, IsTree, top_entry}
use Rattle.ss_tree.proofs.Valid.{In, entry_in, in_entry, node_found, node_at}
use Rattle.ss_tree.proofs.Settled.{kid_ids_are}
use Rattle.ss_tree.proofs.EachMet.{each_met}
use Rattle.ss_dupe.specs.declared.plain.Seat.{Seat}
use Rattle.ss_dupe.specs.declared.plain.PlainTree.{PlainTree}
use Rattle.ss_dupe.specs.Looks.{Id, Look, look, is_in}
use Rattle.ss_dupe.specs.Plains.{AreIds, look_of, placed_at}
use Rattle.ss_dupe.specs.Reading.{ids_at, name_at}
use Rattle.ss_tree.specs.Entries.{id_at}
use Rattle.ss_dupe.proofs.Basics.{same-true, same-is, same_turn, false_from, has-head, has-cases, has-nil}
use Rattle.ss_dupe.proofs.Lists.{has-append_left, has-append_right, has-append_cases}
use Rattle.ss_dupe.proofs.Shapes.{in-of_none}
use Rattle.ss_text.proofs.Basics.{or_true, no_way}
use Rattle.std.proofs.lemmas.Bool.{cases_Bool}

pub id_at-entry : (es : List Entry) (k : ℕ) (e : Entry) → entry k es ≡ Some e → id_at es k ≡ e.item.id
id_at-entry es k e h = ap (λ o. unwrap_or (option_map (λ (d : Entry). d.item.id) o) []) h

-- ---- one more item

pub look_put : (g h : Id → Option Seat) (key : Id) (seat : Seat) → ((x : Id) → h x ≡ cond (bytes_eq key x) (Some seat) (g x)) → (x : Id) → option_map placed_at (h x) ≡ cond (bytes_eq key x) (Some (placed_at seat)) (option_map placed_at (g x))
look_put g h key seat e x = ap (option_map placed_at) (e x) ∙ mapped (bytes_eq key x)
  where
    mapped : (b : Bool) → option_map placed_at (cond b (Some seat) (g x)) ≡ cond b (Some (placed_at seat)) (option_map placed_at (g x))
    mapped true = refl
    mapped false = refl

module _ (g h : Look) (key : Id) (n : PlacedItem) (is : (x : Id) → h x ≡ cond (bytes_eq key x) (Some n) (g x)) where
  in_put : (x : Id) → is_in h x ≡ (bytes_eq key x || is_in g x)
  unfolding is_in
  in_put x = ap is_some (is x) ∙ cases (bytes_eq key x)
    where
      cases : (b : Bool) → is_some (cond b (Some n) (g x)) ≡ (b || is_some (g x))
      cases true = refl
      cases false = refl

  pub ids_pushed : (xs : List Id) → ((x : Id) → has x xs ≡ is_in g x) → (x : Id) → has x (xs ++ key ∷ []) ≡ is_in h x
  ids_pushed xs are x = cases (cases_Bool (bytes_eq key x)) ∙ sym (in_put x)
    where
      cases : (bytes_eq key x ≡ true) ⊎ (bytes_eq key x ≡ false) → has x (xs ++ key ∷ []) ≡ (bytes_eq key x || is_in g x)
      cases (inl e) = has-append_right x xs (key ∷ []) (has-head x key [] (sym (same-true key x e))) ∙ sym (ap (λ b. b || is_in g x) e)
      cases (inr e) = elim (cases_Bool (has x xs)) [
        | inl k ↦ has-append_left x xs (key ∷ []) k ∙ sym (ap (λ b. b || is_in g x) e ∙ sym (are x) ∙ k)
        | inr k ↦ false_from (has x (xs ++ key ∷ [])) (λ m. elim (has-append_cases x xs (key ∷ []) m) [
          | inl a ↦ no_way (has x xs) a k
          | inr b ↦ elim (has-cases x key [] b) [ inl q ↦ no_way (bytes_eq key x) (same-is key x (sym q)) e | inr q ↦ no_way (has x []) q (has-nil x) ]
        ]) ∙ sym (ap (λ b. b || is_in g x) e ∙ sym (are x) ∙ k)
      ]

  pub ids_kept : (xs : List Id) → is_in g key ≡ true → ((x : Id) → has x xs ≡ is_in g x) → (x : Id) → has x xs ≡ is_in h x
  ids_kept xs there are x = are x ∙ cases (cases_Bool (bytes_eq key x)) ∙ sym (in_put x)
    where
      cases : (bytes_eq key x ≡ true) ⊎ (bytes_eq key x ≡ false) → is_in g x ≡ (bytes_eq key x || is_in g x)
      cases (inl e) = ap (is_in g) (sym (same-true key x e)) ∙ there ∙ sym (ap (λ b. b || is_in g x) e)
      cases (inr e) = sym (ap (λ b. b || is_in g x) e)

-- ---- the whole tree

placed_id : (es : List Entry) (e : Entry) → e.item.id ≡ (placed es e).id
unfolding placed
placed_id es e = refl

in_append : {X : Type 0} (x : X) (xs ys : List X) → In x (xs ++ ys) → In x xs ⊎ In x ys
unfolding In
in_append x [] ys i = inr i
in_append x (z ∷ zs) ys (inl e) = inl (inl e)
in_append x (z ∷ zs) ys (inr i) = elim (in_append x zs ys i) [ inl a ↦ inl (inr a) | inr b ↦ inr b ]

-- what the nodes so far have given
pub record SoFar (es : List Entry) (nodes : List ℕ) (p : PlainTree) : Type 0 where
  pub sound : (x : Id) (n : PlacedItem) → look_of p x ≡ Some n → look (tree es) x ≡ Some n
  pub met : (k : ℕ) → In k nodes → is_in (look_of p) (id_at es k) ≡ true
  pub ids : AreIds p

pub none_yet : (es : List Entry) (p : PlainTree) → ((x : Id) → look_of p x ≡ None) → p.ids.items ≡ [] → SoFar es [] p
unfolding In
none_yet es p empty none = record {
  sound = λ x n e. let no : look_of p x ≡ None = empty x in cc;
  met = λ k i. absurd i;
  ids = λ x. ap (has x) none ∙ has-nil x ∙ sym (in-of_none (look_of p) x (empty x));
}

pub one_more : (es : List Entry) → IsTree es → (nodes : List ℕ) (k : ℕ) (p q : PlainTree) (seat : Seat) → SoFar es nodes p → option_map (placed es) (entry k es) ≡ Some (placed_at seat) →
    ((x : Id) → look_of q x ≡ cond (bytes_eq seat.id x) (Some (placed_at seat)) (look_of p x)) → (AreIds p → AreIds q) → SoFar es (nodes ++ k ∷ []) q
unfolding In
one_more es t nodes k p q seat s at is ids = record { sound = sound; met = met; ids = ids s.ids }
  where
    found : (o : Option Entry) → entry k es ≡ o → (e : Entry) × (entry k es ≡ Some e) × (placed es e ≡ placed_at seat)
    found None h = let none : option_map (placed es) (entry k es) ≡ None = ap (option_map (placed es)) h in cc
    found (Some e) h = let same : Some (placed es e) ≡ Some (placed_at seat) = sym (ap (option_map (placed es)) h) ∙ at in (e, h, cc)

    own : (e : Entry) × (entry k es ≡ Some e) × (placed es e ≡ placed_at seat)
    own = found (entry k es) refl

    id_is : own.0.item.id ≡ seat.id
    id_is = placed_id es own.0 ∙ ap (λ (m : PlacedItem). m.id) own.2

    sound : (x : Id) (n : PlacedItem) → look_of q x ≡ Some n → look (tree es) x ≡ Some n
    sound x n e = elim (cases_Bool (bytes_eq seat.id x)) [
      | inl hit ↦
          let there : Some (placed_at seat) ≡ Some n = sym (is x ∙ ap (λ b. cond b (Some (placed_at seat)) (look_of p x)) hit) ∙ e in
          ap (look (tree es)) (sym (id_is ∙ same-true seat.id x hit)) ∙ node_at es own.0 t.ids (entry_in k es own.0 own.1).0 ∙ ap Some own.2 ∙ there
      | inr miss ↦ s.sound x n (sym (is x ∙ ap (λ b. cond b (Some (placed_at seat)) (look_of p x)) miss) ∙ e)
    ]

    met : (j : ℕ) → In j (nodes ++ k ∷ []) → is_in (look_of q) (id_at es j) ≡ true
    met j i = elim (in_append j nodes (k ∷ []) i) [
      | inl old ↦ in_put (look_of p) (look_of q) seat.id (placed_at seat) is (id_at es j) ∙ ap (λ b. bytes_eq seat.id (id_at es j) || b) (s.met j old) ∙ or_true (bytes_eq seat.id (id_at es j))
      | inr (inl e) ↦
          in_put (look_of p) (look_of q) seat.id (placed_at seat) is (id_at es j)
          ∙ ap (λ b. b || is_in (look_of p) (id_at es j)) (same-is seat.id (id_at es j) (sym (ap (id_at es) e ∙ id_at-entry es k own.0 own.1 ∙ id_is)))
      | inr (inr f) ↦ absurd f
    ]

-- ---- all nodes

pub all_read : (es : List Entry) → IsTree es → (nodes : List ℕ) → ((k : ℕ) → is_live k es ≡ true → In k nodes) → (p : PlainTree) → SoFar es nodes p → (x : Id) → look_of p x ≡ look (tree es) x
all_read es t nodes each p s x = cases (look_of p x) refl (look (tree es) x) refl
  where
    cases : (o : Option PlacedItem) → look_of p x ≡ o → (r : Option PlacedItem) → look (tree es) x ≡ r → look_of p x ≡ look (tree es) x
    cases (Some n) h r k = h ∙ sym (s.sound x n h)
    cases None h None k = h ∙ sym k
    cases None h (Some m) k =
        let f = node_found es x m k in
        let e = f.0 in
        let there = in_entry es e t.nodes f.1 in
        no_way (is_in (look_of p) x) (ap (is_in (look_of p)) (sym (id_at-entry es e.node e there ∙ f.2)) ∙ s.met e.node (each e.node (ap is_some there))) (in-of_none (look_of p) x h)

pub one_more_at : (es : List Entry) → IsTree es → (nodes : List ℕ) (i k : ℕ) (p q : PlainTree) (seat : Seat) → i < length nodes → k ≡ get_or nodes i k → SoFar es (take i nodes) p → option_map (placed es) (entry k es) ≡ Some (placed_at seat) →
    ((x : Id) → look_of q x ≡ cond (bytes_eq seat.id x) (Some (placed_at seat)) (look_of p x)) → (AreIds p → AreIds q) → SoFar es (take (i + 1) nodes) q
one_more_at es t nodes i k p q seat lt is s at put ids =
    subst (λ ks. SoFar es ks q) (sym (take_more nodes i k lt ∙ ap (λ j. take i nodes ++ j ∷ []) (sym is))) (one_more es t (take i nodes) k p q seat s at put ids)

pub read_out : (es : List Entry) → IsTree es → (nodes : List ℕ) → ((k : ℕ) → times k nodes ≡ cond (is_live k es) 1 0) → (p : PlainTree) (i : ℕ) → length nodes ≤ i → SoFar es (take i nodes) p → (x : Id) → look_of p x ≡ look (tree es) x
read_out es t nodes once p i le s = all_read es t nodes (each_met es nodes once) p (subst (λ ks. SoFar es ks p) (take_all i nodes le) s)

-- ---- one item

pub seat_is : (es : List Entry) → IsTree es → (k : ℕ) (seat : Seat) → option_map (λ e. e.item) (entry k es) ≡ Some seat.item.now → option_map (λ e. e.time) (entry k es) ≡ Some seat.time → seat.id ≡ seat.item.now.id
    → seat.parent ≡ option_and_then (name_at es) (above es k) → seat.children.items ≡ ids_at es (kids k es) → option_map (placed es) (entry k es) ≡ Some (placed_at seat)
unfolding placed above
seat_is es t k seat item time id parent children = cases (entry k es) refl item time
  where
    cases : (o : Option Entry) → entry k es ≡ o → option_map (λ e. e.item) o ≡ Some seat.item.now → option_map (λ e. e.time) o ≡ Some seat.time → option_map (placed es) o ≡ Some (placed_at seat)
    cases None h i m = cc
    cases (Some e) h i m =
        let item_is : e.item ≡ seat.item.now = cc in
        let time_is : e.time ≡ seat.time = cc in
        let node_is : e.node ≡ k = (entry_in k es e h).1 in
        let parent_is : option_and_then (name_at es) e.parent ≡ seat.parent = sym (parent ∙ ap (λ (o : Option Entry). option_and_then (name_at es) (option_and_then (λ (d : Entry). d.parent) o)) h) in
        let kids_are : kid_ids e.node es ≡ seat.children.items = ap (λ n. kid_ids n es) node_is ∙ kid_ids_are k es t.nodes ∙ sym children in
        let id_is : e.item.id ≡ seat.id = ap (λ (v : ItemView). v.id) item_is ∙ sym id in
        ap Some (λ j. record { id = id_is j; kind = (item_is j).kind; content = (item_is j).content; parent = parent_is j; children = kids_are j; time = time_is j })

pub in_some : (g : Id → Option Seat) (x : Id) → is_some (g x) ≡ true → is_in (λ y. option_map placed_at (g y)) x ≡ true
unfolding is_in
in_some g x h = cases (g x) h
  where
    cases : (o : Option Seat) → is_some o ≡ true → is_some (option_map placed_at o) ≡ true
    cases None e = e
    cases (Some s) e = e

-- ---- a set of ids

both_ways : (x y : Id) → bytes_eq x y ≡ bytes_eq y x
both_ways x y = elim (cases_Bool (bytes_eq x y)) [
  | inl e ↦ e ∙ sym (same_turn x y e)
  | inr e ↦ e ∙ sym (false_from (bytes_eq y x) (λ h. no_way (bytes_eq x y) (same_turn y x h) e))
]

pub set_more : (f g : Id → Bool) (ids : List Id) (i : ℕ) (y z : Id) → i < length ids → y ≡ get_or ids i y → z ≡ y → ((x : Id) → f x ≡ has x (take i ids)) → ((x : Id) → g x ≡ cond (bytes_eq z x) true (f x)) → (x : Id) → g x ≡ has x (take (i + 1) ids)
set_more f g ids i y z lt is_y same before after x =
    after x ∙ ap (cond (bytes_eq z x) true) (before x) ∙ ap (λ w. cond (bytes_eq w x) true (has x (take i ids))) same ∙ ends (take i ids)
    ∙ sym (ap (has x) (take_more ids i y lt ∙ ap (λ w. take i ids ++ w ∷ []) (sym is_y)))
  where
    ends : (xs : List Id) → cond (bytes_eq y x) true (has x xs) ≡ has x (xs ++ y ∷ [])
    ends xs = elim (cases_Bool (bytes_eq y x)) [
      | inl e ↦ ap (λ b. cond b true (has x xs)) e ∙ sym (has-append_right x xs (y ∷ []) (has-head x y [] (sym (same-true y x e))))
      | inr e ↦ ap (λ b. cond b true (has x xs)) e ∙ elim (cases_Bool (has x xs)) [
        | inl k ↦ k ∙ sym (has-append_left x xs (y ∷ []) k)
        | inr k ↦ k ∙ sym (false_from (has x (xs ++ y ∷ [])) (λ m. elim (has-append_cases x xs (y ∷ []) m) [
          | inl a ↦ no_way (has x xs) a k
          | inr b ↦ elim (has-cases x y [] b) [ inl q ↦ no_way (bytes_eq y x) (same-is y x (sym q)) e | inr q ↦ no_way (has x []) q (has-nil x) ]
        ]))
      ]
    ]
