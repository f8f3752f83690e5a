-- Rows that stand for a valid tree are built to it.
use Rattle.std.proofs.Common.{◌≡◌, ◌≢◌, ℕ, zero, suc, List, [], ◌∷◌, ◌++◌, length, map, Bool, true, false, not, cond}
use Rattle.std.proofs.Common.{◌&&◌, ◌||◌, inl, inr, refl, sym, ap, ap₂, ◌∙◌, subst, filter, filter_map, find, bytes_eq}
use Rattle.std.proofs.Common.{Option, Some, None, option_map, option_and_then, unwrap_or, append-nil}
use Rattle.std.specs.List.{cons_option}
use Rattle.std.proofs.lemmas.Bool.{and_parts, false≢true}
use Rattle.std.proofs.lemmas.Slice.Eq.{bytes_eq-Decides, slice_eq-Decides}
use Rattle.ss_build.specs.Built.{best, built, built_children, built_parent, claim, claims, comes_back, ids, is_child}
use Rattle.ss_build.specs.Built.{kept_if, lists, named, node_of, or_else, proposal, proposed_parents, tree_of, walk}
use Rattle.ss_build.specs.Built.{with_roots}
use Rattle.ss_build.specs.Rows.{Row, claim_at, claim_of, is_item}
use Rattle.ss_build.specs.Stand.{HasItsRows, IsFresh, IsSameUntimed, StandFor, agrees, row, same_parent, without_time}
use Rattle.ss_build.specs.declared.claims.Claim.{Claim}
use Rattle.ss_record.specs.Ids.{Apart, by_id, firsts, has, places, roots, same_list, unfiled}
use Rattle.ss_record.specs.Kinds.{is_folder, kind_name, kind_of, same_kind}
use Rattle.ss_record.specs.declared.kinds.Kind.{Kind}
use Rattle.ss_record.specs.declared.kinds.Kind.TheVariants.{Bookmark, Folder, Livemark, Query, Separator}
use Rattle.ss_record.specs.declared.readings.Reading.{Reading}
use Rattle.ss_record.specs.declared.readings.Reading.TheVariants.{Item, Skipped, Tombstone}
use Rattle.ss_tree.specs.Trees.{IsUnder, IsValidTree, PlacedItem, empty_tree, node, node_ids, parent_in, places_node}
use Rattle.ss_tree.specs.Trees.{steps}
use Rattle.ss_record.proofs.IdLists.{bytes_eq-apart, has-nil, has-cons, Apart-head, Apart-tail, has-head, has-tail}
use Rattle.ss_build.proofs.Items.{In, claim_in, claim_found, claim_has, claim_none, AreClaims, places_no_root}
use Rattle.ss_build.proofs.Keyed.{key_found, found_key, key_at, has_key, no_key}
use Rattle.ss_build.proofs.Valid.{proposed_root, proposed_claim, proposed_none, node_tree, node_claim, node_places}
use Rattle.ss_build.proofs.Valid.{is_roots}
use Rattle.ss_record.proofs.OfId.{IsRead}
use Rattle.ss_build.proofs.OfRows.{AreRows, of_row, read_from, has_ids, has-with_roots, claims_are}
use Rattle.ss_text.proofs.Basics.{some_same, same_text, bytes_eq-same}

pub filter_all : (p : List ℕ → Bool) (xs : List (List ℕ)) → ((x : List ℕ) → has x xs ≡ true → p x ≡ true) → filter p xs ≡ xs
filter_all p [] h = refl
filter_all p (x ∷ xs) h = ap (λ b. cond b (x ∷ filter p xs) (filter p xs)) (h x (has-head x xs)) ∙ ap (λ w. x ∷ w) (filter_all p xs (λ z k. h z (has-tail z x xs k)))

pub filter_none : (p : List ℕ → Bool) (xs : List (List ℕ)) → ((x : List ℕ) → has x xs ≡ true → p x ≡ false) → filter p xs ≡ []
filter_none p [] h = refl
filter_none p (x ∷ xs) h = ap (λ b. cond b (x ∷ filter p xs) (filter p xs)) (h x (has-head x xs)) ∙ filter_none p xs (λ z k. h z (has-tail z x xs k))

-- ---- lists that a filter and `firsts` leave as they are

firsts_apart : (xs : List (List ℕ)) → Apart xs → firsts xs ≡ xs
firsts_apart [] a = refl
firsts_apart (x ∷ xs) a =
    ap (λ ys. x ∷ filter (λ y. not (bytes_eq y x)) ys) (firsts_apart xs (Apart-tail x xs a))
    ∙ ap (λ ys. x ∷ ys) (filter_all (λ y. not (bytes_eq y x)) xs (λ z k. ap not (bytes_eq-apart z x (λ q. false≢true (sym (Apart-head x xs a) ∙ (ap (λ w. has w xs) (sym q) ∙ k))))))

by_id_nil : by_id [] ≡ []
by_id_nil = refl

-- ---- nodes of a tree

pub node_id : (t : List PlacedItem) (x : List ℕ) (n : PlacedItem) → node x t ≡ Some n → n.id ≡ x
unfolding node
node_id t x n q = (key_found (λ m. m.id) t x n q).1

pub node_has : (t : List PlacedItem) (x : List ℕ) (n : PlacedItem) → node x t ≡ Some n → has x (node_ids t) ≡ true
unfolding node node_ids
node_has t x n q = found_key (λ m. m.id) t x n q

pub has_node : (t : List PlacedItem) (x : List ℕ) → has x (node_ids t) ≡ true → (n : PlacedItem) × (node x t ≡ Some n)
unfolding node node_ids
has_node t x h = has_key (λ m. m.id) t x h

pub node_none : (t : List PlacedItem) (x : List ℕ) → has x (node_ids t) ≡ false → node x t ≡ None
unfolding node node_ids
node_none t x h = no_key (λ m. m.id) t x h

-- the roots are in a valid tree, under `places`
pub root_under : (t : List PlacedItem) → IsValidTree t → (r : List ℕ) → has r roots ≡ true → (n : PlacedItem) × (node r t ≡ Some n) × (n.parent ≡ Some places)
unfolding IsUnder
root_under t v r h = (v.stands places places_node v.top_is r).0 (ap (has r) is_roots ∙ h)

pub under_places : (t : List PlacedItem) → IsValidTree t → (x : List ℕ) (n : PlacedItem) → node x t ≡ Some n → n.parent ≡ Some places → has x roots ≡ true
unfolding IsUnder
under_places t v x n q p = ap (has x) (sym is_roots) ∙ (v.stands places places_node v.top_is x).1 (n, q, p)

pub parent_in_at : (t : List PlacedItem) (x : List ℕ) (n : PlacedItem) (y : List ℕ) → node x t ≡ Some n → n.parent ≡ Some y → parent_in t x ≡ y
unfolding parent_in
parent_in_at t x n y q p = ap (λ o. unwrap_or (option_and_then (λ m. m.parent) o) places) q ∙ ap (λ o. unwrap_or o places) p

pub parent_in_top : (t : List PlacedItem) → IsValidTree t → parent_in t places ≡ places
unfolding parent_in places_node
parent_in_top t v = ap (λ o. unwrap_or (option_and_then (λ m. m.parent) o) places) v.top_is

pub parent_in_no : (t : List PlacedItem) (x : List ℕ) → node x t ≡ None → parent_in t x ≡ places
unfolding parent_in
parent_in_no t x q = ap (λ o. unwrap_or (option_and_then (λ m. m.parent) o) places) q

-- ---- what agrees

same_kind_is : (a b : Kind) → same_kind a b ≡ true → a ≡ b
same_kind_is Bookmark Bookmark e = refl
same_kind_is Query Query e = refl
same_kind_is Folder Folder e = refl
same_kind_is Livemark Livemark e = refl
same_kind_is Separator Separator e = refl
same_kind_is _ _ e = absurd (false≢true e)

pub same_list_is : (xs ys : List (List ℕ)) → same_list xs ys ≡ true → xs ≡ ys
unfolding same_list
same_list_is xs ys e = (slice_eq-Decides bytes_eq-Decides xs ys (same_list xs ys) refl).0 e

-- a claim that says what a node is
pub record IsAs (n : PlacedItem) (e : Claim) : Type 0 where
  pub id : e.item.id ≡ n.id
  pub kind : e.item.kind ≡ n.kind
  pub content : e.item.content ≡ n.content
  pub parent : same_parent n e.parentid ≡ true
  pub listed : e.children ≡ n.children

claim_agrees : (n : PlacedItem) (x : List ℕ) (time : ℕ) (g : Reading) → IsRead x g → n.id ≡ x → agrees n g ≡ true → (e : Claim) × (claim_at time g ≡ Some e) × IsAs n e
claim_agrees n x time Tombstone h q a = absurd (false≢true a)
claim_agrees n x time Skipped h q a = absurd (false≢true a)
claim_agrees n x time (Item i p cs) h q a =
    let first = and_parts (same_kind i.kind n.kind && bytes_eq i.content n.content && same_parent n p) (same_list cs n.children) a in
    let second = and_parts (same_kind i.kind n.kind && bytes_eq i.content n.content) (same_parent n p) first.0 in
    let third = and_parts (same_kind i.kind n.kind) (bytes_eq i.content n.content) second.0 in (
      record { item = i; parentid = p; children = cs; time = time },
      refl,
      record {
        id = h.same i p cs refl ∙ sym q;
        kind = same_kind_is i.kind n.kind third.0;
        content = same_text i.content n.content third.1;
        parent = second.1;
        listed = same_list_is cs n.children first.1;
      },
    )

pub row_found : (rows : List Row) (x : List ℕ) (r : Row) → row x rows ≡ Some r → In r rows × (r.id ≡ x)
unfolding row
row_found rows x r q = key_found (λ s. s.id) rows x r q

pub row_of_in : (rows : List Row) (r : Row) → Apart (map (λ s. s.id) rows) → In r rows → row r.id rows ≡ Some r
unfolding row
row_of_in rows r a i = key_at (λ s. s.id) rows r a i

read_in : (rows : List Row) (r : Row) (e : Claim) → In r rows → claim_of r ≡ Some e → In e (filter_map claim_of rows)
unfolding In
read_in [] r e i q = absurd i
read_in (s ∷ rows) r e (inl same) q = subst (λ o. In e (cons_option o (filter_map claim_of rows))) (sym q ∙ ap claim_of same) (inl refl)
read_in (s ∷ rows) r e (inr i) q = later (claim_of s) (read_in rows r e i q)
  where
    later : (o : Option Claim) → In e (filter_map claim_of rows) → In e (cons_option o (filter_map claim_of rows))
    later None j = j
    later (Some f) j = inr j

In-left : {X : Type 0} (xs ys : List X) (x : X) → In x xs → In x (xs ++ ys)
unfolding In
In-left [] ys x i = absurd i
In-left (z ∷ zs) ys x (inl q) = inl q
In-left (z ∷ zs) ys x (inr i) = inr (In-left zs ys x i)

read_claim : (rows : List Row) (e : Claim) → In e (filter_map claim_of rows) → In e (claims rows)
unfolding claims with_roots
read_claim rows e i = In-left (filter_map claim_of rows) _ e i

item_reading : (r : Row) (e : Claim) → claim_of r ≡ Some e → is_item r.reading ≡ true
unfolding claim_of
item_reading r e q = go r.reading refl q
  where
    go : (g : Reading) → r.reading ≡ g → claim_at r.time g ≡ Some e → is_item r.reading ≡ true
    go (Item i p cs) f k = ap is_item f
    go Tombstone f k = cc
    go Skipped f k = cc

-- ---- rows that have a valid tree's items

pub steps_same : (f g : List ℕ → List ℕ) → ((x : List ℕ) → f x ≡ g x) → (k : ℕ) (x : List ℕ) → steps f k x ≡ steps g k x
unfolding steps
steps_same f g h zero x = refl
steps_same f g h (suc k) x = ap (steps f k) (h x) ∙ steps_same f g h k (g x)

pub steps_top : (f : List ℕ → List ℕ) (top' : List ℕ) → f top' ≡ top' → (k : ℕ) → steps f k top' ≡ top'
unfolding steps
steps_top f top' h zero = refl
steps_top f top' h (suc k) = ap (steps f k) h ∙ steps_top f top' h k

pub steps_after : (f : List ℕ → List ℕ) (k : ℕ) (x : List ℕ) → steps f k (f x) ≡ f (steps f k x)
unfolding steps
steps_after f zero x = refl
steps_after f (suc k) x = steps_after f k (f x)

-- what is on a walk is some steps away
pub walk_steps : (f : List ℕ → List ℕ) (n : ℕ) (x z : List ℕ) → has z (walk f n x) ≡ true → (k : ℕ) × (steps f k x ≡ z)
unfolding walk steps
walk_steps f zero x z h = absurd (false≢true (sym (has-nil z) ∙ h))
walk_steps f (suc n) x z h = go (bytes_eq z x) refl (sym (has-cons z x (walk f n (f x))) ∙ h) (walk_steps f n (f x) z)
  where
    go : (b : Bool) → bytes_eq z x ≡ b → (b || has z (walk f n (f x))) ≡ true → (has z (walk f n (f x)) ≡ true → (k : ℕ) × (steps f k (f x) ≡ z)) → (k : ℕ) × (steps f k x ≡ z)
    go true q k ih = (zero, sym (same_text z x q))
    go false q k ih = let r = ih k in (suc r.0, r.1)

-- what comes back to itself does not reach the top, unless it is the top
pub circle_top : (f : List ℕ → List ℕ) (top' : List ℕ) → f top' ≡ top' → (j k : ℕ) (x : List ℕ) → steps f j (f x) ≡ x → steps f k x ≡ top' → x ≡ top'
unfolding steps
circle_top f top' h j zero x back reach = reach
circle_top f top' h j (suc k) x back reach =
    let next : f x ≡ top' = circle_top f top' h j k (f x) (steps_after f j (f x) ∙ ap f back) reach in
    sym back ∙ (ap (steps f j) next ∙ steps_top f top' h j)

pub named_is : (es : List Claim) (y : List ℕ) (f : Claim) → claim y es ≡ Some f → is_folder f.item.kind ≡ true → find (λ g. is_folder g.item.kind && bytes_eq y g.item.id) es ≡ Some f
unfolding claim
named_is [] y f q h = cc
named_is (g ∷ gs) y f q h = go (bytes_eq y g.item.id) refl q (named_is gs y f)
  where
    no : (b : Bool) → (b && false) ≡ false
    no true = refl
    no false = refl

    go : (b : Bool) → bytes_eq y g.item.id ≡ b → cond b (Some g) (find (λ w. bytes_eq y w.item.id) gs) ≡ Some f
        → (find (λ w. bytes_eq y w.item.id) gs ≡ Some f → is_folder f.item.kind ≡ true → find (λ w. is_folder w.item.kind && bytes_eq y w.item.id) gs ≡ Some f)
        → cond (is_folder g.item.kind && bytes_eq y g.item.id) (Some g) (find (λ w. is_folder w.item.kind && bytes_eq y w.item.id) gs) ≡ Some f
    go true e k ih =
        let same : g ≡ f = some_same k in
        ap (λ b. cond b (Some g) (find (λ w. is_folder w.item.kind && bytes_eq y w.item.id) gs)) (ap₂ (λ a b. a && b) (ap (λ w. is_folder w.item.kind) same ∙ h) e) ∙ k
    go false e k ih =
        ap (λ b. cond b (Some g) (find (λ w. is_folder w.item.kind && bytes_eq y w.item.id) gs)) (ap (λ b. is_folder g.item.kind && b) e ∙ no (is_folder g.item.kind)) ∙ ih k h

proposal_named : (es : List Claim) (e f : Claim) (y : List ℕ) → e.parentid ≡ Some y → claim y es ≡ Some f → is_folder f.item.kind ≡ true → lists f e.item.id ≡ true → proposal es e ≡ y
unfolding proposal named or_else kept_if
proposal_named es e f y p q h l =
    let n : option_and_then (λ z. find (λ g. is_folder g.item.kind && bytes_eq z g.item.id) es) e.parentid ≡ Some f =
    ap (option_and_then (λ z. find (λ g. is_folder g.item.kind && bytes_eq z g.item.id) es)) p ∙ named_is es y f q h in
    let id : f.item.id ≡ y = (claim_found es y f q).1 in
    subst (λ o. unwrap_or (option_map (λ g. g.item.id) (or_else (kept_if (λ g. lists g e.item.id) o) (or_else (best (filter (λ g. lists g e.item.id) es)) o))) unfiled ≡ y) (sym n)
    (subst (λ b. unwrap_or (option_map (λ g. g.item.id) (or_else (cond b (Some f) None) (or_else (best (filter (λ g. lists g e.item.id) es)) (Some f)))) unfiled ≡ y) (sym l) id)

made : List ℕ → Kind → List ℕ → Option (List ℕ) → List (List ℕ) → PlacedItem
made i k c p cs = record { id = i; kind = k; content = c; parent = p; children = cs; time = 0 }

made_same : (i j : List ℕ) (k l : Kind) (c d : List ℕ) (p q : Option (List ℕ)) (cs ds : List (List ℕ)) → i ≡ j → k ≡ l → c ≡ d → p ≡ q → cs ≡ ds
    → without_time (record { id = i; kind = k; content = c; parent = p; children = cs; time = 0 }) ≡ without_time (record { id = j; kind = l; content = d; parent = q; children = ds; time = 0 })
unfolding made
made_same i j k l c d p q cs ds e1 e2 e3 e4 e5 =
    ap (λ w. made w k c p cs) e1 ∙ (ap (λ w. made j w c p cs) e2 ∙ (ap (λ w. made j l w p cs) e3 ∙ (ap (λ w. made j l d w cs) e4 ∙ ap (λ w. made j l d q w) e5)))

module _ (t : List PlacedItem) (v : IsValidTree t) (rows : List Row) (a : AreRows rows) (h : HasItsRows t rows) where
  es_are : AreClaims (claims rows)
  es_are = claims_are rows a

  matched : (x : List ℕ) (n : PlacedItem) → x ≢ places → node x t ≡ Some n → (e : Claim) × (claim x (claims rows) ≡ Some e) × IsAs n e
  unfolding claim_of
  matched x n ne q =
      let r = h.each x n ne q in
      let i = row_found rows x r.0 r.1 in
      let e = claim_agrees n x (r.0).time (r.0).reading (subst (λ w. IsRead w (r.0).reading) i.1 (a.reads r.0 i.0)) (node_id t x n q) r.2 in
      let inside : In e.0 (claims rows) = read_claim rows e.0 (read_in rows r.0 e.0 i.0 e.1) in
      (e.0, ap (λ w. claim w (claims rows)) (sym (e.2.id ∙ node_id t x n q)) ∙ claim_in (claims rows) e.0 es_are.apart inside, e.2)

  item_in : (x : List ℕ) → has x (ids (claims rows)) ≡ true → has x (node_ids t) ≡ true
  unfolding claims
  item_in x k = go (has x (ids (filter_map claim_of rows))) refl (sym (has-with_roots (filter_map claim_of rows) x) ∙ k)
    where
      go : (b : Bool) → has x (ids (filter_map claim_of rows)) ≡ b → (b || has x roots) ≡ true → has x (node_ids t) ≡ true
      go true q r =
          let e = has_ids (filter_map claim_of rows) x q in
          let s = read_from rows e.0 e.1 in
          let same : (s.0).id ≡ x = sym ((of_row s.0 e.0 (a.reads s.0 s.1) s.2).id) ∙ e.2 in
          h.others x s.0 (ap (λ w. row w rows) (sym same) ∙ row_of_in rows s.0 a.apart s.1) (item_reading s.0 e.0 s.2)
      go false q r = let n = root_under t v x r in node_has t x n.0 n.1

  node_of_item : (x : List ℕ) → has x (ids (claims rows)) ≡ true → (n : PlacedItem) × (node x t ≡ Some n)
  node_of_item x k = has_node t x (item_in x k)

  item_places : (x : List ℕ) → has x (ids (claims rows)) ≡ true → x ≢ places
  item_places x k q = false≢true (sym es_are.no_places ∙ (ap (λ w. has w (ids (claims rows))) (sym q) ∙ k))

  -- proposed parents are the parents
  proposed_item : (x : List ℕ) (n : PlacedItem) (e : Claim) → x ≢ places → node x t ≡ Some n → claim x (claims rows) ≡ Some e → IsAs n e → proposed_parents (claims rows) x ≡ parent_in t x
  unfolding lists IsUnder
  proposed_item x n e ne q k w0 = go (has x roots) refl
    where
      go : (b : Bool) → has x roots ≡ b → proposed_parents (claims rows) x ≡ parent_in t x
      go true r = let u = root_under t v x r in proposed_root (claims rows) x r ∙ sym (parent_in_at t x u.0 places u.1 u.2)
      go false r =
          let f = v.folder x n q ne in
          let g = matched f.0 f.2 (not_top f.0 f.1) f.3 in
          proposed_claim (claims rows) x e r k
          ∙ (proposal_named (claims rows) e g.0 f.0 (names f.0 e.parentid refl f.1) g.1 (ap is_folder g.2.kind ∙ f.4)
          (listed g.0 f.0 f.2 g.2 f.1 f.3 (ap is_folder g.2.kind ∙ f.4))
          ∙ sym (parent_in_at t x n f.0 q f.1))
        where
          not_top : (y : List ℕ) → n.parent ≡ Some y → y ≢ places
          not_top y p z = false≢true (sym r ∙ under_places t v x n q (p ∙ ap Some z))

          names : (y : List ℕ) (o : Option (List ℕ)) → e.parentid ≡ o → n.parent ≡ Some y → e.parentid ≡ Some y
          names y None z p = absurd (false≢true (sym r ∙ (ap (λ w. has w roots) (sym (node_id t x n q)) ∙ (sym (ap (same_parent n) z) ∙ w0.parent))))
          names y (Some w) z p =
              let s : unwrap_or (option_map (bytes_eq w) n.parent) false ≡ true = sym (ap (same_parent n) z) ∙ w0.parent in
              z ∙ ap Some (same_text w y (sym (ap (λ o. unwrap_or (option_map (bytes_eq w) o) false) p) ∙ s))

          listed : (g : Claim) (y : List ℕ) (m : PlacedItem) → IsAs m g → n.parent ≡ Some y → node y t ≡ Some m → is_folder g.item.kind ≡ true → lists g e.item.id ≡ true
          listed g y m w p z fold = ap₂ (λ b c. b && c) fold (ap (has e.item.id) w.listed ∙ (ap (λ u. has u m.children) (w0.id ∙ node_id t x n q) ∙ (v.stands y m z x).1 (n, q, p)))

  no_root : (x : List ℕ) → has x (node_ids t) ≡ false → has x roots ≡ false
  no_root x k = go (has x roots) refl
    where
      go : (b : Bool) → has x roots ≡ b → b ≡ false
      go true r = let n = root_under t v x r in absurd (false≢true (sym k ∙ node_has t x n.0 n.1))
      go false r = refl

  no_item : (x : List ℕ) → has x (node_ids t) ≡ false → has x (ids (claims rows)) ≡ false
  no_item x k = go (has x (ids (claims rows))) refl
    where
      go : (b : Bool) → has x (ids (claims rows)) ≡ b → b ≡ false
      go true r = absurd (false≢true (sym k ∙ item_in x r))
      go false r = refl

  top_up : proposed_parents (claims rows) places ≡ places
  top_up = proposed_none (claims rows) places places_no_root es_are.no_places

  proposed_is : (x : List ℕ) → proposed_parents (claims rows) x ≡ parent_in t x
  proposed_is x = top_or (bytes_eq x places) refl
    where
      top_or : (b : Bool) → bytes_eq x places ≡ b → proposed_parents (claims rows) x ≡ parent_in t x
      top_or true q = ap (proposed_parents (claims rows)) (same_text x places q) ∙ (top_up ∙ (sym (parent_in_top t v) ∙ sym (ap (parent_in t) (same_text x places q))))
      top_or false q = known (has x (node_ids t)) refl
        where
          ne : x ≢ places
          ne p = false≢true (sym q ∙ bytes_eq-same x places p)

          known : (b : Bool) → has x (node_ids t) ≡ b → proposed_parents (claims rows) x ≡ parent_in t x
          known true k = let n = has_node t x k in let e = matched x n.0 ne n.1 in proposed_item x n.0 e.0 ne n.1 e.1 e.2
          known false k = proposed_none (claims rows) x (no_root x k) (no_item x k) ∙ sym (parent_in_no t x (node_none t x k))

  never_back : (x : List ℕ) (n : PlacedItem) → x ≢ places → node x t ≡ Some n → comes_back (proposed_parents (claims rows)) (length (claims rows)) x ≡ false
  unfolding comes_back
  never_back x n ne q = go (has x (walk (proposed_parents (claims rows)) (length (claims rows)) (proposed_parents (claims rows) x))) refl
    where
      go : (b : Bool) → has x (walk (proposed_parents (claims rows)) (length (claims rows)) (proposed_parents (claims rows) x)) ≡ b → b ≡ false
      go false k = refl
      go true k =
          let back = walk_steps (proposed_parents (claims rows)) (length (claims rows)) (proposed_parents (claims rows) x) x k in
          let up = v.reaches x n q in
          absurd (ne (circle_top (proposed_parents (claims rows)) places top_up back.0 up.0 x back.1 (steps_same (proposed_parents (claims rows)) (parent_in t) proposed_is up.0 x ∙ up.1)))

  parent_is : (x : List ℕ) (n : PlacedItem) → x ≢ places → node x t ≡ Some n → built_parent (claims rows) x ≡ parent_in t x
  unfolding built_parent
  parent_is x n ne q = ap (λ b. cond b unfiled (proposed_parents (claims rows) x)) (never_back x n ne q) ∙ proposed_is x

  -- children are the children
  top_no_parent : (m : PlacedItem) (x : List ℕ) → node places t ≡ Some m → m.parent ≡ Some x → ⊥
  unfolding places_node
  top_no_parent m x q p = let same : places_node ≡ m = some_same (sym v.top_is ∙ q) in no (ap (λ w. w.parent) same ∙ p)
    where
      no : None ≡ Some x → ⊥
      no e = cc

  child_parts : (x c : List ℕ) → is_child (claims rows) x c ≡ true → (n : PlacedItem) × (node c t ≡ Some n) × (n.parent ≡ Some x)
  unfolding is_child
  child_parts x c k =
      let p = and_parts (has c (ids (claims rows))) (bytes_eq (built_parent (claims rows) c) x) k in
      let n = node_of_item c p.0 in
      let f = v.folder c n.0 n.1 (item_places c p.0) in
      let up : f.0 ≡ x = sym (parent_in_at t c n.0 f.0 n.1 f.1) ∙ (sym (parent_is c n.0 (item_places c p.0) n.1) ∙ same_text (built_parent (claims rows) c) x p.1) in
      (n.0, n.1, f.1 ∙ ap Some up)

  child_from : (x c : List ℕ) (n : PlacedItem) → c ≢ places → node c t ≡ Some n → n.parent ≡ Some x → is_child (claims rows) x c ≡ true
  unfolding is_child
  child_from x c n ne q p =
      let e = matched c n ne q in
      ap₂ (λ b d. b && d) (claim_has (claims rows) c e.0 e.1) (bytes_eq-same (built_parent (claims rows) c) x (parent_is c n ne q ∙ parent_in_at t c n x q p))

  children_is : (x : List ℕ) (n : PlacedItem) (e : Claim) → x ≢ places → node x t ≡ Some n → e.item.id ≡ x → e.children ≡ n.children → built_children (claims rows) e ≡ n.children
  unfolding built_children IsUnder
  children_is x n e ne q id l =
      ap₂ (λ xs ys. xs ++ ys) listed (ap (λ ls. by_id (filter (λ c. is_child (claims rows) e.item.id c && not (has c ls)) (ids (claims rows)))) listed ∙ (ap by_id rest ∙ by_id_nil))
      ∙ append-nil n.children
    where
      all_children : (c : List ℕ) → has c n.children ≡ true → is_child (claims rows) e.item.id c ≡ true
      all_children c k =
          let u = (v.stands x n q c).0 k in
          child_from e.item.id c u.0 (λ z. top_no_parent u.0 x (ap (λ w. node w t) (sym z) ∙ u.1) u.2) u.1 (u.2 ∙ ap Some (sym id))

      listed : firsts (filter (is_child (claims rows) e.item.id) e.children) ≡ n.children
      listed = ap (λ xs. firsts (filter (is_child (claims rows) e.item.id) xs)) l ∙ (ap firsts (filter_all (is_child (claims rows) e.item.id) n.children all_children) ∙ firsts_apart n.children (v.once x n q))

      rest : filter (λ c. is_child (claims rows) e.item.id c && not (has c n.children)) (ids (claims rows)) ≡ []
      rest = filter_none (λ c. is_child (claims rows) e.item.id c && not (has c n.children)) (ids (claims rows)) (λ c k. go c (is_child (claims rows) e.item.id c) refl)
        where
          go : (c : List ℕ) (b : Bool) → is_child (claims rows) e.item.id c ≡ b → (is_child (claims rows) e.item.id c && not (has c n.children)) ≡ false
          go c true k = let u = child_parts e.item.id c k in ap₂ (λ a b. a && not b) k ((v.stands x n q c).1 (u.0, u.1, u.2 ∙ ap Some id))
          go c false k = ap (λ a. a && not (has c n.children)) k

  same_node : (x : List ℕ) (n : PlacedItem) (e : Claim) → x ≢ places → node x t ≡ Some n → claim x (claims rows) ≡ Some e → IsAs n e → without_time (node_of (claims rows) e) ≡ without_time n
  unfolding node_of
  same_node x n e ne q k w0 =
      let f = v.folder x n q ne in
      let id : e.item.id ≡ x = (claim_found (claims rows) x e k).1 in
      let up : Some (built_parent (claims rows) e.item.id) ≡ n.parent = ap Some (ap (built_parent (claims rows)) id ∙ (parent_is x n ne q ∙ parent_in_at t x n f.0 q f.1)) ∙ sym f.1 in
      let below : built_children (claims rows) e ≡ n.children = children_is x n e ne q id w0.listed in
      made_same e.item.id n.id e.item.kind n.kind e.item.content n.content (Some (built_parent (claims rows) e.item.id)) n.parent (built_children (claims rows) e) n.children w0.id w0.kind w0.content up below

  pub rows_built : IsSameUntimed (tree_of (claims rows)) t
  rows_built x = top_or (bytes_eq x places) refl
    where
      top_or : (b : Bool) → bytes_eq x places ≡ b → option_map without_time (node x (tree_of (claims rows))) ≡ option_map without_time (node x t)
      top_or true q =
          let p : x ≡ places = same_text x places q in
          ap (option_map without_time) (ap (λ w. node w (tree_of (claims rows))) p ∙ (node_places (claims rows) ∙ (sym v.top_is ∙ sym (ap (λ w. node w t) p))))
      top_or false q = known (has x (node_ids t)) refl
        where
          ne : x ≢ places
          ne p = false≢true (sym q ∙ bytes_eq-same x places p)

          known : (b : Bool) → has x (node_ids t) ≡ b → option_map without_time (node x (tree_of (claims rows))) ≡ option_map without_time (node x t)
          known true k =
              let n = has_node t x k in
              let e = matched x n.0 ne n.1 in
              ap (option_map without_time) (node_claim (claims rows) x e.0 es_are e.1) ∙ (ap Some (same_node x n.0 e.0 ne n.1 e.1 e.2) ∙ sym (ap (option_map without_time) n.1))
          known false k = ap (option_map without_time) (node_tree (claims rows) x ne ∙ (ap (option_map (node_of (claims rows))) (claim_none (claims rows) x (no_item x k)) ∙ sym (node_none t x k)))

-- ---- rows none of which reads as an item

no_claim : (r : Row) → is_item r.reading ≡ false → claim_of r ≡ None
unfolding claim_of
no_claim r h = go r.reading h
  where
    go : (g : Reading) → is_item g ≡ false → claim_at r.time g ≡ None
    go (Item i p cs) k = absurd (false≢true (sym k))
    go Tombstone k = refl
    go Skipped k = refl

no_claims : (rows : List Row) → ((r : Row) → In r rows → is_item r.reading ≡ false) → filter_map claim_of rows ≡ []
unfolding In
no_claims [] h = refl
no_claims (r ∷ rows) h = ap (λ o. cons_option o (filter_map claim_of rows)) (no_claim r (h r (inl refl))) ∙ no_claims rows (λ s i. h s (inr i))

empty_is : tree_of (with_roots []) ≡ empty_tree
unfolding tree_of with_roots empty_tree node_of built_parent built_children is_child proposed_parents proposal comes_back ids claim lists named best or_else kept_if roots unfiled places has walk places_node
empty_is = refl

pub fresh_built : (t : List PlacedItem) (rows : List Row) → AreRows rows → IsFresh t rows → IsSameUntimed (tree_of (claims rows)) t
unfolding claims
fresh_built t rows a f x =
    let none : filter_map claim_of rows ≡ [] = no_claims rows (λ r i. f.none r.id r (row_of_in rows r a.apart i)) in
    ap (λ es. option_map without_time (node x (tree_of (with_roots es)))) none ∙ (ap (λ u. option_map without_time (node x u)) empty_is ∙ sym (f.empty x))

pub stand_built : (t : List PlacedItem) (rows : List Row) → IsValidTree t → AreRows rows → StandFor t rows → IsSameUntimed (built rows) t
unfolding built
stand_built t rows v a (inl h) = rows_built t v rows a h
stand_built t rows v a (inr f) = fresh_built t rows a f
