-- The built tree is valid.
use Rattle.std.proofs.Common.{◌≡◌, ◌≢◌, ℕ, zero, suc, List, [], ◌∷◌, ◌++◌, length, map, Bool, true, false, not, cond}
use Rattle.std.proofs.Common.{◌&&◌, ◌||◌, ◌⊎◌, ◌↔◌, inl, inr, refl, sym, ap, ap₂, ◌∙◌, subst, arith, filter, find}
use Rattle.std.proofs.Common.{bytes_eq, Option, Some, None, option_map, option_and_then, unwrap_or}
use Rattle.std.proofs.lemmas.Bool.{and_parts, false≢true}
use Rattle.ss_build.specs.Built.{built_children, built_parent, claim, comes_back, ids, is_child, node_of, proposal}
use Rattle.ss_build.specs.Built.{proposed_parents, tree_of, walk}
use Rattle.ss_build.specs.declared.claims.Claim.{Claim}
use Rattle.ss_record.specs.Ids.{Apart, by_id, firsts, has, places, roots, unfiled}
use Rattle.ss_record.specs.Kinds.{is_folder}
use Rattle.ss_tree.specs.Trees.{IsUnder, IsValidTree, PlacedItem, Reaches, node, node_ids, parent_in, places_node}
use Rattle.ss_record.proofs.IdLists.{bytes_eq-refl, bytes_eq-apart, has-nil, has-cons, has-filter, has-firsts}
use Rattle.ss_record.proofs.IdLists.{has-by_id, has-append, Apart-cons, Apart-filter, Apart-firsts, Apart-by_id}
use Rattle.ss_record.proofs.IdLists.{Apart-append}
use Rattle.ss_build.proofs.Walks.{Reaches-here, Reaches-step, walk_ends}
use Rattle.ss_build.proofs.Items.{In, In_has, claim_in, claim_found, claim_has, has_claim, claim_none, AreClaims}
use Rattle.ss_build.proofs.Items.{places_no_root, unfiled_root, Apart-roots, root-places, proposal_folder}
use Rattle.ss_text.proofs.Basics.{same_text, bytes_eq-same}

pub is_roots : places_node.children ≡ roots
unfolding places_node
is_roots = refl

-- ---- proposed parents, and parents

pub proposed_root : (es : List Claim) (r : List ℕ) → has r roots ≡ true → proposed_parents es r ≡ places
unfolding proposed_parents
proposed_root es r h = ap (λ b. cond b places (unwrap_or (option_map (proposal es) (claim r es)) places)) h

pub proposed_claim : (es : List Claim) (x : List ℕ) (e : Claim) → has x roots ≡ false → claim x es ≡ Some e → proposed_parents es x ≡ proposal es e
unfolding proposed_parents
proposed_claim es x e h q = ap (λ b. cond b places (unwrap_or (option_map (proposal es) (claim x es)) places)) h ∙ ap (λ o. unwrap_or (option_map (proposal es) o) places) q

pub proposed_none : (es : List Claim) (x : List ℕ) → has x roots ≡ false → has x (ids es) ≡ false → proposed_parents es x ≡ places
unfolding proposed_parents
proposed_none es x h n = ap (λ b. cond b places (unwrap_or (option_map (proposal es) (claim x es)) places)) h ∙ ap (λ o. unwrap_or (option_map (proposal es) o) places) (claim_none es x n)

-- an item's proposed parent is a folder, or the item is a root
pub proposed_cases : (es : List Claim) → AreClaims es → (x : List ℕ) → has x (ids es) ≡ true
    → ((has x roots ≡ true) × (proposed_parents es x ≡ places)) ⊎ ((f : Claim) × In f es × (is_folder f.item.kind ≡ true) × (proposed_parents es x ≡ f.item.id))
proposed_cases es a x h = go (has x roots) refl
  where
    go : (b : Bool) → has x roots ≡ b → ((has x roots ≡ true) × (proposed_parents es x ≡ places)) ⊎ ((f : Claim) × In f es × (is_folder f.item.kind ≡ true) × (proposed_parents es x ≡ f.item.id))
    go true r = inl (r, proposed_root es x r)
    go false r = let e = has_claim es x h in let f = proposal_folder es a e.0 in inr (f.0, f.1, f.2, proposed_claim es x e.0 r e.1 ∙ f.3)

parent_apart : (es : List Claim) (x : List ℕ) → comes_back (proposed_parents es) (length es) x ≡ false → built_parent es x ≡ proposed_parents es x
unfolding built_parent
parent_apart es x h = ap (λ b. cond b unfiled (proposed_parents es x)) h

parent_circle : (es : List Claim) (x : List ℕ) → comes_back (proposed_parents es) (length es) x ≡ true → built_parent es x ≡ unfiled
unfolding built_parent
parent_circle es x h = ap (λ b. cond b unfiled (proposed_parents es x)) h

walk_places : (es : List Claim) (r : List ℕ) (n : ℕ) → AreClaims es → r ≢ places → has r (walk (proposed_parents es) n places) ≡ false
unfolding walk
walk_places es r zero a ne = has-nil r
walk_places es r (suc n) a ne =
    has-cons r places (walk (proposed_parents es) n (proposed_parents es places))
    ∙ (ap₂ (λ b w. b || has r (walk (proposed_parents es) n w)) (bytes_eq-apart r places ne) (proposed_none es places places_no_root a.no_places)
    ∙ walk_places es r n a ne)

root_apart : (es : List Claim) (r : List ℕ) (n : ℕ) → AreClaims es → has r roots ≡ true → comes_back (proposed_parents es) n r ≡ false
unfolding comes_back
root_apart es r n a h = ap (λ w. has r (walk (proposed_parents es) n w)) (proposed_root es r h) ∙ walk_places es r n a (root-places r h)

pub parent_root : (es : List Claim) (r : List ℕ) → AreClaims es → has r roots ≡ true → built_parent es r ≡ places
parent_root es r a h = parent_apart es r (root_apart es r (length es) a h) ∙ proposed_root es r h

unfiled_claim : (es : List Claim) → AreClaims es → (f : Claim) × In f es × (is_folder f.item.kind ≡ true) × (f.item.id ≡ unfiled)
unfiled_claim es a =
    let u = has_claim es unfiled (a.roots_in unfiled unfiled_root) in
    let r = claim_found es unfiled u.0 u.1 in
    (u.0, r.0, a.root_folder u.0 r.0 (ap (λ x. has x roots) r.1 ∙ unfiled_root), r.1)

-- so is its parent
pub parent_cases : (es : List Claim) → AreClaims es → (x : List ℕ) → has x (ids es) ≡ true
    → ((has x roots ≡ true) × (built_parent es x ≡ places)) ⊎ ((f : Claim) × In f es × (is_folder f.item.kind ≡ true) × (built_parent es x ≡ f.item.id))
parent_cases es a x h = go (comes_back (proposed_parents es) (length es) x) refl (proposed_cases es a x h)
  where
    go : (b : Bool) → comes_back (proposed_parents es) (length es) x ≡ b
        → ((has x roots ≡ true) × (proposed_parents es x ≡ places)) ⊎ ((f : Claim) × In f es × (is_folder f.item.kind ≡ true) × (proposed_parents es x ≡ f.item.id))
        → ((has x roots ≡ true) × (built_parent es x ≡ places)) ⊎ ((f : Claim) × In f es × (is_folder f.item.kind ≡ true) × (built_parent es x ≡ f.item.id))
    go true c p = let u = unfiled_claim es a in inr (u.0, u.1, u.2, parent_circle es x c ∙ sym u.3)
    go false c (inl p) = inl (p.0, parent_apart es x c ∙ p.1)
    go false c (inr p) = inr (p.0, p.1, p.2, parent_apart es x c ∙ p.3)

-- ---- the tree's items

find-map : (es fs : List Claim) (x : List ℕ) → find (λ n. bytes_eq x n.id) (map (node_of fs) es) ≡ option_map (node_of fs) (find (λ e. bytes_eq x e.item.id) es)
unfolding node_of
find-map [] fs x = refl
find-map (e ∷ es) fs x = go (bytes_eq x e.item.id) (find-map es fs x)
  where
    go : (b : Bool) → find (λ n. bytes_eq x n.id) (map (node_of fs) es) ≡ option_map (node_of fs) (find (λ g. bytes_eq x g.item.id) es)
        → cond b (Some (node_of fs e)) (find (λ n. bytes_eq x n.id) (map (node_of fs) es)) ≡ option_map (node_of fs) (cond b (Some e) (find (λ g. bytes_eq x g.item.id) es))
    go true ih = refl
    go false ih = ih

pub node_tree : (es : List Claim) (x : List ℕ) → x ≢ places → node x (tree_of es) ≡ option_map (node_of es) (claim x es)
unfolding node tree_of claim places_node
node_tree es x ne = ap (λ b. cond b (Some places_node) (find (λ n. bytes_eq x n.id) (map (node_of es) es))) (bytes_eq-apart x places ne) ∙ find-map es es x

pub node_claim : (es : List Claim) (x : List ℕ) (e : Claim) → AreClaims es → claim x es ≡ Some e → node x (tree_of es) ≡ Some (node_of es e)
node_claim es x e a q = node_tree es x ne ∙ ap (option_map (node_of es)) q
  where
    ne : x ≢ places
    ne p = false≢true (sym a.no_places ∙ (ap (λ w. has w (ids es)) (sym p) ∙ claim_has es x e q))

-- an item of the tree that is not the top is of a claim
pub node_from : (es : List Claim) (x : List ℕ) (n : PlacedItem) → x ≢ places → node x (tree_of es) ≡ Some n → (e : Claim) × (claim x es ≡ Some e) × (n ≡ node_of es e)
node_from es x n ne q = go (claim x es) refl (sym (node_tree es x ne) ∙ q)
  where
    go : (o : Option Claim) → claim x es ≡ o → option_map (node_of es) o ≡ Some n → (e : Claim) × (claim x es ≡ Some e) × (n ≡ node_of es e)
    go None f g = cc
    go (Some e) f g = (e, f, cc)

pub node_places : (es : List Claim) → node places (tree_of es) ≡ Some places_node
unfolding node tree_of places_node
node_places es = ap (λ b. cond b (Some places_node) (find (λ n. bytes_eq places n.id) (map (node_of es) es))) (bytes_eq-refl places)

pub parent_in_claim : (es : List Claim) (x : List ℕ) (e : Claim) → AreClaims es → claim x es ≡ Some e → parent_in (tree_of es) x ≡ built_parent es x
unfolding parent_in node_of
parent_in_claim es x e a q = ap (λ o. unwrap_or (option_and_then (λ n. n.parent) o) places) (node_claim es x e a q) ∙ ap (built_parent es) (claim_found es x e q).1

parent_in_places : (es : List Claim) → parent_in (tree_of es) places ≡ places
unfolding parent_in places_node
parent_in_places es = ap (λ o. unwrap_or (option_and_then (λ n. n.parent) o) places) (node_places es)

parent_in_none : (es : List Claim) (x : List ℕ) → x ≢ places → has x (ids es) ≡ false → parent_in (tree_of es) x ≡ places
unfolding parent_in
parent_in_none es x ne h = ap (λ o. unwrap_or (option_and_then (λ n. n.parent) o) places) (node_tree es x ne ∙ ap (option_map (node_of es)) (claim_none es x h))

-- ---- the way up

step_agrees : (es : List Claim) → AreClaims es → (z : List ℕ) → z ≢ places → has z (ids es) ≡ true → parent_in (tree_of es) z ≡ built_parent es z
step_agrees es a z ne h = let e = has_claim es z h in parent_in_claim es z e.0 a e.1

unfiled_up : (es : List Claim) → AreClaims es → parent_in (tree_of es) unfiled ≡ places
unfiled_up es a = step_agrees es a unfiled (root-places unfiled unfiled_root) (a.roots_in unfiled unfiled_root) ∙ parent_root es unfiled a unfiled_root

pub length-ids : (es : List Claim) → length (ids es) ≡ length es
unfolding ids
length-ids [] = refl
length-ids (e ∷ es) = ap suc (length-ids es)

pub up_ends : (es : List Claim) → AreClaims es → (x : List ℕ) → has x (ids es) ≡ true → Reaches (parent_in (tree_of es)) places x
up_ends es a =
    walk_ends (ids es) (length es) (let n : length (ids es) ≡ length es = length-ids es in omega arith) places (proposed_parents es) (parent_in (tree_of es)) closed agree jump
  where
    closed : (z : List ℕ) → has z (ids es) ≡ true → (has (proposed_parents es z) (ids es) ≡ true) ⊎ (proposed_parents es z ≡ places)
    closed z h = pick (proposed_cases es a z h)
      where
        pick : ((has z roots ≡ true) × (proposed_parents es z ≡ places)) ⊎ ((f : Claim) × In f es × (is_folder f.item.kind ≡ true) × (proposed_parents es z ≡ f.item.id)) → (has (proposed_parents es z) (ids es) ≡ true) ⊎ (proposed_parents es z ≡ places)
        pick (inl p) = inr p.1
        pick (inr p) = inl (ap (λ w. has w (ids es)) p.3 ∙ In_has es p.0 p.1)

    agree : (z : List ℕ) → comes_back (proposed_parents es) (length es) z ≡ false → parent_in (tree_of es) z ≡ proposed_parents es z
    agree z c = top_or (bytes_eq z places) refl
      where
        top_or : (b : Bool) → bytes_eq z places ≡ b → parent_in (tree_of es) z ≡ proposed_parents es z
        top_or true q =
            let p : z ≡ places = same_text z places q in
            ap (parent_in (tree_of es)) p ∙ (parent_in_places es ∙ sym (ap (proposed_parents es) p ∙ proposed_none es places places_no_root a.no_places))
        top_or false q = known (has z (ids es)) refl
          where
            ne : z ≢ places
            ne p = false≢true (sym q ∙ bytes_eq-same z places p)

            known : (b : Bool) → has z (ids es) ≡ b → parent_in (tree_of es) z ≡ proposed_parents es z
            known true h = step_agrees es a z ne h ∙ parent_apart es z c
            known false h = parent_in_none es z ne h ∙ sym (proposed_none es z no_root h)
              where
                no_root : has z roots ≡ false
                no_root = pick (has z roots) refl
                  where
                    pick : (b : Bool) → has z roots ≡ b → b ≡ false
                    pick true r = absurd (false≢true (sym h ∙ a.roots_in z r))
                    pick false r = refl

    jump : (z : List ℕ) → comes_back (proposed_parents es) (length es) z ≡ true → Reaches (parent_in (tree_of es)) places z
    jump z c = top_or (bytes_eq z places) refl
      where
        top_or : (b : Bool) → bytes_eq z places ≡ b → Reaches (parent_in (tree_of es)) places z
        top_or true q = Reaches-here (parent_in (tree_of es)) places z (same_text z places q)
        top_or false q = known (has z (ids es)) refl
          where
            ne : z ≢ places
            ne p = false≢true (sym q ∙ bytes_eq-same z places p)

            known : (b : Bool) → has z (ids es) ≡ b → Reaches (parent_in (tree_of es)) places z
            known true h =
                Reaches-step (parent_in (tree_of es)) places z
                (Reaches-step (parent_in (tree_of es)) places (parent_in (tree_of es) z)
                (Reaches-here (parent_in (tree_of es)) places (parent_in (tree_of es) (parent_in (tree_of es) z))
                (ap (parent_in (tree_of es)) (step_agrees es a z ne h ∙ parent_circle es z c) ∙ unfiled_up es a)))
            known false h =
                Reaches-step (parent_in (tree_of es)) places z
                (Reaches-here (parent_in (tree_of es)) places (parent_in (tree_of es) z) (parent_in_none es z ne h))

-- ---- children

listed_part : List Claim → Claim → List (List ℕ)
listed_part es f = firsts (filter (is_child es f.item.id) f.children)

rest_part : List Claim → Claim → List (List ℕ)
rest_part es f = by_id (filter (λ x. is_child es f.item.id x && not (has x (listed_part es f))) (ids es))

children_parts : (es : List Claim) (f : Claim) → built_children es f ≡ listed_part es f ++ rest_part es f
unfolding built_children listed_part rest_part
children_parts es f = refl

has-listed_part : (es : List Claim) (f : Claim) (x : List ℕ) → has x (listed_part es f) ≡ (has x f.children && is_child es f.item.id x)
unfolding listed_part
has-listed_part es f x = has-firsts x (filter (is_child es f.item.id) f.children) ∙ has-filter (is_child es f.item.id) x f.children

has-rest_part : (es : List Claim) (f : Claim) (x : List ℕ) → has x (rest_part es f) ≡ (has x (ids es) && (is_child es f.item.id x && not (has x (listed_part es f))))
unfolding rest_part
has-rest_part es f x =
    has-by_id x (filter (λ z. is_child es f.item.id z && not (has z (listed_part es f))) (ids es))
    ∙ has-filter (λ z. is_child es f.item.id z && not (has z (listed_part es f))) x (ids es)

pub has-children : (es : List Claim) (f : Claim) (x : List ℕ) → has x (built_children es f) ≡ is_child es f.item.id x
unfolding is_child
has-children es f x =
    ap (has x) (children_parts es f)
    ∙ (has-append x (listed_part es f) (rest_part es f)
    ∙ (ap₂ (λ l r. l || r) (has-listed_part es f x) (has-rest_part es f x ∙ ap (λ l. has x (ids es) && ((has x (ids es) && bytes_eq (built_parent es x) f.item.id) && not l)) (has-listed_part es f x))
    ∙ table (has x f.children) (has x (ids es)) (bytes_eq (built_parent es x) f.item.id)))
  where
    table : (l i p : Bool) → ((l && (i && p)) || (i && ((i && p) && not (l && (i && p))))) ≡ (i && p)
    table true true true = refl
    table true true false = refl
    table true false p = refl
    table false true true = refl
    table false true false = refl
    table false false p = refl

pub Apart-children : (es : List Claim) (f : Claim) → Apart (ids es) → Apart (built_children es f)
unfolding listed_part rest_part
Apart-children es f a =
    subst Apart (sym (children_parts es f))
    (Apart-append (listed_part es f) (rest_part es f) (Apart-firsts (filter (is_child es f.item.id) f.children))
    (Apart-by_id _ (Apart-filter (λ x. is_child es f.item.id x && not (has x (listed_part es f))) (ids es) a))
    (λ x h. has-rest_part es f x ∙ ap (λ b. has x (ids es) && (is_child es f.item.id x && not b)) h ∙ no (has x (ids es)) (is_child es f.item.id x)))
  where
    no : (i c : Bool) → (i && (c && false)) ≡ false
    no true true = refl
    no true false = refl
    no false c = refl

pub is_child_parts : (es : List Claim) (f x : List ℕ) → is_child es f x ≡ true → (has x (ids es) ≡ true) × (built_parent es x ≡ f)
unfolding is_child
is_child_parts es f x h = let p = and_parts (has x (ids es)) (bytes_eq (built_parent es x) f) h in (p.0, same_text (built_parent es x) f p.1)

is_child_from : (es : List Claim) (f x : List ℕ) → has x (ids es) ≡ true → built_parent es x ≡ f → is_child es f x ≡ true
unfolding is_child
is_child_from es f x h p = ap₂ (λ a b. a && b) h (bytes_eq-same (built_parent es x) f p)

-- ---- under an item

under_from : (es : List Claim) (y x : List ℕ) → AreClaims es → has x (ids es) ≡ true → built_parent es x ≡ y → IsUnder (tree_of es) y x
unfolding IsUnder node_of
under_from es y x a h p =
    let e = has_claim es x h in
    (node_of es e.0, node_claim es x e.0 a e.1, ap Some (ap (built_parent es) (claim_found es x e.0 e.1).1 ∙ p))

no_parent : (y : List ℕ) → places_node.parent ≡ Some y → ⊥
unfolding places_node
no_parent y g = cc

parent_of_node : (es : List Claim) (e : Claim) (y : List ℕ) → (node_of es e).parent ≡ Some y → built_parent es e.item.id ≡ y
unfolding node_of
parent_of_node es e y g = cc

under_parts : (es : List Claim) (y x : List ℕ) → AreClaims es → IsUnder (tree_of es) y x → (has x (ids es) ≡ true) × (built_parent es x ≡ y)
unfolding IsUnder
under_parts es y x a u = go (bytes_eq x places) refl
  where
    go : (b : Bool) → bytes_eq x places ≡ b → (has x (ids es) ≡ true) × (built_parent es x ≡ y)
    go true q = absurd (none (ap (λ n. n.parent) (some (sym (node_places es) ∙ (ap (λ w. node w (tree_of es)) (sym (same_text x places q)) ∙ u.1)))) u.2)
      where
        some : Some places_node ≡ Some u.0 → places_node ≡ u.0
        some e = cc

        none : places_node.parent ≡ (u.0).parent → (u.0).parent ≡ Some y → ⊥
        none e f = is_none (e ∙ f)
          where
            is_none : places_node.parent ≡ Some y → ⊥
            is_none g = no_parent y g
    go false q = let e = node_from es x u.0 (λ p. false≢true (sym q ∙ bytes_eq-same x places p)) u.1 in (claim_has es x e.0 e.1, at e.0 e.1 (sym (ap (λ n. n.parent) e.2) ∙ u.2))
      where
        at : (e : Claim) → claim x es ≡ Some e → (node_of es e).parent ≡ Some y → built_parent es x ≡ y
        at e f g = ap (built_parent es) (sym (claim_found es x e f).1) ∙ parent_of_node es e y g

-- ---- the tree is valid

no_node : (es : List Claim) (x : List ℕ) (n : PlacedItem) → AreClaims es → x ≢ places → node x (tree_of es) ≡ Some n → has x (ids es) ≡ true
no_node es x n a ne q = let e = node_from es x n ne q in claim_has es x e.0 e.1

ids_of_nodes : (es fs : List Claim) → map (λ n. n.id) (map (node_of fs) es) ≡ ids es
unfolding node_of ids
ids_of_nodes [] fs = refl
ids_of_nodes (e ∷ es) fs = ap (λ xs. e.item.id ∷ xs) (ids_of_nodes es fs)

node_ids_tree : (es : List Claim) → node_ids (tree_of es) ≡ places ∷ ids es
unfolding node_ids tree_of places_node
node_ids_tree es = ap (λ xs. places ∷ xs) (ids_of_nodes es es)

top_folder : is_folder places_node.kind ≡ true
unfolding places_node
top_folder = refl

node_children : (es : List Claim) (e : Claim) → (node_of es e).children ≡ built_children es e
unfolding node_of
node_children es e = refl

node_kind : (es : List Claim) (e : Claim) → (node_of es e).kind ≡ e.item.kind
unfolding node_of
node_kind es e = refl

node_parent : (es : List Claim) (e : Claim) → (node_of es e).parent ≡ Some (built_parent es e.item.id)
unfolding node_of
node_parent es e = refl

parent_places_root : (es : List Claim) (x : List ℕ) → AreClaims es → has x (ids es) ≡ true → built_parent es x ≡ places → has x roots ≡ true
parent_places_root es x a h p = go (parent_cases es a x h)
  where
    go : ((has x roots ≡ true) × (built_parent es x ≡ places)) ⊎ ((f : Claim) × In f es × (is_folder f.item.kind ≡ true) × (built_parent es x ≡ f.item.id)) → has x roots ≡ true
    go (inl r) = r.0
    go (inr f) = absurd (false≢true (sym a.no_places ∙ (ap (λ w. has w (ids es)) (sym p ∙ f.3) ∙ In_has es f.0 f.1)))

-- at `places`, or at another item
at_places : {A : Type 0} (y : List ℕ) → (y ≡ places → A) → (y ≢ places → A) → A
at_places {A} y f g = go (bytes_eq y places) refl
  where
    go : (b : Bool) → bytes_eq y places ≡ b → A
    go true q = f (same_text y places q)
    go false q = g (λ p. false≢true (sym q ∙ bytes_eq-same y places p))

same_top : (es : List Claim) (y : List ℕ) (m : PlacedItem) → y ≡ places → node y (tree_of es) ≡ Some m → m ≡ places_node
same_top es y m p q = some (sym q ∙ (ap (λ w. node w (tree_of es)) p ∙ node_places es))
  where
    some : Some m ≡ Some places_node → m ≡ places_node
    some e = cc

children_are : (es : List Claim) → AreClaims es → (y : List ℕ) (m : PlacedItem) → node y (tree_of es) ≡ Some m → (x : List ℕ) → (has x m.children ≡ true) ↔ IsUnder (tree_of es) y x
children_are es a y m q x = at_places y root_case item_case
  where
    root_case : y ≡ places → (has x m.children ≡ true) ↔ IsUnder (tree_of es) y x
    root_case p = (down, up)
      where
        list : m.children ≡ roots
        list = ap (λ n. n.children) (same_top es y m p q) ∙ is_roots

        down : has x m.children ≡ true → IsUnder (tree_of es) y x
        down h = let r : has x roots ≡ true = sym (ap (has x) list) ∙ h in under_from es y x a (a.roots_in x r) (parent_root es x a r ∙ sym p)

        up : IsUnder (tree_of es) y x → has x m.children ≡ true
        up u = let w = under_parts es y x a u in ap (has x) list ∙ parent_places_root es x a w.0 (w.1 ∙ p)

    item_case : y ≢ places → (has x m.children ≡ true) ↔ IsUnder (tree_of es) y x
    item_case ne = (down, up)
      where
        of : (e : Claim) × (claim y es ≡ Some e) × (m ≡ node_of es e)
        of = node_from es y m ne q

        list : has x m.children ≡ is_child es y x
        list = ap (λ n. has x n.children) of.2 ∙ (ap (has x) (node_children es of.0) ∙ (has-children es of.0 x ∙ ap (λ w. is_child es w x) (claim_found es y of.0 of.1).1))

        down : has x m.children ≡ true → IsUnder (tree_of es) y x
        down h = let w = is_child_parts es y x (sym list ∙ h) in under_from es y x a w.0 w.1

        up : IsUnder (tree_of es) y x → has x m.children ≡ true
        up u = let w = under_parts es y x a u in list ∙ is_child_from es y x w.0 w.1

children_once : (es : List Claim) → AreClaims es → (y : List ℕ) (m : PlacedItem) → node y (tree_of es) ≡ Some m → Apart m.children
children_once es a y m q = at_places y
    (λ p. subst Apart (sym (ap (λ n. n.children) (same_top es y m p q) ∙ is_roots)) Apart-roots)
    (λ ne. let e = node_from es y m ne q in subst Apart (sym (ap (λ n. n.children) e.2 ∙ node_children es e.0)) (Apart-children es e.0 a.apart))

under_folder : (es : List Claim) → AreClaims es → (x : List ℕ) (n : PlacedItem) → node x (tree_of es) ≡ Some n → x ≢ places
    → (y : List ℕ) × (n.parent ≡ Some y) × (m : PlacedItem) × (node y (tree_of es) ≡ Some m) × (is_folder m.kind ≡ true)
under_folder es a x n q ne = go (parent_cases es a x (claim_has es x of.0 of.1))
  where
    of : (e : Claim) × (claim x es ≡ Some e) × (n ≡ node_of es e)
    of = node_from es x n ne q

    above : n.parent ≡ Some (built_parent es x)
    above = ap (λ k. k.parent) of.2 ∙ (node_parent es of.0 ∙ ap (λ w. Some (built_parent es w)) (claim_found es x of.0 of.1).1)

    go : ((has x roots ≡ true) × (built_parent es x ≡ places)) ⊎ ((f : Claim) × In f es × (is_folder f.item.kind ≡ true) × (built_parent es x ≡ f.item.id))
        → (y : List ℕ) × (n.parent ≡ Some y) × (m : PlacedItem) × (node y (tree_of es) ≡ Some m) × (is_folder m.kind ≡ true)
    go (inl r) = (places, above ∙ ap Some r.1, places_node, node_places es, top_folder)
    go (inr f) = (f.0.item.id, above ∙ ap Some f.3, node_of es f.0, node_claim es f.0.item.id f.0 a (claim_in es f.0 a.apart f.1), ap is_folder (node_kind es f.0) ∙ f.2)

roots_folders : (es : List Claim) → AreClaims es → (r : List ℕ) (n : PlacedItem) → has r roots ≡ true → node r (tree_of es) ≡ Some n → is_folder n.kind ≡ true
roots_folders es a r n h q =
    let e = node_from es r n (root-places r h) q in
    let i = claim_found es r e.0 e.1 in
    ap (λ k. is_folder k.kind) e.2 ∙ (ap is_folder (node_kind es e.0) ∙ a.root_folder e.0 i.0 (ap (λ w. has w roots) i.1 ∙ h))

pub tree_of_valid : (es : List Claim) → AreClaims es → IsValidTree (tree_of es)
tree_of_valid es a = record {
  apart = subst Apart (sym (node_ids_tree es)) (Apart-cons places (ids es) a.no_places a.apart);
  top_is = node_places es;
  stands = children_are es a;
  once = children_once es a;
  folder = under_folder es a;
  root_folder = roots_folders es a;
  reaches = λ x n q. at_places x (Reaches-here (parent_in (tree_of es)) places x) (λ ne. up_ends es a x (no_node es x n a ne q));
}
