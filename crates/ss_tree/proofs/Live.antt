-- The nodes that the look-ups give are in the tree.
use Rattle.std.proofs.Common.{◌≡◌, ℕ, zero, suc, ◌==◌, List, [], ◌∷◌, ◌++◌, Bool, true, false, cond, ◌⊎◌, inl, inr}
use Rattle.std.proofs.Common.{refl, sym, ap, ◌∙◌, subst, find, bytes_eq, Option, Some, None, option_and_then}
use Rattle.std.proofs.Common.{option_map, is_some}
use Rattle.std.specs.Option.{IfSome}
use Rattle.std.specs.List.{AllByRecursion, All, flat_map}
use Rattle.std.proofs.lemmas.Bool.{eqb-true, eqb-false}
use Rattle.std.proofs.lemmas.List.Elements.{All-from_recursion}
use Rattle.ss_tree.specs.declared.entries.Entry.{Entry}
use Rattle.ss_tree.specs.Entries.{entry, is_live, node_of, stands_under, kids, above, first_of, next_after, preorder}
use Rattle.ss_tree.specs.Entries.{IsTree}
use Rattle.ss_tree.proofs.Edits.{kids-cons, kids-nil}
use Rattle.ss_tree.proofs.Valid.{In, in_entry}
use Rattle.std.proofs.lemmas.Option.{none-some}
use Rattle.ss_text.proofs.Basics.{some_same}

live_in : (es : List Entry) (e : Entry) → IsTree es → In e es → is_live e.node es ≡ true
live_in es e t i = ap is_some (in_entry es e t.nodes i)

if_some : (o : Option ℕ) (P : ℕ → Type 0) → ((k : ℕ) → o ≡ Some k → P k) → IfSome o P
if_some None P h = tt
if_some (Some k) P h = h k refl

found_by : (x : List ℕ) (fs : List Entry) (k : ℕ) → option_map (λ e. e.node) (find (λ e. bytes_eq x e.item.id) fs) ≡ Some k → (e : Entry) × In e fs × (e.node ≡ k)
unfolding In
found_by x [] k q = absurd (none-some _ q)
found_by x (f ∷ fs) k q = go (bytes_eq x f.item.id) q (found_by x fs k)
  where
    go : (b : Bool) → option_map (λ e. e.node) (cond b (Some f) (find (λ e. bytes_eq x e.item.id) fs)) ≡ Some k → (option_map (λ e. e.node) (find (λ e. bytes_eq x e.item.id) fs) ≡ Some k → (e : Entry) × In e fs × (e.node ≡ k)) → (e : Entry) × ((e ≡ f) ⊎ In e fs) × (e.node ≡ k)
    go true h ih = (f, inl refl, some_same h)
    go false h ih = let r = ih h in (r.0, inr r.1, r.2)

pub live_node_of : (x : List ℕ) (es : List Entry) → IsTree es → IfSome (node_of x es) (λ k. is_live k es ≡ true)
unfolding node_of
live_node_of x es t = if_some (option_map (λ e. e.node) (find (λ e. bytes_eq x e.item.id) es)) (λ k. is_live k es ≡ true) (λ k q. let r = found_by x es k q in ap (λ j. is_live j es) (sym r.2) ∙ live_in es r.0 t r.1)

pub live_above : (es : List Entry) (k : ℕ) → IsTree es → IfSome (above es k) (λ p. is_live p es ≡ true)
unfolding above
live_above es k t = if_some (option_and_then (λ e. e.parent) (entry k es)) (λ p. is_live p es ≡ true) (λ p q. go (entry k es) refl p q)
  where
    at : (g : Entry) → entry k es ≡ Some g → (p : ℕ) → g.parent ≡ Some p → (b : Bool) → (k == 0) ≡ b → is_live p es ≡ true
    at g h p q true z = absurd (none-some _ (ap (λ e. e.parent) (some_same (sym t.top ∙ (ap (λ j. entry j es) (sym (eqb-true k 0 z)) ∙ h))) ∙ q))
    at g h p q false z = let f = t.folder k g h (eqb-false k 0 z) in ap (λ j. is_live j es) (some_same (sym q ∙ f.1)) ∙ ap is_some f.3

    go : (o : Option Entry) → entry k es ≡ o → (p : ℕ) → option_and_then (λ e. e.parent) o ≡ Some p → is_live p es ≡ true
    go None h p q = absurd (none-some _ q)
    go (Some g) h p q = at g h p q (k == 0) refl

AreLive : List Entry → List ℕ → Type 0
AreLive es ks = AllByRecursion (λ j. is_live j es ≡ true) ks

kids_live : (es : List Entry) (k : ℕ) (fs : List Entry) → ((f : Entry) → In f fs → is_live f.node es ≡ true) → AreLive es (kids k fs)
unfolding AreLive In
kids_live es k [] h = none (kids k []) (kids-nil k)
  where
    none : (ks : List ℕ) → ks ≡ [] → AllByRecursion (λ j. is_live j es ≡ true) ks
    none [] q = tt
    none (j ∷ js) q = cc
kids_live es k (f ∷ fs) h = some (kids k (f ∷ fs)) (stands_under k f) (kids-cons k f fs) (h f (inl refl)) (kids_live es k fs (λ g i. h g (inr i)))
  where
    at : (b : Bool) → is_live f.node es ≡ true → AllByRecursion (λ j. is_live j es ≡ true) (kids k fs) → AllByRecursion (λ j. is_live j es ≡ true) (cond b (f.node ∷ kids k fs) (kids k fs))
    at true l r = (l, r)
    at false l r = r

    some : (ks : List ℕ) (b : Bool) → ks ≡ cond b (f.node ∷ kids k fs) (kids k fs) → is_live f.node es ≡ true → AllByRecursion (λ j. is_live j es ≡ true) (kids k fs) → AllByRecursion (λ j. is_live j es ≡ true) ks
    some ks b q l r = let P : List ℕ → Type 0 = λ xs. AllByRecursion (λ j. is_live j es ≡ true) xs in subst P (sym q) (at b l r)

all_kids : (es : List Entry) (k : ℕ) → IsTree es → AreLive es (kids k es)
all_kids es k t = kids_live es k es (λ f i. live_in es f t i)

pub live_kids : (es : List Entry) (k : ℕ) → IsTree es → All (λ j. is_live j es ≡ true) (kids k es)
unfolding AreLive
live_kids es k t = All-from_recursion (λ j. is_live j es ≡ true) (kids k es) (all_kids es k t)

first_live : (es : List Entry) (ks : List ℕ) → AreLive es ks → IfSome (first_of ks) (λ j. is_live j es ≡ true)
unfolding AreLive
first_live es [] h = tt
first_live es (k ∷ ks) h = h.0

pub live_first : (es : List Entry) (k : ℕ) → IsTree es → IfSome (first_of (kids k es)) (λ j. is_live j es ≡ true)
live_first es k t = first_live es (kids k es) (all_kids es k t)

next_live : (es : List Entry) (x : ℕ) (ks : List ℕ) → AreLive es ks → IfSome (next_after x ks) (λ j. is_live j es ≡ true)
unfolding AreLive
next_live es x [] h = tt
next_live es x (k ∷ ks) h = go (x == k) (next_live es x ks h.1)
  where
    go : (b : Bool) → IfSome (next_after x ks) (λ j. is_live j es ≡ true) → IfSome (cond b (first_of ks) (next_after x ks)) (λ j. is_live j es ≡ true)
    go true ih = first_live es ks h.1
    go false ih = ih

pub live_next : (es : List Entry) (k p : ℕ) → IsTree es → IfSome (next_after k (kids p es)) (λ j. is_live j es ≡ true)
live_next es k p t = next_live es k (kids p es) (all_kids es p t)

live-append : (es : List Entry) (xs ys : List ℕ) → AreLive es xs → AreLive es ys → AreLive es (xs ++ ys)
unfolding AreLive
live-append es [] ys h k = k
live-append es (x ∷ xs) ys h k = (h.0, live-append es xs ys h.1 k)

preorder_live : (es : List Entry) → IsTree es → (n k : ℕ) → is_live k es ≡ true → AreLive es (preorder es n k)
unfolding preorder AreLive
preorder_live es t zero k l = tt
preorder_live es t (suc n) k l = (l, all (kids k es) (all_kids es k t) (λ j m. preorder_live es t n j m))
  where
    all : (ks : List ℕ) → AllByRecursion (λ j. is_live j es ≡ true) ks → ((j : ℕ) → is_live j es ≡ true → AllByRecursion (λ i. is_live i es ≡ true) (preorder es n j)) → AllByRecursion (λ j. is_live j es ≡ true) (flat_map (preorder es n) ks)
    all [] h ih = tt
    all (j ∷ js) h ih = live-append es (preorder es n j) (flat_map (preorder es n) js) (ih j h.0) (all js h.1 ih)

pub live_preorder : (es : List Entry) (n : ℕ) → IsTree es → All (λ j. is_live j es ≡ true) (preorder es n 0)
unfolding AreLive
live_preorder es n t = All-from_recursion (λ j. is_live j es ≡ true) (preorder es n 0) (preorder_live es t n 0 (ap is_some t.top))
