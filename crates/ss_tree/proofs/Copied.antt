-- The index that is made of the cells in turn.
use Rattle.std.proofs.Common.{◌≡◌, ◌≢◌, ℕ, ◌+◌, ◌<◌, List, Bool, true, false, cond, nat_lt, refl, sym, ap, ◌∙◌, arith}
use Rattle.std.proofs.Common.{inl, inr, Option, Some, None, option_map, is_some, bytes_eq}
use Rattle.std.proofs.lemmas.Bool.{false≢true, cases_lt, lt-ltb, le-ltb}
use Rattle.ss_record.specs.Items.{ItemView}
use Rattle.ss_tree.specs.declared.entries.Entry.{Entry}
use Rattle.ss_tree.specs.Entries.{entry, is_live, node_of, IsTree}
use Rattle.ss_tree.proofs.Ids.{node_found, node_there}
use Rattle.std.proofs.lemmas.Option.{none-some}
use Rattle.ss_text.proofs.Basics.{same_text, bytes_eq-same, some_same}

-- a node below i
abbrev pub low : ℕ → Option ℕ → Option ℕ
low i None = None
low i (Some k) = cond (nat_lt k i) (Some k) None

pub low_zero : (o : Option ℕ) → low 0 o ≡ None
low_zero None = refl
low_zero (Some k) = ap (λ b. cond b (Some k) None) (le-ltb k 0 (omega arith))

pub item_entry : (o : Option Entry) (i : ItemView) → option_map (λ e. e.item) o ≡ Some i → (e : Entry) × (o ≡ Some e) × (e.item ≡ i)
item_entry None i q = cc
item_entry (Some e) i q = (e, refl, some_same q)

pub no_entry : (o : Option Entry) → option_map (λ e. e.item) o ≡ None → o ≡ None
no_entry None q = refl
no_entry (Some e) q = cc

step_other : (i k : ℕ) → k ≢ i → low i (Some k) ≡ low (i + 1) (Some k)
step_other i k ne =
    elim (cases_lt k i) [
      | inl less ↦ ap (λ b. cond b (Some k) None) (lt-ltb k i less ∙ sym (lt-ltb k (i + 1) (omega arith)))
      | inr more ↦ ap (λ b. cond b (Some k) None) (le-ltb k i more ∙ sym (le-ltb k (i + 1) (omega arith)))
    ]

module _ (es : List Entry) (t : IsTree es) (x : List ℕ) where
  pub low_item : (i : ℕ) (e : Entry) → entry i es ≡ Some e → cond (bytes_eq e.item.id x) (Some i) (low i (node_of x es)) ≡ low (i + 1) (node_of x es)
  low_item i e q = go (bytes_eq e.item.id x) refl
    where
      other : bytes_eq e.item.id x ≡ false → (o : Option ℕ) → node_of x es ≡ o → low i o ≡ low (i + 1) o
      other c None h = refl
      other c (Some k) h =
          let f = node_found es t x k h in
          step_other i k (λ is. false≢true (sym c ∙ bytes_eq-same e.item.id x (ap (λ d. d.item.id) (some_same (sym q ∙ (ap (λ j. entry j es) (sym is) ∙ f.1))) ∙ f.2)))

      go : (b : Bool) → bytes_eq e.item.id x ≡ b → cond b (Some i) (low i (node_of x es)) ≡ low (i + 1) (node_of x es)
      go true c =
          let here : node_of x es ≡ Some i = node_there es t x i e q (same_text e.item.id x c) in
          sym (ap (low (i + 1)) here ∙ ap (λ b. cond b (Some i) None) (lt-ltb i (i + 1) (omega arith)))
      go false c = other c (node_of x es) refl

  pub low_blank : (i : ℕ) → entry i es ≡ None → low i (node_of x es) ≡ low (i + 1) (node_of x es)
  low_blank i none = go (node_of x es) refl
    where
      go : (o : Option ℕ) → node_of x es ≡ o → low i o ≡ low (i + 1) o
      go None h = refl
      go (Some k) h = let f = node_found es t x k h in step_other i k (λ is. none-some _ (sym none ∙ (ap (λ j. entry j es) (sym is) ∙ f.1)))

  pub low_all : (n : ℕ) → ((k : ℕ) → is_live k es ≡ true → k < n) → low n (node_of x es) ≡ node_of x es
  low_all n below = go (node_of x es) refl
    where
      go : (o : Option ℕ) → node_of x es ≡ o → low n o ≡ o
      go None h = refl
      go (Some k) h = let f = node_found es t x k h in ap (λ b. cond b (Some k) None) (lt-ltb k n (below k (ap is_some f.1)))
