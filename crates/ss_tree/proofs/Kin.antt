-- The nodes under a node, in entries whose nodes are apart.
use Rattle.std.proofs.Common.{◌≡◌, ℕ, ◌<◌, ◌≤◌, ◌==◌, ◌⊎◌, List, [], ◌∷◌, Bool, true, false, cond, refl, sym, ap, subst}
use Rattle.std.proofs.Common.{◌∙◌, arith, inl, inr, Some, option_map, unwrap_or}
use Rattle.std.proofs.lemmas.Bool.{eqb-true, cases_lt, eq-eqb}
use Rattle.ss_list.specs.Chain.{times}
use Rattle.ss_list.proofs.Times.{times-here, at_head, below-head}
use Rattle.ss_tree.specs.declared.entries.Entry.{Entry}
use Rattle.ss_tree.specs.Entries.{entry, stands_under, kids, NodesApart}
use Rattle.ss_tree.proofs.Edits.{entry-cons, entry-nil, kids-cons, kids-nil}
use Rattle.ss_tree.proofs.Valid.{In, in_entry, under_from}
use Rattle.std.proofs.lemmas.Option.{none-some}
use Rattle.ss_text.proofs.Basics.{some_same}

pub under_is : (j p : ℕ) (e : Entry) → e.parent ≡ Some p → stands_under j e ≡ (j == p)
under_is j p e q = ap (λ o. unwrap_or (option_map (λ i. j == i) o) false) q

pub kid_in : (p x : ℕ) (fs : List Entry) → 0 < times x (kids p fs) → (e : Entry) × In e fs × (e.node ≡ x) × (e.parent ≡ Some p)
unfolding In
kid_in p x [] there = let none : times x (kids p []) ≡ 0 = ap (times x) (kids-nil p) in absurd (omega arith)
kid_in p x (f ∷ fs) there = go (stands_under p f) refl (subst (λ ks. 0 < times x ks) (kids-cons p f fs) there) (kid_in p x fs)
  where
    go : (b : Bool) → stands_under p f ≡ b → 0 < times x (cond b (f.node ∷ kids p fs) (kids p fs)) → (0 < times x (kids p fs) → (e : Entry) × In e fs × (e.node ≡ x) × (e.parent ≡ Some p)) → (e : Entry) × ((e ≡ f) ⊎ In e fs) × (e.node ≡ x) × (e.parent ≡ Some p)
    go true w h ih =
        elim (at_head x f.node (kids p fs)) [
          | inl same ↦ (f, inl refl, sym same.0, under_from p f w)
          | inr other ↦ let r = ih (omega arith) in (r.0, inr r.1, r.2, r.3)
        ]
    go false w h ih = let r = ih h in (r.0, inr r.1, r.2, r.3)

-- a node that stands under p has p as its parent
pub kid_entry : (p x : ℕ) (es : List Entry) → NodesApart es → 0 < times x (kids p es) → (e : Entry) × (entry x es ≡ Some e) × (e.parent ≡ Some p)
kid_entry p x es apart there =
    let r = kid_in p x es there in (r.0, subst (λ k. entry k es ≡ Some r.0) r.2 (in_entry es r.0 apart r.1), r.3)

-- a node whose parent is p stands under p
pub entry_kid : (p x : ℕ) (es : List Entry) (e : Entry) → entry x es ≡ Some e → e.parent ≡ Some p → 0 < times x (kids p es)
entry_kid p x [] e q r = absurd (none-some _ (sym (entry-nil x) ∙ q))
entry_kid p x (f ∷ fs) e q r = subst (λ ks. 0 < times x ks) (sym (kids-cons p f fs)) (go (x == f.node) refl (sym (entry-cons x f fs) ∙ q) (entry_kid p x fs e))
  where
    later : (b : Bool) → 0 < times x (kids p fs) → 0 < times x (cond b (f.node ∷ kids p fs) (kids p fs))
    later true h = omega (arith, below-head x f.node (kids p fs))
    later false h = h

    go : (b : Bool) → (x == f.node) ≡ b → cond b (Some f) (entry x fs) ≡ Some e → (entry x fs ≡ Some e → e.parent ≡ Some p → 0 < times x (kids p fs)) → 0 < times x (cond (stands_under p f) (f.node ∷ kids p fs) (kids p fs))
    go true c h ih =
        let at : stands_under p f ≡ true = under_is p p f (ap (λ g. g.parent) (some_same h) ∙ r) ∙ eq-eqb p p refl in
        subst (λ b. 0 < times x (cond b (f.node ∷ kids p fs) (kids p fs))) (sym at) (omega (arith, times-here x f.node (kids p fs) (eqb-true x f.node c)))
    go false c h ih = later (stands_under p f) (ih h r)

-- no node stands twice under one
pub kid_once : (p : ℕ) (es : List Entry) → NodesApart es → (x : ℕ) → times x (kids p es) ≤ 1
unfolding NodesApart
kid_once p [] apart x = let none : times x (kids p []) ≡ 0 = ap (times x) (kids-nil p) in omega arith
kid_once p (f ∷ fs) apart x = subst (λ ks. times x ks ≤ 1) (sym (kids-cons p f fs)) (go (stands_under p f) (kid_once p fs apart.1 x))
  where
    absent : x ≡ f.node → times x (kids p fs) ≡ 0
    absent is =
        elim (cases_lt 0 (times x (kids p fs))) [
          | inl there ↦ let r = kid_entry p x fs apart.1 there in absurd (none-some _ (sym (ap (λ k. entry k fs) is ∙ apart.0) ∙ r.1))
          | inr none ↦ omega arith
        ]

    go : (b : Bool) → times x (kids p fs) ≤ 1 → times x (cond b (f.node ∷ kids p fs) (kids p fs)) ≤ 1
    go true ih =
        elim (at_head x f.node (kids p fs)) [
          | inl same ↦ let none = absent same.0 in omega arith
          | inr other ↦ omega arith
        ]
    go false ih = ih

-- no node stands under two
pub kid_apart : (es : List Entry) → NodesApart es → (p q x : ℕ) → 0 < times x (kids p es) → 0 < times x (kids q es) → p ≡ q
kid_apart es apart p q x here there =
    let a = kid_entry p x es apart here in
    let b = kid_entry q x es apart there in
    some_same (sym a.2 ∙ (ap (λ e. e.parent) (some_same (sym a.1 ∙ b.1)) ∙ b.2))
