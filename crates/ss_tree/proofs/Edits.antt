-- What a list of entries with one more, or one less, says of each node.
use Rattle.std.proofs.Common.{◌≡◌, ◌≢◌, ℕ, ◌==◌, List, [], ◌∷◌, ◌++◌, map, Bool, true, false, not, cond, ◌||◌, refl}
use Rattle.std.proofs.Common.{sym, ap, ◌∙◌, filter, bytes_eq, Option, Some, None, option_map, unwrap_or, is_some}
use Rattle.std.proofs.lemmas.Bool.{false≢true, eqb-true, or_parts, eqb-false}
use Rattle.ss_record.specs.Ids.{has, Apart}
use Rattle.ss_record.specs.Items.{is_fit}
use Rattle.ss_record.proofs.IdLists.{bytes_eq-refl, has-cons, Apart-cons, Apart-head, Apart-tail}
use Rattle.ss_tree.specs.declared.entries.Entry.{Entry}
use Rattle.ss_tree.specs.Entries.{entry, stands_under, kids, kid_ids, entry_ids, NodesApart, put_before, without_node}
use Rattle.ss_tree.specs.Entries.{is_place, is_live, is_fit_with}
use Rattle.ss_tree.proofs.Lists.{put_entry, without_entry}
use Rattle.ss_text.proofs.Basics.{bytes_eq-flip, same_text, number_turned}

-- ---- numbers

-- ---- by node

pub entry-nil : (j : ℕ) → entry j [] ≡ None
unfolding entry
entry-nil j = refl

pub entry-cons : (j : ℕ) (f : Entry) (fs : List Entry) → entry j (f ∷ fs) ≡ cond (j == f.node) (Some f) (entry j fs)
unfolding entry
entry-cons j f fs = refl

-- a node that is not in a list is not in its rest either, and is not its first
pub fresh_parts : (k : ℕ) (f : Entry) (fs : List Entry) → entry k (f ∷ fs) ≡ None → ((k == f.node) ≡ false) × (entry k fs ≡ None)
fresh_parts k f fs h = go (k == f.node) refl (sym (entry-cons k f fs) ∙ h)
  where
    go : (b : Bool) → (k == f.node) ≡ b → cond b (Some f) (entry k fs) ≡ None → ((k == f.node) ≡ false) × (entry k fs ≡ None)
    go true q e = cc
    go false q e = (q, e)

pub entry_put : (b : Option ℕ) (e : Entry) (es : List Entry) (j : ℕ) → entry e.node es ≡ None → entry j (put_entry b e es) ≡ cond (j == e.node) (Some e) (entry j es)
entry_put None e [] j fresh = entry-cons j e []
entry_put (Some b) e [] j fresh = entry-cons j e []
entry_put None e (f ∷ fs) j fresh = later (entry_put None e fs j (fresh_parts e.node f fs fresh).1)
  where
    later : entry j (put_entry None e fs) ≡ cond (j == e.node) (Some e) (entry j fs) → entry j (f ∷ put_entry None e fs) ≡ cond (j == e.node) (Some e) (entry j (f ∷ fs))
    later ih = entry-cons j f (put_entry None e fs) ∙ (ap (cond (j == f.node) (Some f)) ih ∙ (turn (j == f.node) (j == e.node) refl refl ∙ ap (cond (j == e.node) (Some e)) (sym (entry-cons j f fs))))
      where
        turn : (x y : Bool) → (j == f.node) ≡ x → (j == e.node) ≡ y → cond x (Some f) (cond y (Some e) (entry j fs)) ≡ cond y (Some e) (cond x (Some f) (entry j fs))
        turn true true p q = absurd (eqb-false e.node f.node (fresh_parts e.node f fs fresh).0 (sym (eqb-true j e.node q) ∙ eqb-true j f.node p))
        turn true false p q = refl
        turn false y p q = refl
entry_put (Some b) e (f ∷ fs) j fresh = go (b == f.node) (entry_put (Some b) e fs j (fresh_parts e.node f fs fresh).1)
  where
    turn : (x y : Bool) → (j == f.node) ≡ x → (j == e.node) ≡ y → cond x (Some f) (cond y (Some e) (entry j fs)) ≡ cond y (Some e) (cond x (Some f) (entry j fs))
    turn true true p q = absurd (eqb-false e.node f.node (fresh_parts e.node f fs fresh).0 (sym (eqb-true j e.node q) ∙ eqb-true j f.node p))
    turn true false p q = refl
    turn false y p q = refl

    go : (c : Bool) → entry j (put_entry (Some b) e fs) ≡ cond (j == e.node) (Some e) (entry j fs) → entry j (cond c (e ∷ f ∷ fs) (f ∷ put_entry (Some b) e fs)) ≡ cond (j == e.node) (Some e) (entry j (f ∷ fs))
    go true ih = entry-cons j e (f ∷ fs)
    go false ih = entry-cons j f (put_entry (Some b) e fs) ∙ (ap (cond (j == f.node) (Some f)) ih ∙ (turn (j == f.node) (j == e.node) refl refl ∙ ap (cond (j == e.node) (Some e)) (sym (entry-cons j f fs))))

pub entry_without : (k : ℕ) (es : List Entry) (j : ℕ) → entry j (without_entry k es) ≡ cond (k == j) None (entry j es)
entry_without k [] j = entry-nil j ∙ go (k == j)
  where
    go : (b : Bool) → None ≡ cond b None (entry j [])
    go true = refl
    go false = sym (entry-nil j)
entry_without k (f ∷ fs) j = go (k == f.node) refl (entry_without k fs j)
  where
    gone : (x y : Bool) → (k == j) ≡ x → (j == f.node) ≡ y → (k == f.node) ≡ true → cond x None (entry j fs) ≡ cond x None (cond y (Some f) (entry j fs))
    gone true y p q h = refl
    gone false true p q h = absurd (eqb-false k j p (eqb-true k f.node h ∙ sym (eqb-true j f.node q)))
    gone false false p q h = refl

    kept : (x y : Bool) → (k == j) ≡ x → (j == f.node) ≡ y → (k == f.node) ≡ false → cond y (Some f) (cond x None (entry j fs)) ≡ cond x None (cond y (Some f) (entry j fs))
    kept true true p q h = absurd (eqb-false k f.node h (eqb-true k j p ∙ eqb-true j f.node q))
    kept true false p q h = refl
    kept false y p q h = refl

    go : (b : Bool) → (k == f.node) ≡ b → entry j (without_entry k fs) ≡ cond (k == j) None (entry j fs) → entry j (cond (not b) (f ∷ without_entry k fs) (without_entry k fs)) ≡ cond (k == j) None (entry j (f ∷ fs))
    go true h ih = ih ∙ (gone (k == j) (j == f.node) refl refl h ∙ ap (cond (k == j) None) (sym (entry-cons j f fs)))
    go false h ih = entry-cons j f (without_entry k fs) ∙ (ap (cond (j == f.node) (Some f)) ih ∙ (kept (k == j) (j == f.node) refl refl h ∙ ap (cond (k == j) None) (sym (entry-cons j f fs))))

-- ---- the nodes under one

pub kids-cons : (j : ℕ) (f : Entry) (fs : List Entry) → kids j (f ∷ fs) ≡ cond (stands_under j f) (f.node ∷ kids j fs) (kids j fs)
unfolding kids
kids-cons j f fs = go (stands_under j f)
  where
    go : (b : Bool) → map (λ e. e.node) (cond b (f ∷ filter (stands_under j) fs) (filter (stands_under j) fs)) ≡ cond b (f.node ∷ map (λ e. e.node) (filter (stands_under j) fs)) (map (λ e. e.node) (filter (stands_under j) fs))
    go true = refl
    go false = refl

pub kids-nil : (j : ℕ) → kids j [] ≡ []
unfolding kids
kids-nil j = refl

place-cons : (j b : ℕ) (f : Entry) (fs : List Entry) → is_place j (Some b) (f ∷ fs) ≡ unwrap_or (option_map (stands_under j) (cond (b == f.node) (Some f) (entry b fs))) false
unfolding is_place
place-cons j b f fs = ap (λ o. unwrap_or (option_map (stands_under j) o) false) (entry-cons b f fs)

place-some : (j b : ℕ) (fs : List Entry) → is_place j (Some b) fs ≡ unwrap_or (option_map (stands_under j) (entry b fs)) false
unfolding is_place
place-some j b fs = refl

place_none : (j : ℕ) (fs : List Entry) → is_place j None fs ≡ true
unfolding is_place
place_none j fs = refl

first_kid : (j : ℕ) (e : Entry) → kids j (e ∷ []) ≡ cond (stands_under j e) (e.node ∷ []) []
unfolding kids
first_kid j e = kids-cons j e []

pub kids_put : (j : ℕ) (b : Option ℕ) (e : Entry) (es : List Entry) → (stands_under j e ≡ true → is_place j b es ≡ true) → kids j (put_entry b e es) ≡ cond (stands_under j e) (put_before b e.node (kids j es)) (kids j es)
kids_put j None e [] h = first_kid j e ∙ ap (λ ks. cond (stands_under j e) (ks ++ e.node ∷ []) ks) (sym (kids-nil j))
kids_put j (Some b) e [] h = first_kid j e ∙ ap (λ ks. cond (stands_under j e) (put_before (Some b) e.node ks) ks) (sym (kids-nil j))
kids_put j None e (f ∷ fs) h =
    kids-cons j f (put_entry None e fs)
    ∙ (ap (λ ks. cond (stands_under j f) (f.node ∷ ks) ks) (kids_put j None e fs (λ u. place_none j fs))
    ∙ (go (stands_under j f) (stands_under j e) ∙ ap (λ ks. cond (stands_under j e) (ks ++ e.node ∷ []) ks) (sym (kids-cons j f fs))))
  where
    go : (x y : Bool) → cond x (f.node ∷ cond y (kids j fs ++ e.node ∷ []) (kids j fs)) (cond y (kids j fs ++ e.node ∷ []) (kids j fs)) ≡ cond y (cond x (f.node ∷ kids j fs) (kids j fs) ++ e.node ∷ []) (cond x (f.node ∷ kids j fs) (kids j fs))
    go true true = refl
    go true false = refl
    go false y = refl
kids_put j (Some b) e (f ∷ fs) h = go (b == f.node) refl (kids_put j (Some b) e fs)
  where
    here : (x y : Bool) → stands_under j f ≡ x → stands_under j e ≡ y → (b == f.node) ≡ true → cond y (e.node ∷ cond x (f.node ∷ kids j fs) (kids j fs)) (cond x (f.node ∷ kids j fs) (kids j fs)) ≡ cond y (put_before (Some b) e.node (cond x (f.node ∷ kids j fs) (kids j fs))) (cond x (f.node ∷ kids j fs) (kids j fs))
    here x false p q c = refl
    here true true p q c = sym (ap (λ d. cond d (e.node ∷ f.node ∷ kids j fs) (f.node ∷ put_before (Some b) e.node (kids j fs))) c)
    here false true p q c = absurd (false≢true (sym p ∙ (sym (place-cons j b f fs ∙ ap (λ d. unwrap_or (option_map (stands_under j) (cond d (Some f) (entry b fs))) false) c) ∙ h q)))

    later : (x y : Bool) → (b == f.node) ≡ false → cond x (f.node ∷ cond y (put_before (Some b) e.node (kids j fs)) (kids j fs)) (cond y (put_before (Some b) e.node (kids j fs)) (kids j fs)) ≡ cond y (put_before (Some b) e.node (cond x (f.node ∷ kids j fs) (kids j fs))) (cond x (f.node ∷ kids j fs) (kids j fs))
    later true true c = sym (ap (λ d. cond d (e.node ∷ f.node ∷ kids j fs) (f.node ∷ put_before (Some b) e.node (kids j fs))) c)
    later true false c = refl
    later false y c = refl

    go : (c : Bool) → (b == f.node) ≡ c → ((stands_under j e ≡ true → is_place j (Some b) fs ≡ true) → kids j (put_entry (Some b) e fs) ≡ cond (stands_under j e) (put_before (Some b) e.node (kids j fs)) (kids j fs))
        → kids j (cond c (e ∷ f ∷ fs) (f ∷ put_entry (Some b) e fs)) ≡ cond (stands_under j e) (put_before (Some b) e.node (kids j (f ∷ fs))) (kids j (f ∷ fs))
    go true c ih =
        kids-cons j e (f ∷ fs)
        ∙ (ap (λ ks. cond (stands_under j e) (e.node ∷ ks) ks) (kids-cons j f fs)
        ∙ (here (stands_under j f) (stands_under j e) refl refl c ∙ ap (λ ks. cond (stands_under j e) (put_before (Some b) e.node ks) ks) (sym (kids-cons j f fs))))
    go false c ih =
        kids-cons j f (put_entry (Some b) e fs)
        ∙ (ap (λ ks. cond (stands_under j f) (f.node ∷ ks) ks) (ih (λ u. place-some j b fs ∙ (sym (place-cons j b f fs ∙ ap (λ d. unwrap_or (option_map (stands_under j) (cond d (Some f) (entry b fs))) false) c) ∙ h u)))
        ∙ (later (stands_under j f) (stands_under j e) c ∙ ap (λ ks. cond (stands_under j e) (put_before (Some b) e.node ks) ks) (sym (kids-cons j f fs))))

pub kids_without : (j k : ℕ) (es : List Entry) → kids j (without_entry k es) ≡ without_node k (kids j es)
kids_without j k [] = kids-nil j ∙ ap (without_node k) (sym (kids-nil j))
kids_without j k (f ∷ fs) = go (k == f.node) refl (kids_without j k fs) ∙ ap (without_node k) (sym (kids-cons j f fs))
  where
    drops : (x : Bool) → (k == f.node) ≡ true → without_node k (kids j fs) ≡ without_node k (cond x (f.node ∷ kids j fs) (kids j fs))
    drops true c = sym (ap (λ d. cond (not d) (f.node ∷ without_node k (kids j fs)) (without_node k (kids j fs))) c)
    drops false c = refl

    keeps : (x : Bool) → (k == f.node) ≡ false → cond x (f.node ∷ without_node k (kids j fs)) (without_node k (kids j fs)) ≡ without_node k (cond x (f.node ∷ kids j fs) (kids j fs))
    keeps true c = sym (ap (λ d. cond (not d) (f.node ∷ without_node k (kids j fs)) (without_node k (kids j fs))) c)
    keeps false c = refl

    go : (b : Bool) → (k == f.node) ≡ b → kids j (without_entry k fs) ≡ without_node k (kids j fs) → kids j (cond (not b) (f ∷ without_entry k fs) (without_entry k fs)) ≡ without_node k (cond (stands_under j f) (f.node ∷ kids j fs) (kids j fs))
    go true c ih = ih ∙ drops (stands_under j f) c
    go false c ih = kids-cons j f (without_entry k fs) ∙ (ap (λ ks. cond (stands_under j f) (f.node ∷ ks) ks) ih ∙ keeps (stands_under j f) c)

-- ---- the ids under one

pub kid_ids-cons : (j : ℕ) (f : Entry) (fs : List Entry) → kid_ids j (f ∷ fs) ≡ cond (stands_under j f) (f.item.id ∷ kid_ids j fs) (kid_ids j fs)
unfolding kid_ids
kid_ids-cons j f fs = go (stands_under j f)
  where
    go : (b : Bool) → map (λ e. e.item.id) (cond b (f ∷ filter (stands_under j) fs) (filter (stands_under j) fs)) ≡ cond b (f.item.id ∷ map (λ e. e.item.id) (filter (stands_under j) fs)) (map (λ e. e.item.id) (filter (stands_under j) fs))
    go true = refl
    go false = refl

skip_kid : (j : ℕ) (e : Entry) (es : List Entry) → stands_under j e ≡ false → kid_ids j (e ∷ es) ≡ kid_ids j es
skip_kid j e es h = kid_ids-cons j e es ∙ ap (λ b. cond b (e.item.id ∷ kid_ids j es) (kid_ids j es)) h

pub kid_ids_put : (j : ℕ) (b : Option ℕ) (e : Entry) (es : List Entry) → stands_under j e ≡ false → kid_ids j (put_entry b e es) ≡ kid_ids j es
kid_ids_put j None e [] h = skip_kid j e [] h
kid_ids_put j (Some b) e [] h = skip_kid j e [] h
kid_ids_put j None e (f ∷ fs) h = kid_ids-cons j f (put_entry None e fs) ∙ (ap (λ ks. cond (stands_under j f) (f.item.id ∷ ks) ks) (kid_ids_put j None e fs h) ∙ sym (kid_ids-cons j f fs))
kid_ids_put j (Some b) e (f ∷ fs) h = go (b == f.node) (kid_ids_put j (Some b) e fs h)
  where
    go : (c : Bool) → kid_ids j (put_entry (Some b) e fs) ≡ kid_ids j fs → kid_ids j (cond c (e ∷ f ∷ fs) (f ∷ put_entry (Some b) e fs)) ≡ kid_ids j (f ∷ fs)
    go true ih = skip_kid j e (f ∷ fs) h
    go false ih = kid_ids-cons j f (put_entry (Some b) e fs) ∙ (ap (λ ks. cond (stands_under j f) (f.item.id ∷ ks) ks) ih ∙ sym (kid_ids-cons j f fs))

pub kid_ids_without : (j k : ℕ) (es : List Entry) → NodesApart es → ((f : Entry) → entry k es ≡ Some f → stands_under j f ≡ false) → kid_ids j (without_entry k es) ≡ kid_ids j es
unfolding NodesApart
kid_ids_without j k [] a h = refl
kid_ids_without j k (f ∷ fs) a h = go (k == f.node) refl (kid_ids_without j k fs a.1)
  where
    there : (k == f.node) ≡ true → entry k (f ∷ fs) ≡ Some f
    there c = entry-cons k f fs ∙ ap (λ d. cond d (Some f) (entry k fs)) c

    none_left : (k == f.node) ≡ true → (g : Entry) → entry k fs ≡ Some g → stands_under j g ≡ false
    none_left c g q = absurd (never (sym (ap (λ i. entry i fs) (eqb-true k f.node c) ∙ a.0) ∙ q))
      where
        never : {g2 : Entry} → None ≡ Some g2 → ⊥
        never e = cc

    go : (b : Bool) → (k == f.node) ≡ b → (((g : Entry) → entry k fs ≡ Some g → stands_under j g ≡ false) → kid_ids j (without_entry k fs) ≡ kid_ids j fs) → kid_ids j (cond (not b) (f ∷ without_entry k fs) (without_entry k fs)) ≡ kid_ids j (f ∷ fs)
    go true c ih = ih (none_left c) ∙ sym (skip_kid j f fs (h f (there c)))
    go false c ih =
        kid_ids-cons j f (without_entry k fs)
        ∙ (ap (λ ks. cond (stands_under j f) (f.item.id ∷ ks) ks) (ih (λ g q. h g (entry-cons k f fs ∙ (ap (λ d. cond d (Some f) (entry k fs)) c ∙ q)))) ∙ sym (kid_ids-cons j f fs))

-- ---- no node and no id twice

pub nodes_put : (b : Option ℕ) (e : Entry) (es : List Entry) → NodesApart es → entry e.node es ≡ None → NodesApart (put_entry b e es)
unfolding NodesApart
nodes_put None e [] a h = (h, tt)
nodes_put (Some b) e [] a h = (h, tt)
nodes_put None e (f ∷ fs) a h =
    let p = fresh_parts e.node f fs h in
    (entry_put None e fs f.node p.1 ∙ (ap (λ c. cond c (Some e) (entry f.node fs)) (number_turned f.node e.node ∙ p.0) ∙ a.0), nodes_put None e fs a.1 p.1)
nodes_put (Some b) e (f ∷ fs) a h = go (b == f.node) (fresh_parts e.node f fs h) (nodes_put (Some b) e fs a.1)
  where
    go : (c : Bool) → ((e.node == f.node) ≡ false) × (entry e.node fs ≡ None) → (entry e.node fs ≡ None → NodesApart (put_entry (Some b) e fs)) → NodesApart (cond c (e ∷ f ∷ fs) (f ∷ put_entry (Some b) e fs))
    go true p ih = (h, a)
    go false p ih = (entry_put (Some b) e fs f.node p.1 ∙ (ap (λ c. cond c (Some e) (entry f.node fs)) (number_turned f.node e.node ∙ p.0) ∙ a.0), ih p.1)

pub nodes_without : (k : ℕ) (es : List Entry) → NodesApart es → NodesApart (without_entry k es)
unfolding NodesApart
nodes_without k [] a = tt
nodes_without k (f ∷ fs) a = go (k == f.node) (nodes_without k fs a.1)
  where
    none : (b : Bool) → cond b None (entry f.node fs) ≡ None
    none true = refl
    none false = a.0

    go : (b : Bool) → NodesApart (without_entry k fs) → NodesApart (cond (not b) (f ∷ without_entry k fs) (without_entry k fs))
    go true ih = ih
    go false ih = (entry_without k fs f.node ∙ none (k == f.node), ih)

ids-cons : (x : List ℕ) (f : Entry) (fs : List Entry) → has x (entry_ids (f ∷ fs)) ≡ (bytes_eq x f.item.id || has x (entry_ids fs))
unfolding entry_ids
ids-cons x f fs = has-cons x f.item.id (map (λ e. e.item.id) fs)

swap : (a b c : Bool) → (a || (b || c)) ≡ (b || (a || c))
swap true true c = refl
swap true false c = refl
swap false b c = refl

pub has_put : (x : List ℕ) (b : Option ℕ) (e : Entry) (es : List Entry) → has x (entry_ids (put_entry b e es)) ≡ (bytes_eq x e.item.id || has x (entry_ids es))
has_put x None e [] = ids-cons x e []
has_put x (Some b) e [] = ids-cons x e []
has_put x None e (f ∷ fs) = ids-cons x f (put_entry None e fs) ∙ (ap (λ c. bytes_eq x f.item.id || c) (has_put x None e fs) ∙ (swap (bytes_eq x f.item.id) (bytes_eq x e.item.id) (has x (entry_ids fs)) ∙ ap (λ c. bytes_eq x e.item.id || c) (sym (ids-cons x f fs))))
has_put x (Some b) e (f ∷ fs) = go (b == f.node) (has_put x (Some b) e fs)
  where
    go : (c : Bool) → has x (entry_ids (put_entry (Some b) e fs)) ≡ (bytes_eq x e.item.id || has x (entry_ids fs)) → has x (entry_ids (cond c (e ∷ f ∷ fs) (f ∷ put_entry (Some b) e fs))) ≡ (bytes_eq x e.item.id || has x (entry_ids (f ∷ fs)))
    go true ih = ids-cons x e (f ∷ fs)
    go false ih = ids-cons x f (put_entry (Some b) e fs) ∙ (ap (λ c. bytes_eq x f.item.id || c) ih ∙ (swap (bytes_eq x f.item.id) (bytes_eq x e.item.id) (has x (entry_ids fs)) ∙ ap (λ c. bytes_eq x e.item.id || c) (sym (ids-cons x f fs))))

pub has_without : (x : List ℕ) (k : ℕ) (es : List Entry) → has x (entry_ids es) ≡ false → has x (entry_ids (without_entry k es)) ≡ false
has_without x k [] h = h
has_without x k (f ∷ fs) h = go (k == f.node) (or_parts (bytes_eq x f.item.id) (has x (entry_ids fs)) (sym (ids-cons x f fs) ∙ h)) (has_without x k fs)
  where
    go : (b : Bool) → (bytes_eq x f.item.id ≡ false) × (has x (entry_ids fs) ≡ false) → (has x (entry_ids fs) ≡ false → has x (entry_ids (without_entry k fs)) ≡ false) → has x (entry_ids (cond (not b) (f ∷ without_entry k fs) (without_entry k fs))) ≡ false
    go true p ih = ih p.1
    go false p ih = ids-cons x f (without_entry k fs) ∙ (ap (λ c. c || has x (entry_ids (without_entry k fs))) p.0 ∙ ih p.1)

ids-apart : (f : Entry) (fs : List Entry) → has f.item.id (entry_ids fs) ≡ false → Apart (entry_ids fs) → Apart (entry_ids (f ∷ fs))
unfolding entry_ids
ids-apart f fs h a = Apart-cons f.item.id (map (λ e. e.item.id) fs) h a

ids-parts : (f : Entry) (fs : List Entry) → Apart (entry_ids (f ∷ fs)) → (has f.item.id (entry_ids fs) ≡ false) × Apart (entry_ids fs)
unfolding entry_ids
ids-parts f fs a = (Apart-head f.item.id (map (λ e. e.item.id) fs) a, Apart-tail f.item.id (map (λ e. e.item.id) fs) a)

pub ids_put : (b : Option ℕ) (e : Entry) (es : List Entry) → Apart (entry_ids es) → has e.item.id (entry_ids es) ≡ false → Apart (entry_ids (put_entry b e es))
ids_put None e [] a h = ids-apart e [] h a
ids_put (Some b) e [] a h = ids-apart e [] h a
ids_put None e (f ∷ fs) a h = later (or_parts (bytes_eq e.item.id f.item.id) (has e.item.id (entry_ids fs)) (sym (ids-cons e.item.id f fs) ∙ h)) (ids-parts f fs a) (ids_put None e fs)
  where
    later : (bytes_eq e.item.id f.item.id ≡ false) × (has e.item.id (entry_ids fs) ≡ false) → (has f.item.id (entry_ids fs) ≡ false) × Apart (entry_ids fs) → (Apart (entry_ids fs) → has e.item.id (entry_ids fs) ≡ false → Apart (entry_ids (put_entry None e fs))) → Apart (entry_ids (f ∷ put_entry None e fs))
    later p q ih = ids-apart f (put_entry None e fs) (has_put f.item.id None e fs ∙ (ap (λ c. c || has f.item.id (entry_ids fs)) (bytes_eq-flip e.item.id f.item.id p.0) ∙ q.0)) (ih q.1 p.1)
ids_put (Some b) e (f ∷ fs) a h = go (b == f.node) (or_parts (bytes_eq e.item.id f.item.id) (has e.item.id (entry_ids fs)) (sym (ids-cons e.item.id f fs) ∙ h)) (ids-parts f fs a) (ids_put (Some b) e fs)
  where
    go : (c : Bool) → (bytes_eq e.item.id f.item.id ≡ false) × (has e.item.id (entry_ids fs) ≡ false) → (has f.item.id (entry_ids fs) ≡ false) × Apart (entry_ids fs) → (Apart (entry_ids fs) → has e.item.id (entry_ids fs) ≡ false → Apart (entry_ids (put_entry (Some b) e fs))) → Apart (entry_ids (cond c (e ∷ f ∷ fs) (f ∷ put_entry (Some b) e fs)))
    go true p q ih = ids-apart e (f ∷ fs) h a
    go false p q ih = ids-apart f (put_entry (Some b) e fs) (has_put f.item.id (Some b) e fs ∙ (ap (λ c. c || has f.item.id (entry_ids fs)) (bytes_eq-flip e.item.id f.item.id p.0) ∙ q.0)) (ih q.1 p.1)

pub ids_without : (k : ℕ) (es : List Entry) → Apart (entry_ids es) → Apart (entry_ids (without_entry k es))
ids_without k [] a = a
ids_without k (f ∷ fs) a = go (k == f.node) (ids-parts f fs a) (ids_without k fs)
  where
    go : (b : Bool) → (has f.item.id (entry_ids fs) ≡ false) × Apart (entry_ids fs) → (Apart (entry_ids fs) → Apart (entry_ids (without_entry k fs))) → Apart (entry_ids (cond (not b) (f ∷ without_entry k fs) (without_entry k fs)))
    go true p ih = ih p.1
    go false p ih = ids-apart f (without_entry k fs) (has_without f.item.id k fs p.0) (ih p.1)

-- an entry's id is among the ids
pub entry_has : (k : ℕ) (es : List Entry) (e : Entry) → entry k es ≡ Some e → has e.item.id (entry_ids es) ≡ true
entry_has k [] e q = absurd (never (sym (entry-nil k) ∙ q))
  where
    never : None ≡ Some e → ⊥
    never f = cc
entry_has k (f ∷ fs) e q = ids-cons e.item.id f fs ∙ go (k == f.node) (sym (entry-cons k f fs) ∙ q) (entry_has k fs e)
  where
    go : (b : Bool) → cond b (Some f) (entry k fs) ≡ Some e → (entry k fs ≡ Some e → has e.item.id (entry_ids fs) ≡ true) → (bytes_eq e.item.id f.item.id || has e.item.id (entry_ids fs)) ≡ true
    go true c ih = let same : e ≡ f = cc in ap (λ b. b || has e.item.id (entry_ids fs)) (ap (λ g. bytes_eq g.item.id f.item.id) same ∙ bytes_eq-refl f.item.id)
    go false c ih = either (bytes_eq e.item.id f.item.id) (ih c)
      where
        either : (b : Bool) → has e.item.id (entry_ids fs) ≡ true → (b || has e.item.id (entry_ids fs)) ≡ true
        either true h = refl
        either false h = h

-- the id of an entry that was taken out is free
pub id_is_free : (k : ℕ) (es : List Entry) (e : Entry) → NodesApart es → Apart (entry_ids es) → entry k es ≡ Some e → has e.item.id (entry_ids (without_entry k es)) ≡ false
unfolding NodesApart
id_is_free k [] e n a q = absurd (never (sym (entry-nil k) ∙ q))
  where
    never : None ≡ Some e → ⊥
    never f = cc
id_is_free k (f ∷ fs) e n a q = go (k == f.node) (sym (entry-cons k f fs) ∙ q) (ids-parts f fs a) (id_is_free k fs e n.1)
  where
    go : (b : Bool) → cond b (Some f) (entry k fs) ≡ Some e → (has f.item.id (entry_ids fs) ≡ false) × Apart (entry_ids fs) → (Apart (entry_ids fs) → entry k fs ≡ Some e → has e.item.id (entry_ids (without_entry k fs)) ≡ false) → has e.item.id (entry_ids (cond (not b) (f ∷ without_entry k fs) (without_entry k fs))) ≡ false
    go true c p ih = let same : f ≡ e = cc in ap (λ g. has g.item.id (entry_ids (without_entry k fs))) (sym same) ∙ has_without f.item.id k fs p.0
    go false c p ih = ids-cons e.item.id f (without_entry k fs) ∙ (ap (λ d. d || has e.item.id (entry_ids (without_entry k fs))) (apart_from p.0 c) ∙ ih p.1 c)
      where
        apart_from : has f.item.id (entry_ids fs) ≡ false → entry k fs ≡ Some e → bytes_eq e.item.id f.item.id ≡ false
        apart_from h c2 = pick (bytes_eq e.item.id f.item.id) refl
          where
            pick : (b : Bool) → bytes_eq e.item.id f.item.id ≡ b → b ≡ false
            pick true s = absurd (false≢true (sym h ∙ (ap (λ w. has w (entry_ids fs)) (sym (same_text e.item.id f.item.id s)) ∙ entry_has k fs e c2)))
            pick false s = refl

-- ---- a content that is fit

pub live_entry : (k : ℕ) (es : List Entry) (content : List ℕ) → is_fit_with content k es ≡ true → is_live k es ≡ true
unfolding is_fit_with
live_entry k es content h = go (entry k es) h
  where
    go : (o : Option Entry) → unwrap_or (option_map (λ e. is_fit (record { id = e.item.id; kind = e.item.kind; content = content })) o) false ≡ true → is_some o ≡ true
    go None q = absurd (false≢true q)
    go (Some e) q = refl
