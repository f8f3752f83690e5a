-- The nodes of ids.
use Rattle.std.proofs.Common.{◌≡◌, ◌⊎◌, ℕ, ◌==◌, List, [], ◌∷◌, map, find, Bool, true, false, cond, ◌||◌, refl, sym, ap}
use Rattle.std.proofs.Common.{subst, ◌∙◌, inl, inr, Option, Some, None, option_map, is_some, bytes_eq}
use Rattle.std.proofs.lemmas.Bool.{false≢true, eqb-true, eq-eqb}
use Rattle.ss_record.specs.Ids.{has}
use Rattle.ss_record.proofs.IdLists.{has-nil, has-cons}
use Rattle.ss_tree.specs.declared.entries.Entry.{Entry}
use Rattle.ss_tree.specs.Entries.{entry, entry_ids, node_of, IsTree}
use Rattle.ss_tree.proofs.Edits.{entry_has}
use Rattle.ss_tree.proofs.Valid.{In, entry_in, in_entry, one_entry}
use Rattle.std.proofs.lemmas.Option.{none-some}
use Rattle.ss_text.proofs.Basics.{same_text, bytes_eq-same, some_same}

pub has_node : (x : List ℕ) (es : List Entry) → has x (entry_ids es) ≡ is_some (node_of x es)
unfolding node_of entry_ids
has_node x [] = has-nil x
has_node x (f ∷ fs) = has-cons x f.item.id (map (λ e. e.item.id) fs) ∙ go (bytes_eq x f.item.id) (has_node x fs)
  where
    go : (b : Bool) → has x (map (λ e. e.item.id) fs) ≡ is_some (option_map {T = Entry} (λ e. e.node) (find (λ e. bytes_eq x e.item.id) fs)) → (b || has x (map (λ e. e.item.id) fs)) ≡ is_some (option_map {T = Entry} (λ e. e.node) (cond b (Some f) (find (λ e. bytes_eq x e.item.id) fs)))
    go true ih = refl
    go false ih = ih

found_in : (x : List ℕ) (fs : List Entry) (k : ℕ) → node_of x fs ≡ Some k → (e : Entry) × In e fs × (e.node ≡ k) × (e.item.id ≡ x)
unfolding In node_of
found_in x [] k q = cc
found_in x (f ∷ fs) k q = go (bytes_eq x f.item.id) refl q (found_in x fs k)
  where
    go : (b : Bool) → bytes_eq x f.item.id ≡ b → option_map (λ e. e.node) (cond b (Some f) (find (λ e. bytes_eq x e.item.id) fs)) ≡ Some k
        → (option_map (λ e. e.node) (find (λ e. bytes_eq x e.item.id) fs) ≡ Some k → (e : Entry) × In e fs × (e.node ≡ k) × (e.item.id ≡ x)) → (e : Entry) × ((e ≡ f) ⊎ In e fs) × (e.node ≡ k) × (e.item.id ≡ x)
    go true c h ih = (f, inl refl, some_same h, sym (same_text x f.item.id c))
    go false c h ih = let r = ih h in (r.0, inr r.1, r.2, r.3)

-- the node of an id has an item with it
pub node_found : (es : List Entry) → IsTree es → (x : List ℕ) (k : ℕ) → node_of x es ≡ Some k → (e : Entry) × (entry k es ≡ Some e) × (e.item.id ≡ x)
node_found es t x k q = let r = found_in x es k q in (r.0, subst (λ i. entry i es ≡ Some r.0) r.2 (in_entry es r.0 t.nodes r.1), r.3)

-- an item's node is that of its id
pub node_there : (es : List Entry) → IsTree es → (x : List ℕ) (k : ℕ) (e : Entry) → entry k es ≡ Some e → e.item.id ≡ x → node_of x es ≡ Some k
node_there es t x k e q is = go (node_of x es) refl
  where
    go : (o : Option ℕ) → node_of x es ≡ o → node_of x es ≡ Some k
    go None h = absurd (false≢true (sym (has_node x es ∙ ap is_some h) ∙ (ap (λ i. has i (entry_ids es)) (sym is) ∙ entry_has k es e q)))
    go (Some j) h =
        let r = found_in x es j h in
        let d = entry_in k es e q in
        let same : r.0 ≡ e = one_entry es r.0 e t.ids r.1 d.0 (r.3 ∙ sym is) in
        h ∙ ap Some (sym r.2 ∙ (ap (λ i. i.node) same ∙ d.1))

module _ (es fs : List Entry) (t : IsTree es) (u : IsTree fs) (x : List ℕ) where
  node_same : ((k : ℕ) (e : Entry) → entry k es ≡ Some e → e.item.id ≡ x → (f : Entry) × (entry k fs ≡ Some f) × (f.item.id ≡ x)) → ((k : ℕ) (f : Entry) → entry k fs ≡ Some f → f.item.id ≡ x → (e : Entry) × (entry k es ≡ Some e) × (e.item.id ≡ x)) → node_of x fs ≡ node_of x es
  node_same to from = go (node_of x es) (node_of x fs) refl refl
    where
      go : (a b : Option ℕ) → node_of x es ≡ a → node_of x fs ≡ b → node_of x fs ≡ node_of x es
      go (Some k) b h w = let e = node_found es t x k h in let f = to k e.0 e.1 e.2 in node_there fs u x k f.0 f.1 f.2 ∙ sym h
      go None (Some k) h w = let f = node_found fs u x k w in let e = from k f.0 f.1 f.2 in absurd (none-some _ (sym h ∙ node_there es t x k e.0 e.1 e.2))
      go None None h w = w ∙ sym h

  -- where one entry has become another with its id, each id has its node
  pub node_kept : (k : ℕ) (change : Entry → Entry) → ((e : Entry) → (change e).item.id ≡ e.item.id) → ((j : ℕ) → entry j fs ≡ cond (j == k) (option_map change (entry j es)) (entry j es)) → node_of x fs ≡ node_of x es
  node_kept k change ids look = node_same (λ j e q is. to j (j == k) refl e q is) (λ j f q is. from j (j == k) refl (entry j es) refl f q is)
    where
      to : (j : ℕ) (b : Bool) → (j == k) ≡ b → (e : Entry) → entry j es ≡ Some e → e.item.id ≡ x → (f : Entry) × (entry j fs ≡ Some f) × (f.item.id ≡ x)
      to j true c e q is = (change e, look j ∙ (ap (λ b. cond b (option_map change (entry j es)) (entry j es)) c ∙ ap (option_map change) q), ids e ∙ is)
      to j false c e q is = (e, look j ∙ (ap (λ b. cond b (option_map change (entry j es)) (entry j es)) c ∙ q), is)

      from : (j : ℕ) (b : Bool) → (j == k) ≡ b → (o : Option Entry) → entry j es ≡ o → (f : Entry) → entry j fs ≡ Some f → f.item.id ≡ x → (e : Entry) × (entry j es ≡ Some e) × (e.item.id ≡ x)
      from j true c None h f q is = absurd (none-some _ (ap (option_map change) (sym h) ∙ (sym (look j ∙ ap (λ b. cond b (option_map change (entry j es)) (entry j es)) c) ∙ q)))
      from j true c (Some e) h f q is =
          let same : change e ≡ f = some_same (ap (option_map change) (sym h) ∙ (sym (look j ∙ ap (λ b. cond b (option_map change (entry j es)) (entry j es)) c) ∙ q)) in
          (e, h, sym (ids e) ∙ (ap (λ i. i.item.id) same ∙ is))
      from j false c o h f q is = (f, sym (look j ∙ ap (λ b. cond b (option_map change (entry j es)) (entry j es)) c) ∙ q, is)

  -- one item more
  pub node_more : (n : ℕ) (e : Entry) → entry n es ≡ None → ((j : ℕ) → entry j fs ≡ cond (j == n) (Some e) (entry j es)) → node_of x fs ≡ cond (bytes_eq e.item.id x) (Some n) (node_of x es)
  node_more n e none look = go (bytes_eq e.item.id x) refl
    where
      at_n : entry n fs ≡ Some e
      at_n = look n ∙ ap (λ b. cond b (Some e) (entry n es)) (eq-eqb n n refl)

      other : (j : ℕ) → (j == n) ≡ false → entry j fs ≡ entry j es
      other j c = look j ∙ ap (λ b. cond b (Some e) (entry j es)) c

      to : (j : ℕ) (b : Bool) → (j == n) ≡ b → (d : Entry) → entry j es ≡ Some d → d.item.id ≡ x → (f : Entry) × (entry j fs ≡ Some f) × (f.item.id ≡ x)
      to j true c d q is = absurd (none-some _ (sym (ap (λ i. entry i es) (eqb-true j n c) ∙ none) ∙ q))
      to j false c d q is = (d, other j c ∙ q, is)

      from : bytes_eq e.item.id x ≡ false → (j : ℕ) (b : Bool) → (j == n) ≡ b → (f : Entry) → entry j fs ≡ Some f → f.item.id ≡ x → (d : Entry) × (entry j es ≡ Some d) × (d.item.id ≡ x)
      from apart j true c f q is =
          let same : e ≡ f = some_same (sym (look j ∙ ap (λ b. cond b (Some e) (entry j es)) c) ∙ q) in
          absurd (false≢true (sym apart ∙ bytes_eq-same e.item.id x (ap (λ i. i.item.id) same ∙ is)))
      from apart j false c f q is = (f, sym (other j c) ∙ q, is)

      go : (b : Bool) → bytes_eq e.item.id x ≡ b → node_of x fs ≡ cond b (Some n) (node_of x es)
      go true c = node_there fs u x n e at_n (same_text e.item.id x c)
      go false c = node_same (λ j d q is. to j (j == n) refl d q is) (λ j f q is. from c j (j == n) refl f q is)

  -- one item less
  pub node_less : (k : ℕ) (d : Entry) → entry k es ≡ Some d → ((j : ℕ) → entry j fs ≡ cond (k == j) None (entry j es)) → node_of x fs ≡ cond (bytes_eq d.item.id x) None (node_of x es)
  node_less k d at look = go (bytes_eq d.item.id x) refl
    where
      still : (j : ℕ) (b : Bool) → (k == j) ≡ b → (f : Entry) → entry j fs ≡ Some f → ((k == j) ≡ false) × (entry j es ≡ Some f)
      still j true c f q = absurd (none-some _ (sym (look j ∙ ap (λ b. cond b None (entry j es)) c) ∙ q))
      still j false c f q = (c, sym (look j ∙ ap (λ b. cond b None (entry j es)) c) ∙ q)

      to : bytes_eq d.item.id x ≡ false → (j : ℕ) (b : Bool) → (k == j) ≡ b → (e : Entry) → entry j es ≡ Some e → e.item.id ≡ x → (f : Entry) × (entry j fs ≡ Some f) × (f.item.id ≡ x)
      to apart j true c e q is =
          let same : d ≡ e = some_same (sym at ∙ (ap (λ i. entry i es) (eqb-true k j c) ∙ q)) in
          absurd (false≢true (sym apart ∙ bytes_eq-same d.item.id x (ap (λ i. i.item.id) same ∙ is)))
      to apart j false c e q is = (e, look j ∙ (ap (λ b. cond b None (entry j es)) c ∙ q), is)

      gone : bytes_eq d.item.id x ≡ true → (o : Option ℕ) → node_of x fs ≡ o → node_of x fs ≡ None
      gone c None h = h
      gone c (Some j) h =
          let f = node_found fs u x j h in
          let s = still j (k == j) refl f.0 f.1 in
          let mine : node_of x es ≡ Some k = node_there es t x k d at (same_text d.item.id x c) in
          let is : k ≡ j = some_same (sym mine ∙ node_there es t x j f.0 s.1 f.2) in
          absurd (false≢true (sym s.0 ∙ eq-eqb k j is))

      go : (b : Bool) → bytes_eq d.item.id x ≡ b → node_of x fs ≡ cond b None (node_of x es)
      go true c = gone c (node_of x fs) refl
      go false c = node_same (λ j e q is. to c j (k == j) refl e q is) (λ j f q is. let s = still j (k == j) refl f q in (f, s.1, is))

  -- where all entries are the same, each id has its node
  pub node_alike : ((k : ℕ) → entry k fs ≡ entry k es) → node_of x fs ≡ node_of x es
  node_alike look = node_same (λ k e q is. (e, look k ∙ q, is)) (λ k f q is. (f, sym (look k) ∙ q, is))
