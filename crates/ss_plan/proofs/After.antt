-- The rows after a plan stand for the tree.
use Rattle.std.proofs.Common.{◌≡◌, ◌≢◌, ℕ, List, [], ◌∷◌, length, Bool, true, false, cond, ◌||◌, inl, inr, refl, sym}
use Rattle.std.proofs.Common.{ap, ap₂, ◌∙◌, subst, Option, Some, None, option_map, option_and_then, unwrap_or, is_some}
use Rattle.std.proofs.lemmas.Bool.{false≢true}
use Rattle.ss_record.specs.declared.readings.Sheet.{Sheet}
use Rattle.ss_record.specs.Ids.{has, places}
use Rattle.ss_record.specs.Items.{is_fit}
use Rattle.ss_record.specs.Records.{tombstone_of}
use Rattle.ss_record.proofs.IdLists.{bytes_eq-apart}
use Rattle.ss_record.proofs.Tombs.{tombstone_reads}
use Rattle.ss_tree.specs.declared.entries.Entry.{Entry}
use Rattle.ss_tree.specs.Trees.{PlacedItem, node, node_ids}
use Rattle.ss_tree.specs.Entries.{IsTree, entry, placed, preorder, tree}
use Rattle.ss_tree.proofs.EachMet.{each_met}
use Rattle.ss_tree.proofs.Once.{once_each}
use Rattle.ss_tree.proofs.Valid.{In, in_entry, node_found, valid_tree}
use Rattle.ss_build.specs.Rows.{is_item, readings, row_of, rows_of}
use Rattle.ss_build.specs.Stand.{HasItsRows, agrees, row}
use Rattle.ss_build.proofs.Items as items
use Rattle.ss_build.proofs.Keyed.{key_in}
use Rattle.ss_build.proofs.Stand.{node_id, node_has, node_none}
use Rattle.ss_plan.specs.Plan.{Readings, gone, is_told, order, plan, puts, reading_at, record_at}
use Rattle.ss_tree.specs.Entries.{id_at}
use Rattle.ss_tree.specs.Trees.{item_of}
use Rattle.ss_plan.specs.Plan.{record_due, record_for}
use Rattle.ss_plan.specs.Written.{AreRowsAfter, sheet, sheet_after}
use Rattle.ss_plan.proofs.Last.{after-append, after-puts, made, made-none, made-some}
use Rattle.ss_plan.proofs.Stands.{AreFit, gone_to, not_gone, out_of, read_found, reading_is, reads, reads_is}
use Rattle.ss_plan.proofs.Stands.{record_agrees, row_is, row_reading}
use Rattle.ss_text.proofs.Basics.{some_same, none_some}

-- ---- each item of the tree is met

in_items : {X : Type 0} (xs : List X) (x : X) → In x xs → items.In x xs
unfolding In items.In
in_items [] x i = i
in_items (y ∷ ys) x (inl e) = inl e
in_items (y ∷ ys) x (inr i) = inr (in_items ys x i)

pub order_has : (es : List Entry) → IsTree es → (x : List ℕ) (n : PlacedItem) → node x (tree es) ≡ Some n → has x (order es) ≡ true
order_has es t x n q =
    let e = node_found es x n q in
    let at : entry e.0.node es ≡ Some e.0 = in_entry es e.0 t.nodes e.1 in
    let i = each_met es (preorder es (length es) 0) (once_each es t) e.0.node (ap is_some at) in
    let id : id_at es e.0.node ≡ x = ap (λ o. unwrap_or (option_map (λ (w : Entry). w.item.id) o) []) at ∙ e.2 in
    ap (λ y. has y (order es)) (sym id) ∙ key_in (id_at es) (preorder es (length es) 0) e.0.node (in_items (preorder es (length es) 0) e.0.node i)

-- ---- what the plan leaves

module _ (es : List Entry) (t : IsTree es) (rs : Readings) where
  after-plan : (s : ℕ) (x : List ℕ) (o : Option Sheet)
      → sheet_after s (plan es rs) x o ≡ cond (has x (gone (tree es) rs)) (made s x (Some (tombstone_of x)) (cond (has x (order es)) (made s x (record_for (tree es) rs x) o) o)) (cond (has x (order es)) (made s x (record_for (tree es) rs x) o) o)
  unfolding plan
  after-plan s x o =
      after-append s (puts (record_for (tree es) rs) (order es)) (puts (λ y. Some (tombstone_of y)) (gone (tree es) rs)) x o
      ∙ (ap (sheet_after s (puts (λ y. Some (tombstone_of y)) (gone (tree es) rs)) x) (after-puts s (record_for (tree es) rs) (order es) x o)
      ∙ after-puts s (λ y. Some (tombstone_of y)) (gone (tree es) rs) x (cond (has x (order es)) (made s x (record_for (tree es) rs x) o) o))

  -- an item of the tree
  after-in : (s : ℕ) (x : List ℕ) (n : PlacedItem) (o : Option Sheet) → node x (tree es) ≡ Some n → sheet_after s (plan es rs) x o ≡ made s x (record_for (tree es) rs x) o
  after-in s x n o q =
      after-plan s x o
      ∙ (ap (λ b. cond b (made s x (Some (tombstone_of x)) (cond (has x (order es)) (made s x (record_for (tree es) rs x) o) o)) (cond (has x (order es)) (made s x (record_for (tree es) rs x) o) o)) (not_gone (tree es) rs x (node_has (tree es) x n q))
      ∙ ap (λ b. cond b (made s x (record_for (tree es) rs x) o) o) (order_has es t x n q))

  due : (x : List ℕ) (n : PlacedItem) (b : Bool) → x ≢ places → node x (tree es) ≡ Some n → is_told n (reading_at x rs) ≡ b → record_for (tree es) rs x ≡ cond b None (Some (record_at n))
  unfolding record_for record_due
  due x n b ne q e =
      ap (option_and_then (λ m. record_due m (reading_at x rs))) q
      ∙ ap₂ (λ a c. cond (a || c) None (Some (record_at n))) (bytes_eq-apart n.id places (λ p. ne (sym (node_id (tree es) x n q) ∙ p))) e

  -- any other id
  after-out : (s : ℕ) (x : List ℕ) (o : Option Sheet) → has x (node_ids (tree es)) ≡ false → sheet_after s (plan es rs) x o ≡ cond (has x (gone (tree es) rs)) (Some (record { id = x; modified = s; payload = tombstone_of x })) o
  unfolding record_for
  after-out s x o h =
      after-plan s x o
      ∙ ap₂ (λ a b. cond (has x (gone (tree es) rs)) a b) (made-some s x (tombstone_of x) (cond (has x (order es)) (made s x (record_for (tree es) rs x) o) o)) (none ∙ either (has x (order es)))
    where
      none : cond (has x (order es)) (made s x (record_for (tree es) rs x) o) o ≡ cond (has x (order es)) o o
      none = ap (λ m. cond (has x (order es)) m o) (ap (λ q. made s x (option_and_then (λ m. record_due m (reading_at x rs)) q) o) (node_none (tree es) x h) ∙ made-none s x o)

      either : (b : Bool) → cond b o o ≡ o
      either true = refl
      either false = refl

-- ---- the rows after it

told_sheet : (n : PlacedItem) (o : Option Sheet) → is_told n (option_map reads o) ≡ true → (s : Sheet) × (o ≡ Some s) × (agrees n (reads s) ≡ true)
unfolding is_told
told_sheet n None e = absurd (false≢true e)
told_sheet n (Some s) e = (s, refl, e)

fit_tree : (es : List Entry) → IsTree es → ((k : ℕ) (e : Entry) → entry k es ≡ Some e → is_fit e.item ≡ true) → AreFit (tree es)
unfolding placed
fit_tree es t fit x n q =
    let e = node_found es x n q in
    ap (λ m. is_fit (item_of m)) e.3 ∙ fit e.0.node e.0 (in_entry es e.0 t.nodes e.1)

module _ (es : List Entry) (t : IsTree es) (each_fit : (k : ℕ) (e : Entry) → entry k es ≡ Some e → is_fit e.item ≡ true) (rs : Readings) (sheets after : List Sheet) (stamp : ℕ) (told : readings (rows_of sheets) ≡ rs) (w : AreRowsAfter sheets (plan es rs) stamp after) where
  read_at : (x : List ℕ) → reading_at x rs ≡ option_map reads (sheet x sheets)
  read_at x = ap (reading_at x) (sym told) ∙ reading_is x sheets

  made_row : (x : List ℕ) (s : Sheet) → sheet x after ≡ Some s → row x (rows_of after) ≡ Some (row_of s)
  made_row x s e = row_is x after ∙ ap (option_map row_of) e

  each : (x : List ℕ) (n : PlacedItem) → x ≢ places → node x (tree es) ≡ Some n → (b : Bool) → is_told n (reading_at x rs) ≡ b → (r : _) × (row x (rows_of after) ≡ Some r) × (agrees n r.reading ≡ true)
  each x n ne q true e =
      let s = told_sheet n (sheet x sheets) (ap (is_told n) (sym (read_at x)) ∙ e) in
      let stays : sheet x after ≡ Some s.0 = w.each x ∙ (after-in es t rs stamp x n (sheet x sheets) q ∙ (ap (λ p. made stamp x p (sheet x sheets)) (due es t rs x n true ne q e) ∙ (made-none stamp x (sheet x sheets) ∙ s.1))) in
      (row_of s.0, made_row x s.0 stays, ap (agrees n) (row_reading s.0) ∙ s.2)
  each x n ne q false e =
      let s : Sheet = record { id = x; modified = stamp; payload = record_at n } in
      let new : sheet x after ≡ Some s = w.each x ∙ (after-in es t rs stamp x n (sheet x sheets) q ∙ (ap (λ p. made stamp x p (sheet x sheets)) (due es t rs x n false ne q e) ∙ made-some stamp x (record_at n) (sheet x sheets))) in
      (row_of s, made_row x s new, ap (agrees n) (row_reading s ∙ reads_is s) ∙ record_agrees (tree es) (valid_tree es t) (fit_tree es t each_fit) x n ne q)

  others : (x : List ℕ) (r : _) → row x (rows_of after) ≡ Some r → is_item r.reading ≡ true → (b : Bool) → has x (node_ids (tree es)) ≡ b → has x (node_ids (tree es)) ≡ true
  others x r q e true h = h
  others x r q e false h = absurd (by (has x (gone (tree es) rs)) refl (sym (w.each x ∙ after-out es t rs stamp x (sheet x sheets) h)))
    where
      row_is_read : (s : Sheet) → sheet x after ≡ Some s → is_item (reads s) ≡ true
      row_is_read s k =
          let same : row_of s ≡ r = some_same (sym (made_row x s k) ∙ q) in
          ap is_item (sym (row_reading s) ∙ ap (λ y. y.reading) same) ∙ e

      tomb : (s : Sheet) → s ≡ record { id = x; modified = stamp; payload = tombstone_of x } → is_item (reads s) ≡ false
      tomb s k =
          let u = out_of (tree es) x (valid_tree es t) h in
          ap is_item (ap reads k ∙ (reads_is (record { id = x; modified = stamp; payload = tombstone_of x }) ∙ tombstone_reads x u.0 u.1))

      old : (o : Option Sheet) → sheet x sheets ≡ o → has x (gone (tree es) rs) ≡ false → sheet x sheets ≡ sheet x after → ⊥
      old None k g s = none_some (sym (row_is x after ∙ ap (option_map row_of) (sym s ∙ k)) ∙ q)
      old (Some s) k g p =
          false≢true (sym g ∙ gone_to (tree es) rs (x, reads s) (subst (items.In (x, reads s)) told (read_found x sheets s k)) (row_is_read s (sym p ∙ k)) h)

      by : (b : Bool) → has x (gone (tree es) rs) ≡ b → cond (has x (gone (tree es) rs)) (Some (record { id = x; modified = stamp; payload = tombstone_of x })) (sheet x sheets) ≡ sheet x after → ⊥
      by true g p =
          let s : Sheet = record { id = x; modified = stamp; payload = tombstone_of x } in
          let new : sheet x after ≡ Some s = sym p ∙ ap (λ b. cond b (Some s) (sheet x sheets)) g in
          false≢true (sym (tomb s refl) ∙ row_is_read s new)
      by false g p = old (sheet x sheets) refl g (ap (λ b. cond b (Some (record { id = x; modified = stamp; payload = tombstone_of x })) (sheet x sheets)) (sym g) ∙ p)

  pub rows_after : HasItsRows (tree es) (rows_of after)
  rows_after = record {
    each = λ x n ne q. each x n ne q (is_told n (reading_at x rs)) refl;
    others = λ x r q e. others x r q e (has x (node_ids (tree es))) refl;
  }
