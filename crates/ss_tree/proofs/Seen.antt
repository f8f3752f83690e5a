-- What the look-ups read of cells that are a tree.
use Rattle.std.proofs.Common.{◌↔◌, ◌≡◌, ◌≢◌, ℕ, zero, suc, ◌<◌, ◌≤◌, ◌==◌, List, [], ◌∷◌, length, Bool, true, false}
use Rattle.std.proofs.Common.{cond, ◌||◌, refl, sym, ap, subst, ◌∙◌, arith, inl, inr, Option, Some, None, option_map}
use Rattle.std.proofs.Common.{option_and_then, is_some, unwrap_or}
use Rattle.std.proofs.lemmas.Bool.{false≢true, eq-eqb, ne_eqb, eqb-true}
use Rattle.ss_record.specs.Items.{ItemView, is_fit}
use Rattle.ss_list.specs.Chain.{times}
use Rattle.ss_list.proofs.Times.{times-here, at_head, below-head}
use Rattle.ss_list.proofs.Paths.{Path}
use Rattle.ss_tree.specs.declared.entries.Entry.{Entry}
use Rattle.ss_tree.specs.Entries.{entry, is_live, kids, above, first_of, next_after, is_met_above, is_below}
use Rattle.ss_tree.specs.Entries.{is_fit_with}
use Rattle.ss_tree.specs.Entries.{ancestor, IsBelow, IsTree}
use Rattle.ss_tree.proofs.Ways.{below_is, above_met}
use Rattle.ss_tree.specs.declared.cells.Cell.{Cell}
use Rattle.ss_tree.specs.declared.cells.TheConstants.{END}
use Rattle.ss_tree.specs.Cells.{cell_at, next_of, prev_of, seat_at, is_fit_item, listing, IsLinkedTree}
use Rattle.ss_tree.proofs.Kin.{entry_kid}
use Rattle.ss_tree.proofs.Settled.{end_nowhere, listed_long}
use Rattle.std.proofs.lemmas.Option.{none-some}

-- what a link leads to
abbrev pub link_node : ℕ → Option ℕ
link_node k = cond (k == END) None (Some k)

-- the entry of an item in a cell
abbrev pub seated : List Cell → ℕ → Option ItemView → Option Entry
seated cells k o = option_map (λ i. record { node = k; parent = (cell_at cells k).parent; item = i; time = (cell_at cells k).time }) o

item_seen : (cells : List Cell) (k : ℕ) → option_map (λ e. e.item) (seat_at cells k) ≡ (cell_at cells k).item
item_seen cells k = go (cell_at cells k).item
  where
    go : (o : Option ItemView) → option_map (λ e. e.item) (seated cells k o) ≡ o
    go None = refl
    go (Some i) = refl

pub item_is : (cells : List Cell) → IsLinkedTree cells → (k : ℕ) → (cell_at cells k).item ≡ option_map (λ e. e.item) (entry k (listing cells))
item_is cells linked k = sym (ap (option_map (λ e. e.item)) (linked.lies.seats k) ∙ item_seen cells k)

pub time_is : (cells : List Cell) → IsLinkedTree cells → (k : ℕ) → is_live k (listing cells) ≡ true → option_map (λ e. e.time) (entry k (listing cells)) ≡ Some (cell_at cells k).time
time_is cells linked k live = ap (option_map (λ e. e.time)) (linked.lies.seats k) ∙ go (cell_at cells k).item (sym (ap is_some (linked.lies.seats k)) ∙ live)
  where
    go : (o : Option ItemView) → is_some (seated cells k o) ≡ true → option_map (λ e. e.time) (seated cells k o) ≡ Some (cell_at cells k).time
    go None l = absurd (false≢true l)
    go (Some i) l = refl

pub parent_is : (cells : List Cell) → IsLinkedTree cells → (k : ℕ) → option_and_then (λ e. e.parent) (seat_at cells k) ≡ above (listing cells) k
unfolding above
parent_is cells linked k = ap (option_and_then (λ e. e.parent)) (sym (linked.lies.seats k))

-- a live node has a cell
pub live_below : (cells : List Cell) → IsLinkedTree cells → (k : ℕ) → is_live k (listing cells) ≡ true → k < length cells
live_below cells linked k live = linked.kept.below k live

link_is : (k : ℕ) (ks : List ℕ) → times END (k ∷ ks) ≡ 0 → link_node k ≡ Some k
link_is k ks none = ap (λ b. cond b None (Some k)) (ne_eqb k END (λ is. omega (arith, times-here END k ks (sym is))))

first_of_path : (f g : ℕ → ℕ) (ks : List ℕ) → times END ks ≡ 0 → Path f g END ks END → link_node (f END) ≡ first_of ks
first_of_path f g [] none path = ap (λ b. cond b None (Some (f END))) (eq-eqb (f END) END path.0)
first_of_path f g (k ∷ ks) none path = ap link_node path.0 ∙ link_is k ks none

pub first_is : (cells : List Cell) → IsLinkedTree cells → (k : ℕ) → link_node (cell_at cells k).first ≡ first_of (kids k (listing cells))
first_is cells linked k =
    first_of_path (next_of cells k) (prev_of cells k) (kids k (listing cells)) (end_nowhere cells (listing cells) linked.kept linked.lies k) (linked.lies.rows k)

next_of_path : (f g : ℕ → ℕ) (u : ℕ) (ks : List ℕ) (x : ℕ) → times END ks ≡ 0 → 0 < times x ks → Path f g u ks END → link_node (f x) ≡ next_after x ks
next_of_path f g u [] x none there path = absurd (omega arith)
next_of_path f g u (k ∷ ks) x none there path =
    elim (at_head x k ks) [
      | inl same ↦ ap (λ i. link_node (f i)) same.0 ∙ (head ks (omega (arith, below-head END k ks)) path.2 ∙ sym (ap (λ b. cond b (first_of ks) (next_after x ks)) (eq-eqb x k same.0)))
      | inr other ↦ next_of_path f g k ks x (omega (arith, below-head END k ks)) (omega arith) path.2 ∙ sym (ap (λ b. cond b (first_of ks) (next_after x ks)) (ne_eqb x k other.0))
    ]
  where
    head : (ms : List ℕ) → times END ms ≡ 0 → Path f g k ms END → link_node (f k) ≡ first_of ms
    head [] n p = ap (λ b. cond b None (Some (f k))) (eq-eqb (f k) END p.0)
    head (m ∷ ms) n p = ap link_node p.0 ∙ link_is m ms n

pub next_is : (cells : List Cell) → IsLinkedTree cells → (k p : ℕ) → above (listing cells) k ≡ Some p → link_node (cell_at cells k).next ≡ next_after k (kids p (listing cells))
unfolding above
next_is cells linked k p q = go (entry k (listing cells)) refl q
  where
    es : List Entry
    es = listing cells

    go : (o : Option Entry) → entry k (listing cells) ≡ o → option_and_then (λ e. e.parent) o ≡ Some p → link_node (cell_at cells k).next ≡ next_after k (kids p (listing cells))
    go None h r = absurd (none-some _ r)
    go (Some e) h r =
        let there : 0 < times k (kids p (listing cells)) = entry_kid p k (listing cells) e h r in
        let none = end_nowhere cells (listing cells) linked.kept linked.lies p in
        let inner : k ≢ END = λ is. let gone : times k (kids p (listing cells)) ≡ 0 = ap (λ i. times i (kids p (listing cells))) is ∙ none in omega arith in
        let step : next_of cells p k ≡ (cell_at cells k).next = ap (λ b. cond b (cell_at cells p).first (cell_at cells k).next) (ne_eqb k END inner) in
        ap link_node (sym step) ∙ next_of_path (next_of cells p) (prev_of cells p) END (kids p (listing cells)) k none there (linked.lies.rows p)

-- ---- the way up

met_more : (es : List Entry) (top n m : ℕ) (o : Option ℕ) → n ≤ m → is_met_above es top n o ≡ true → is_met_above es top m o ≡ true
met_more es top zero m o le h = absurd (false≢true h)
met_more es top (suc n) zero o le h = absurd (omega arith)
met_more es top (suc n) (suc m) None le h = h
met_more es top (suc n) (suc m) (Some j) le h = go (top == j) h (met_more es top n m (above es j) (omega arith))
  where
    go : (b : Bool) → (b || is_met_above es top n (above es j)) ≡ true → (is_met_above es top n (above es j) ≡ true → is_met_above es top m (above es j) ≡ true) → (b || is_met_above es top m (above es j)) ≡ true
    go true w ih = refl
    go false w ih = ih w

-- more steps than there are entries find no more
pub met_far : (es : List Entry) → IsTree es → (top k n : ℕ) → length es ≤ n → is_met_above es top n (above es k) ≡ is_below es top k
unfolding is_below
met_far es t top k n le = go (is_met_above es top n (above es k)) (is_met_above es top (length es) (above es k)) refl refl
  where
    go : (a b : Bool) → is_met_above es top n (above es k) ≡ a → is_met_above es top (length es) (above es k) ≡ b → a ≡ b
    go true true p q = refl
    go false false p q = refl
    go true false p q = sym ((below_is es t top k).1 (above_met es top n k p)) ∙ q
    go false true p q = sym p ∙ met_more es top (length es) n (above es k) le q

pub long_is : (cells : List Cell) → IsLinkedTree cells → length (listing cells) ≤ length cells
long_is cells linked = listed_long cells (listing cells) linked.kept linked.lies

pub met_none : (es : List Entry) (top n : ℕ) → is_met_above es top n None ≡ false
met_none es top zero = refl
met_none es top (suc n) = refl

pub met_here : (es : List Entry) (top n j : ℕ) → 0 < n → top ≡ j → is_met_above es top n (Some j) ≡ true
met_here es top zero j lt is = absurd (omega arith)
met_here es top (suc n) j lt is = ap (λ b. b || is_met_above es top n (above es j)) (eq-eqb top j is)

pub tells_below : (es : List Entry) → IsTree es → (top k : ℕ) (b : Bool) → b ≡ is_below es top k → (b ≡ true) ↔ IsBelow es top k
tells_below es t top k b is = subst (λ a. (a ≡ true) ↔ IsBelow es top k) (sym is) (below_is es t top k)

-- a node whose item may have this content
pub fit_item : (cells : List Cell) → IsLinkedTree cells → (k : ℕ) (content : List ℕ) → is_fit_with content k (listing cells) ≡ true → is_fit_item content (cell_at cells k).item ≡ true
unfolding is_fit_with
fit_item cells linked k content h = go (cell_at cells k).item (sym (ap (λ o. unwrap_or (option_map (λ e. is_fit (record { id = e.item.id; kind = e.item.kind; content = content })) o) false) (linked.lies.seats k)) ∙ h)
  where
    go : (o : Option ItemView) → unwrap_or (option_map (λ e. is_fit (record { id = e.item.id; kind = e.item.kind; content = content })) (seated cells k o)) false ≡ true → is_fit_item content o ≡ true
    go None q = q
    go (Some i) q = q
