-- The loops of a plan: one more reading that is known, one more record that is put.
use Rattle.std.proofs.Common.{◌≡◌, nat_lt, ℕ, suc, zero, ◌+◌, ◌<◌, ◌≤◌, List, [], ◌∷◌, ◌++◌, length, map, take, drop}
use Rattle.std.proofs.Common.{get_or, Bool, true, false, cond, refl, sym, ap, ap₂, subst, ◌∙◌, arith, find, bytes_eq}
use Rattle.std.proofs.Common.{Option, Some, None, option_map, option_and_then, unwrap_or, is_some, add-one}
use Rattle.std.proofs.lemmas.Bool.{false≢true, lt-ltb, le-ltb}
use Rattle.std.proofs.lemmas.List.{drop_all, take_more}
use Rattle.std.proofs.Math.Seq.{drop-cons}
use Rattle.std.specs.List.{cons_option}
use Rattle.std.specs.Option.{option_to_list}
use Rattle.ss_record.specs.declared.readings.Reading.{Reading}
use Rattle.ss_record.specs.Ids.{has, places}
use Rattle.ss_record.specs.Items.{is_fit}
use Rattle.ss_tree.specs.declared.entries.Entry.{Entry}
use Rattle.ss_tree.specs.Trees.{PlacedItem, node}
use Rattle.ss_tree.specs.Entries.{IsTree, above, entry, kid_ids, placed, tree}
use Rattle.ss_tree.proofs.Valid.{entry_in, node_at, valid_tree}
use Rattle.ss_bso.specs.declared.parts.Part.{Part}
use Rattle.ss_plan.specs.Plan.{Readings, part, puts, reading_at, record_due, record_for}
use Rattle.ss_tree.specs.Entries.{id_at}
use Rattle.ss_tree.specs.Trees.{item_of}
use Rattle.ss_plan.specs.Refusals.{first_over}
use Rattle.ss_plan.specs.declared.seats.Seat.{Seat}
use Rattle.ss_plan.specs.Seats.{placed_at}
use Rattle.ss_text.proofs.Basics.{some_same, bytes_eq-sym, bytes_eq-same}

-- ---- what is known

reading_at-cons : (x : List ℕ) (r : List ℕ × Reading) (rs : Readings) → reading_at x (r ∷ rs) ≡ cond (bytes_eq x r.0) (Some r.1) (reading_at x rs)
unfolding reading_at
reading_at-cons x r rs = by (bytes_eq x r.0)
  where
    by : (b : Bool) → option_map (λ w. w.1) (cond b (Some r) (find (λ w. bytes_eq x w.0) rs)) ≡ cond b (Some r.1) (option_map (λ w. w.1) (find (λ w. bytes_eq x w.0) rs))
    by true = refl
    by false = refl

pub none_known : (x : List ℕ) (rs : Readings) (n : ℕ) → n ≡ length rs → reading_at x (drop n rs) ≡ None
unfolding reading_at
none_known x rs n e = ap (λ xs. option_map (λ (w : List ℕ × Reading). w.1) (find (λ w. bytes_eq x w.0) xs)) (drop_all n rs (omega arith))

-- one reading more is known, before those that are
pub known_more : {B : Type 0} (now : B → Reading) (g h : List ℕ → Option B) (rs : Readings) (at after : ℕ) (d : List ℕ × Reading) (key : List ℕ) (r : B) → at + 1 ≡ after → at < length rs → key ≡ (get_or rs at d).0
    → ((x : List ℕ) → h x ≡ cond (bytes_eq key x) (Some r) (g x)) → now r ≡ (get_or rs at d).1
    → ((x : List ℕ) → option_map now (g x) ≡ reading_at x (drop after rs)) → (x : List ℕ) → option_map now (h x) ≡ reading_at x (drop at rs)
known_more {B} now g h rs at after d key r next here same new is old x =
    ap (option_map now) (new x ∙ ap (λ k. cond (bytes_eq k x) (Some r) (g x)) same)
    ∙ (by (bytes_eq (get_or rs at d).0 x)
    ∙ (ap₂ (λ b o. cond b (Some (get_or rs at d).1) o) (bytes_eq-sym (get_or rs at d).0 x) (old x ∙ ap (λ n. reading_at x (drop n rs)) (sym next))
    ∙ (sym (reading_at-cons x (get_or rs at d) (drop (at + 1) rs)) ∙ ap (reading_at x) (sym split))))
  where
    by : (b : Bool) → option_map now (cond b (Some r) (g x)) ≡ cond b (Some (get_or rs at d).1) (option_map now (g x))
    by true = ap Some is
    by false = refl

    split : drop at rs ≡ get_or rs at d ∷ drop (at + 1) rs
    split = rw add-one (drop-cons rs at d here)

-- ---- the item of a node

-- a seat is the item of its node
pub seat_is : (es : List Entry) → IsTree es → (k : ℕ) (seat : Seat) → option_map (λ e. e.item) (entry k es) ≡ Some seat.item.now → option_map (λ e. e.time) (entry k es) ≡ Some seat.time
    → seat.parent ≡ option_and_then (λ p. option_map (λ f. f.item.id) (entry p es)) (above es k) → seat.children.items ≡ kid_ids k es → option_map (placed es) (entry k es) ≡ Some (placed_at seat)
unfolding placed above
seat_is es t k seat item time parent children = cases (entry k es) refl item time
  where
    cases : (o : Option Entry) → entry k es ≡ o → option_map (λ e. e.item) o ≡ Some seat.item.now → option_map (λ e. e.time) o ≡ Some seat.time → option_map (placed es) o ≡ Some (placed_at seat)
    cases None h i m = cc
    cases (Some e) h i m =
        let item_is : e.item ≡ seat.item.now = cc in
        let time_is : e.time ≡ seat.time = cc in
        let node_is : e.node ≡ k = (entry_in k es e h).1 in
        let parent_is : option_and_then (λ p. option_map (λ (f : Entry). f.item.id) (entry p es)) e.parent ≡ seat.parent =
        sym (parent ∙ ap (λ (o : Option Entry). option_and_then (λ p. option_map (λ (f : Entry). f.item.id) (entry p es)) (option_and_then (λ (d : Entry). d.parent) o)) h) in
        let kids_are : kid_ids e.node es ≡ seat.children.items = ap (λ n. kid_ids n es) node_is ∙ sym children in
        ap Some (λ j. record { id = (item_is j).id; kind = (item_is j).kind; content = (item_is j).content; parent = parent_is j; children = kids_are j; time = time_is j })

-- of a seat: its item is in the tree, and but for `places` it has a parent
pub record IsSeat (es : List Entry) (k : ℕ) (seat : Seat) : Type 0 where
  pub there : node seat.item.now.id (tree es) ≡ Some (placed_at seat)
  pub id : id_at es k ≡ seat.item.now.id
  pub parent : bytes_eq seat.item.now.id places ≡ false → is_some seat.parent ≡ true
  pub fit : is_fit seat.item.now ≡ true → (e : Entry) → entry k es ≡ Some e → is_fit e.item ≡ true

pub seat_place : (es : List Entry) → IsTree es → (k : ℕ) (seat : Seat) → option_map (placed es) (entry k es) ≡ Some (placed_at seat) → IsSeat es k seat
unfolding placed
seat_place es t k seat q = cases (entry k es) refl q
  where
    cases : (o : Option Entry) → entry k es ≡ o → option_map (placed es) o ≡ Some (placed_at seat) → IsSeat es k seat
    cases None h i = cc
    cases (Some e) h i =
        let same : placed es e ≡ placed_at seat = some_same i in
        let id : e.item.id ≡ seat.item.now.id = ap (λ n. n.id) same in
        let there : node seat.item.now.id (tree es) ≡ Some (placed_at seat) = ap (λ x. node x (tree es)) (sym id) ∙ (node_at es e t.ids (entry_in k es e h).0 ∙ i) in
        record {
          there = there;
          id = ap (λ o. unwrap_or (option_map (λ (w : Entry). w.item.id) o) []) h ∙ id;
          parent = λ ne. let f = (valid_tree es t).folder seat.item.now.id (placed_at seat) there (λ p. false≢true (sym ne ∙ bytes_eq-same seat.item.now.id places p)) in ap is_some f.1;
          fit = λ g d r. let one : e ≡ d = some_same (sym h ∙ r) in ap (λ (w : Entry). is_fit w.item) (sym one) ∙ (ap (λ n. is_fit (item_of n)) same ∙ g);
        }

-- ---- one part more

puts-append : (f : List ℕ → Option (List ℕ)) (xs ys : List (List ℕ)) → puts f (xs ++ ys) ≡ puts f xs ++ puts f ys
unfolding puts
puts-append f [] ys = refl
puts-append f (x ∷ xs) ys = go (option_map (part x) (f x)) (puts-append f xs ys)
  where
    go : (o : Option Part) → puts f (xs ++ ys) ≡ puts f xs ++ puts f ys → cons_option o (puts f (xs ++ ys)) ≡ cons_option o (puts f xs) ++ puts f ys
    go None e = e
    go (Some p) e = ap (λ zs. p ∷ zs) e

ids-append : (es : List Entry) (ks js : List ℕ) → map (id_at es) (ks ++ js) ≡ map (id_at es) ks ++ map (id_at es) js
ids-append es [] js = refl
ids-append es (k ∷ ks) js = ap (λ xs. id_at es k ∷ xs) (ids-append es ks js)

puts_more : (f : List ℕ → Option (List ℕ)) (es : List Entry) (ks : List ℕ) (i k : ℕ) (x : List ℕ) → i < length ks → k ≡ get_or ks i k → id_at es k ≡ x → puts f (map (id_at es) (take (i + 1) ks)) ≡ puts f (map (id_at es) (take i ks)) ++ cons_option (option_map (part x) (f x)) []
unfolding puts
puts_more f es ks i k x lt is id =
    ap (λ js. puts f (map (id_at es) js)) (take_more ks i k lt)
    ∙ (ap (puts f) (ids-append es (take i ks) (get_or ks i k ∷ []))
    ∙ (puts-append f (map (id_at es) (take i ks)) (id_at es (get_or ks i k) ∷ [])
    ∙ ap (λ y. puts f (map (id_at es) (take i ks)) ++ cons_option (option_map (part y) (f y)) []) (ap (id_at es) (sym is) ∙ id)))

pub puts_step : (f : List ℕ → Option (List ℕ)) (es : List Entry) (ks : List ℕ) (i k : ℕ) (x : List ℕ) (due : Option (List ℕ)) (old new : List Part) → i < length ks → k ≡ get_or ks i k → id_at es k ≡ x → due ≡ f x
    → old ≡ puts f (map (id_at es) (take i ks)) → new ≡ old ++ option_to_list (option_map (part x) due) → new ≡ puts f (map (id_at es) (take (i + 1) ks))
puts_step f es ks i k x due old new lt is id same so more =
    more ∙ (ap₂ (λ os q. os ++ option_to_list (option_map (part x) q)) so same ∙ (listed (option_map (part x) (f x)) ∙ sym (puts_more f es ks i k x lt is id)))
  where
    listed : (o : Option Part) → puts f (map (id_at es) (take i ks)) ++ option_to_list o ≡ puts f (map (id_at es) (take i ks)) ++ cons_option o []
    listed None = refl
    listed (Some p) = refl

-- one tombstone more
pub puts_next : (f : List ℕ → Option (List ℕ)) (xs : List (List ℕ)) (i : ℕ) (x p : List ℕ) (old new : List Part) → i < length xs → x ≡ get_or xs i x → f x ≡ Some p → old ≡ puts f (take i xs) → new ≡ old ++ part x p ∷ [] → new ≡ puts f (take (i + 1) xs)
unfolding puts
puts_next f xs i x p old new lt is due so more =
    more
    ∙ (ap (λ os. os ++ part x p ∷ []) so
    ∙ (ap (λ o. puts f (take i xs) ++ cons_option (option_map (part x) o) []) (sym due)
    ∙ (ap (λ y. puts f (take i xs) ++ cons_option (option_map (part y) (f y)) []) is
    ∙ (sym (puts-append f (take i xs) (get_or xs i x ∷ [])) ∙ ap (puts f) (sym (take_more xs i x lt))))))

-- what is due is what has to be put
pub due_is : (t : List PlacedItem) (rs : Readings) (x : List ℕ) (n : PlacedItem) (reading : Option Reading) (due : Option (List ℕ)) → node x t ≡ Some n → reading ≡ reading_at x rs → due ≡ record_due n reading → due ≡ record_for t rs x
unfolding record_for
due_is t rs x n reading due q r d = d ∙ (ap (record_due n) r ∙ sym (ap (option_and_then (λ m. record_due m (reading_at x rs))) q))

-- ---- the first part that passes a limit

pub first_found : (number : Part → ℕ) (most : ℕ) (parts : List Part) (i : ℕ) (x : Part) → i < length parts → x ≡ get_or parts i x → first_over number most (take i parts) ≡ None → most < number x → first_over number most parts ≡ Some x
first_found number most [] i x lt is none over = absurd (omega arith)
first_found number most (y ∷ ys) zero x lt is none over = ap (λ b. cond b (Some y) (find (λ p. nat_lt most (number p)) ys)) (lt-ltb most (number y) (subst (λ z. most < number z) is over)) ∙ ap Some (sym is)
first_found number most (y ∷ ys) (suc i) x lt is none over = go (nat_lt most (number y)) none (first_found number most ys i x (omega arith) is)
  where
    go : (b : Bool) → cond b (Some y) (find (λ p. nat_lt most (number p)) (take i ys)) ≡ None → (first_over number most (take i ys) ≡ None → most < number x → first_over number most ys ≡ Some x) → cond b (Some y) (find (λ p. nat_lt most (number p)) ys) ≡ Some x
    go true e ih = absurd (some_none (sym e))
      where
        some_none : None ≡ Some y → ⊥
        some_none k = cc
    go false e ih = ih e over

pub none_more : (number : Part → ℕ) (most : ℕ) (parts : List Part) (i : ℕ) (x : Part) → i < length parts → x ≡ get_or parts i x → first_over number most (take i parts) ≡ None → number x ≤ most → first_over number most (take (i + 1) parts) ≡ None
none_more number most parts i x lt is none low = ap (first_over number most) (take_more parts i x lt) ∙ go (take i parts) none
  where
    last : nat_lt most (number (get_or parts i x)) ≡ false
    last = ap (λ z. nat_lt most (number z)) (sym is) ∙ le-ltb most (number x) low

    go : (ps : List Part) → find (λ p. nat_lt most (number p)) ps ≡ None → find (λ p. nat_lt most (number p)) (ps ++ get_or parts i x ∷ []) ≡ None
    go [] e = ap (λ b. cond b (Some (get_or parts i x)) None) last
    go (p ∷ ps) e = step (nat_lt most (number p)) e (go ps)
      where
        step : (b : Bool) → cond b (Some p) (find (λ q. nat_lt most (number q)) ps) ≡ None → (find (λ q. nat_lt most (number q)) ps ≡ None → find (λ q. nat_lt most (number q)) (ps ++ get_or parts i x ∷ []) ≡ None)
            → cond b (Some p) (find (λ q. nat_lt most (number q)) (ps ++ get_or parts i x ∷ [])) ≡ None
        step true k ih = k
        step false k ih = ih k
