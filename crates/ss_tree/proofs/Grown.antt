-- What one entry more makes of cells.
use Rattle.std.proofs.Common.{◌≡◌, ℕ, ◌+◌, ◌<◌, ◌≤◌, ◌==◌, List, [], ◌∷◌, ◌++◌, length, map, find, Bool, true, false}
use Rattle.std.proofs.Common.{cond, ◌||◌, refl, sym, ap, ap₂, subst, ◌∙◌, arith, inl, inr, Option, Some, None}
use Rattle.std.proofs.Common.{option_map, unwrap_or, is_some, length-append, append-nil, get_or, bytes_eq}
use Rattle.std.specs.Option.{IfSome}
use Rattle.std.proofs.Math.Seq.{get_or-append_seam}
use Rattle.std.proofs.lemmas.Bool.{false≢true, cases_lt}
use Rattle.std.proofs.lemmas.List.{get_or_past}
use Rattle.ss_record.specs.Ids.{has, Apart}
use Rattle.ss_record.proofs.IdLists.{has-nil, has-cons, has-head, Apart-head, Apart-tail}
use Rattle.ss_list.specs.Chain.{times}
use Rattle.ss_list.proofs.Times.{times-append, at_head}
use Rattle.ss_list.proofs.Paths.{Path}
use Rattle.ss_tree.specs.declared.entries.Entry.{Entry}
use Rattle.ss_tree.specs.Entries.{entry, entry_ids, is_live, is_place, stands_under, kids, node_of, top_entry, IsTree}
use Rattle.ss_tree.proofs.Edits.{entry_put, entry-nil, kids-nil, kids_put}
use Rattle.ss_tree.specs.declared.cells.Cell.{Cell}
use Rattle.ss_tree.specs.declared.cells.TheConstants.{END}
use Rattle.ss_tree.specs.Cells.{Seats, IsPlace, blank, next_of, prev_of, seat, seat_at}
use Rattle.ss_tree.specs.Built.{AreAtTheirNodes, lone, HasParent, AddsUnder, Adds}
use Rattle.ss_tree.proofs.Kin.{under_is}
use Rattle.ss_tree.proofs.Listed.{absent}
use Rattle.ss_tree.proofs.Strung.{Strung}
use Rattle.ss_tree.proofs.Attached.{attached, beside}
use Rattle.ss_tree.proofs.Changed.{Holds, strung_same, read_push, seat_push, row_place}
use Rattle.ss_text.proofs.Basics.{bytes_eq-sym, same_text}

-- the cells have these entries, and their rows are linked
pub record Built (cells : List Cell) (es : List Entry) : Type 0 where
  pub seats : (k : ℕ) → entry k es ≡ seat_at cells k
  pub strung : Strung cells (λ p. kids p es)
  pub low : (p x : ℕ) → 0 < times x (kids p es) → x < length cells

none_at : (p x : ℕ) → times x (kids p []) ≡ 0
none_at p x = ap (times x) (kids-nil p)

pub built_nil : Built [] []
built_nil = record {
  seats = λ k. entry-nil k;
  strung = record {
    rows = λ p. subst (λ ks. Path (next_of [] p) (prev_of [] p) END ks END) (sym (kids-nil p)) (refl, refl);
    once = λ p x. let none = none_at p x in omega arith;
    apart = λ p q x h t. let none = none_at p x in absurd (omega arith);
    inner = λ p. none_at p END;
  };
  low = λ p x t. let none = none_at p x in absurd (omega arith);
}

pub strung_lists : {cells : List Cell} {lists others : ℕ → List ℕ} → ((j : ℕ) → others j ≡ lists j) → Strung cells lists → Strung cells others
strung_lists {cells} {lists} {others} same strung = record {
  rows = λ p. subst (λ ks. Path (next_of cells p) (prev_of cells p) END ks END) (sym (same p)) (strung.rows p);
  once = λ p x. subst (λ ks. times x ks ≤ 1) (sym (same p)) (strung.once p x);
  apart = λ p q x h t. strung.apart p q x (subst (λ ks. 0 < times x ks) (same p) h) (subst (λ ks. 0 < times x ks) (same q) t);
  inner = λ p. subst (λ ks. times END ks ≡ 0) (sym (same p)) (strung.inner p);
}

-- ---- one more cell

longer_next : (cells : List Cell) (e : Entry) (q k : ℕ) → next_of (cells ++ lone e ∷ []) q k ≡ next_of cells q k
longer_next cells e q k = ap₂ (λ x y. cond (k == END) x y) (read_push cells (lone e) (λ c. c.first) refl q) (read_push cells (lone e) (λ c. c.next) refl k)

longer_prev : (cells : List Cell) (e : Entry) (q k : ℕ) → prev_of (cells ++ lone e ∷ []) q k ≡ prev_of cells q k
longer_prev cells e q k = ap₂ (λ x y. cond (k == END) x y) (read_push cells (lone e) (λ c. c.last) refl q) (read_push cells (lone e) (λ c. c.prev) refl k)

own_seat : (cells : List Cell) (e : Entry) → e.node ≡ length cells → seat (length cells) (lone e) ≡ Some e
own_seat cells e at = ap (λ n. Some (record { node = n; parent = e.parent; item = e.item; time = e.time })) (sym at)

pub seats_more : (cells : List Cell) (e : Entry) (new : List Cell) → e.node ≡ length cells → new ≡ cells ++ lone e ∷ [] → Seats cells new e
seats_more cells e new at is = subst (λ l. Seats cells l e) (sym is) (record {
  inside = omega (arith, at, length-append cells (lone e ∷ []));
  longer = omega (arith, length-append cells (lone e ∷ []));
  within = omega (arith, length-append cells (lone e ∷ []));
  again = λ lt. absurd (omega arith);
  next = longer_next cells e;
  prev = longer_prev cells e;
  seats = λ k. seat_push cells (lone e) k ∙ (ap (λ o. cond (k == length cells) o (seat_at cells k)) (own_seat cells e at) ∙ ap (λ n. cond (k == n) (Some e) (seat_at cells k)) (sym at));
})

module _ (cells : List Cell) (es : List Entry) (e : Entry) (built : Built cells es) (at : e.node ≡ length cells) (room : length cells < END) where
  gone : entry e.node es ≡ None
  gone = built.seats e.node ∙ (ap (seat_at cells) at ∙ ap (seat (length cells)) (get_or_past cells (length cells) blank (omega arith)))

  longer : Strung (cells ++ lone e ∷ []) (λ p. kids p es)
  longer = strung_same built.strung (longer_next cells e) (longer_prev cells e)

  nowhere : (j : ℕ) → times (length cells) (kids j es) ≡ 0
  nowhere j = absent (length cells) (kids j es) (λ t. let l = built.low j (length cells) t in absurd (omega arith))

  -- the last node under a parent has a cell
  pub last_place : (p : ℕ) → IsPlace cells (prev_of cells p END)
  last_place p =
      let sides = beside built.strung p (length cells) (λ is. omega arith) nowhere None (λ b q. cc) in
      row_place cells (λ j. kids j es) p (prev_of cells p END) (built.low p) sides.0

  longer_seat : (k : ℕ) → entry k (es ++ e ∷ []) ≡ seat_at (cells ++ lone e ∷ []) k
  longer_seat k =
      entry_put None e es k gone
      ∙ (ap₂ (λ n o. cond (k == n) (Some e) o) at (built.seats k)
      ∙ (ap (λ o. cond (k == length cells) o (seat_at cells k)) (sym (own_seat cells e at)) ∙ sym (seat_push cells (lone e) k)))

  kids_more : (j : ℕ) → kids j (es ++ e ∷ []) ≡ cond (stands_under j e) (kids j es ++ e.node ∷ []) (kids j es)
  unfolding is_place
  kids_more j = kids_put j None e es (λ _. refl)

  low_more : (n : ℕ) → n ≡ length cells + 1 → (p x : ℕ) → 0 < times x (kids p (es ++ e ∷ [])) → x < n
  low_more n is p x t = go (stands_under p e) (subst (λ ks. 0 < times x ks) (kids_more p) t)
    where
      go : (b : Bool) → 0 < times x (cond b (kids p es ++ e.node ∷ []) (kids p es)) → x < n
      go false h = let l = built.low p x h in omega arith
      go true h =
          elim (cases_lt 0 (times x (kids p es))) [
            | inl here ↦ let l = built.low p x here in omega arith
            | inr none ↦
                elim (at_head x e.node []) [
                  | inl same ↦ let same_is = same.0 in omega arith
                  | inr other ↦ absurd (omega (arith, times-append x (kids p es) (e.node ∷ [])))
                ]
          ]

  built_under : (o : Option ℕ) → e.parent ≡ o → (new : List Cell) → AddsUnder cells new e o → Built new (es ++ e ∷ [])
  built_under None q new adds = record {
    seats = λ k. longer_seat k ∙ ap (λ cs. seat_at cs k) (sym adds);
    strung = subst (λ cs. Strung cs (λ p. kids p (es ++ e ∷ []))) (sym adds)
        (strung_lists (λ j. kids_more j ∙ ap (λ b. cond b (kids j es ++ e.node ∷ []) (kids j es)) (ap (λ i. unwrap_or (option_map (λ x. j == x) i) false) q)) longer);
    low = low_more (length new) (ap length adds ∙ (omega (arith, length-append cells (lone e ∷ []))));
  }
  built_under (Some p) q new adds = record {
    seats = λ k. longer_seat k ∙ (sym (adds.after_left.seats k) ∙ sym (adds.before_right.seats k));
    strung = strung_lists (λ j. kids_more j ∙ (ap (λ b. cond b (kids j es ++ e.node ∷ []) (kids j es)) (under_is j p e q) ∙ ap (λ n. cond (j == p) (kids j es ++ n ∷ []) (kids j es)) at))
        (attached longer p (length cells) (λ is. omega arith) nowhere None (λ b w. cc) adds.after_left adds.before_right);
    low = low_more (length new) (adds.before_right.long ∙ (adds.after_left.long ∙ (omega (arith, length-append cells (lone e ∷ [])))));
  }

  pub built_more : (new : List Cell) → Adds cells new e → Built new (es ++ e ∷ [])
  built_more new adds = built_under e.parent refl new adds

-- cells of a whole tree
pub built_holds : (cells : List Cell) (es : List Entry) → Built cells es → IsTree es → length cells < END → Holds cells es
built_holds cells es built t room = record {
  kept = record { is_tree = t; below = low };
  lies = record { seats = built.seats; rows = λ p. built.strung.rows p; room = room };
}
  where
    low : (k : ℕ) → is_live k es ≡ true → k < length cells
    low k live =
        elim (cases_lt k (length cells)) [
          | inl less ↦ less
          | inr more ↦ absurd (false≢true (sym (ap is_some (built.seats k ∙ ap (seat k) (get_or_past cells k blank more))) ∙ live))
        ]

-- ---- ids

pub node_push : (x : List ℕ) (es : List Entry) (e : Entry) → has e.item.id (entry_ids es) ≡ false → node_of x (es ++ e ∷ []) ≡ cond (bytes_eq e.item.id x) (Some e.node) (node_of x es)
unfolding node_of entry_ids
node_push x [] e none = ap (λ b. option_map {T = Entry} (λ f. f.node) (cond b (Some e) None)) (bytes_eq-sym x e.item.id) ∙ pick (bytes_eq e.item.id x)
  where
    pick : (b : Bool) → option_map {T = Entry} (λ f. f.node) (cond b (Some e) None) ≡ cond b (Some e.node) None
    pick true = refl
    pick false = refl
node_push x (f ∷ fs) e none = go (bytes_eq x f.item.id) refl (bytes_eq e.item.id f.item.id) refl (sym (has-cons e.item.id f.item.id (map (λ d. d.item.id) fs)) ∙ none) (node_push x fs e)
  where
    go : (b : Bool) → bytes_eq x f.item.id ≡ b → (a : Bool) → bytes_eq e.item.id f.item.id ≡ a → (a || has e.item.id (map (λ d. d.item.id) fs)) ≡ false
        → (has e.item.id (map (λ d. d.item.id) fs) ≡ false → option_map {T = Entry} (λ d. d.node) (find (λ d. bytes_eq x d.item.id) (fs ++ e ∷ [])) ≡ cond (bytes_eq e.item.id x) (Some e.node) (option_map {T = Entry} (λ d. d.node) (find (λ d. bytes_eq x d.item.id) fs)))
        → option_map {T = Entry} (λ d. d.node) (cond b (Some f) (find (λ d. bytes_eq x d.item.id) (fs ++ e ∷ []))) ≡ cond (bytes_eq e.item.id x) (Some e.node) (option_map {T = Entry} (λ d. d.node) (cond b (Some f) (find (λ d. bytes_eq x d.item.id) fs)))
    go b w true q h ih = absurd (false≢true (sym h))
    go false w false q h ih = ih h
    go true w false q h ih =
        let is : x ≡ f.item.id = same_text x f.item.id w in
        sym (ap (λ c. cond c (Some e.node) (Some f.node)) (ap (bytes_eq e.item.id) is ∙ q))

pub apart_before : (xs : List Entry) (e : Entry) (ys : List Entry) → Apart (entry_ids (xs ++ e ∷ ys)) → has e.item.id (entry_ids xs) ≡ false
unfolding entry_ids
apart_before [] e ys a = has-nil e.item.id
apart_before (f ∷ fs) e ys a =
    has-cons e.item.id f.item.id (map (λ d. d.item.id) fs) ∙ go (bytes_eq e.item.id f.item.id) refl (apart_before fs e ys (Apart-tail f.item.id (map (λ d. d.item.id) (fs ++ e ∷ ys)) a))
  where
    later : (gs : List Entry) → has e.item.id (map (λ d. d.item.id) (gs ++ e ∷ ys)) ≡ true
    later [] = has-head e.item.id (map (λ d. d.item.id) ys)
    later (g ∷ gs) = has-cons e.item.id g.item.id (map (λ d. d.item.id) (gs ++ e ∷ ys)) ∙ either (bytes_eq e.item.id g.item.id) (later gs)
      where
        either : (b : Bool) → has e.item.id (map (λ d. d.item.id) (gs ++ e ∷ ys)) ≡ true → (b || has e.item.id (map (λ d. d.item.id) (gs ++ e ∷ ys))) ≡ true
        either true h = refl
        either false h = h

    go : (b : Bool) → bytes_eq e.item.id f.item.id ≡ b → has e.item.id (map (λ d. d.item.id) fs) ≡ false → (b || has e.item.id (map (λ d. d.item.id) fs)) ≡ false
    go false q ih = ih
    go true q ih = absurd (false≢true (sym (Apart-head f.item.id (map (λ d. d.item.id) (fs ++ e ∷ ys)) a) ∙ (ap (λ i. has i (map (λ d. d.item.id) (fs ++ e ∷ ys))) (sym (same_text e.item.id f.item.id q)) ∙ later fs)))

pub node_none : (x : List ℕ) → node_of x [] ≡ None
unfolding node_of
node_none x = refl

-- ---- one step over the entries

pub record Next (cells : List Cell) (e : Entry) : Type 0 where
  pub at : e.node ≡ length cells
  pub room : length cells < END
  pub ready : HasParent cells e.parent

pub next_entry : (cells : List Cell) (done : List Entry) (e : Entry) (rest es : List Entry) → Built cells done → length cells ≡ length done → done ++ e ∷ rest ≡ es → AreAtTheirNodes es → length es < END → Next cells e
next_entry cells done e rest es built long all placed room =
    let count : length (done ++ e ∷ rest) ≡ length es = ap length all in
    let few : length done < length es = omega (arith, length-append done (e ∷ rest)) in
    let seen : get_or es (length done) top_entry ≡ e = ap (λ l. get_or l (length done) top_entry) (sym all) ∙ get_or-append_seam done e rest top_entry in
    let here = placed (length done) few in
    let at : e.node ≡ length cells = ap (λ f. f.node) (sym seen) ∙ (here.0 ∙ sym long) in
    let low : IfSome e.parent (λ p. p < length done) = subst (λ (f : Entry). IfSome f.parent (λ p. p < length done)) seen here.1 in
    let left : length cells < END = omega arith in
    record { at = at; room = left; ready = go at left e.parent low }
  where
    go : e.node ≡ length cells → length cells < END → (o : Option ℕ) → IfSome o (λ p. p < length done) → HasParent cells o
    go at left None h = tt
    go at left (Some p) h = (omega (arith, h, long), last_place cells done e built at left p)

pub added_long : (cells new : List Cell) (e : Entry) → Adds cells new e → length new ≡ length cells + 1
added_long cells new e adds = go e.parent adds
  where
    go : (o : Option ℕ) → AddsUnder cells new e o → length new ≡ length cells + 1
    go None is = ap length is ∙ omega (arith, length-append cells (lone e ∷ []))
    go (Some p) is = is.before_right.long ∙ (is.after_left.long ∙ omega (arith, length-append cells (lone e ∷ [])))

pub all_done : (done rest es : List Entry) → done ++ rest ≡ es → length rest ≡ 0 → done ≡ es
all_done done [] es all none = sym (append-nil done) ∙ all
all_done done (e ∷ rest) es all none = absurd (omega arith)

pub ids_more : (x : List ℕ) (done : List Entry) (e : Entry) (rest es : List Entry) → done ++ e ∷ rest ≡ es → Apart (entry_ids es) → cond (bytes_eq e.item.id x) (Some e.node) (node_of x done) ≡ node_of x (done ++ e ∷ [])
ids_more x done e rest es all apart = sym (node_push x done e (apart_before done e rest (subst (λ l. Apart (entry_ids l)) (sym all) apart)))
