-- Order and repeats of rows don't matter, and joining is a join.
use Rattle.std.proofs.Common.{◌≡◌, ℕ, List, ◌++◌, Bool, true, false, Contains, ⊎_elim, refl, sym, subst, append_assoc}
use Rattle.std.proofs.Common.{Some}
use Rattle.std.proofs.lemmas.Cmp.{nat_cmp_total, nat_list_cmp_total, on_total}
use Rattle.std.proofs.lemmas.List.Elements.{Contains-append_left, Contains-append_right, Contains-append_cases}
use Rattle.std.proofs.lemmas.Map.Lookups.{exact_unsigned}
use Rattle.std.specs.Ordering.{nat_cmp}
use Rattle.ss_text.specs.Texts.{text_cmp}
use Rattle.ss_bso.specs.declared.rows.Row.{Row}
use Rattle.ss_bso.proofs.Lists.{Each-imp}
use Rattle.ss_flat.specs.declared.kinds.FlatKind.{FlatKind}
use Rattle.ss_flat.specs.declared.visits.Visit.{Visit}
use Rattle.ss_flat.specs.declared.lists.Shown.{Shown}
use Rattle.ss_flat.specs.Laws.{Associates, Commutes, IsIdempotent, SameSet}
use Rattle.ss_flat.specs.Lists.{AreGoneIds, AreShownRecords, AreSkippedIds, IsAlive, IsGoneId, IsShownRecord}
use Rattle.ss_flat.specs.Lists.{IsShownVisit}
use Rattle.ss_flat.specs.States.{IsFace, IsFlatState, IsSkippedId, IsStateOf, IsTombstone, IsVisit, State, TellsSame}
use Rattle.ss_flat.specs.States.{face_cmp, heard_of, time_of}
use Rattle.ss_flat.proofs.Greatest.{greatest_moved, same_greatest}
use Rattle.ss_flat.proofs.Orders.{face_exact, face_total}
use Rattle.ss_flat.proofs.Sorted.{same_in_order}
use Rattle.ss_flat.proofs.StateLemmas.{state_moved, tells_moved}

-- ---- sets

pub set_turned : {rows others : List Row} → SameSet rows others → SameSet others rows
set_turned same = record { there = same.back; back = same.there }

pub set_swapped : (rows others : List Row) → SameSet (rows ++ others) (others ++ rows)
set_swapped rows others = record { there = λ row c. over rows others row c; back = λ row c. over others rows row c }
  where
    over : (rows others : List Row) (row : Row) → Contains (rows ++ others) row → Contains (others ++ rows) row
    over rows others row c = ⊎_elim (λ (h : Contains rows row). Contains-append_right others rows row h) (λ (h : Contains others row). Contains-append_left others rows row h) (Contains-append_cases rows others row c)

pub set_twice : (rows : List Row) → SameSet (rows ++ rows) rows
set_twice rows = record {
  there = λ row c. ⊎_elim (λ (h : Contains rows row). h) (λ (h : Contains rows row). h) (Contains-append_cases rows rows row c);
  back = λ row c. Contains-append_left rows rows row c;
}

pub set_regrouped : (one two three : List Row) → SameSet ((one ++ two) ++ three) (one ++ (two ++ three))
set_regrouped one two three = record {
  there = λ row c. subst (λ l. Contains l row) (append_assoc one two three) c;
  back = λ row c. subst (λ l. Contains l row) (sym (append_assoc one two three)) c;
}

-- ---- states of one set

skipped_same : (a b : Bool) → (a ≡ true → b ≡ false → ⊥) → (b ≡ true → a ≡ false → ⊥) → a ≡ b
skipped_same true true h k = refl
skipped_same true false h k = absurd (h refl refl)
skipped_same false true h k = absurd (k refl refl)
skipped_same false false h k = refl

-- two states of one set tell the same
pub one_state : (rows : List Row) (one other : State) → one.kind ≡ other.kind → IsFlatState rows one → IsFlatState rows other → TellsSame one other
one_state rows one other kind a b =
    let b' : (id : List ℕ) → IsStateOf one.kind rows id (heard_of id other) = λ id. subst (λ k. IsStateOf k rows id (heard_of id other)) (sym kind) (b id) in
    record {
      gone = λ id. same_greatest nat_cmp nat_cmp_total exact_unsigned (IsTombstone one.kind rows id) (IsTombstone one.kind rows id) (λ t h. h) (λ t h. h) (heard_of id one).gone (heard_of id other).gone (a id).gone (b' id).gone;
      face = λ id. same_greatest face_cmp face_total face_exact (IsFace one.kind rows id) (IsFace one.kind rows id) (λ t h. h) (λ t h. h) (heard_of id one).face (heard_of id other).face (a id).face (b' id).face;
      visits = λ id v. same_greatest nat_cmp nat_cmp_total exact_unsigned (IsVisit one.kind rows id v) (IsVisit one.kind rows id v) (λ t h. h) (λ t h. h) (time_of v (heard_of id one).visits) (time_of v (heard_of id other).visits) ((a id).visits v) ((b' id).visits v);
      skipped = λ id. skipped_same (heard_of id one).skipped (heard_of id other).skipped (λ e f. (b' id).unskipped f ((a id).skipped e)) (λ e f. (a id).unskipped f ((b' id).skipped e));
    }

pub flat_moved : (rows others : List Row) (state : State) → SameSet rows others → IsFlatState rows state → IsFlatState others state
flat_moved rows others state same s = λ id. state_moved state.kind rows others same id (heard_of id state) (s id)

pub joining_commutes : Commutes
joining_commutes one other both turned a b kind j k =
    one_state (a.rows ++ b.rows) both turned kind (j a.rows b.rows a.is b.is) (flat_moved (b.rows ++ a.rows) (a.rows ++ b.rows) turned (set_swapped b.rows a.rows) (k b.rows a.rows b.is a.is))

pub joining_associates : Associates
joining_associates one two three front back left right a b c kind f l g r =
    let whole = l (a.rows ++ b.rows) c.rows (f a.rows b.rows a.is b.is) c.is in
    let other = r a.rows (b.rows ++ c.rows) a.is (g b.rows c.rows b.is c.is) in
    one_state (a.rows ++ (b.rows ++ c.rows)) left right kind (flat_moved ((a.rows ++ b.rows) ++ c.rows) (a.rows ++ (b.rows ++ c.rows)) left (set_regrouped a.rows b.rows c.rows) whole) other

pub joining_is_idempotent : IsIdempotent
joining_is_idempotent one both a kind j = one_state a.rows both one (sym kind) (flat_moved (a.rows ++ a.rows) a.rows both (set_twice a.rows) (j a.rows a.rows a.is a.is)) a.is

-- ---- the lists of one set

module _ (kind : FlatKind) (rows others : List Row) (same : SameSet rows others) where
  alive_moved : (id : List ℕ) (time : ℕ) → IsAlive kind rows id time → IsAlive kind others id time
  alive_moved id time h = λ gone t. h gone (tells_moved kind id _ others rows same.back t)

  visit_moved : (id : List ℕ) (v : Visit) → IsShownVisit kind rows id v → IsShownVisit kind others id v
  visit_moved id v s = record {
    time = s.time;
    greatest = greatest_moved nat_cmp nat_cmp_total exact_unsigned (IsVisit kind rows id v) (IsVisit kind others id v) (λ t h. tells_moved kind id _ rows others same.there h) (λ t h. tells_moved kind id _ others rows same.back h) (Some s.time) s.greatest;
    alive = alive_moved id s.time s.alive;
  }

  gone_moved : (id : List ℕ) (time : ℕ) → IsGoneId kind rows id time → IsGoneId kind others id time
  gone_moved id time g = record {
    greatest = greatest_moved nat_cmp nat_cmp_total exact_unsigned (IsTombstone kind rows id) (IsTombstone kind others id) (λ t h. tells_moved kind id _ rows others same.there h) (λ t h. tells_moved kind id _ others rows same.back h) (Some time) g.greatest;
    over = λ face h. g.over face (tells_moved kind id _ others rows same.back h);
  }

pub shown_moved : (kind : FlatKind) (rows others : List Row) → SameSet rows others → (id text : List ℕ) → IsShownRecord kind rows id text → IsShownRecord kind others id text
shown_moved kind rows others same id text s = record {
  face = s.face;
  visits = s.visits;
  greatest = greatest_moved face_cmp face_total face_exact (IsFace kind rows id) (IsFace kind others id) (λ t h. tells_moved kind id _ rows others same.there h) (λ t h. tells_moved kind id _ others rows same.back h) (Some s.face) s.greatest;
  alive = alive_moved kind rows others same id s.face.time s.alive;
  visits_are = record {
    each = Each-imp (IsShownVisit kind rows id) (IsShownVisit kind others id) (visit_moved kind rows others same id) s.visits s.visits_are.each;
    all = λ v h. s.visits_are.all v (visit_moved kind others rows (set_turned same) id v h);
    order = s.visits_are.order;
  };
  text_is = s.text_is;
}

-- sets of the same rows come to the same lists
pub same_shown : (kind : FlatKind) (rows others : List Row) → SameSet rows others → (xs ys : List Shown) → AreShownRecords kind rows xs → AreShownRecords kind others ys → xs ≡ ys
same_shown kind rows others same xs ys a b =
    same_in_order (λ (x y : Shown). text_cmp x.id y.id) (on_total (λ (s : Shown). s.id) nat_list_cmp_total) (λ s. IsShownRecord kind rows s.id s.text) (λ s. IsShownRecord kind others s.id s.text)
    (λ s h. shown_moved kind rows others same s.id s.text h) (λ s h. shown_moved kind others rows (set_turned same) s.id s.text h) xs ys a b

pub same_gone : (kind : FlatKind) (rows others : List Row) → SameSet rows others → (xs ys : List (List ℕ × ℕ)) → AreGoneIds kind rows xs → AreGoneIds kind others ys → xs ≡ ys
same_gone kind rows others same xs ys a b =
    same_in_order (λ (x y : List ℕ × ℕ). text_cmp x.0 y.0) (on_total (λ (g : List ℕ × ℕ). g.0) nat_list_cmp_total) (λ g. IsGoneId kind rows g.0 g.1) (λ g. IsGoneId kind others g.0 g.1)
    (λ g h. gone_moved kind rows others same g.0 g.1 h) (λ g h. gone_moved kind others rows (set_turned same) g.0 g.1 h) xs ys a b

pub same_skipped : (kind : FlatKind) (rows others : List Row) → SameSet rows others → (xs ys : List (List ℕ)) → AreSkippedIds kind rows xs → AreSkippedIds kind others ys → xs ≡ ys
same_skipped kind rows others same xs ys a b =
    same_in_order text_cmp nat_list_cmp_total (IsSkippedId kind rows) (IsSkippedId kind others)
    (λ id h. tells_moved kind id _ rows others same.there h) (λ id h. tells_moved kind id _ others rows same.back h) xs ys a b
