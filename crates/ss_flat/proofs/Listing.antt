-- The lists that a state tells are those of its rows.
use Rattle.std.proofs.Common.{◌≡◌, ◌≢◌, ℕ, ◌<◌, ◌≤◌, List, [], ◌∷◌, Bool, true, false, cond, Option, Some, None}
use Rattle.std.proofs.Common.{option_map, option_and_then, filter_map, Contains, nat_lt, refl, sym, ap, subst, ◌∙◌}
use Rattle.std.proofs.Common.{bytes_eq, arith}
use Rattle.std.proofs.lemmas.Bool.{le-ltb, lt-ltb, ltb-false, ltb-true}
use Rattle.std.proofs.lemmas.Cmp.{ranked, nat_cmp_total, nat_list_cmp_total, on_total}
use Rattle.std.proofs.lemmas.Map.Lookups.{exact_unsigned}
use Rattle.std.specs.Cmp.Lexicographic.{texts_ties}
use Rattle.std.specs.List.{cons_option}
use Rattle.std.specs.Map.{lookup}
use Rattle.std.specs.declared.cmp.Ordering.{Ordering}
use Rattle.std.specs.declared.cmp.Ordering.TheVariants.{Less, Equal, Greater}
use Rattle.std.specs.Ordering.{MatchOrdering, is_eq, is_gt, nat_cmp, ordering_then}
use Rattle.ss_text.specs.Texts.{text_cmp}
use Rattle.ss_text.proofs.Basics.{and_then_some, bytes_eq-flip, bytes_eq-same, map_some, same_text, some_same}
use Rattle.ss_bso.specs.declared.rows.Row.{Row}
use Rattle.ss_bso.proofs.Lists.{Each, Each-filter_map, Pairs, Pairs-filter_map}
use Rattle.ss_flat.specs.declared.kinds.FlatKind.{FlatKind}
use Rattle.ss_flat.specs.declared.visits.Visit.{Visit}
use Rattle.ss_flat.specs.declared.face.Face.{Face}
use Rattle.ss_flat.specs.declared.lists.Shown.{Shown}
use Rattle.ss_flat.specs.Greatest.{IsAllInOrder, IsGreatestOf}
use Rattle.ss_flat.specs.Joining.{OtherKey}
use Rattle.ss_flat.specs.Lists.{AreGoneIds, AreShownRecords, AreSkippedIds, IsAlive, IsGoneId, IsShownRecord}
use Rattle.ss_flat.specs.Lists.{IsShownVisit, visit_cmp}
use Rattle.ss_flat.specs.States.{IdView, RoomedId, IsFace, IsFlatState, IsSkippedId, IsStateOf, IsTombstone, IsVisit}
use Rattle.ss_flat.specs.States.{OtherVisit, State, face_cmp, heard_in, held_of, nothing as unheard, same_visit}
use Rattle.ss_flat.specs.States.{time_of}
use Rattle.ss_flat.specs.Texts.{record_text}
use Rattle.ss_flat.specs.Told.{gone_list, gone_of, gone_unless, is_above, shown_face, shown_list, shown_of, shown_visit}
use Rattle.ss_flat.specs.Told.{shown_visits, skipped_list, skipped_of}
use Rattle.ss_flat.proofs.Contained.{contains_here, contains_there}
use Rattle.ss_flat.proofs.Greatest.{same_greatest}
use Rattle.ss_flat.proofs.Keeping.{found_each}
use Rattle.ss_flat.proofs.Orders.{face_exact, face_total, visit_exact, visit_total}
use Rattle.ss_flat.proofs.Sorted.{all_in_order, same_in_order}
use Rattle.ss_flat.proofs.VisitLemmas.{same_visit-flip, same_visit-is, same_visit-own}

-- ---- what a list of entries contains

kept_here : {X : Type 0} (o : Option X) (xs : List X) (y : X) → o ≡ Some y → Contains (cons_option o xs) y
kept_here None xs y e = cc
kept_here (Some x) xs y e = subst (λ z. Contains (x ∷ xs) z) (some_same e) (contains_here x xs)

kept_there : {X : Type 0} (o : Option X) (xs : List X) (y : X) → Contains xs y → Contains (cons_option o xs) y
kept_there None xs y c = c
kept_there (Some x) xs y c = contains_there x y xs c

module _ {K V Y : Type 0} (eq : K → K → Bool) (same : (k l : K) → eq k l ≡ true → k ≡ l) (h : K × V → Option Y) where
  first_kept : (k : K) (v : V) (y : Y) (f : K × V) (es : List (K × V)) (b : Bool) → h (k, v) ≡ Some y → eq k f.0 ≡ b → cond b (Some f.1) (lookup (eq k) es) ≡ Some v
      → (lookup (eq k) es ≡ Some v → Contains (filter_map h es) y) → Contains (cons_option (h f) (filter_map h es)) y
  first_kept k v y f es true e is g later =
      let key : f.0 ≡ k = sym (same k f.0 is) in
      let value : f.1 ≡ v = some_same g in
      let here : h f ≡ h (k, v) = λ i. h (key i, value i) in
      kept_here (h f) (filter_map h es) y (here ∙ e)
  first_kept k v y f es false e is g later = kept_there (h f) (filter_map h es) y (later g)

  found_kept : (k : K) (v : V) (y : Y) → h (k, v) ≡ Some y → (es : List (K × V)) → lookup (eq k) es ≡ Some v → Contains (filter_map h es) y
  found_kept k v y e [] found = cc
  found_kept k v y e (f ∷ es) found = first_kept k v y f es (eq k f.0) e refl found (λ later. found_kept k v y e es later)

-- ---- times above the last tombstone

not_gt-le : (m n : ℕ) → is_gt (nat_cmp m n) ≡ false → m ≤ n
not_gt-le m n e = by (nat_cmp m n) (ranked m n (nat_cmp m n) refl) e
  where
    by : (o : Ordering) → MatchOrdering o (m < n) (m ≡ n) (n < m) → is_gt o ≡ false → m ≤ n
    by Less h e = omega arith
    by Equal h e = omega arith
    by Greater h e = let clash : true ≡ false = e in cc

-- a face that isn't greater isn't later
face_time : (a b : Face) → is_gt (face_cmp a b) ≡ false → a.time ≤ b.time
face_time a b e = not_gt-le a.time b.time (first (nat_cmp a.time b.time) _ e)
  where
    first : (o p : Ordering) → is_gt (ordering_then o p) ≡ false → is_gt o ≡ false
    first Less p e = refl
    first Equal p e = refl
    first Greater p e = e

module _ (kind : FlatKind) (rows : List Row) (id : List ℕ) where
  above_alive : (gone : Option ℕ) (time : ℕ) → IsGreatestOf nat_cmp (IsTombstone kind rows id) gone → is_above gone time ≡ true → IsAlive kind rows id time
  above_alive None time none e = λ t h. absurd (none t h)
  above_alive (Some gone) time greatest e = λ t h.
      let below : gone < time = ltb-true gone time e in
      let most : t ≤ gone = not_gt-le t gone (greatest.greatest t h) in
      omega arith

  alive_above : (gone : Option ℕ) (time : ℕ) → IsGreatestOf nat_cmp (IsTombstone kind rows id) gone → IsAlive kind rows id time → is_above gone time ≡ true
  alive_above None time none alive = refl
  alive_above (Some gone) time greatest alive = lt-ltb gone time (alive gone greatest.holds)

-- ---- what is shown of a state

kept_if : {X : Type 0} (b : Bool) (x y : X) → cond b (Some x) None ≡ Some y → (b ≡ true) × (x ≡ y)
kept_if true x y e = (refl, some_same e)
kept_if false x y e = cc

shown_face-is : (heard : IdView) (f : Face) → shown_face heard ≡ Some f → (heard.face ≡ Some f) × (is_above heard.gone f.time ≡ true)
shown_face-is heard f e =
    let found = and_then_some (λ (face : Face). cond (is_above heard.gone face.time) (Some face) None) heard.face f e in
    let kept = kept_if (is_above heard.gone found.0.time) found.0 f found.2 in
    (found.1 ∙ ap (λ x. Some x) kept.1, subst (λ (x : Face). is_above heard.gone x.time ≡ true) kept.1 kept.0)

module _ (kind : FlatKind) (rows : List Row) (id : List ℕ) (heard : IdView) (s : IsStateOf kind rows id heard) where
  visit_kept : (e : Visit × ℕ) (v : Visit) → time_of e.0 heard.visits ≡ Some e.1 → shown_visit heard.gone e ≡ Some v → IsShownVisit kind rows id v
  visit_kept e v found shown =
      let kept = kept_if (is_above heard.gone e.1) e.0 v shown in
      subst (λ w. IsShownVisit kind rows id w) kept.1 (record {
        time = e.1;
        greatest = subst (λ t. IsGreatestOf nat_cmp (IsVisit kind rows id e.0) t) found (s.visits e.0);
        alive = above_alive kind rows id heard.gone e.1 s.gone kept.0;
      })

  visit_found : (v : Visit) → IsShownVisit kind rows id v → Contains (filter_map (shown_visit heard.gone) heard.visits) v
  visit_found v shown =
      found_kept same_visit same_visit-is (shown_visit heard.gone) v shown.time v
      (ap (λ b. cond b (Some v) None) (alive_above kind rows id heard.gone shown.time s.gone shown.alive)) heard.visits
      (same_greatest nat_cmp nat_cmp_total exact_unsigned (IsVisit kind rows id v) (IsVisit kind rows id v) (λ t h. h) (λ t h. h) (time_of v heard.visits) (Some shown.time) (s.visits v) shown.greatest)

  visits_unlike : (a b : Visit × ℕ) (v w : Visit) → OtherVisit a b → shown_visit heard.gone a ≡ Some v → shown_visit heard.gone b ≡ Some w → visit_cmp v w ≢ Equal
  visits_unlike a b v w apart e f tie =
      let one = (kept_if (is_above heard.gone a.1) a.0 v e).1 in
      let other = (kept_if (is_above heard.gone b.1) b.0 w f).1 in
      let same : a.0 ≡ b.0 = one ∙ visit_exact v w tie ∙ sym other in
      let clash : true ≡ false = sym (ap (λ u. same_visit a.0 u) (sym same) ∙ same_visit-own a.0) ∙ apart in
      cc

  visits_listed : IsAllInOrder visit_cmp (IsShownVisit kind rows id) (shown_visits heard)
  visits_listed =
      all_in_order visit_cmp visit_total (IsShownVisit kind rows id) (filter_map (shown_visit heard.gone) heard.visits)
      (Each-filter_map (λ (e : Visit × ℕ). time_of e.0 heard.visits ≡ Some e.1) (IsShownVisit kind rows id) (shown_visit heard.gone) visit_kept heard.visits
      (found_each same_visit same_visit-own same_visit-flip heard.visits s.once))
      visit_found (Pairs-filter_map OtherVisit (λ (v w : Visit). visit_cmp v w ≢ Equal) (shown_visit heard.gone) visits_unlike heard.visits s.once)

  face_shown : (f : Face) → shown_face heard ≡ Some f → IsShownRecord kind rows id (record_text kind id f (shown_visits heard))
  face_shown f e =
      let is = shown_face-is heard f e in
      record {
        face = f;
        visits = shown_visits heard;
        greatest = subst (λ o. IsGreatestOf face_cmp (IsFace kind rows id) o) is.0 s.face;
        alive = above_alive kind rows id heard.gone f.time s.gone is.1;
        visits_are = visits_listed;
        text_is = refl;
      }

  shown_found : (text : List ℕ) → IsShownRecord kind rows id text → (f : Face) × (shown_face heard ≡ Some f) × (text ≡ record_text kind id f (shown_visits heard))
  shown_found text shown =
      let face : heard.face ≡ Some shown.face = same_greatest face_cmp face_total face_exact (IsFace kind rows id) (IsFace kind rows id) (λ t h. h) (λ t h. h) heard.face (Some shown.face) s.face shown.greatest in
      let above = alive_above kind rows id heard.gone shown.face.time s.gone shown.alive in
      let visits : shown.visits ≡ shown_visits heard = same_in_order visit_cmp visit_total (IsShownVisit kind rows id) (IsShownVisit kind rows id) (λ v h. h) (λ v h. h) shown.visits (shown_visits heard) shown.visits_are visits_listed in (
        shown.face,
        ap (λ o. option_and_then (λ (face : Face). cond (is_above heard.gone face.time) (Some face) None) o) face ∙ ap (λ b. cond b (Some shown.face) None) above,
        shown.text_is ∙ ap (λ vs. record_text kind id shown.face vs) visits,
      )

  -- no face is above the time since which it is gone
  face_over : (time : ℕ) → heard.gone ≡ Some time → shown_face heard ≡ None → (face : Face) → IsFace kind rows id face → face.time ≤ time
  face_over time gone none face h = by heard.face refl
    where
      under : (f : Face) (b : Bool) → nat_lt time f.time ≡ b → cond b (Some f) None ≡ None → f.time ≤ time
      under f true e k = cc
      under f false e k = ltb-false time f.time e

      by : (o : Option Face) → heard.face ≡ o → face.time ≤ time
      by None e = absurd (subst (λ o. IsGreatestOf face_cmp (IsFace kind rows id) o) e s.face face h)
      by (Some f) e =
          let greatest = subst (λ o. IsGreatestOf face_cmp (IsFace kind rows id) o) e s.face in
          let most : face.time ≤ f.time = face_time face f (greatest.greatest face h) in
          let hidden : cond (nat_lt time f.time) (Some f) None ≡ None =
          sym (ap (λ g. cond (is_above g f.time) (Some f) None) gone) ∙ sym (ap (λ o. option_and_then (λ (face : Face). cond (is_above heard.gone face.time) (Some face) None) o) e) ∙ none in
          let least : f.time ≤ time = under f (nat_lt time f.time) refl hidden in
          omega arith

  gone_none : (time : ℕ) → heard.gone ≡ Some time → ((face : Face) → IsFace kind rows id face → face.time ≤ time) → shown_face heard ≡ None
  gone_none time gone over = by heard.face refl
    where
      by : (o : Option Face) → heard.face ≡ o → shown_face heard ≡ None
      by None e = ap (λ o. option_and_then (λ (face : Face). cond (is_above heard.gone face.time) (Some face) None) o) e
      by (Some f) e =
          let greatest = subst (λ o. IsGreatestOf face_cmp (IsFace kind rows id) o) e s.face in
          let most : f.time ≤ time = over f greatest.holds in
          let hidden : nat_lt time f.time ≡ false = le-ltb time f.time most in
          ap (λ o. option_and_then (λ (face : Face). cond (is_above heard.gone face.time) (Some face) None) o) e
          ∙ ap (λ g. cond (is_above g f.time) (Some f) None) gone ∙ ap (λ b. cond b (Some f) None) hidden

-- ---- the lists

gone_unless_some : (o : Option Face) (g : Option ℕ) (t : ℕ) → gone_unless o g ≡ Some t → (o ≡ None) × (g ≡ Some t)
gone_unless_some None g t e = (refl, e)
gone_unless_some (Some f) g t e = cc

true_then : (b : Bool) → (b ≡ false → ⊥) → b ≡ true
true_then true h = refl
true_then false h = absurd (h refl)

ids_unlike : (k l x z : List ℕ) → bytes_eq k l ≡ false → k ≡ x → l ≡ z → text_cmp x z ≢ Equal
ids_unlike k l x z apart e f tie =
    let same : bytes_eq k l ≡ true = (λ i. bytes_eq (e i) (f i)) ∙ texts_ties x z ∙ ap is_eq tie in
    let clash : true ≡ false = sym same ∙ apart in
    cc

module _ (rows : List Row) (state : State) (apart : Pairs OtherKey state.entries) (is : IsFlatState rows state) where
  abbrev Own : List ℕ × RoomedId → Type 0
  Own e = held_of e.0 state ≡ Some e.1

  own : Each Own state.entries
  own = found_each bytes_eq (λ k. bytes_eq-same k k refl) bytes_eq-flip state.entries apart

  own_state : (id : List ℕ) (held : RoomedId) → held_of id state ≡ Some held → IsStateOf state.kind rows id held.heard
  own_state id held e = subst (λ h. IsStateOf state.kind rows id h) (ap heard_in e) (is id)

  no_state : (id : List ℕ) → held_of id state ≡ None → IsStateOf state.kind rows id unheard
  no_state id e = subst (λ h. IsStateOf state.kind rows id h) (ap heard_in e) (is id)

  shown_each : (e : List ℕ × RoomedId) (y : Shown) → Own e → shown_of state.kind e ≡ Some y → IsShownRecord state.kind rows y.id y.text
  unfolding shown_of
  shown_each e y found shown =
      let make : Face → Shown = λ face. record { id = e.0; text = record_text state.kind e.0 face (shown_visits e.1.heard) } in
      let o = map_some make (shown_face e.1.heard) y shown in
      subst (λ (s : Shown). IsShownRecord state.kind rows s.id s.text) o.2 (face_shown state.kind rows e.0 e.1.heard (own_state e.0 e.1 found) o.0 o.1)

  shown_id : (e : List ℕ × RoomedId) (y : Shown) → shown_of state.kind e ≡ Some y → e.0 ≡ y.id
  unfolding shown_of
  shown_id e y shown =
      let make : Face → Shown = λ face. record { id = e.0; text = record_text state.kind e.0 face (shown_visits e.1.heard) } in
      let o = map_some make (shown_face e.1.heard) y shown in
      ap (λ (s : Shown). s.id) o.2

  shown_made : (y : Shown) (held : RoomedId) → IsStateOf state.kind rows y.id held.heard → IsShownRecord state.kind rows y.id y.text → shown_of state.kind (y.id, held) ≡ Some y
  unfolding shown_of
  shown_made y held s shown =
      let f = shown_found state.kind rows y.id held.heard s y.text shown in
      let make : Face → Shown = λ face. record { id = y.id; text = record_text state.kind y.id face (shown_visits held.heard) } in
      let same : make f.0 ≡ y = λ i. record { id = y.id; text = sym f.2 i } in
      ap (λ o. option_map make o) f.1 ∙ ap (λ z. Some z) same

  shown_all : (y : Shown) → IsShownRecord state.kind rows y.id y.text → Contains (filter_map (shown_of state.kind) state.entries) y
  shown_all y shown = by (held_of y.id state) refl
    where
      by : (o : Option RoomedId) → held_of y.id state ≡ o → Contains (filter_map (shown_of state.kind) state.entries) y
      by None e = absurd ((no_state y.id e).face shown.face shown.greatest.holds)
      by (Some held) e = found_kept bytes_eq same_text (shown_of state.kind) y.id held y (shown_made y held (own_state y.id held e) shown) state.entries e

  pub shown_listed : AreShownRecords state.kind rows (shown_list state.kind state.entries)
  shown_listed =
      all_in_order (λ (a b : Shown). text_cmp a.id b.id) (on_total (λ (s : Shown). s.id) nat_list_cmp_total) (λ (s : Shown). IsShownRecord state.kind rows s.id s.text) (filter_map (shown_of state.kind) state.entries)
      (Each-filter_map Own (λ (s : Shown). IsShownRecord state.kind rows s.id s.text) (shown_of state.kind) shown_each state.entries own) shown_all
      (Pairs-filter_map OtherKey (λ (a b : Shown). text_cmp a.id b.id ≢ Equal) (shown_of state.kind) (λ x z y w other e f. ids_unlike x.0 z.0 y.id w.id other (shown_id x y e) (shown_id z w f)) state.entries apart)

  gone_each : (e : List ℕ × RoomedId) (y : List ℕ × ℕ) → Own e → gone_of e ≡ Some y → IsGoneId state.kind rows y.0 y.1
  unfolding gone_of
  gone_each e y found gone =
      let o = map_some (λ (time : ℕ). (e.0, time)) (gone_unless (shown_face e.1.heard) e.1.heard.gone) y gone in
      let g = gone_unless_some (shown_face e.1.heard) e.1.heard.gone o.0 o.1 in
      let s = own_state e.0 e.1 found in
      subst (λ (p : List ℕ × ℕ). IsGoneId state.kind rows p.0 p.1) o.2 (record {
        greatest = subst (λ t. IsGreatestOf nat_cmp (IsTombstone state.kind rows e.0) t) g.1 s.gone;
        over = face_over state.kind rows e.0 e.1.heard s o.0 g.1 g.0;
      })

  gone_id : (e : List ℕ × RoomedId) (y : List ℕ × ℕ) → gone_of e ≡ Some y → e.0 ≡ y.0
  unfolding gone_of
  gone_id e y gone =
      let o = map_some (λ (time : ℕ). (e.0, time)) (gone_unless (shown_face e.1.heard) e.1.heard.gone) y gone in
      ap (λ (p : List ℕ × ℕ). p.0) o.2

  gone_made : (y : List ℕ × ℕ) (held : RoomedId) → IsStateOf state.kind rows y.0 held.heard → IsGoneId state.kind rows y.0 y.1 → gone_of (y.0, held) ≡ Some y
  unfolding gone_of
  gone_made y held s gone =
      let time : held.heard.gone ≡ Some y.1 = same_greatest nat_cmp nat_cmp_total exact_unsigned (IsTombstone state.kind rows y.0) (IsTombstone state.kind rows y.0) (λ t h. h) (λ t h. h) held.heard.gone (Some y.1) s.gone gone.greatest in
      let none = gone_none state.kind rows y.0 held.heard s y.1 time gone.over in
      λ i. option_map (λ (t : ℕ). (y.0, t)) (gone_unless (none i) (time i))

  gone_all : (y : List ℕ × ℕ) → IsGoneId state.kind rows y.0 y.1 → Contains (filter_map gone_of state.entries) y
  gone_all y gone = by (held_of y.0 state) refl
    where
      by : (o : Option RoomedId) → held_of y.0 state ≡ o → Contains (filter_map gone_of state.entries) y
      by None e = absurd ((no_state y.0 e).gone y.1 gone.greatest.holds)
      by (Some held) e = found_kept bytes_eq same_text gone_of y.0 held y (gone_made y held (own_state y.0 held e) gone) state.entries e

  pub gone_listed : AreGoneIds state.kind rows (gone_list state.entries)
  gone_listed =
      all_in_order (λ (a b : List ℕ × ℕ). text_cmp a.0 b.0) (on_total (λ (g : List ℕ × ℕ). g.0) nat_list_cmp_total) (λ (g : List ℕ × ℕ). IsGoneId state.kind rows g.0 g.1) (filter_map gone_of state.entries)
      (Each-filter_map Own (λ (g : List ℕ × ℕ). IsGoneId state.kind rows g.0 g.1) gone_of gone_each state.entries own) gone_all
      (Pairs-filter_map OtherKey (λ (a b : List ℕ × ℕ). text_cmp a.0 b.0 ≢ Equal) gone_of (λ x z y w other e f. ids_unlike x.0 z.0 y.0 w.0 other (gone_id x y e) (gone_id z w f)) state.entries apart)

  skipped_each : (e : List ℕ × RoomedId) (y : List ℕ) → Own e → skipped_of e ≡ Some y → IsSkippedId state.kind rows y
  unfolding skipped_of
  skipped_each e y found skipped =
      let kept = kept_if e.1.heard.skipped e.0 y skipped in
      subst (λ id. IsSkippedId state.kind rows id) kept.1 ((own_state e.0 e.1 found).skipped kept.0)

  skipped_id : (e : List ℕ × RoomedId) (y : List ℕ) → skipped_of e ≡ Some y → e.0 ≡ y
  unfolding skipped_of
  skipped_id e y skipped = (kept_if e.1.heard.skipped e.0 y skipped).1

  skipped_made : (y : List ℕ) (held : RoomedId) → IsStateOf state.kind rows y held.heard → IsSkippedId state.kind rows y → skipped_of (y, held) ≡ Some y
  unfolding skipped_of
  skipped_made y held s skipped = ap (λ b. cond b (Some y) None) (true_then held.heard.skipped (λ e. s.unskipped e skipped))

  skipped_all : (y : List ℕ) → IsSkippedId state.kind rows y → Contains (filter_map skipped_of state.entries) y
  skipped_all y skipped = by (held_of y state) refl
    where
      by : (o : Option RoomedId) → held_of y state ≡ o → Contains (filter_map skipped_of state.entries) y
      by None e = absurd ((no_state y e).unskipped refl skipped)
      by (Some held) e = found_kept bytes_eq same_text skipped_of y held y (skipped_made y held (own_state y held e) skipped) state.entries e

  pub skipped_listed : AreSkippedIds state.kind rows (skipped_list state.entries)
  skipped_listed =
      all_in_order text_cmp nat_list_cmp_total (IsSkippedId state.kind rows) (filter_map skipped_of state.entries)
      (Each-filter_map Own (IsSkippedId state.kind rows) skipped_of skipped_each state.entries own) skipped_all
      (Pairs-filter_map OtherKey (λ (a b : List ℕ). text_cmp a b ≢ Equal) skipped_of (λ x z y w other e f. ids_unlike x.0 z.0 y w other (skipped_id x y e) (skipped_id z w f)) state.entries apart)
