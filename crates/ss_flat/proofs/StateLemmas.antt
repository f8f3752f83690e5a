-- The state of a row, of a union, and of one set told in two ways.
use Rattle.std.proofs.Common.{◌≡◌, ℕ, List, [], ◌∷◌, ◌++◌, Bool, true, false, cond, Some, None, Contains, ◌⊎◌, inl, inr}
use Rattle.std.proofs.Common.{⊎_elim, refl, sym, ap, subst, ◌∙◌}
use Rattle.std.proofs.lemmas.Cmp.{nat_cmp_total}
use Rattle.std.proofs.lemmas.List.Elements.{Contains-append_left, Contains-append_right, Contains-append_cases}
use Rattle.std.proofs.lemmas.Map.Lookups.{exact_unsigned}
use Rattle.std.specs.List.{list_any}
use Rattle.std.specs.Ordering.{nat_cmp}
use Rattle.ss_bso.specs.declared.rows.Row.{Row}
use Rattle.ss_flat.specs.declared.kinds.FlatKind.{FlatKind}
use Rattle.ss_flat.specs.declared.visits.Visit.{Visit}
use Rattle.ss_flat.specs.declared.face.Face.{Face}
use Rattle.ss_flat.specs.declared.reading.Said.{Said}
use Rattle.ss_flat.specs.declared.reading.Reading.{Reading}
use Rattle.ss_flat.specs.declared.reading.Reading.TheVariants.{Record, Tombstone, Skipped}
use Rattle.ss_flat.specs.Greatest.{IsGreatestOf}
use Rattle.ss_flat.specs.Joining.{Joins, Makes, MakesRecord}
use Rattle.ss_flat.specs.Laws.{SameSet}
use Rattle.ss_flat.specs.Readings.{reading}
use Rattle.ss_flat.specs.States.{IdView, IsFace, IsStateOf, IsTombstone, IsVisit, OnRecord, Tells, face_cmp}
use Rattle.ss_flat.specs.States.{nothing as unheard, same_visit, time_of}
use Rattle.ss_flat.proofs.Contained.{contains_here, contains_nothing, contains_one}
use Rattle.ss_flat.proofs.Greatest.{greatest_moved, greatest_of_both, greatest_one}
use Rattle.ss_flat.proofs.VisitLemmas.{visited, unvisited}
use Rattle.ss_flat.proofs.Orders.{face_exact, face_total}

-- ---- what rows tell

module _ (kind : FlatKind) (id : List ℕ) (Says : Row → Reading → Type 0) where
  pub tells_moved : (rows others : List Row) → ((row : Row) → Contains rows row → Contains others row) → Tells kind rows id Says → Tells kind others id Says
  tells_moved rows others there t = record { row = t.row; among = there t.row t.among; named = t.named; says = t.says }

  pub tells_left : (rows others : List Row) → Tells kind rows id Says → Tells kind (rows ++ others) id Says
  tells_left rows others t = tells_moved rows (rows ++ others) (λ row c. Contains-append_left rows others row c) t

  pub tells_right : (rows others : List Row) → Tells kind others id Says → Tells kind (rows ++ others) id Says
  tells_right rows others t = tells_moved others (rows ++ others) (λ row c. Contains-append_right rows others row c) t

  pub tells_either : (rows others : List Row) → Tells kind (rows ++ others) id Says → Tells kind rows id Says ⊎ Tells kind others id Says
  tells_either rows others t =
      ⊎_elim (λ (c : Contains rows t.row). inl (record { row = t.row; among = c; named = t.named; says = t.says }))
      (λ (c : Contains others t.row). inr (record { row = t.row; among = c; named = t.named; says = t.says }))
      (Contains-append_cases rows others t.row t.among)

  pub tells_nothing : Tells kind [] id Says → ⊥
  tells_nothing t = contains_nothing t.row t.among

  pub one_named : (row : Row) → Tells kind (row ∷ []) id Says → row.id ≡ id
  one_named row t = ap (λ (r : Row). r.id) (contains_one row t.row t.among) ∙ t.named

  pub one_says : (row : Row) → Tells kind (row ∷ []) id Says → Says row (reading kind row)
  one_says row t = subst (λ (r : Row). Says r (reading kind r)) (sym (contains_one row t.row t.among)) t.says

pub one_tells : (kind : FlatKind) (Says : Row → Reading → Type 0) (row : Row) → Says row (reading kind row) → Tells kind (row ∷ []) row.id Says
one_tells kind Says row says = record { row = row; among = contains_here row []; named = refl; says = says }

-- ---- the state of nothing

pub state_of_nothing : (kind : FlatKind) (id : List ℕ) → IsStateOf kind [] id unheard
state_of_nothing kind id = record {
  gone = λ t h. tells_nothing kind id _ h;
  face = λ f h. tells_nothing kind id _ h;
  visits = λ v t h. tells_nothing kind id _ h;
  once = tt;
  skipped = λ e. cc;
  unskipped = λ e h. tells_nothing kind id _ h;
}

-- a row says nothing of another id
pub state_of_other : (kind : FlatKind) (row : Row) (id : List ℕ) → (row.id ≡ id → ⊥) → IsStateOf kind (row ∷ []) id unheard
state_of_other kind row id apart = record {
  gone = λ t h. apart (one_named kind id _ row h);
  face = λ f h. apart (one_named kind id _ row h);
  visits = λ v t h. apart (one_named kind id _ row h);
  once = tt;
  skipped = λ e. cc;
  unskipped = λ e h. apart (one_named kind id _ row h);
}

-- ---- the state of one row

module _ (kind : FlatKind) (row : Row) where
  skipped_state : reading kind row ≡ Skipped → IsStateOf kind (row ∷ []) row.id (record { gone = None; face = None; visits = []; skipped = true })
  skipped_state e = record {
    gone = λ t h. let clash : Skipped ≡ Tombstone = sym e ∙ (one_says kind row.id _ row h).0 in cc;
    face = λ f h. subst (λ r. OnRecord (λ said. f ≡ record { time = row.modified; first = said.first; second = said.second }) r) e (one_says kind row.id _ row h);
    visits = λ v t h. subst (λ r. OnRecord (λ said. Contains said.visits v × (row.modified ≡ t)) r) e (one_says kind row.id _ row h);
    once = tt;
    skipped = λ _. one_tells kind (λ row r. r ≡ Skipped) row e;
    unskipped = λ f h. cc;
  }

  tombstone_state : reading kind row ≡ Tombstone → IsStateOf kind (row ∷ []) row.id (record { gone = Some row.modified; face = None; visits = []; skipped = false })
  tombstone_state e = record {
    gone = greatest_one nat_cmp nat_cmp_total (IsTombstone kind (row ∷ []) row.id) row.modified (one_tells kind (λ row' r. (r ≡ Tombstone) × (row'.modified ≡ row.modified)) row (e, refl)) (λ t h. sym (one_says kind row.id _ row h).1);
    face = λ f h. subst (λ r. OnRecord (λ said. f ≡ record { time = row.modified; first = said.first; second = said.second }) r) e (one_says kind row.id _ row h);
    visits = λ v t h. subst (λ r. OnRecord (λ said. Contains said.visits v × (row.modified ≡ t)) r) e (one_says kind row.id _ row h);
    once = tt;
    skipped = λ f. cc;
    unskipped = λ _ h. let clash : Tombstone ≡ Skipped = sym e ∙ one_says kind row.id _ row h in cc;
  }

module _ (kind : FlatKind) (row : Row) (said : Said) (e : reading kind row ≡ Record said) where
  of_record : (P : Said → Type 0) → OnRecord P (reading kind row) → P said
  of_record P h = subst (λ r. OnRecord P r) e h

  on_record : (P : Said → Type 0) → P said → OnRecord P (reading kind row)
  on_record P h = subst (λ r. OnRecord P r) (sym e) h

  visit_state : (v : Visit) (b : Bool) → list_any (same_visit v) said.visits ≡ b → IsGreatestOf nat_cmp (IsVisit kind (row ∷ []) row.id v) (cond b (Some row.modified) None)
  visit_state v true there =
      greatest_one nat_cmp nat_cmp_total (IsVisit kind (row ∷ []) row.id v) row.modified
      (one_tells kind (λ row' r. OnRecord (λ s. Contains s.visits v × (row'.modified ≡ row.modified)) r) row (on_record (λ s. Contains s.visits v × (row.modified ≡ row.modified)) (visited v said.visits there, refl)))
      (λ t h. sym (of_record (λ s. Contains s.visits v × (row.modified ≡ t)) (one_says kind row.id _ row h)).1)
  visit_state v false none = λ t h. unvisited v said.visits none (of_record (λ s. Contains s.visits v × (row.modified ≡ t)) (one_says kind row.id _ row h)).0

  record_state : (heard : IdView) → MakesRecord row.modified said heard → IsStateOf kind (row ∷ []) row.id heard
  record_state heard m =
      let face : Face = record { time = row.modified; first = said.first; second = said.second } in
      record {
        gone = subst (λ g. IsGreatestOf nat_cmp (IsTombstone kind (row ∷ []) row.id) g) (sym m.gone) (λ t h. let clash : Record said ≡ Tombstone = sym e ∙ (one_says kind row.id _ row h).0 in cc);
        face = subst (λ f. IsGreatestOf face_cmp (IsFace kind (row ∷ []) row.id) f) (sym m.face)
            (greatest_one face_cmp face_total (IsFace kind (row ∷ []) row.id) face
            (one_tells kind (λ row' r. OnRecord (λ s. face ≡ record { time = row'.modified; first = s.first; second = s.second }) r) row (on_record (λ s. face ≡ record { time = row.modified; first = s.first; second = s.second }) refl))
            (λ f h. of_record (λ s. f ≡ record { time = row.modified; first = s.first; second = s.second }) (one_says kind row.id _ row h)));
        visits = λ v. subst (λ t. IsGreatestOf nat_cmp (IsVisit kind (row ∷ []) row.id v) t) (sym (m.visits v)) (visit_state v (list_any (same_visit v) said.visits) refl);
        once = m.once;
        skipped = λ f. let clash : false ≡ true = sym m.skipped ∙ f in cc;
        unskipped = λ _ h. let clash : Record said ≡ Skipped = sym e ∙ one_says kind row.id _ row h in cc;
      }

pub state_of_row : (kind : FlatKind) (row : Row) (heard : IdView) → Makes row.modified (reading kind row) heard → IsStateOf kind (row ∷ []) row.id heard
state_of_row kind row heard m = by (reading kind row) refl m
  where
    by : (r : Reading) → reading kind row ≡ r → Makes row.modified r heard → IsStateOf kind (row ∷ []) row.id heard
    by (Record said) e m = record_state kind row said e heard m
    by Tombstone e m = subst (λ h. IsStateOf kind (row ∷ []) row.id h) (sym m) (tombstone_state kind row e)
    by Skipped e m = subst (λ h. IsStateOf kind (row ∷ []) row.id h) (sym m) (skipped_state kind row e)

-- ---- the state of a union

skipped_left : (a b c : Bool) → c ≡ (cond a true b) → c ≡ true → (a ≡ true) ⊎ (b ≡ true)
skipped_left true b c e f = inl refl
skipped_left false b c e f = inr (sym e ∙ f)

skipped_none : (a b c : Bool) → c ≡ (cond a true b) → c ≡ false → (a ≡ false) × (b ≡ false)
skipped_none true b c e f = let clash : true ≡ false = sym e ∙ f in cc
skipped_none false b c e f = (refl, sym e ∙ f)

pub state_of_union : (kind : FlatKind) (rows others : List Row) (id : List ℕ) (one other both : IdView) → IsStateOf kind rows id one → IsStateOf kind others id other → Joins one other both
    → IsStateOf kind (rows ++ others) id both
state_of_union kind rows others id one other both a b j = record {
  gone = subst (λ g. IsGreatestOf nat_cmp (IsTombstone kind (rows ++ others) id) g) (sym j.gone)
      (greatest_of_both nat_cmp nat_cmp_total (IsTombstone kind rows id) (IsTombstone kind others id) (IsTombstone kind (rows ++ others) id)
      (λ t h. tells_left kind id _ rows others h) (λ t h. tells_right kind id _ rows others h) (λ t h. tells_either kind id _ rows others h) one.gone other.gone a.gone b.gone);
  face = subst (λ f. IsGreatestOf face_cmp (IsFace kind (rows ++ others) id) f) (sym j.face)
      (greatest_of_both face_cmp face_total (IsFace kind rows id) (IsFace kind others id) (IsFace kind (rows ++ others) id)
      (λ t h. tells_left kind id _ rows others h) (λ t h. tells_right kind id _ rows others h) (λ t h. tells_either kind id _ rows others h) one.face other.face a.face b.face);
  visits = λ v. subst (λ t. IsGreatestOf nat_cmp (IsVisit kind (rows ++ others) id v) t) (sym (j.visits v))
      (greatest_of_both nat_cmp nat_cmp_total (IsVisit kind rows id v) (IsVisit kind others id v) (IsVisit kind (rows ++ others) id v)
      (λ t h. tells_left kind id _ rows others h) (λ t h. tells_right kind id _ rows others h) (λ t h. tells_either kind id _ rows others h) (time_of v one.visits) (time_of v other.visits) (a.visits v) (b.visits v));
  once = j.once a.once;
  skipped = λ e. ⊎_elim (λ f. tells_left kind id _ rows others (a.skipped f)) (λ f. tells_right kind id _ rows others (b.skipped f)) (skipped_left one.skipped other.skipped both.skipped j.skipped e);
  unskipped = λ e h.
      let none = skipped_none one.skipped other.skipped both.skipped j.skipped e in
      ⊎_elim (λ t. a.unskipped none.0 t) (λ t. b.unskipped none.1 t) (tells_either kind id _ rows others h);
}

-- ---- a state of one set, told in two ways

pub state_moved : (kind : FlatKind) (rows others : List Row) → SameSet rows others → (id : List ℕ) (heard : IdView) → IsStateOf kind rows id heard → IsStateOf kind others id heard
state_moved kind rows others same id heard s = record {
  gone = greatest_moved nat_cmp nat_cmp_total exact_unsigned (IsTombstone kind rows id) (IsTombstone kind others id) (λ t h. tells_moved kind id _ rows others same.there h) (λ t h. tells_moved kind id _ others rows same.back h) heard.gone s.gone;
  face = greatest_moved face_cmp face_total face_exact (IsFace kind rows id) (IsFace kind others id) (λ t h. tells_moved kind id _ rows others same.there h) (λ t h. tells_moved kind id _ others rows same.back h) heard.face s.face;
  visits = λ v. greatest_moved nat_cmp nat_cmp_total exact_unsigned (IsVisit kind rows id v) (IsVisit kind others id v) (λ t h. tells_moved kind id _ rows others same.there h) (λ t h. tells_moved kind id _ others rows same.back h) (time_of v heard.visits) (s.visits v);
  once = s.once;
  skipped = λ e. tells_moved kind id _ rows others same.there (s.skipped e);
  unskipped = λ e h. s.unskipped e (tells_moved kind id _ others rows same.back h);
}
