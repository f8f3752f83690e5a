-- Walks that mark what they pass.
use Rattle.std.proofs.Common.{◌≡◌, ◌⊎◌, ◌+◌, ◌-◌, ◌<◌, ◌≤◌, ◌||◌, ℕ, zero, suc, Bool, true, false, cond, List, [], ◌∷◌}
use Rattle.std.proofs.Common.{◌++◌, length, take, take_all, get_or, bytes_eq, Option, Some, None, is_some, unwrap_or}
use Rattle.std.proofs.Common.{refl, sym, ap, subst, ◌∙◌, inl, inr, arith}
use Rattle.ss_record.specs.Ids.{has}
use Rattle.ss_record.proofs.IdLists.{has-nil, has-cons, has-append}
use Rattle.ss_dupe.specs.Looks.{Id}
use Rattle.ss_dupe.specs.Walks.{meets, passes}
use Rattle.ss_dupe.proofs.Basics.{same-tells}
use Rattle.ss_merge.specs.Nearest.{goal_or, nearest}
use Rattle.ss_merge.specs.Ways.{AreMarks, StaysIn, MarksPath, WalksPath, is_goal_on, nearest_on, next_on}
use Rattle.ss_merge.specs.declared.ways.Way.{Way}
use Rattle.ss_merge.proofs.Holding.{has-more}
use Rattle.ss_merge.proofs.Stable.{nearest_on as on_by}
use Rattle.std.proofs.lemmas.Bool.{cases_Bool}
use Rattle.ss_text.proofs.Basics.{bytes_eq-sym, same_text, no_way}

-- the walk comes to a goal where it starts at one or has one ahead
pub meets_is : {A : Type 0} (step : A → Option A) (goal : A → Bool) (n : ℕ) (x : A) → meets step goal n x ≡ (goal x || is_some (nearest step goal n x))
meets_is step goal zero x = at (goal x)
  where
    at : (b : Bool) → b ≡ (b || false)
    at true = refl
    at false = refl
meets_is {A = A} step goal (suc n) x = ap (λ b. goal x || b) (on (step x) (meets_is step goal n))
  where
    on : (o : Option A) → ((y : A) → meets step goal n y ≡ (goal y || is_some (nearest step goal n y))) → passes (meets step goal n) o ≡ is_some (goal_or goal (nearest step goal n) o)
    on None more = refl
    on (Some y) more = more y ∙ at (goal y)
      where
        at : (b : Bool) → (b || is_some (nearest step goal n y)) ≡ is_some (cond b (Some y) (nearest step goal n y))
        at true = refl
        at false = refl

module _ (way : Way) (ids : List Id) where
  -- the nearest goal of an id
  abbrev pub goal_ahead : Id → Option Id
  goal_ahead x = nearest_on way (length ids) x

  -- so many steps lead from x to y, and to no goal
  abbrev pub Leads : ℕ → Id → Id → Type 0
  Leads zero x y = x ≡ y
  Leads (suc c) x y = (z : Id) × (next_on way x ≡ Some z) × (is_goal_on way z ≡ false) × Leads c z y

  module _ (old : Id → Option (Option Id)) (start : Id) where
    -- the walk has come to an id, i steps from its start
    pub record On (now : Id → Option (Option Id)) (path : List Id) (at : Id) (i : ℕ) : Type 0 where
      pub marks : (x : Id) → now x ≡ cond (has x path) (Some None) (old x)
      pub near : (x : Id) → has x path ≡ true → goal_ahead x ≡ goal_ahead at
      pub leads : (x : Id) → has x path ≡ true → (c : ℕ) × Leads (suc c) x at
      pub from : goal_ahead start ≡ goal_ahead at
      pub left : nearest_on way (length ids - i) at ≡ goal_ahead start
      pub inside : has at ids ≡ true
      pub met : (has start path ≡ true) ⊎ ((start ≡ at) × (i ≡ 0))

    -- and has marked it
    pub record Put (now : Id → Option (Option Id)) (path : List Id) (at : Id) (i : ℕ) : Type 0 where
      pub marks : (x : Id) → now x ≡ cond (has x path) (Some None) (old x)
      pub near : (x : Id) → has x path ≡ true → goal_ahead x ≡ goal_ahead at
      pub leads : (x : Id) → has x path ≡ true → (c : ℕ) × Leads c x at
      pub from : goal_ahead start ≡ goal_ahead at
      pub left : nearest_on way (length ids - i) at ≡ goal_ahead start
      pub inside : has at ids ≡ true
      pub met : has start path ≡ true

-- ---- marking with the goal

pub none_told : (walked : Id → Option (Option Id)) (path : List Id) (goal : Option Id) → MarksPath walked walked (take 0 path) goal
none_told walked path goal = record { told = λ x. sym (ap (λ b. cond b (Some goal) (walked x)) (has-nil x)) }

pub more_told : {walked now new : Id → Option (Option Id)} (path : List Id) (i : ℕ) (y : Id) (goal : Option Id) → i < length path → y ≡ get_or path i y → MarksPath walked now (take i path) goal
    → ((x : Id) → new x ≡ cond (bytes_eq y x) (Some goal) (now x)) → MarksPath walked new (take (i + 1) path) goal
more_told {walked} {now} {new} path i y goal lt is so put = record {
  told = λ x. put x ∙ ap (cond (bytes_eq y x) (Some goal)) (so.told x) ∙ ap (λ b. cond b (Some goal) (cond (has x (take i path)) (Some goal) (walked x))) (bytes_eq-sym y x)
      ∙ joined (bytes_eq x y) (has x (take i path)) (walked x) ∙ sym (ap (λ b. cond b (Some goal) (walked x)) (has-more x y path i lt is));
}
  where
    joined : (a b : Bool) (o : Option (Option Id)) → cond a (Some goal) (cond b (Some goal) o) ≡ cond (b || a) (Some goal) o
    joined true true o = refl
    joined true false o = refl
    joined false true o = refl
    joined false false o = refl

pub all_told : {walked now : Id → Option (Option Id)} (path : List Id) (i : ℕ) (goal : Option Id) → length path ≤ i → MarksPath walked now (take i path) goal → MarksPath walked now path goal
all_told {walked} {now} path i goal le so = record { told = λ x. so.told x ∙ ap (λ ps. cond (has x ps) (Some goal) (walked x)) (take_all i path le) }

module _ (way : Way) (ids : List Id) (stays : StaysIn way ids) where
  ahead : (x : Id) → has x ids ≡ true → goal_ahead way ids x ≡ goal_or (is_goal_on way) (goal_ahead way ids) (next_on way x)
  unfolding has
  ahead x i = on_by (next_on way) (is_goal_on way) bytes_eq same-tells ids stays x i

  pub no_next : (x : Id) → has x ids ≡ true → next_on way x ≡ None → goal_ahead way ids x ≡ None
  no_next x i e = ahead x i ∙ ap (goal_or (is_goal_on way) (goal_ahead way ids)) e

  pub goal_next : (x p : Id) → has x ids ≡ true → next_on way x ≡ Some p → is_goal_on way p ≡ true → goal_ahead way ids x ≡ Some p
  goal_next x p i e g = ahead x i ∙ ap (goal_or (is_goal_on way) (goal_ahead way ids)) e ∙ ap (λ b. cond b (Some p) (goal_ahead way ids p)) g

  pub other_next : (x p : Id) → has x ids ≡ true → next_on way x ≡ Some p → is_goal_on way p ≡ false → goal_ahead way ids x ≡ goal_ahead way ids p
  other_next x p i e g = ahead x i ∙ ap (goal_or (is_goal_on way) (goal_ahead way ids)) e ∙ ap (λ b. cond b (Some p) (goal_ahead way ids p)) g

  leads_on : (c : ℕ) (x y p : Id) → Leads way ids c x y → next_on way y ≡ Some p → is_goal_on way p ≡ false → Leads way ids (suc c) x p
  leads_on zero x y p l e g = (p, ap (next_on way) l ∙ e, g, refl)
  leads_on (suc c) x y p l e g = (l.0, l.1, l.2, leads_on c l.0 y p l.3 e g)

  -- on a circle without a goal there is none ahead
  circle : (x : Id) (c : ℕ) → Leads way ids (suc c) x x → (m : ℕ) (y : Id) (a : ℕ) → Leads way ids a y x → nearest_on way m y ≡ None
  circle x c back zero y a l = refl
  circle x c back (suc m) y zero l =
      ap (nearest_on way (suc m)) l ∙ ap (goal_or (is_goal_on way) (nearest_on way m)) back.1 ∙ ap (λ b. cond b (Some back.0) (nearest_on way m back.0)) back.2 ∙ circle x c back m back.0 c back.3
  circle x c back (suc m) y (suc a) l =
      ap (goal_or (is_goal_on way) (nearest_on way m)) l.1 ∙ ap (λ b. cond b (Some l.0) (nearest_on way m l.0)) l.2 ∙ circle x c back m l.0 a l.3

  module _ (old : Id → Option (Option Id)) (start : Id) where
    pub first_on : has start ids ≡ true → On way ids old start old [] start 0
    first_on i = record {
      marks = λ x. sym (ap (λ b. cond b (Some None) (old x)) (has-nil x));
      near = λ x h. no_way (has x []) h (has-nil x);
      leads = λ x h. no_way (has x []) h (has-nil x);
      from = refl;
      left = (let all : length ids - 0 ≡ length ids = omega arith in ap (λ n. nearest_on way n start) all);
      inside = i;
      met = inr (refl, refl);
    }

    has_end : (x at : Id) (path : List Id) → has x (path ++ at ∷ []) ≡ (has x path || bytes_eq x at)
    has_end x at path = has-append x path (at ∷ []) ∙ ap (λ b. has x path || b) (has-cons x at [] ∙ ap (λ b. bytes_eq x at || b) (has-nil x) ∙ or-false (bytes_eq x at))
      where
        or-false : (b : Bool) → (b || false) ≡ b
        or-false true = refl
        or-false false = refl

    in_end : (x at : Id) (path : List Id) → has x (path ++ at ∷ []) ≡ true → (has x path ≡ true) ⊎ (x ≡ at)
    in_end x at path h = cases (cases_Bool (has x path)) (cases_Bool (bytes_eq x at))
      where
        cases : (has x path ≡ true) ⊎ (has x path ≡ false) → (bytes_eq x at ≡ true) ⊎ (bytes_eq x at ≡ false) → (has x path ≡ true) ⊎ (x ≡ at)
        cases (inl a) _ = inl a
        cases (inr a) (inl b) = inr (same_text x at b)
        cases (inr a) (inr b) = no_way (has x (path ++ at ∷ [])) h (has_end x at path ∙ ap (λ v. v || bytes_eq x at) a ∙ b)

    pub put_on : {now new : Id → Option (Option Id)} {path : List Id} {at : Id} {i : ℕ} → On way ids old start now path at i → ((x : Id) → new x ≡ cond (bytes_eq at x) (Some None) (now x)) → Put way ids old start new (path ++ at ∷ []) at i
    put_on {now} {new} {path} {at} {i} on put = record {
      marks = λ x. put x ∙ ap (cond (bytes_eq at x) (Some None)) (on.marks x) ∙ ap (λ b. cond b (Some None) (cond (has x path) (Some None) (old x))) (bytes_eq-sym at x) ∙ joined (bytes_eq x at) (has x path) (old x) ∙ sym (ap (λ b. cond b (Some None) (old x)) (has_end x at path));
      near = λ x h. elim (in_end x at path h) [ inl a ↦ on.near x a | inr e ↦ ap (goal_ahead way ids) e ];
      leads = λ x h. elim (in_end x at path h) [ inl a ↦ (let l = on.leads x a in (suc l.0, l.1)) | inr e ↦ (0, e) ];
      from = on.from;
      left = on.left;
      inside = on.inside;
      met = elim on.met [ inl a ↦ has_end start at path ∙ ap (λ b. b || bytes_eq start at) a | inr e ↦ has_end start at path ∙ same_end (has start path) (bytes_eq start at) (own start at e.0) ];
    }
      where
        joined : (a b : Bool) (o : Option (Option Id)) → cond a (Some None) (cond b (Some None) o) ≡ cond (b || a) (Some None) o
        joined true true o = refl
        joined true false o = refl
        joined false true o = refl
        joined false false o = refl

        own : (x y : Id) → x ≡ y → bytes_eq x y ≡ true
        own x y e = (same-tells x y).1 e

        same_end : (a b : Bool) → b ≡ true → (a || b) ≡ true
        same_end true b e = refl
        same_end false b e = e

    pub put_at : {now new : Id → Option (Option Id)} {path longer : List Id} {at : Id} {i : ℕ} → On way ids old start now path at i → (key last : Id) → key ≡ at → last ≡ at → ((x : Id) → new x ≡ cond (bytes_eq key x) (Some None) (now x)) → longer ≡ path ++ last ∷ []
        → Put way ids old start new longer at i
    put_at {now} {new} {path} {longer} {at} {i} on key last own end put long =
        subst (λ ps. Put way ids old start new ps at i) (sym (long ∙ ap (λ k. path ++ k ∷ []) end)) (put_on on (λ x. put x ∙ ap (λ k. cond (bytes_eq k x) (Some None) (now x)) own))

    -- what is marked where the walk stands is its nearest goal
    pub known_on : AreMarks way ids old → {now : Id → Option (Option Id)} {path : List Id} {at : Id} {i : ℕ} → On way ids old start now path at i → (goal : Option Id) → now at ≡ Some goal → goal_ahead way ids at ≡ goal
    known_on right {now} {path} {at} {i} on goal e = cases (cases_Bool (has at path))
      where
        cases : (has at path ≡ true) ⊎ (has at path ≡ false) → goal_ahead way ids at ≡ goal
        cases (inl h) =
            let l = on.leads at h in
            let none : goal_ahead way ids at ≡ None = circle at l.0 l.1 (length ids) at 0 refl in
            let told : Some None ≡ Some goal = sym (on.marks at ∙ ap (λ b. cond b (Some None) (old at)) h) ∙ e in
            cc
        cases (inr h) = right at goal (sym (on.marks at ∙ ap (λ b. cond b (Some None) (old at)) h) ∙ e)

    pub known_end : AreMarks way ids old → {now : Id → Option (Option Id)} {path : List Id} {at : Id} {i : ℕ} → On way ids old start now path at i → (goal : Option Id) → now at ≡ Some goal → WalksPath way ids old now path start goal
    known_end right {now} {path} {at} {i} on goal e = record {
      marks = on.marks;
      near = λ x h. on.near x h ∙ known_on right on goal e;
      met = elim on.met [
        | inl h ↦ ap is_some (on.marks start ∙ ap (λ b. cond b (Some None) (old start)) h)
        | inr p ↦ ap is_some (ap now p.0 ∙ e)
      ];
    }

    pub put_end : {now : Id → Option (Option Id)} {path : List Id} {at : Id} {i : ℕ} → Put way ids old start now path at i → (goal : Option Id) → goal_ahead way ids at ≡ goal → WalksPath way ids old now path start goal
    put_end {now} {path} {at} {i} put goal e = record {
      marks = put.marks;
      near = λ x h. put.near x h ∙ e;
      met = ap is_some (put.marks start ∙ ap (λ b. cond b (Some None) (old start)) put.met);
    }

    -- no way on
    pub none_end : {now : Id → Option (Option Id)} {path : List Id} {at : Id} {i : ℕ} → Put way ids old start now path at i → next_on way at ≡ None → WalksPath way ids old now path start None
    none_end {now} {path} {at} {i} put e = put_end put None (no_next at put.inside e)

    -- a goal next
    pub goal_end : {now : Id → Option (Option Id)} {path : List Id} {at : Id} {i : ℕ} → Put way ids old start now path at i → (p : Id) → next_on way at ≡ Some p → is_goal_on way p ≡ true → WalksPath way ids old now path start (Some p)
    goal_end {now} {path} {at} {i} put p e g = put_end put (Some p) (goal_next at p put.inside e g)

    -- one step on
    pub onward : {now : Id → Option (Option Id)} {path : List Id} {at : Id} {i : ℕ} → Put way ids old start now path at i → i < length ids → (p : Id) → next_on way at ≡ Some p → is_goal_on way p ≡ false → On way ids old start now path p (i + 1)
    onward {now} {path} {at} {i} put lt p e g =
        let same = other_next at p put.inside e g in
        let less : length ids - i ≡ suc (length ids - (i + 1)) = omega arith in
        record {
          marks = put.marks;
          near = λ x h. put.near x h ∙ same;
          leads = λ x h. (let l = put.leads x h in (l.0, leads_on l.0 x at p l.1 e g));
          from = put.from ∙ same;
          left =
              sym (ap (λ n. nearest_on way n at) less ∙ ap (goal_or (is_goal_on way) (nearest_on way (length ids - (i + 1)))) e ∙ ap (λ b. cond b (Some p) (nearest_on way (length ids - (i + 1)) p)) g)
              ∙ put.left;
          inside = stays at p put.inside e;
          met = inl put.met;
        }

    -- as many steps as there are ids, and no goal
    pub far_end : {now : Id → Option (Option Id)} {path : List Id} {at : Id} {i : ℕ} → On way ids old start now path at i → 0 < length ids → length ids ≤ i → WalksPath way ids old now path start None
    far_end {now} {path} {at} {i} on some le = record {
      marks = on.marks;
      near = λ x h. on.near x h ∙ (sym on.from ∙ none);
      met = elim on.met [
        | inl h ↦ ap is_some (on.marks start ∙ ap (λ b. cond b (Some None) (old start)) h)
        | inr p ↦ absurd (let zero_is : i ≡ 0 = p.1 in omega arith)
      ];
    }
      where
        none : goal_ahead way ids start ≡ None
        none = let no_more : length ids - i ≡ 0 = omega arith in sym on.left ∙ ap (λ n. nearest_on way n at) no_more

  module _ (old : Id → Option (Option Id)) (start : Id) (right : AreMarks way ids old) where
    -- a walk that found nothing has marked all well
    pub walked_right : {new : Id → Option (Option Id)} {path : List Id} → WalksPath way ids old new path start None → AreMarks way ids new
    walked_right {new} {path} w x goal e = cases (cases_Bool (has x path))
      where
        cases : (has x path ≡ true) ⊎ (has x path ≡ false) → goal_ahead way ids x ≡ goal
        cases (inl h) =
            let told : Some None ≡ Some goal = sym (w.marks x ∙ ap (λ b. cond b (Some None) (old x)) h) ∙ e in
            let near : goal_ahead way ids x ≡ None = w.near x h in
            cc
        cases (inr h) = right x goal (sym (w.marks x ∙ ap (λ b. cond b (Some None) (old x)) h) ∙ e)

    pub walked_kept : {new : Id → Option (Option Id)} {path : List Id} {goal : Option Id} → WalksPath way ids old new path start goal → (x : Id) → is_some (old x) ≡ true → is_some (new x) ≡ true
    walked_kept {new} {path} {goal} w x h = ap is_some (w.marks x) ∙ cases (has x path)
      where
        cases : (b : Bool) → is_some (cond b (Some None) (old x)) ≡ true
        cases true = refl
        cases false = h

    pub told_right : {walked new : Id → Option (Option Id)} {path : List Id} {goal : Option Id} → WalksPath way ids old walked path start goal → MarksPath walked new path goal → AreMarks way ids new
    told_right {walked} {new} {path} {goal} w t x other e = cases (cases_Bool (has x path))
      where
        cases : (has x path ≡ true) ⊎ (has x path ≡ false) → goal_ahead way ids x ≡ other
        cases (inl h) =
            let told : Some goal ≡ Some other = sym (t.told x ∙ ap (λ b. cond b (Some goal) (walked x)) h) ∙ e in
            let near : goal_ahead way ids x ≡ goal = w.near x h in
            cc
        cases (inr h) = right x other (sym (t.told x ∙ ap (λ b. cond b (Some goal) (walked x)) h ∙ (w.marks x ∙ ap (λ b. cond b (Some None) (old x)) h)) ∙ e)

    pub told_kept : {walked new : Id → Option (Option Id)} {path : List Id} {goal : Option Id} → MarksPath walked new path goal → (x : Id) → is_some (walked x) ≡ true → is_some (new x) ≡ true
    told_kept {walked} {new} {path} {goal} t x h = ap is_some (t.told x) ∙ cases (has x path)
      where
        cases : (b : Bool) → is_some (cond b (Some goal) (walked x)) ≡ true
        cases true = refl
        cases false = h

-- ---- all ids

pub met_more : (old new : Id → Option (Option Id)) (ids : List Id) (i : ℕ) (y : Id) → i < length ids → y ≡ get_or ids i y → ((x : Id) → has x (take i ids) ≡ true → is_some (old x) ≡ true)
    → is_some (new y) ≡ true → ((x : Id) → is_some (old x) ≡ true → is_some (new x) ≡ true) → (x : Id) → has x (take (i + 1) ids) ≡ true → is_some (new x) ≡ true
met_more old new ids i y lt is before one kept x h = cases (cases_Bool (has x (take i ids))) (cases_Bool (bytes_eq x y))
  where
    cases : (has x (take i ids) ≡ true) ⊎ (has x (take i ids) ≡ false) → (bytes_eq x y ≡ true) ⊎ (bytes_eq x y ≡ false) → is_some (new x) ≡ true
    cases (inl a) _ = kept x (before x a)
    cases (inr a) (inl b) = ap (λ z. is_some (new z)) (same_text x y b) ∙ one
    cases (inr a) (inr b) = no_way (has x (take (i + 1) ids)) h (has-more x y ids i lt is ∙ ap (λ v. v || bytes_eq x y) a ∙ b)

pub all_met : (way : Way) (ids : List Id) (marks : Id → Option (Option Id)) → AreMarks way ids marks → (x : Id) → is_some (marks x) ≡ true → marks x ≡ Some (nearest_on way (length ids) x)
all_met way ids marks right x h = cases (marks x) refl h
  where
    cases : (o : Option (Option Id)) → marks x ≡ o → is_some o ≡ true → marks x ≡ Some (nearest_on way (length ids) x)
    cases None e k = no_way false k refl
    cases (Some goal) e k = e ∙ ap Some (sym (right x goal e))
