-- Places linked both ways, and what a new pair of neighbours makes of them.
use Rattle.std.proofs.Common.{◌≡◌, ◌≢◌, ℕ, ◌<◌, ◌≤◌, List, [], ◌∷◌, ◌++◌, length, reverse, refl, sym, ap, subst, ◌∙◌}
use Rattle.std.proofs.Common.{arith, append-nil}
use Rattle.std.proofs.lemmas.Bool.{eq-eqb, ne_eqb}
use Rattle.std.proofs.lemmas.List.{reverse-append}
use Rattle.ss_list.specs.Chain.{times}
use Rattle.ss_list.specs.Links.{Runs, walk, Becomes}
use Rattle.ss_list.proofs.Times.{times-here, times-append, below-head, apart, gone_before, gone_after, once_before}
use Rattle.ss_list.proofs.Times.{after_apart, before_apart}

pub becomes_here : (old new : ℕ → ℕ) (at to p : ℕ) → Becomes old new at to → p ≡ at → new p ≡ to
becomes_here old new at to p change same = change p ∙ rw (eq-eqb p at same)

pub becomes_other : (old new : ℕ → ℕ) (at to p : ℕ) → Becomes old new at to → p ≢ at → new p ≡ old p
becomes_other old new at to p change other = change p ∙ rw (ne_eqb p at other)

-- from u through these places to w each step leads forth, and each step of the other function back
abbrev pub Path : (ℕ → ℕ) → (ℕ → ℕ) → ℕ → List ℕ → ℕ → Type 0
Path f g u [] w = (f u ≡ w) × (g w ≡ u)
Path f g u (x ∷ xs) w = (f u ≡ x) × (g x ≡ u) × Path f g x xs w

-- ---- one way

pub walk_runs : (f : ℕ → ℕ) (p : ℕ) (ps : List ℕ) (w : ℕ) → Runs f p ps w → walk f (length ps) p ≡ ps
walk_runs f p [] w runs = refl
walk_runs f p (q ∷ qs) w runs = rw runs.0 (ap (λ rs. q ∷ rs) (walk_runs f (f q) qs w runs.1))

pub runs_kept : (f f' : ℕ → ℕ) (p : ℕ) (ps : List ℕ) (w : ℕ) → ((q : ℕ) → 0 < times q ps → f' q ≡ f q) → Runs f p ps w → Runs f' p ps w
runs_kept f f' p [] w same runs = runs
runs_kept f f' p (q ∷ qs) w same runs =
    let step : f' q ≡ f q = same q (omega (arith, times-here q q qs refl)) in
    (runs.0, rw step (runs_kept f f' (f q) qs w (λ r there. same r (omega (arith, below-head r q qs))) runs.1))

runs_push : (g : ℕ → ℕ) (p : ℕ) (ps : List ℕ) (q w : ℕ) → Runs g p ps q → g q ≡ w → Runs g p (ps ++ q ∷ []) w
runs_push g p [] q w runs step = (runs, step)
runs_push g p (r ∷ rs) q w runs step = (runs.0, runs_push g (g r) rs q w runs.1 step)

runs_pop : (g : ℕ → ℕ) (p : ℕ) (ps : List ℕ) (q w : ℕ) → Runs g p (ps ++ q ∷ []) w → Runs g p ps q × (g q ≡ w)
runs_pop g p [] q w runs = runs
runs_pop g p (r ∷ rs) q w runs =
    let rest = runs_pop g (g r) rs q w runs.1 in ((runs.0, rest.0), rest.1)

-- ---- both ways

pub forward_path : (f g : ℕ → ℕ) (u : ℕ) (ps : List ℕ) (w : ℕ) → Path f g u ps w → Runs f (f u) ps w
forward_path f g u [] w path = path.0
forward_path f g u (x ∷ xs) w path = (path.0, forward_path f g x xs w path.2)

pub backward_path : (f g : ℕ → ℕ) (u : ℕ) (ps : List ℕ) (w : ℕ) → Path f g u ps w → Runs g (g w) (reverse ps) u
backward_path f g u [] w path = path.1
backward_path f g u (x ∷ xs) w path =
    rw (reverse-append (x ∷ []) xs) (runs_push g (g w) (reverse xs) x u (backward_path f g x xs w path.2) path.1)

pub path_runs : (f g : ℕ → ℕ) (u : ℕ) (ps : List ℕ) (w : ℕ) → Runs f (f u) ps w → Runs g (g w) (reverse ps) u → Path f g u ps w
path_runs f g u [] w forth back = (forth, back)
path_runs f g u (x ∷ xs) w forth back =
    let last = runs_pop g (g w) (reverse xs) x u (rw (reverse-append (x ∷ []) xs) at back) in
    (forth.0, last.1, path_runs f g x xs w forth.1 last.0)

pub path_split : (f g : ℕ → ℕ) (u : ℕ) (xs : List ℕ) (x : ℕ) (ys : List ℕ) (w : ℕ) → Path f g u (xs ++ x ∷ ys) w → Path f g u xs x × Path f g x ys w
path_split f g u [] x ys w path = ((path.0, path.1), path.2)
path_split f g u (z ∷ zs) x ys w path =
    let rest = path_split f g z zs x ys w path.2 in ((path.0, path.1, rest.0), rest.1)

pub path_joined : (f g : ℕ → ℕ) (u : ℕ) (xs : List ℕ) (x : ℕ) (ys : List ℕ) (w : ℕ) → Path f g u xs x → Path f g x ys w → Path f g u (xs ++ x ∷ ys) w
path_joined f g u [] x ys w first second = (first.0, first.1, second)
path_joined f g u (z ∷ zs) x ys w first second =
    (first.0, first.1, path_joined f g z zs x ys w first.2 second)

-- the step back from the end leads to the last place
pub last_there : (f g : ℕ → ℕ) (u : ℕ) (ps : List ℕ) (w : ℕ) → Path f g u ps w → 0 < times (g w) (u ∷ ps)
last_there f g u [] w path = omega (arith, times-here (g w) u [] path.1)
last_there f g u (x ∷ xs) w path =
    omega (arith, last_there f g x xs w path.2, below-head (g w) u (x ∷ xs))

module _ (f g f' g' : ℕ → ℕ) where
  pub path_kept : (u : ℕ) (ps : List ℕ) (w : ℕ) → f' u ≡ f u → ((p : ℕ) → 0 < times p ps → f' p ≡ f p) → ((p : ℕ) → 0 < times p ps → g' p ≡ g p) → g' w ≡ g w → Path f g u ps w → Path f' g' u ps w
  path_kept u [] w fu fs gs gw path = (fu ∙ path.0, gw ∙ path.1)
  path_kept u (x ∷ xs) w fu fs gs gw path =
      let there : 0 < times x (x ∷ xs) = omega (arith, times-here x x xs refl) in (
        fu ∙ path.0,
        gs x there ∙ path.1,
        path_kept x xs w (fs x there) (λ p h. fs p (omega (arith, below-head p x xs))) (λ p h. gs p (omega (arith, below-head p x xs))) gw path.2,
      )

  -- where the last place and x become neighbours, the path leads to x
  pub path_turned : (u : ℕ) (ps : List ℕ) (w x : ℕ) → ((p : ℕ) → times p (u ∷ ps) ≤ 1) → times x ps ≡ 0 → Becomes f f' (g w) x → Becomes g g' x (g w) → Path f g u ps w → Path f' g' u ps x
  path_turned u [] w x once apart_x next prev path =
      (becomes_here f f' (g w) x u next (sym path.1), becomes_here g g' x (g w) x prev refl ∙ path.1)
  path_turned u (z ∷ zs) w x once apart_x next prev path =
      let last = last_there f g z zs w path.2 in
      let single = once u in
      let gone : times u (z ∷ zs) ≡ 0 = omega (arith, times-here u u (z ∷ zs) refl) in
      let not_last : u ≢ g w = λ same. apart (g w) u (z ∷ zs) last gone (sym same) in
      let not_x : z ≢ x = apart z x (z ∷ zs) (omega (arith, times-here z z zs refl)) apart_x in (
        becomes_other f f' (g w) x u next not_last ∙ path.0,
        becomes_other g g' x (g w) z prev not_x ∙ path.1,
        path_turned z zs w x (λ p. let above = once p in omega (arith, below-head p u (z ∷ zs))) (omega (arith, below-head x z zs)) next prev path.2,
      )

  -- where the neighbours of x become neighbours, x is off the path
  pub path_without : (u : ℕ) (xs : List ℕ) (x : ℕ) (ys : List ℕ) → ((p : ℕ) → times p (xs ++ x ∷ ys) ≤ 1) → times u (xs ++ x ∷ ys) ≡ 0 → Becomes f f' (g x) (f x) → Becomes g g' (f x) (g x) → Path f g u (xs ++ x ∷ ys) u → Path f' g' u (xs ++ ys) u
  path_without u xs x ys once alone next prev path =
      let halves = path_split f g u xs x ys u path in
      by_rest ys once alone halves.0 halves.1
    where
      by_rest : (ys : List ℕ) → ((p : ℕ) → times p (xs ++ x ∷ ys) ≤ 1) → times u (xs ++ x ∷ ys) ≡ 0 → Path f g u xs x → Path f g x ys u → Path f' g' u (xs ++ ys) u
      by_rest [] once alone first second =
          let e = second.0 in
          let next_u : Becomes f f' (g x) u = subst (λ b. Becomes f f' (g x) b) e next in
          let prev_u : Becomes g g' u (g x) = subst (λ b. Becomes g g' b (g x)) e prev in
          rw append-nil (path_turned u xs x u (once_before u xs x [] once alone) (gone_before u xs x [] once alone) next_u prev_u first)
      by_rest (y ∷ zs) once alone first second =
          let e = second.0 in
          let next_y : Becomes f f' (g x) y = subst (λ b. Becomes f f' (g x) b) e next in
          let prev_y : Becomes g g' y (g x) = subst (λ b. Becomes g g' b (g x)) e prev in
          let y_there : 0 < times y (y ∷ zs) = omega (arith, times-here y y zs refl) in
          let no_last : times (g x) (y ∷ zs) ≡ 0 = before_apart u xs x (y ∷ zs) once alone (g x) (last_there f g u xs x first) in
          let no_u : times u (y ∷ zs) ≡ 0 = gone_after u xs x (y ∷ zs) once alone in
          let y_once = once y in
          let no_y : times y zs ≡ 0 = omega (arith, times-append y xs (x ∷ y ∷ zs), below-head y x (y ∷ zs), times-here y y zs refl) in
          path_joined f' g' u xs y zs u
          (path_turned u xs x y (once_before u xs x (y ∷ zs) once alone) (after_apart u xs x (y ∷ zs) once alone y y_there) next_y prev_y first)
          (path_kept y zs u
          (becomes_other f f' (g x) y y next_y (apart y (g x) (y ∷ zs) y_there no_last))
          (λ p there. becomes_other f f' (g x) y p next_y (apart p (g x) (y ∷ zs) (omega (arith, below-head p y zs)) no_last))
          (λ p there. becomes_other g g' y (g x) p prev_y (apart p y zs there no_y))
          (becomes_other g g' y (g x) u prev_y (λ same. apart y u (y ∷ zs) y_there no_u (sym same)))
          second.2)

-- where x becomes the last, first as a neighbour of the last and then of the end, it ends the path
pub path_push : (f g f1 g1 f2 g2 : ℕ → ℕ) (u : ℕ) (ps : List ℕ) (x : ℕ) → ((p : ℕ) → times p (u ∷ ps) ≤ 1) → times x (u ∷ ps) ≡ 0 → Becomes f f1 (g u) x → Becomes g g1 x (g u) → Becomes f1 f2 x u → Becomes g1 g2 u x → Path f g u ps u → Path f2 g2 u (ps ++ x ∷ []) u
path_push f g f1 g1 f2 g2 u ps x once no_x next1 prev1 next2 prev2 path =
    let single = once u in
    let u_there : 0 < times u (u ∷ ps) = omega (arith, times-here u u ps refl) in
    let no_u : times u ps ≡ 0 = omega (arith, times-here u u ps refl) in
    let u_not_x : u ≢ x = apart u x (u ∷ ps) u_there no_x in
    let turned = path_turned f g f1 g1 u ps u x once (omega (arith, below-head x u ps)) next1 prev1 path in
    let kept = path_kept f1 g1 f2 g2 u ps x
    (becomes_other f1 f2 x u u next2 u_not_x)
    (λ p there. becomes_other f1 f2 x u p next2 (apart p x (u ∷ ps) (omega (arith, below-head p u ps)) no_x))
    (λ p there. becomes_other g1 g2 u x p prev2 (apart p u ps there no_u))
    (becomes_other g1 g2 u x x prev2 (λ same. u_not_x (sym same)))
    turned in
    path_joined f2 g2 u ps x [] u kept
    (becomes_here f1 f2 x u x next2 refl, becomes_here g1 g2 u x u prev2 refl)
