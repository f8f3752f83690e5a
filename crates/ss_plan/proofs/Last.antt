-- What the parts of a plan leave of a row.
use Rattle.std.proofs.Common.{◌≡◌, ℕ, List, [], ◌∷◌, ◌++◌, Bool, true, false, cond, ◌||◌, refl, sym, ap, ◌∙◌, filter}
use Rattle.std.proofs.Common.{fold, bytes_eq, Option, Some, None, option_map}
use Rattle.std.specs.List.{cons_option}
use Rattle.ss_record.specs.declared.readings.Sheet.{Sheet}
use Rattle.ss_record.specs.Ids.{has}
use Rattle.ss_record.proofs.IdLists.{has-nil, has-cons}
use Rattle.ss_bso.specs.declared.parts.Part.{Part}
use Rattle.ss_plan.specs.Plan.{part, puts}
use Rattle.ss_plan.specs.Written.{sheet_after, sheet_put}
use Rattle.ss_text.proofs.Basics.{bytes_eq-sym, same_text}

pub after-append : (s : ℕ) (us vs : List Part) (x : List ℕ) (o : Option Sheet) → sheet_after s (us ++ vs) x o ≡ sheet_after s vs x (sheet_after s us x o)
unfolding sheet_after
after-append s [] vs x o = refl
after-append s (u ∷ us) vs x o = by (bytes_eq u.id x) (after-append s us vs x)
  where
    by : (b : Bool) → ((p : Option Sheet) → fold (λ row w. Some (sheet_put s row w)) p (filter (λ w. bytes_eq w.id x) (us ++ vs)) ≡ fold (λ row w. Some (sheet_put s row w)) (fold (λ row w. Some (sheet_put s row w)) p (filter (λ w. bytes_eq w.id x) us)) (filter (λ w. bytes_eq w.id x) vs))
        → fold (λ row w. Some (sheet_put s row w)) o (cond b (u ∷ filter (λ w. bytes_eq w.id x) (us ++ vs)) (filter (λ w. bytes_eq w.id x) (us ++ vs)))
        ≡ fold (λ row w. Some (sheet_put s row w)) (fold (λ row w. Some (sheet_put s row w)) o (cond b (u ∷ filter (λ w. bytes_eq w.id x) us) (filter (λ w. bytes_eq w.id x) us))) (filter (λ w. bytes_eq w.id x) vs)
    by true ih = ih (Some (sheet_put s o u))
    by false ih = ih o

-- the row that a payload makes, where there is one
pub made : ℕ → List ℕ → Option (List ℕ) → Option Sheet → Option Sheet
made s x (Some p) o = Some (record { id = x; modified = s; payload = p })
made s x None o = o

pub made-some : (s : ℕ) (x p : List ℕ) (o : Option Sheet) → made s x (Some p) o ≡ Some (record { id = x; modified = s; payload = p })
unfolding made
made-some s x p o = refl

pub made-none : (s : ℕ) (x : List ℕ) (o : Option Sheet) → made s x None o ≡ o
unfolding made
made-none s x o = refl

after-part : (s : ℕ) (y p : List ℕ) (us : List Part) (x : List ℕ) (o : Option Sheet) → sheet_after s (part y p ∷ us) x o ≡ cond (bytes_eq y x) (sheet_after s us x (Some (record { id = y; modified = s; payload = p }))) (sheet_after s us x o)
unfolding sheet_after sheet_put
after-part s y p us x o = by (bytes_eq y x)
  where
    by : (b : Bool) → fold (λ row w. Some (sheet_put s row w)) o (cond b (part y p ∷ filter (λ w. bytes_eq w.id x) us) (filter (λ w. bytes_eq w.id x) us))
        ≡ cond b (fold (λ row w. Some (sheet_put s row w)) (Some (record { id = y; modified = s; payload = p })) (filter (λ w. bytes_eq w.id x) us)) (fold (λ row w. Some (sheet_put s row w)) o (filter (λ w. bytes_eq w.id x) us))
    by true = refl
    by false = refl

kept_either : (b : Bool) (o : Option Sheet) → cond b o o ≡ o
kept_either true o = refl
kept_either false o = refl

pub after-none : (s : ℕ) (x : List ℕ) (o : Option Sheet) → sheet_after s [] x o ≡ o
unfolding sheet_after
after-none s x o = refl

-- what is put for an id is the row of its payload, where it is among the ids
pub after-puts : (s : ℕ) (f : List ℕ → Option (List ℕ)) (xs : List (List ℕ)) (x : List ℕ) (o : Option Sheet) → sheet_after s (puts f xs) x o ≡ cond (has x xs) (made s x (f x) o) o
unfolding puts made
after-puts s f [] x o = after-none s x o ∙ ap (λ b. cond b (made s x (f x) o) o) (sym (has-nil x))
after-puts s f (y ∷ ys) x o = go (f y) refl (after-puts s f ys x) ∙ ap (λ b. cond b (made s x (f x) o) o) (sym (has-cons x y ys))
  where
    go : (q : Option (List ℕ)) → f y ≡ q → ((p : Option Sheet) → sheet_after s (puts f ys) x p ≡ cond (has x ys) (made s x (f x) p) p)
        → sheet_after s (cons_option (option_map (part y) (f y)) (puts f ys)) x o ≡ cond (bytes_eq x y || has x ys) (made s x (f x) o) o
    go None e ih = ap (λ q. sheet_after s (cons_option (option_map (part y) q) (puts f ys)) x o) e ∙ (ih o ∙ by (bytes_eq x y) refl (has x ys))
      where
        by : (b : Bool) → bytes_eq x y ≡ b → (h : Bool) → cond h (made s x (f x) o) o ≡ cond (bytes_eq x y || h) (made s x (f x) o) o
        by true k h =
            let no : made s x (f x) o ≡ o = ap (λ z. made s x (f z) o) (same_text x y k) ∙ ap (λ q. made s x q o) e in
            ap (λ m. cond h m o) no ∙ (kept_either h o ∙ (sym (kept_either (bytes_eq x y || h) o) ∙ ap (λ m. cond (bytes_eq x y || h) m o) (sym no)))
        by false k h = ap (λ b. cond (b || h) (made s x (f x) o) o) (sym k)
    go (Some p) e ih = ap (λ q. sheet_after s (cons_option (option_map (part y) q) (puts f ys)) x o) e ∙ (after-part s y p (puts f ys) x o ∙ by (bytes_eq x y) refl)
      where
        by : (b : Bool) → bytes_eq x y ≡ b → cond (bytes_eq y x) (sheet_after s (puts f ys) x (Some (record { id = y; modified = s; payload = p }))) (sheet_after s (puts f ys) x o) ≡ cond (bytes_eq x y || has x ys) (made s x (f x) o) o
        by true k =
            let yes : made s x (f x) o ≡ Some (record { id = y; modified = s; payload = p }) =
            ap (λ z. made s x (f z) o) (same_text x y k) ∙ (ap (λ q. made s x q o) e ∙ ap (λ z. Some (record { id = z; modified = s; payload = p })) (same_text x y k)) in
            let again : made s x (f x) (Some (record { id = y; modified = s; payload = p })) ≡ Some (record { id = y; modified = s; payload = p }) =
            ap (λ z. made s x (f z) (Some (record { id = y; modified = s; payload = p }))) (same_text x y k) ∙ (ap (λ q. made s x q (Some (record { id = y; modified = s; payload = p }))) e ∙ ap (λ z. Some (record { id = z; modified = s; payload = p })) (same_text x y k)) in
            ap (λ b. cond b (sheet_after s (puts f ys) x (Some (record { id = y; modified = s; payload = p }))) (sheet_after s (puts f ys) x o)) (bytes_eq-sym y x ∙ k)
            ∙ (ih (Some (record { id = y; modified = s; payload = p }))
            ∙ (ap (λ m. cond (has x ys) m (Some (record { id = y; modified = s; payload = p }))) again
            ∙ (kept_either (has x ys) (Some (record { id = y; modified = s; payload = p }))
            ∙ (sym yes ∙ ap (λ b. cond (b || has x ys) (made s x (f x) o) o) (sym k)))))
        by false k =
            ap (λ b. cond b (sheet_after s (puts f ys) x (Some (record { id = y; modified = s; payload = p }))) (sheet_after s (puts f ys) x o)) (bytes_eq-sym y x ∙ k)
            ∙ (ih o ∙ ap (λ b. cond (b || has x ys) (made s x (f x) o) o) (sym k))
