-- Membership and counts of ids in filtered lists, and in lists with each id once.
use Rattle.std.proofs.Common.{◌≡◌, ◌⊎◌, ◌+◌, Bool, true, false, cond, List, [], ◌∷◌, ◌++◌, filter, count_by, bytes_eq}
use Rattle.std.proofs.Common.{refl, sym, ap, subst, ◌∙◌, inl, inr, arith}
use Rattle.std.proofs.lemmas.List.Sums.{sum_by-cons}
use Rattle.ss_record.specs.Ids.{has}
use Rattle.ss_dupe.specs.Looks.{Id}
use Rattle.ss_dupe.proofs.Basics.{same-true, has-head, has-tail, has-cases, has-nil}
use Rattle.std.proofs.lemmas.Bool.{cases_Bool}
use Rattle.ss_text.proofs.Basics.{no_way}

pub filter-hit : (p : Id → Bool) (y : Id) (ys : List Id) → p y ≡ true → filter p (y ∷ ys) ≡ y ∷ filter p ys
filter-hit p y ys e = ap (λ b. cond b (y ∷ filter p ys) (filter p ys)) e

pub filter-miss : (p : Id → Bool) (y : Id) (ys : List Id) → p y ≡ false → filter p (y ∷ ys) ≡ filter p ys
filter-miss p y ys e = ap (λ b. cond b (y ∷ filter p ys) (filter p ys)) e

pub has-filter_list : (p : Id → Bool) (x : Id) (xs : List Id) → has x (filter p xs) ≡ true → has x xs ≡ true
has-filter_list p x [] h = h
has-filter_list p x (y ∷ ys) h = cases (cases_Bool (p y)) (has-filter_list p x ys)
  where
    cases : (p y ≡ true) ⊎ (p y ≡ false) → (has x (filter p ys) ≡ true → has x ys ≡ true) → has x (y ∷ ys) ≡ true
    cases (inl e) more = elim (has-cases x y (filter p ys) (subst (λ l. has x l ≡ true) (filter-hit p y ys e) h)) [ inl q ↦ has-head x y ys q | inr k ↦ has-tail x y ys (more k) ]
    cases (inr e) more = has-tail x y ys (more (subst (λ l. has x l ≡ true) (filter-miss p y ys e) h))

pub has-filter_test : (p : Id → Bool) (x : Id) (xs : List Id) → has x (filter p xs) ≡ true → p x ≡ true
has-filter_test p x [] h = no_way (has x []) h (has-nil x)
has-filter_test p x (y ∷ ys) h = cases (cases_Bool (p y)) (has-filter_test p x ys)
  where
    cases : (p y ≡ true) ⊎ (p y ≡ false) → (has x (filter p ys) ≡ true → p x ≡ true) → p x ≡ true
    cases (inl e) more = elim (has-cases x y (filter p ys) (subst (λ l. has x l ≡ true) (filter-hit p y ys e) h)) [ inl q ↦ ap p q ∙ e | inr k ↦ more k ]
    cases (inr e) more = more (subst (λ l. has x l ≡ true) (filter-miss p y ys e) h)

pub has-filter : (p : Id → Bool) (x : Id) (xs : List Id) → has x xs ≡ true → p x ≡ true → has x (filter p xs) ≡ true
has-filter p x [] h t = h
has-filter p x (y ∷ ys) h t = cases (cases_Bool (p y)) (has-cases x y ys h) (λ k. has-filter p x ys k t)
  where
    cases : (p y ≡ true) ⊎ (p y ≡ false) → (x ≡ y) ⊎ (has x ys ≡ true) → (has x ys ≡ true → has x (filter p ys) ≡ true) → has x (filter p (y ∷ ys)) ≡ true
    cases (inl e) (inl q) more = subst (λ l. has x l ≡ true) (sym (filter-hit p y ys e)) (has-head x y _ q)
    cases (inl e) (inr k) more = subst (λ l. has x l ≡ true) (sym (filter-hit p y ys e)) (has-tail x y _ (more k))
    cases (inr e) (inl q) more = no_way (p y) (ap p (sym q) ∙ t) e
    cases (inr e) (inr k) more = subst (λ l. has x l ≡ true) (sym (filter-miss p y ys e)) (more k)

pub has-append_left : (x : Id) (xs ys : List Id) → has x xs ≡ true → has x (xs ++ ys) ≡ true
has-append_left x [] ys h = no_way (has x []) h (has-nil x)
has-append_left x (z ∷ xs) ys h = elim (has-cases x z xs h) [ inl q ↦ has-head x z _ q | inr k ↦ has-tail x z _ (has-append_left x xs ys k) ]

pub has-append_right : (x : Id) (xs ys : List Id) → has x ys ≡ true → has x (xs ++ ys) ≡ true
has-append_right x [] ys h = h
has-append_right x (z ∷ xs) ys h = has-tail x z _ (has-append_right x xs ys h)

pub has-append_cases : (x : Id) (xs ys : List Id) → has x (xs ++ ys) ≡ true → (has x xs ≡ true) ⊎ (has x ys ≡ true)
has-append_cases x [] ys h = inr h
has-append_cases x (z ∷ xs) ys h = cases (has-cases x z (xs ++ ys) h) (has-append_cases x xs ys)
  where
    cases : (x ≡ z) ⊎ (has x (xs ++ ys) ≡ true) → (has x (xs ++ ys) ≡ true → (has x xs ≡ true) ⊎ (has x ys ≡ true)) → (has x (z ∷ xs) ≡ true) ⊎ (has x ys ≡ true)
    cases (inl q) more = inl (has-head x z xs q)
    cases (inr k) more = elim (more k) [ inl a ↦ inl (has-tail x z xs a) | inr b ↦ inr b ]

pub count-cons : (b : Bool) (x y : Id) (ys : List Id) → bytes_eq x y ≡ b → count_by (bytes_eq x) (y ∷ ys) ≡ cond b 1 0 + count_by (bytes_eq x) ys
count-cons b x y ys e = sum_by-cons (λ z. cond (bytes_eq x z) 1 0) y ys ∙ ap (λ c. cond c 1 0 + count_by (bytes_eq x) ys) e

pub count-filter_miss : (p : Id → Bool) (x : Id) (xs : List Id) → p x ≡ false → count_by (bytes_eq x) (filter p xs) ≡ 0
count-filter_miss p x [] miss = refl
count-filter_miss p x (y ∷ ys) miss = cases (cases_Bool (p y)) (cases_Bool (bytes_eq x y)) (count-filter_miss p x ys miss)
  where
    cases : (p y ≡ true) ⊎ (p y ≡ false) → (bytes_eq x y ≡ true) ⊎ (bytes_eq x y ≡ false) → count_by (bytes_eq x) (filter p ys) ≡ 0 → count_by (bytes_eq x) (filter p (y ∷ ys)) ≡ 0
    cases (inr e) _ more = ap (count_by (bytes_eq x)) (filter-miss p y ys e) ∙ more
    cases (inl e) (inl q) more = no_way (p x) (ap p (same-true x y q) ∙ e) miss
    cases (inl e) (inr q) more = ap (count_by (bytes_eq x)) (filter-hit p y ys e) ∙ count-cons false x y (filter p ys) q ∙ omega arith

pub count-filter_hit : (p : Id → Bool) (x : Id) (xs : List Id) → p x ≡ true → count_by (bytes_eq x) (filter p xs) ≡ count_by (bytes_eq x) xs
count-filter_hit p x [] hit = refl
count-filter_hit p x (y ∷ ys) hit = cases (cases_Bool (p y)) (cases_Bool (bytes_eq x y)) (count-filter_hit p x ys hit)
  where
    cases : (p y ≡ true) ⊎ (p y ≡ false) → (bytes_eq x y ≡ true) ⊎ (bytes_eq x y ≡ false) → count_by (bytes_eq x) (filter p ys) ≡ count_by (bytes_eq x) ys → count_by (bytes_eq x) (filter p (y ∷ ys)) ≡ count_by (bytes_eq x) (y ∷ ys)
    cases (inl e) _ more = ap (count_by (bytes_eq x)) (filter-hit p y ys e) ∙ count-cons _ x y (filter p ys) refl ∙ ap (λ n. cond (bytes_eq x y) 1 0 + n) more ∙ sym (count-cons _ x y ys refl)
    cases (inr e) (inl q) more = no_way (p y) (ap p (sym (same-true x y q)) ∙ hit) e
    cases (inr e) (inr q) more = ap (count_by (bytes_eq x)) (filter-miss p y ys e) ∙ more ∙ sym (count-cons false x y ys q ∙ omega arith)
