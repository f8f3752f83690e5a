-- Lists of the same ids, each once, are one list by id.
use Rattle.std.specs.Cmp.{IsStrictWeakOrder}
use Rattle.std.proofs.Common.{◌≡◌, ℕ, Bool, true, false, cond, not, ◌&&◌, ◌||◌, List, [], ◌∷◌, filter, bytes_eq, refl}
use Rattle.std.proofs.Common.{sym, ap, ap₂, ◌∙◌, Ordering, Less, Equal, Greater, is_lt, is_eq}
use Rattle.std.proofs.lemmas.List.Sorted.{ranks_by}
use Rattle.std.specs.Ordering.{ordering_reverse}
use Rattle.std.specs.Cmp.Lexicographic.{nat_list_cmp_total, texts_ties}
use Rattle.std.specs.List.Sorted.{ties}
use Rattle.ss_text.specs.Texts.{text_cmp}
use Rattle.ss_record.specs.Ids.{Apart, before, by_id, has}
use Rattle.ss_record.proofs.IdLists.{has-nil, has-cons, Apart-head, Apart-tail}
use Rattle.ss_text.proofs.Sorting.{sorted_alike}
use Rattle.ss_text.proofs.Basics.{same_text, no_way}

ties-is : (w x : List ℕ) → ties before w x ≡ bytes_eq w x
unfolding before
ties-is w x = ap (λ r. not (is_lt (text_cmp w x)) && not (is_lt r)) (nat_list_cmp_total.antisymm x w) ∙ by (text_cmp w x) ∙ sym (texts_ties w x)
  where
    by : (r : Ordering) → (not (is_lt r) && not (is_lt (ordering_reverse r))) ≡ is_eq r
    by Less = refl
    by Equal = refl
    by Greater = refl

none_left : (w : List ℕ) (xs : List (List ℕ)) → has w xs ≡ false → filter (bytes_eq w) xs ≡ []
none_left w [] h = refl
none_left w (x ∷ xs) h = go (bytes_eq w x) refl (sym (has-cons w x xs) ∙ h) (none_left w xs)
  where
    go : (b : Bool) → bytes_eq w x ≡ b → (bytes_eq w x || has w xs) ≡ false → (has w xs ≡ false → filter (bytes_eq w) xs ≡ []) → cond (bytes_eq w x) (x ∷ filter (bytes_eq w) xs) (filter (bytes_eq w) xs) ≡ []
    go true e k more = no_way (bytes_eq w x) e (first (bytes_eq w x) (has w xs) k)
      where
        first : (a b : Bool) → (a || b) ≡ false → a ≡ false
        first true b e = e
        first false b e = refl
    go false e k more = ap (λ b. cond b (x ∷ filter (bytes_eq w) xs) (filter (bytes_eq w) xs)) e ∙ more (sym (ap (λ b. b || has w xs) e) ∙ k)

one_left : (w : List ℕ) (xs : List (List ℕ)) → Apart xs → filter (bytes_eq w) xs ≡ cond (has w xs) (w ∷ []) []
one_left w [] a = ap (λ b. cond b (w ∷ []) []) (sym (has-nil w))
one_left w (x ∷ xs) a = go (bytes_eq w x) refl (one_left w xs (Apart-tail x xs a))
  where
    go : (b : Bool) → bytes_eq w x ≡ b → filter (bytes_eq w) xs ≡ cond (has w xs) (w ∷ []) [] → cond (bytes_eq w x) (x ∷ filter (bytes_eq w) xs) (filter (bytes_eq w) xs) ≡ cond (has w (x ∷ xs)) (w ∷ []) []
    go true e more =
        let same = same_text w x e in
        ap (λ b. cond b (x ∷ filter (bytes_eq w) xs) (filter (bytes_eq w) xs)) e
        ∙ ap₂ (λ y l. y ∷ l) (sym same) (none_left w xs (ap (λ z. has z xs) same ∙ Apart-head x xs a))
        ∙ sym (ap (λ b. cond b (w ∷ []) []) (has-cons w x xs ∙ ap (λ b. b || has w xs) e))
    go false e more = ap (λ b. cond b (x ∷ filter (bytes_eq w) xs) (filter (bytes_eq w) xs)) e ∙ more ∙ sym (ap (λ b. cond b (w ∷ []) []) (has-cons w x xs ∙ ap (λ b. b || has w xs) e))

order : IsStrictWeakOrder before
unfolding before
order = ranks_by nat_list_cmp_total (λ (x : List ℕ). x)

pub by_id_same : (xs ys : List (List ℕ)) → Apart xs → Apart ys → ((x : List ℕ) → has x xs ≡ has x ys) → by_id xs ≡ by_id ys
by_id_same xs ys a b same =
    sorted_alike before order xs ys (λ w. ap (λ p. filter p xs) (λ i x. ties-is w x i) ∙ one_left w xs a ∙ ap (λ c. cond c (w ∷ []) []) (same w) ∙ sym (one_left w ys b) ∙ ap (λ p. filter p ys) (λ i x. sym (ties-is w x) i))
