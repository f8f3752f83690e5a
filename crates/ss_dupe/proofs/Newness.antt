-- The new items under a parent, one after the other.
use Rattle.std.proofs.Common.{◌≡◌, ◌⊎◌, ℕ, zero, suc, ◌+◌, ◌<◌, ◌≤◌, ◌&&◌, Bool, true, false, cond, List, [], ◌∷◌, ◌++◌}
use Rattle.std.proofs.Common.{length, take, get_or, map, filter, count_by, bytes_eq, Option, Some, unwrap_or, refl, sym}
use Rattle.std.proofs.Common.{ap, subst, ◌∙◌, inl, inr, arith}
use Rattle.std.proofs.lemmas.List.{take_more}
use Rattle.std.proofs.lemmas.List.Sums.{count_by-le-length, count_by_more_yes, count_by_more_no}
use Rattle.std.specs.List.{before_first}
use Rattle.ss_record.specs.Ids.{has, Apart}
use Rattle.ss_tree.specs.Trees.{PlacedItem}
use Rattle.ss_dupe.specs.declared.sides.Side.{Side}
use Rattle.ss_dupe.specs.declared.news.New.{New}
use Rattle.ss_dupe.specs.Looks.{Id, is_in, children_of}
use Rattle.ss_dupe.specs.Keys.{key_of}
use Rattle.ss_dupe.specs.Sides.{Sides, tree_of, is_new}
use Rattle.ss_dupe.specs.Pairs.{key_on, new_like, rank}
use Rattle.ss_dupe.specs.News.{new_at}
use Rattle.ss_dupe.proofs.Basics.{same-is, has-head, has-tail, same-apart}
use Rattle.ss_dupe.proofs.Shapes.{at-of}
use Rattle.ss_dupe.proofs.OneEach.{before-hit, before-miss}
use Rattle.std.proofs.lemmas.Bool.{cases_Bool}
use Rattle.ss_text.proofs.Basics.{both_left, same_text, no_way}

pub key-is : (s : Sides) (side : Side) (x : Id) (n : PlacedItem) → tree_of s side x ≡ Some n → key_of n.kind n.content ≡ key_on s side x
key-is s side x n e = ap (λ (m : PlacedItem). key_of m.kind m.content) (sym (at-of (tree_of s side) x n e))

pub has-at : (xs : List Id) (i : ℕ) (y : Id) → i < length xs → y ≡ get_or xs i y → has y xs ≡ true
has-at [] i y lt e = absurd (omega arith)
has-at (x ∷ xs) zero y lt e = has-head y x xs e
has-at (x ∷ xs) (suc i) y lt e = has-tail y x xs (has-at xs i y (omega arith) e)

-- what stands before an id is what was passed
pub before-at : (xs : List Id) (i : ℕ) (y : Id) → Apart xs → i < length xs → y ≡ get_or xs i y → before_first (bytes_eq y) xs ≡ take i xs
unfolding Apart
before-at [] i y a lt e = absurd (omega arith)
before-at (x ∷ xs) zero y a lt e = before-hit y x xs (same-is y x e)
before-at (x ∷ xs) (suc i) y a lt e =
    let inside = has-at xs i y (omega arith) e in
    before-miss y x xs (same-apart y x (λ q. no_way (has x xs) (subst (λ z. has z xs ≡ true) q inside) a.0)) ∙ ap (λ l. x ∷ l) (before-at xs i y a.1 (omega arith) e)

filter-end : (p : Id → Bool) (xs : List Id) (y : Id) → filter p (xs ++ y ∷ []) ≡ filter p xs ++ cond (p y) (y ∷ []) []
filter-end p [] y = cases (p y)
  where
    cases : (b : Bool) → cond b (y ∷ []) [] ≡ cond b (y ∷ []) []
    cases b = refl
filter-end p (x ∷ xs) y = cases (p x) (filter-end p xs y)
  where
    cases : (b : Bool) → filter p (xs ++ y ∷ []) ≡ filter p xs ++ cond (p y) (y ∷ []) [] → cond b (x ∷ filter p (xs ++ y ∷ [])) (filter p (xs ++ y ∷ [])) ≡ cond b (x ∷ filter p xs) (filter p xs) ++ cond (p y) (y ∷ []) []
    cases true h = ap (λ l. x ∷ l) h
    cases false h = h

map-end : (f : Id → New) (xs ys : List Id) → map f (xs ++ ys) ≡ map f xs ++ map f ys
map-end f [] ys = refl
map-end f (x ∷ xs) ys = ap (λ l. f x ∷ l) (map-end f xs ys)

rank_of : (s : Sides) (side : Side) (parent y : Id) → count_by (new_like s side (key_on s side y)) (before_first (bytes_eq y) (children_of (tree_of s side) parent)) ≡ rank s side parent y
unfolding rank
rank_of s side parent y = refl

-- the new items among those seen, and how often each key was met
pub record Met (s : Sides) (side : Side) (parent : Id) (seen : List Id) (news : List New) (counts : List ℕ → Option ℕ) : Type 0 where
  pub told : news ≡ map (new_at s side parent) (filter (is_new s side) seen)
  pub counted : (k : List ℕ) → unwrap_or (counts k) 0 ≡ count_by (new_like s side k) seen

module _ (s : Sides) (side : Side) (parent : Id) (xs : List Id) (i : ℕ) (y : Id) (lt : i < length xs) (is_y : y ≡ get_or xs i y) where
  pub passed_over : (news : List New) (counts : List ℕ → Option ℕ) → is_new s side y ≡ false → Met s side parent (take i xs) news counts → Met s side parent (take (i + 1) xs) news counts
  passed_over news counts old m = record {
    told = m.told ∙ ap (map (new_at s side parent)) (sym (ap (filter (is_new s side)) more ∙ filter-end (is_new s side) (take i xs) y ∙ ap (λ b. filter (is_new s side) (take i xs) ++ cond b (y ∷ []) []) old ∙ nothing_more (filter (is_new s side) (take i xs))));
    counted = λ k. m.counted k ∙ sym (count_by_more_no (new_like s side k) xs i y lt (ap (λ z. new_like s side k z) (sym is_y) ∙ ap (λ b. b && bytes_eq (key_on s side y) k) old));
  }
    where
      more : take (i + 1) xs ≡ take i xs ++ y ∷ []
      more = take_more xs i y lt ∙ ap (λ z. take i xs ++ z ∷ []) (sym is_y)

      nothing_more : {X : Type 0} (zs : List X) → zs ++ [] ≡ zs
      nothing_more [] = refl
      nothing_more (z ∷ zs) = ap (λ l. z ∷ l) (nothing_more zs)

  pub taken_up : Apart xs → xs ≡ children_of (tree_of s side) parent → (news later : List New) (counts after : List ℕ → Option ℕ) (n : New) → is_new s side y ≡ true → Met s side parent (take i xs) news counts →
      n.id ≡ y → n.mark.key ≡ key_on s side y → n.mark.rank ≡ unwrap_or (counts n.mark.key) 0 → later ≡ news ++ n ∷ [] →
      ((k : List ℕ) → after k ≡ cond (bytes_eq n.mark.key k) (Some (n.mark.rank + 1)) (counts k)) → Met s side parent (take (i + 1) xs) later after
  taken_up apart children news later counts after n new m id_is key_is rank_is then updated = record {
    told = then ∙ ap (λ l. l ++ n ∷ []) m.told ∙ ap (λ z. map (new_at s side parent) (filter (is_new s side) (take i xs)) ++ z ∷ []) entry_is
        ∙ sym (ap (λ l. map (new_at s side parent) (filter (is_new s side) l)) more
        ∙ ap (map (new_at s side parent)) (filter-end (is_new s side) (take i xs) y ∙ ap (λ b. filter (is_new s side) (take i xs) ++ cond b (y ∷ []) []) new)
        ∙ map-end (new_at s side parent) (filter (is_new s side) (take i xs)) (y ∷ []));
    counted = λ k. counts_at k (cases_Bool (bytes_eq n.mark.key k));
  }
    where
      more : take (i + 1) xs ≡ take i xs ++ y ∷ []
      more = take_more xs i y lt ∙ ap (λ z. take i xs ++ z ∷ []) (sym is_y)

      ranked : n.mark.rank ≡ rank s side parent y
      ranked =
          rank_is ∙ m.counted n.mark.key ∙ ap (λ k. count_by (new_like s side k) (take i xs)) key_is
          ∙ ap (count_by (new_like s side (key_on s side y))) (sym (before-at xs i y apart lt is_y) ∙ ap (before_first (bytes_eq y)) children) ∙ rank_of s side parent y

      entry_is : n ≡ new_at s side parent y
      entry_is = λ j. record { id = id_is j; mark = record { key = key_is j; rank = ranked j } }

      like_is : (k : List ℕ) → new_like s side k y ≡ bytes_eq n.mark.key k
      like_is k = ap (λ b. b && bytes_eq (key_on s side y) k) new ∙ ap (λ z. bytes_eq z k) (sym key_is)

      counts_at : (k : List ℕ) → (bytes_eq n.mark.key k ≡ true) ⊎ (bytes_eq n.mark.key k ≡ false) → unwrap_or (after k) 0 ≡ count_by (new_like s side k) (take (i + 1) xs)
      counts_at k (inl hit) =
          ap (λ o. unwrap_or o 0) (updated k ∙ ap (λ b. cond b (Some (n.mark.rank + 1)) (counts k)) hit)
          ∙ ap (λ r. r + 1) (rank_is ∙ ap (λ z. unwrap_or (counts z) 0) (same_text n.mark.key k hit) ∙ m.counted k)
          ∙ sym (count_by_more_yes (new_like s side k) xs i y lt (ap (new_like s side k) (sym is_y) ∙ like_is k ∙ hit))
      counts_at k (inr miss) =
          ap (λ o. unwrap_or o 0) (updated k ∙ ap (λ b. cond b (Some (n.mark.rank + 1)) (counts k)) miss) ∙ m.counted k
          ∙ sym (count_by_more_no (new_like s side k) xs i y lt (ap (new_like s side k) (sym is_y) ∙ like_is k ∙ miss))

  pub rank_fits : (news : List New) (counts : List ℕ → Option ℕ) (k : List ℕ) (r : ℕ) → Met s side parent (take i xs) news counts → r ≡ unwrap_or (counts k) 0 → r ≤ i
  rank_fits news counts k r m e =
      let is : r ≡ count_by (new_like s side k) (take i xs) = e ∙ m.counted k in
      let le = count_by-le-length (new_like s side k) (take i xs) in
      let short : length (take i xs) ≤ i = length_taken i xs in
      omega arith
    where
      length_taken : (j : ℕ) (zs : List Id) → length (take j zs) ≤ j
      length_taken zero zs = omega arith
      length_taken (suc j) [] = omega arith
      length_taken (suc j) (z ∷ zs) = let le = length_taken j zs in omega arith

pub new-inside : (s : Sides) (side : Side) (x : Id) → is_new s side x ≡ true → is_in (tree_of s side) x ≡ true
unfolding is_new
new-inside s side x h = both_left (is_in (tree_of s side) x) _ h
