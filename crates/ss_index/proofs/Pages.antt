-- A page needs no more than the rows that come first.
use Rattle.std.specs.Prelude.{◌≡◌, ℕ, ◌+◌, ◌-◌, ◌≤◌, ◌<◌, nat_lt, Bool, true, false, cond, List, [], ◌∷◌, ◌++◌, length}
use Rattle.std.specs.Prelude.{take, drop, filter, reverse, Option, Some, None, option_map, refl}
use Rattle.std.proofs.Common.{sym, ap, subst, inl, inr, ◌∙◌, arith, append-nil, length-append}
use Rattle.std.proofs.lemmas.Bool.Decides.{Decides-ltb}
use Rattle.std.proofs.lemmas.List.{take-append-le, drop-append-le, length-drop}
use Rattle.std.specs.declared.cmp.Ordering.TheVariants.{Greater}
use Rattle.std.specs.Ordering.{nat_cmp, ordering_then, is_lt}
use Rattle.std.specs.Cmp.{nat_cmp_is}
use Rattle.ss_text.specs.Texts.{list_with, sorted, text_cmp}
use Rattle.ss_bso.specs.declared.rows.Row.{Row}
use Rattle.ss_bso.specs.Lists.{OtherId}
use Rattle.ss_bso.proofs.Lists.{Each, Each-imp, Pairs, Pairs-filter}
use Rattle.ss_bso.proofs.Reordering.{reordered-filter}
use Rattle.ss_query.specs.declared.requests.Query.{Query}
use Rattle.ss_query.specs.declared.requests.Sort.TheVariants.{Newest, Oldest}
use Rattle.ss_query.specs.declared.replies.Picked.{Picked}
use Rattle.ss_query.specs.Answer.{answer, answer_of, comes_before, is_asked, limited_list, next_offset}
use Rattle.ss_query.proofs.Orders.{answer_of-reordered}
use Rattle.ss_index.specs.Walk.{Enough, Later, Earlier, is_past, page_end}
use Rattle.ss_index.proofs.Shelves.{reordered-reverse}

-- a list in order, of elements that come first and of others
module _ {X : Type 0} (before : X → X → Bool) where
  abbrev First : List X → X → Type 0
  First ys x = Each (λ (y : X). before y x ≡ false) ys

  placed-front : (x : X) (xs ys : List X) → First ys x → list_with before x (xs ++ ys) ≡ list_with before x xs ++ ys
  placed-front x [] [] e = refl
  placed-front x [] (y ∷ ys) e = ap (λ v. cond v (y ∷ list_with before x ys) (x ∷ y ∷ ys)) e.0
  placed-front x (z ∷ xs) ys e =
      elim (before z x) as (λ v. cond v (z ∷ list_with before x (xs ++ ys)) (x ∷ z ∷ xs ++ ys) ≡ cond v (z ∷ list_with before x xs) (x ∷ z ∷ xs) ++ ys) [
        | true ↦ ap (λ rest. z ∷ rest) (placed-front x xs ys e)
        | false ↦ refl
      ]

  Each-placed : (P : X → Type 0) (x : X) (ys : List X) → P x → Each P ys → Each P (list_with before x ys)
  Each-placed P x [] p e = (p, tt)
  Each-placed P x (y ∷ ys) p e = elim (before y x) as (λ v. Each P (cond v (y ∷ list_with before x ys) (x ∷ y ∷ ys))) [ true ↦ (e.0, Each-placed P x ys p e.1) | false ↦ (p, e) ]

  Each-sorted : (P : X → Type 0) (xs : List X) → Each P xs → Each P (sorted before xs)
  Each-sorted P [] e = tt
  Each-sorted P (x ∷ xs) e = Each-placed P x (sorted before xs) e.0 (Each-sorted P xs e.1)

  sorted-front : (xs ys : List X) → Each (First ys) xs → sorted before (xs ++ ys) ≡ sorted before xs ++ sorted before ys
  sorted-front [] ys e = refl
  sorted-front (x ∷ xs) ys e =
      ap (list_with before x) (sorted-front xs ys e.1) ∙ placed-front x (sorted before xs) (sorted before ys) (Each-sorted (λ (y : X). before y x ≡ false) ys e.0)

  length-placed : (x : X) (ys : List X) → length (list_with before x ys) ≡ length ys + 1
  length-placed x [] = refl
  length-placed x (y ∷ ys) =
      elim (before y x) as (λ v. length (cond v (y ∷ list_with before x ys) (x ∷ y ∷ ys)) ≡ length (y ∷ ys) + 1) [ true ↦ (let rest : length (list_with before x ys) ≡ length ys + 1 = length-placed x ys in omega (arith, rest)) | false ↦ omega arith ]

  length-sorted : (xs : List X) → length (sorted before xs) ≡ length xs
  length-sorted [] = refl
  length-sorted (x ∷ xs) =
      let one : length (list_with before x (sorted before xs)) ≡ length (sorted before xs) + 1 = length-placed x (sorted before xs) in
      let rest : length (sorted before xs) ≡ length xs = length-sorted xs in
      omega (arith, one, rest)

page-front : {X : Type 0} (xs ys : List X) (offset limit : ℕ) → offset + limit ≤ length xs → take limit (drop offset (xs ++ ys)) ≡ take limit (drop offset xs)
page-front xs ys offset limit le =
    ap (take limit) (drop-append-le offset xs ys (omega (arith, le)))
    ∙ take-append-le limit (drop offset xs) ys (let size : length (drop offset xs) ≡ length xs - offset = length-drop offset xs in omega (arith, size, le))

-- the query's answer over the first rows is that over all
cut-answer : (query : Query) (limit : ℕ) (found rest : List Row) → query.limit ≡ Some limit → query.offset + limit < length found → Each (First (comes_before query.sort) rest) found
    → answer_of found query ≡ answer_of (found ++ rest) query
cut-answer query limit found rest is long first =
    let before : Row → Row → Bool = comes_before query.sort in
    let one : List Row = sorted before found in
    let other : List Row = sorted before rest in
    let whole : sorted before (found ++ rest) ≡ one ++ other = sorted-front before found rest first in
    let size : length one ≡ length found = length-sorted before found in
    let both : length (one ++ other) ≡ length one + length other = length-append one other in
    let here : nat_lt (query.offset + limit) (length one) ≡ true = (Decides-ltb (query.offset + limit) (length one)).1 (omega (arith, long, size)) in
    let there : nat_lt (query.offset + limit) (length (one ++ other)) ≡ true = (Decides-ltb (query.offset + limit) (length (one ++ other))).1 (omega (arith, long, size, both)) in
    let rows : take limit (drop query.offset (one ++ other)) ≡ take limit (drop query.offset one) = page-front one other query.offset limit (omega (arith, long, size)) in
    let at_limit : picked_at (Some limit) query.offset one ≡ picked_at (Some limit) query.offset (one ++ other) =
    (λ i. record { rows = sym rows i; next = cond ((here ∙ sym there) i) (Some (query.offset + limit)) None }) in
    ap (λ o. picked_at o query.offset one) is ∙ at_limit ∙ ap (λ o. picked_at o query.offset (one ++ other)) (sym is) ∙ ap (picked_at query.limit query.offset) (sym whole)
  where
    picked_at : Option ℕ → ℕ → List Row → Picked
    picked_at limit offset found = record { rows = limited_list limit (drop offset found); next = next_offset limit offset (length found) }

-- a row of a later time doesn't come after, where the newest come first; nor one of an earlier time, where the oldest do
later-first : (row other : Row) → Later row other → comes_before Newest other row ≡ false
later-first row other later =
    let cmp : Greater ≡ nat_cmp row.modified other.modified = nat_cmp_is row.modified other.modified Greater later in
    ap (λ o. is_lt (ordering_then o (text_cmp other.id row.id))) (sym cmp)

earlier-first : (row other : Row) → Earlier row other → comes_before Oldest other row ≡ false
earlier-first row other earlier =
    let cmp : Greater ≡ nat_cmp other.modified row.modified = nat_cmp_is other.modified row.modified Greater earlier in
    ap (λ o. is_lt (ordering_then o (text_cmp other.id row.id))) (sym cmp)

-- rows that are enough for a page give the query's answer over all
module _ (R : Row → Row → Type 0) (query : Query) (first : (row other : Row) → R row other → comes_before query.sort other row ≡ false) where
  firsts : (found rest : List Row) → Each (λ (row : Row). Each (R row) rest) found → Each (First (comes_before query.sort) rest) found
  firsts found rest e = Each-imp (λ (row : Row). Each (R row) rest) (First (comes_before query.sort) rest) (λ row h. Each-imp (R row) (λ (other : Row). comes_before query.sort other row ≡ false) (λ other r. first row other r) rest h) found e

  enough-some : (limit : Option ℕ) (found rest : List Row) → query.limit ≡ limit → is_past (option_map (λ l. query.offset + l) limit) (length found) ≡ true → Each (λ (row : Row). Each (R row) rest) found
      → answer_of found query ≡ answer_of (found ++ rest) query
  enough-some None found rest is past e = cc
  enough-some (Some limit) found rest is past e = cut-answer query limit found rest is ((Decides-ltb (query.offset + limit) (length found)).0 past) (firsts found rest e)

  pub enough-answer : (all found : List Row) → Enough R (page_end query) all found → answer_of found query ≡ answer_of all query
  enough-answer all found h =
      elim h.cut [
        | inl none ↦ ap (λ (rows : List Row). answer_of rows query) (sym (append-nil found) ∙ ap (λ (rest : List Row). found ++ rest) (sym none) ∙ sym h.split)
        | inr cut ↦ enough-some query.limit found h.rest refl cut.0 cut.1 ∙ ap (λ (rows : List Row). answer_of rows query) (sym h.split)
      ]

pub enough-newest : (query : Query) (all found : List Row) → query.sort ≡ Newest → Enough Later (page_end query) all found → answer_of found query ≡ answer_of all query
enough-newest query all found is h = enough-answer Later query (λ row other r. ap (λ sort. comes_before sort other row) is ∙ later-first row other r) all found h

pub enough-oldest : (query : Query) (all found : List Row) → query.sort ≡ Oldest → Enough Earlier (page_end query) all found → answer_of found query ≡ answer_of all query
enough-oldest query all found is h = enough-answer Earlier query (λ row other r. ap (λ sort. comes_before sort other row) is ∙ earlier-first row other r) all found h

-- without a page's end they are all
pub enough-all : (R : Row → Row → Type 0) (all found : List Row) → Enough R None all found → found ≡ all
enough-all R all found h =
    elim h.cut [
      | inl none ↦ sym (append-nil found) ∙ ap (λ (rest : List Row). found ++ rest) (sym none) ∙ sym h.split
      | inr cut ↦ (let no : false ≡ true = cut.0 in cc)
    ]

-- the answer over a collection's rows, from what a walk found
module _ (query : Query) (rows found : List Row) (end : Option ℕ) (apart : Pairs OtherId rows) where
  turned : answer_of (filter (is_asked query) (reverse rows)) query ≡ answer rows query
  turned =
      sym (answer_of-reordered (filter (is_asked query) rows) (filter (is_asked query) (reverse rows)) query (reordered-filter (is_asked query) (reordered-reverse rows)) (Pairs-filter OtherId (is_asked query) rows apart))

  pub newest-answer : query.sort ≡ Newest → end ≡ page_end query → Enough Later end (filter (is_asked query) (reverse rows)) found → answer_of found query ≡ answer rows query
  newest-answer is e h =
      enough-newest query (filter (is_asked query) (reverse rows)) found is (subst (λ (o : Option ℕ). Enough Later o (filter (is_asked query) (reverse rows)) found) e h) ∙ turned

  pub all-answer : end ≡ None → Enough Later end (filter (is_asked query) (reverse rows)) found → answer_of found query ≡ answer rows query
  all-answer e h =
      ap (λ (all : List Row). answer_of all query) (enough-all Later (filter (is_asked query) (reverse rows)) found (subst (λ (o : Option ℕ). Enough Later o (filter (is_asked query) (reverse rows)) found) e h)) ∙ turned

  pub oldest-answer : query.sort ≡ Oldest → end ≡ page_end query → Enough Earlier end (filter (is_asked query) rows) found → answer_of found query ≡ answer rows query
  oldest-answer is e h = enough-oldest query (filter (is_asked query) rows) found is (subst (λ (o : Option ℕ). Enough Earlier o (filter (is_asked query) rows) found) e h)
