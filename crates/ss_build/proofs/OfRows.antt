-- The claims of rows with distinct ids, and so the built tree.
use Rattle.std.proofs.Common.{◌≡◌, ◌≢◌, ℕ, List, [], ◌∷◌, ◌++◌, map, Bool, true, false, not, ◌&&◌, ◌||◌, ◌⊎◌, inl, inr}
use Rattle.std.proofs.Common.{refl, sym, ap, ap₂, ◌∙◌, subst, filter, filter_map, bytes_eq, Option, Some, None}
use Rattle.std.specs.List.{cons_option}
use Rattle.std.proofs.lemmas.Bool.{false≢true, false_from_ne_true}
use Rattle.ss_build.specs.Built.{built, claims, empty_root, ids, with_roots}
use Rattle.ss_build.specs.Rows.{Row, claim_at, claim_of}
use Rattle.ss_build.specs.declared.claims.Claim.{Claim}
use Rattle.ss_record.specs.Ids.{Apart, has, places, roots}
use Rattle.ss_record.specs.Kinds.{is_folder}
use Rattle.ss_record.specs.declared.readings.Reading.{Reading}
use Rattle.ss_record.specs.declared.readings.Reading.TheVariants.{Item, Skipped, Tombstone}
use Rattle.ss_tree.specs.Trees.{IsValidTree}
use Rattle.ss_record.proofs.IdLists.{has-nil, has-cons, has-head, has-tail, has-filter, has-append, Apart-nil}
use Rattle.ss_record.proofs.IdLists.{Apart-cons, Apart-head, Apart-tail, Apart-filter, Apart-append}
use Rattle.ss_build.proofs.Items.{In, AreClaims, places_no_root, Apart-roots}
use Rattle.ss_build.proofs.Valid.{tree_of_valid}
use Rattle.ss_record.proofs.OfId.{IsRead}
use Rattle.ss_text.proofs.Basics.{same_text}

-- rows with distinct ids, each as its payload reads
pub record AreRows (rows : List Row) : Type 0 where
  pub apart : Apart (map (λ r. r.id) rows)
  pub reads : (r : Row) → In r rows → IsRead r.id r.reading

AreRows-tail : (r : Row) (rows : List Row) → AreRows (r ∷ rows) → AreRows rows
unfolding In
AreRows-tail r rows a = record { apart = Apart-tail r.id (map (λ s. s.id) rows) a.apart; reads = λ s i. a.reads s (inr i) }

-- what a row gives
pub record IsOf (r : Row) (e : Claim) : Type 0 where
  pub id : e.item.id ≡ r.id
  pub no_places : r.id ≢ places
  pub folder : has r.id roots ≡ true → is_folder e.item.kind ≡ true

pub of_row : (r : Row) (e : Claim) → IsRead r.id r.reading → claim_of r ≡ Some e → IsOf r e
unfolding claim_of
of_row r e h q = go r.reading refl q
  where
    go : (g : Reading) → r.reading ≡ g → claim_at r.time g ≡ Some e → IsOf r e
    go (Item i p cs) f k =
        let id : e.item.id ≡ i.id = cc in let kind : e.item.kind ≡ i.kind = cc in
        record { id = id ∙ h.same i p cs f; no_places = h.no_places i p cs f; folder = λ root. ap is_folder kind ∙ h.folder i p cs f root }
    go Tombstone f k = cc
    go Skipped f k = cc

-- at a row: the claim it gives, or none
by_claim : (A : List Claim → Type 0) (r : Row) (rows : List Row) → (claim_of r ≡ None → A (filter_map claim_of rows)) → ((e : Claim) → claim_of r ≡ Some e → A (e ∷ filter_map claim_of rows)) → A (filter_map claim_of (r ∷ rows))
by_claim A r rows none some = go (claim_of r) refl
  where
    go : (o : Option Claim) → claim_of r ≡ o → A (cons_option (claim_of r) (filter_map claim_of rows))
    go None q = subst (λ w. A (cons_option w (filter_map claim_of rows))) (sym q) (none q)
    go (Some e) q = subst (λ w. A (cons_option w (filter_map claim_of rows))) (sym q) (some e q)

pub read_from : (rows : List Row) (e : Claim) → In e (filter_map claim_of rows) → (r : Row) × In r rows × (claim_of r ≡ Some e)
unfolding In
read_from [] e i = absurd i
read_from (r ∷ rows) e i =
    by_claim (λ es. In e es → (s : Row) × In s (r ∷ rows) × (claim_of s ≡ Some e)) r rows
    (λ q j. later (read_from rows e j))
    (λ f q j. at f q j (λ k. read_from rows e k)) i
  where
    later : (s : Row) × In s rows × (claim_of s ≡ Some e) → (s : Row) × ((s ≡ r) ⊎ In s rows) × (claim_of s ≡ Some e)
    later s = (s.0, inr s.1, s.2)

    at : (f : Claim) → claim_of r ≡ Some f → (e ≡ f) ⊎ In e (filter_map claim_of rows) → (In e (filter_map claim_of rows) → (s : Row) × In s rows × (claim_of s ≡ Some e)) → (s : Row) × ((s ≡ r) ⊎ In s rows) × (claim_of s ≡ Some e)
    at f q (inl same) more = (r, inl refl, q ∙ ap Some (sym same))
    at f q (inr j) more = later (more j)

row_has : (rows : List Row) (r : Row) → In r rows → has r.id (map (λ s. s.id) rows) ≡ true
unfolding In
row_has [] r i = absurd i
row_has (s ∷ rows) r (inl q) = ap (λ w. has w.id (s.id ∷ map (λ v. v.id) rows)) q ∙ has-head s.id (map (λ v. v.id) rows)
row_has (s ∷ rows) r (inr i) = has-tail r.id s.id (map (λ v. v.id) rows) (row_has rows r i)

pub has_ids : (es : List Claim) (x : List ℕ) → has x (ids es) ≡ true → (e : Claim) × In e es × (e.item.id ≡ x)
unfolding In ids
has_ids [] x h = absurd (false≢true (sym (has-nil x) ∙ h))
has_ids (e ∷ es) x h = go (bytes_eq x e.item.id) refl (sym (has-cons x e.item.id (ids es)) ∙ h) (has_ids es x)
  where
    go : (b : Bool) → bytes_eq x e.item.id ≡ b → (b || has x (ids es)) ≡ true → (has x (ids es) ≡ true → (f : Claim) × In f es × (f.item.id ≡ x)) → (f : Claim) × ((f ≡ e) ⊎ In f es) × (f.item.id ≡ x)
    go true q k ih = (e, inl refl, sym (same_text x e.item.id q))
    go false q k ih = let f = ih k in (f.0, inr f.1, f.2)

reads_row : (rows : List Row) → AreRows rows → (x : List ℕ) → has x (ids (filter_map claim_of rows)) ≡ true → (r : Row) × In r rows × (e : Claim) × IsOf r e × (r.id ≡ x)
reads_row rows a x h =
    let e = has_ids (filter_map claim_of rows) x h in
    let r = read_from rows e.0 e.1 in
    let of : IsOf r.0 e.0 = of_row r.0 e.0 (a.reads r.0 r.1) r.2 in
    (r.0, r.1, e.0, of, sym of.id ∙ e.2)

pub reads_apart : (rows : List Row) → AreRows rows → Apart (ids (filter_map claim_of rows))
unfolding ids In
reads_apart [] a = Apart-nil
reads_apart (r ∷ rows) a =
    by_claim (λ es. Apart (ids es)) r rows (λ q. reads_apart rows (AreRows-tail r rows a)) (λ e q. Apart-cons e.item.id (ids (filter_map claim_of rows)) (apart e q) (reads_apart rows (AreRows-tail r rows a)))
  where
    apart : (e : Claim) → claim_of r ≡ Some e → has e.item.id (ids (filter_map claim_of rows)) ≡ false
    apart e q = false_from_ne_true _ (λ h.
        let s = reads_row rows (AreRows-tail r rows a) e.item.id h in
        let of : IsOf r e = of_row r e (a.reads r (inl refl)) q in
        false≢true (sym (Apart-head r.id (map (λ v. v.id) rows) a.apart) ∙ (ap (λ w. has w (map (λ v. v.id) rows)) (sym of.id ∙ sym s.4) ∙ row_has rows s.0 s.1)))

-- ---- with the roots

pub In-append : {X : Type 0} (xs ys : List X) (x : X) → In x (xs ++ ys) → In x xs ⊎ In x ys
unfolding In
In-append [] ys x i = inr i
In-append (z ∷ zs) ys x (inl q) = inl (inl q)
In-append {X} (z ∷ zs) ys x (inr i) = later (In-append zs ys x i)
  where
    later : In x zs ⊎ In x ys → ((x ≡ z) ⊎ In x zs) ⊎ In x ys
    later (inl j) = inl (inr j)
    later (inr j) = inr j

empty_folder : (rs : List (List ℕ)) (e : Claim) → In e (map empty_root rs) → is_folder e.item.kind ≡ true
unfolding In
empty_folder [] e i = absurd i
empty_folder (r ∷ rs) e (inl q) = ap (λ w. is_folder w.item.kind) q
empty_folder (r ∷ rs) e (inr i) = empty_folder rs e i

pub ids-append : (es fs : List Claim) → ids (es ++ fs) ≡ ids es ++ ids fs
unfolding ids
ids-append [] fs = refl
ids-append (e ∷ es) fs = ap (λ xs. e.item.id ∷ xs) (ids-append es fs)

ids-empty : (rs : List (List ℕ)) → ids (map empty_root rs) ≡ rs
unfolding ids
ids-empty [] = refl
ids-empty (r ∷ rs) = ap (λ xs. r ∷ xs) (ids-empty rs)

missing : List Claim → List (List ℕ)
missing es = filter (λ r. not (has r (ids es))) roots

with_roots_parts : (es : List Claim) → with_roots es ≡ es ++ map empty_root (missing es)
unfolding with_roots missing
with_roots_parts es = refl

ids-with_roots : (es : List Claim) → ids (with_roots es) ≡ ids es ++ missing es
ids-with_roots es = ap ids (with_roots_parts es) ∙ (ids-append es (map empty_root (missing es)) ∙ ap (λ xs. ids es ++ xs) (ids-empty (missing es)))

has-missing : (es : List Claim) (x : List ℕ) → has x (missing es) ≡ (has x roots && not (has x (ids es)))
unfolding missing
has-missing es x = has-filter (λ r. not (has r (ids es))) x roots

pub has-with_roots : (es : List Claim) (x : List ℕ) → has x (ids (with_roots es)) ≡ (has x (ids es) || has x roots)
has-with_roots es x = ap (has x) (ids-with_roots es) ∙ (has-append x (ids es) (missing es) ∙ (ap (λ b. has x (ids es) || b) (has-missing es x) ∙ table (has x (ids es)) (has x roots)))
  where
    table : (a b : Bool) → (a || (b && not a)) ≡ (a || b)
    table true b = refl
    table false true = refl
    table false false = refl

pub claims_are : (rows : List Row) → AreRows rows → AreClaims (claims rows)
unfolding claims missing
claims_are rows a = record {
  apart = subst Apart (sym (ids-with_roots reads))
      (Apart-append (ids reads) (missing reads) (reads_apart rows a) (Apart-filter (λ r. not (has r (ids reads))) roots Apart-roots)
      (λ x h. has-missing reads x ∙ (ap (λ b. has x roots && not b) h ∙ no (has x roots))));
  no_places = has-with_roots reads places ∙ ap₂ (λ p q. p || q) (false_from_ne_true (has places (ids reads)) (λ h. let s = reads_row rows a places h in s.3.no_places s.4)) places_no_root;
  roots_in = λ r h. has-with_roots reads r ∙ (ap (λ b. has r (ids reads) || b) h ∙ yes (has r (ids reads)));
  root_folder = λ e i h. at e h (In-append reads (map empty_root (missing reads)) e (subst (In e) (with_roots_parts reads) i));
}
  where
    reads : List Claim
    reads = filter_map claim_of rows

    no : (b : Bool) → (b && false) ≡ false
    no true = refl
    no false = refl

    yes : (b : Bool) → (b || true) ≡ true
    yes true = refl
    yes false = refl

    at : (e : Claim) → has e.item.id roots ≡ true → In e reads ⊎ In e (map empty_root (missing reads)) → is_folder e.item.kind ≡ true
    at e h (inl i) =
        let r = read_from rows e i in
        let of : IsOf r.0 e = of_row r.0 e (a.reads r.0 r.1) r.2 in
        of.folder (ap (λ w. has w roots) (sym of.id) ∙ h)
    at e h (inr i) = empty_folder (missing reads) e i

pub built_valid : (rows : List Row) → AreRows rows → IsValidTree (built rows)
unfolding built
built_valid rows a = tree_of_valid (claims rows) (claims_are rows a)
