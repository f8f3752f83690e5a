-- Entries by their ids, their proposed parents and their parents.
use Rattle.std.proofs.Common.{◌≡◌, ◌≢◌, ℕ, List, [], ◌∷◌, Bool, true, false, not, cond, ◌&&◌, ◌||◌, ◌⊎◌, inl, inr, refl}
use Rattle.std.proofs.Common.{sym, ap, ◌∙◌, filter, find, bytes_eq, Option, Some, None, option_map, option_and_then}
use Rattle.std.proofs.Common.{unwrap_or}
use Rattle.std.specs.Bool.{⊤}
use Rattle.std.specs.List.{list_all}
use Rattle.std.proofs.lemmas.Bool.{or_parts, and_parts, false≢true}
use Rattle.ss_build.specs.Built.{beats, best, claim, ids, kept_if, lists, named, or_else, proposal}
use Rattle.ss_build.specs.declared.claims.Claim.{Claim}
use Rattle.ss_record.specs.Ids.{Apart, has, places, roots, unfiled}
use Rattle.ss_record.specs.Kinds.{is_folder}
use Rattle.ss_record.proofs.IdLists.{bytes_eq-refl, bytes_eq-apart, has-nil, has-cons, has-head, has-tail, Apart-head}
use Rattle.ss_record.proofs.IdLists.{Apart-tail}
use Rattle.ss_text.proofs.Basics.{same_text}

-- ---- elements of any list

unfoldable pub In : {X : Type 0} → X → List X → Type 0
In x [] = ⊥
In x (y ∷ ys) = (x ≡ y) ⊎ In x ys

pub find_in : {X : Type 0} (p : X → Bool) (xs : List X) (x : X) → find p xs ≡ Some x → In x xs × (p x ≡ true)
unfolding In
find_in p [] x e = cc
find_in {X} p (y ∷ ys) x e = go (p y) refl e (find_in p ys x)
  where
    go : (b : Bool) → p y ≡ b → cond b (Some y) (find p ys) ≡ Some x → (find p ys ≡ Some x → In x ys × (p x ≡ true)) → ((x ≡ y) ⊎ In x ys) × (p x ≡ true)
    go true f e2 ih = let same : x ≡ y = cc in (inl same, ap p same ∙ f)
    go false f e2 ih = (inr (ih e2).0, (ih e2).1)

pub In-filter : {X : Type 0} (p : X → Bool) (xs : List X) (x : X) → In x (filter p xs) → In x xs × (p x ≡ true)
unfolding In
In-filter p [] x i = absurd i
In-filter {X} p (y ∷ ys) x i = go (p y) refl i (In-filter p ys x)
  where
    go : (b : Bool) → p y ≡ b → In x (cond b (y ∷ filter p ys) (filter p ys)) → (In x (filter p ys) → In x ys × (p x ≡ true)) → ((x ≡ y) ⊎ In x ys) × (p x ≡ true)
    go true f (inl e) ih = (inl e, ap p e ∙ f)
    go true f (inr j) ih = (inr (ih j).0, (ih j).1)
    go false f j ih = (inr (ih j).0, (ih j).1)

-- ---- claims by id

pub In_has : (es : List Claim) (e : Claim) → In e es → has e.item.id (ids es) ≡ true
unfolding In ids
In_has [] e i = absurd i
In_has (f ∷ fs) e (inl q) = ap (λ x. has x.item.id (f.item.id ∷ ids fs)) q ∙ has-head f.item.id (ids fs)
In_has (f ∷ fs) e (inr i) = has-tail e.item.id f.item.id (ids fs) (In_has fs e i)

pub claim_in : (es : List Claim) (e : Claim) → Apart (ids es) → In e es → claim e.item.id es ≡ Some e
unfolding In ids claim
claim_in [] e a i = absurd i
claim_in (f ∷ fs) e a (inl q) = ap (λ b. cond b (Some f) (claim e.item.id fs)) (ap (λ x. bytes_eq x.item.id f.item.id) q ∙ bytes_eq-refl f.item.id) ∙ ap Some (sym q)
claim_in (f ∷ fs) e a (inr i) = ap (λ b. cond b (Some f) (claim e.item.id fs)) (bytes_eq-apart e.item.id f.item.id ne) ∙ claim_in fs e (Apart-tail f.item.id (ids fs) a) i
  where
    ne : e.item.id ≢ f.item.id
    ne q = false≢true (sym (Apart-head f.item.id (ids fs) a) ∙ (ap (λ x. has x (ids fs)) (sym q) ∙ In_has fs e i))

pub claim_found : (es : List Claim) (x : List ℕ) (e : Claim) → claim x es ≡ Some e → In e es × (e.item.id ≡ x)
unfolding claim
claim_found es x e q = let r = find_in (λ f. bytes_eq x f.item.id) es e q in (r.0, sym (same_text x e.item.id r.1))

pub claim_has : (es : List Claim) (x : List ℕ) (e : Claim) → claim x es ≡ Some e → has x (ids es) ≡ true
claim_has es x e q = let r = claim_found es x e q in ap (λ y. has y (ids es)) (sym r.1) ∙ In_has es e r.0

pub has_claim : (es : List Claim) (x : List ℕ) → has x (ids es) ≡ true → (e : Claim) × (claim x es ≡ Some e)
unfolding ids claim
has_claim [] x h = absurd (false≢true (sym (has-nil x) ∙ h))
has_claim (f ∷ fs) x h = go (bytes_eq x f.item.id) (sym (has-cons x f.item.id (ids fs)) ∙ h) (has_claim fs x)
  where
    go : (b : Bool) → (b || has x (ids fs)) ≡ true → (has x (ids fs) ≡ true → (e : Claim) × (claim x fs ≡ Some e)) → (e : Claim) × (cond b (Some f) (claim x fs) ≡ Some e)
    go true k ih = (f, refl)
    go false k ih = ih k

pub claim_none : (es : List Claim) (x : List ℕ) → has x (ids es) ≡ false → claim x es ≡ None
unfolding ids claim
claim_none [] x h = refl
claim_none (f ∷ fs) x h = let p = or_parts (bytes_eq x f.item.id) (has x (ids fs)) (sym (has-cons x f.item.id (ids fs)) ∙ h) in ap (λ b. cond b (Some f) (claim x fs)) p.0 ∙ claim_none fs x p.1

-- ---- what building rests on

pub record AreClaims (es : List Claim) : Type 0 where
  pub apart : Apart (ids es)
  pub no_places : has places (ids es) ≡ false
  pub roots_in : (r : List ℕ) → has r roots ≡ true → has r (ids es) ≡ true
  pub root_folder : (e : Claim) → In e es → has e.item.id roots ≡ true → is_folder e.item.kind ≡ true

pub places_no_root : has places roots ≡ false
unfolding places roots has
places_no_root = refl

pub unfiled_root : has unfiled roots ≡ true
unfolding unfiled roots has
unfiled_root = refl

pub Apart-roots : Apart roots
unfolding roots has Apart
Apart-roots = (refl, (refl, (refl, (refl, tt))))

pub root-places : (r : List ℕ) → has r roots ≡ true → r ≢ places
root-places r h e = false≢true (sym places_no_root ∙ (ap (λ x. has x roots) (sym e) ∙ h))

-- ---- proposed parents are folders

IsFolderOf : List Claim → Option Claim → Type 0
IsFolderOf es None = ⊤
IsFolderOf es (Some f) = In f es × (is_folder f.item.kind ≡ true)

found_folder : (es : List Claim) (o : Option Claim) → ((f : Claim) → o ≡ Some f → In f es × (is_folder f.item.kind ≡ true)) → IsFolderOf es o
unfolding IsFolderOf
found_folder es None h = tt
found_folder es (Some f) h = h f refl

named_folder : (es : List Claim) (e : Claim) → IsFolderOf es (named es e)
unfolding named
named_folder es e = go e.parentid
  where
    at : List ℕ → Option Claim
    at p = find (λ f. is_folder f.item.kind && bytes_eq p f.item.id) es

    go : (o : Option (List ℕ)) → IsFolderOf es (option_and_then at o)
    go None = found_folder es None (λ f q. cc)
    go (Some p) = found_folder es (at p) (λ f q. let r = find_in (λ g. is_folder g.item.kind && bytes_eq p g.item.id) es f q in (r.0, (and_parts (is_folder f.item.kind) (bytes_eq p f.item.id) r.1).0))

best_folder : (es : List Claim) (x : List ℕ) → IsFolderOf es (best (filter (λ f. lists f x) es))
unfolding best lists
best_folder es x = found_folder es (find test fs) (λ f q.
    let r = find_in test fs f q in
    let s = In-filter (λ g. is_folder g.item.kind && has x g.children) es f r.0 in
    (s.0, (and_parts (is_folder f.item.kind) (has x f.children) s.1).0))
  where
    fs : List Claim
    fs = filter (λ f. is_folder f.item.kind && has x f.children) es

    test : Claim → Bool
    test f = list_all (λ g. not (beats g f)) fs

kept_folder : (es : List Claim) (p : Claim → Bool) (o : Option Claim) → IsFolderOf es o → IsFolderOf es (kept_if p o)
unfolding kept_if IsFolderOf
kept_folder es p None h = tt
kept_folder es p (Some f) h = go (p f)
  where
    go : (b : Bool) → IsFolderOf es (cond b (Some f) None)
    go true = h
    go false = tt

or_folder : (es : List Claim) (o q : Option Claim) → IsFolderOf es o → IsFolderOf es q → IsFolderOf es (or_else o q)
unfolding or_else IsFolderOf
or_folder es None q h k = k
or_folder es (Some f) q h k = h

pub proposal_folder : (es : List Claim) → AreClaims es → (e : Claim) → (f : Claim) × In f es × (is_folder f.item.kind ≡ true) × (proposal es e ≡ f.item.id)
unfolding proposal IsFolderOf
proposal_folder es a e = go (or_else (kept_if (λ f. lists f e.item.id) (named es e)) (or_else (best (filter (λ f. lists f e.item.id) es)) (named es e)))
    (or_folder es _ _ (kept_folder es (λ f. lists f e.item.id) (named es e) (named_folder es e)) (or_folder es _ _ (best_folder es e.item.id) (named_folder es e)))
  where
    go : (o : Option Claim) → IsFolderOf es o → (f : Claim) × In f es × (is_folder f.item.kind ≡ true) × (unwrap_or (option_map (λ g. g.item.id) o) unfiled ≡ f.item.id)
    go None h =
        let u = has_claim es unfiled (a.roots_in unfiled unfiled_root) in
        let r = claim_found es unfiled u.0 u.1 in
        (u.0, r.0, a.root_folder u.0 r.0 (ap (λ x. has x roots) r.1 ∙ unfiled_root), sym r.1)
    go (Some f) h = (f, h.0, h.1, refl)
