-- Parents by their places.
use Rattle.std.proofs.Common.{◌≡◌, ℕ, ◌+◌, ◌<◌, ◌≤◌, ◌⊎◌, inl, inr, List, [], ◌∷◌, ◌++◌, length, map, take, get_or}
use Rattle.std.proofs.Common.{Bool, true, false, cond, refl, sym, ap, ap₂, ◌∙◌, arith}
use Rattle.std.proofs.lemmas.List.{get_or_read, get_or_past, take_all, take_more, get_or-map, length-map}
use Rattle.ss_record.specs.Ids.{has, places, roots, unfiled}
use Rattle.ss_record.specs.Kinds.{is_folder}
use Rattle.ss_build.specs.declared.claims.Claim.{Claim}
use Rattle.ss_build.specs.Built.{built_parent, comes_back, empty_root, ids, proposed_parents}
use Rattle.ss_build.specs.Marks.{AreCircles}
use Rattle.ss_build.specs.Places.{AreItems, IsNext, at, next_of, parents_of, place}
use Rattle.ss_build.proofs.Items.{In, In_has, AreClaims}
use Rattle.ss_build.proofs.Valid.{length-ids, proposed_cases}
use Rattle.ss_build.proofs.Hops.{circles_told}
use Rattle.ss_build.proofs.Seats.{place_le, place_none, at_place, id_at, has_at}
use Rattle.ss_build.proofs.Chosen.{at_own, place_in}

pub claims_from : (es : List Claim) → AreItems es → AreClaims es
claims_from es a = record {
  apart = a.apart;
  no_places = a.no_places;
  roots_in = a.roots_in;
  root_folder = λ e i h.
      let own : at es (place e.item.id (ids es)) ≡ e = at_own es e a.apart i in
      ap (λ z. is_folder z.item.kind) (sym own) ∙ a.root_folder (place e.item.id (ids es)) (place_in es e i) (ap (λ z. has z.item.id roots) own ∙ h);
}

-- the id at the place of an id that is an item's, or `places`
pub back_at_place : (es : List Claim) (y : List ℕ) → AreItems es → (has y (ids es) ≡ true) ⊎ (y ≡ places) → get_or (ids es) (place y (ids es)) places ≡ y
back_at_place es y a (inl h) = at_place y (ids es) places h
back_at_place es y a (inr q) =
    let p : place y (ids es) ≡ length (ids es) = ap (λ w. place w (ids es)) q ∙ place_none places (ids es) a.no_places in
    get_or_past (ids es) (place y (ids es)) places (omega arith) ∙ sym q

proposed_known : (es : List Claim) → AreItems es → (x : List ℕ) → has x (ids es) ≡ true → (has (proposed_parents es x) (ids es) ≡ true) ⊎ (proposed_parents es x ≡ places)
proposed_known es a x h = go (proposed_cases es (claims_from es a) x h)
  where
    go : ((has x roots ≡ true) × (proposed_parents es x ≡ places)) ⊎ ((f : Claim) × In f es × (is_folder f.item.kind ≡ true) × (proposed_parents es x ≡ f.item.id)) → (has (proposed_parents es x) (ids es) ≡ true) ⊎ (proposed_parents es x ≡ places)
    go (inl p) = inr p.1
    go (inr p) = inl (ap (λ w. has w (ids es)) p.3 ∙ In_has es p.0 p.1)

pub next_is : (es : List Claim) (next : List ℕ) → AreItems es → next ≡ next_of es → IsNext es next
unfolding next_of
next_is es next a e = record { same_length = n; each = each }
  where
    n : length next ≡ length es
    n = ap length e ∙ length-map es (λ e. place (proposed_parents es e.item.id) (ids es))

    each : (i : ℕ) → i < length next → proposed_parents es (get_or (ids es) i places) ≡ get_or (ids es) (get_or next i 0) places
    each i l =
        let s : length (ids es) ≡ length es = length-ids es in
        let k : length next ≡ length es = n in
        let m : i < length es = omega arith in
        let here : get_or next i 0 ≡ place (proposed_parents es (get_or (ids es) i places)) (ids es) = ap (λ w. get_or w i 0) e ∙ (get_or-map (λ e. place (proposed_parents es e.item.id) (ids es)) es i (empty_root places) 0 m ∙ ap (λ x. place (proposed_parents es x) (ids es)) (sym (id_at es i))) in
        sym (ap (λ k. get_or (ids es) k places) here ∙ back_at_place es (proposed_parents es (get_or (ids es) i places)) a (proposed_known es a (get_or (ids es) i places) (has_at (ids es) i places (omega arith))))

pub next_bounded : (es : List Claim) (next : List ℕ) → next ≡ next_of es → (i d : ℕ) → i < length next → get_or next i d ≤ length next
unfolding next_of
next_bounded es next e i d l =
    let n : length next ≡ length es = ap length e ∙ length-map es (λ e. place (proposed_parents es e.item.id) (ids es)) in
    let s : length (ids es) ≡ length es = length-ids es in
    let m : i < length es = omega arith in
    let here : get_or next i d ≡ place (proposed_parents es (at es i).item.id) (ids es) = ap (λ w. get_or w i d) e ∙ get_or-map (λ e. place (proposed_parents es e.item.id) (ids es)) es i (empty_root places) d m in
    let le : place (proposed_parents es (at es i).item.id) (ids es) ≤ length (ids es) = place_le (proposed_parents es (at es i).item.id) (ids es) in
    omega arith

pub parent_more : (es : List Claim) (next parents : List ℕ) (circles : List Bool) (fallback i v n : ℕ) (b : Bool) → AreItems es → i < length next
    → next ≡ next_of es → AreCircles next circles → fallback ≡ place unfiled (ids es) → b ≡ get_or circles i b → n ≡ get_or next i n → parents ≡ take i (parents_of es)
    → v ≡ cond b fallback n → parents ++ v ∷ [] ≡ take (i + 1) (parents_of es)
unfolding parents_of next_of built_parent
parent_more es next parents circles fallback i v n b a l e c f br nr p w =
    ap₂ (λ x y. x ++ y ∷ []) p (w ∙ (same ∙ sym (get_or-map (λ e. place (built_parent es e.item.id) (ids es)) es i (empty_root places) 0 m)))
    ∙ sym (take_more (map (λ e. place (built_parent es e.item.id) (ids es)) es) i 0 (let k : length (map (λ e. place (built_parent es e.item.id) (ids es)) es) ≡ length es = length-map es (λ e. place (built_parent es e.item.id) (ids es)) in let j : i < length es = m in omega arith))
  where
    len : length next ≡ length es
    len = ap length e ∙ length-map es (λ e. place (proposed_parents es e.item.id) (ids es))

    m : i < length es
    m = let k : length next ≡ length es = len in omega arith

    x : List ℕ
    x = (at es i).item.id

    told : b ≡ comes_back (proposed_parents es) (length es) (at es i).item.id
    told =
        get_or_read circles i b (let k : length circles ≡ length next = c.same_length in omega arith) br false
        ∙ (circles_told es (claims_from es a) next (next_is es next a e) circles c i l ∙ ap (comes_back (proposed_parents es) (length es)) (id_at es i))

    here : n ≡ place (proposed_parents es (at es i).item.id) (ids es)
    here = nr ∙ (ap (λ w. get_or w i n) e ∙ get_or-map (λ e. place (proposed_parents es e.item.id) (ids es)) es i (empty_root places) n m)

    into : (b : Bool) → cond b (place unfiled (ids es)) (place (proposed_parents es (at es i).item.id) (ids es)) ≡ place (cond b unfiled (proposed_parents es (at es i).item.id)) (ids es)
    into true = refl
    into false = refl

    same : cond b fallback n ≡ place (cond (comes_back (proposed_parents es) (length es) (at es i).item.id) unfiled (proposed_parents es (at es i).item.id)) (ids es)
    same = ap₂ (λ x y. cond b x y) f here ∙ (into b ∙ ap (λ z. place (cond z unfiled (proposed_parents es (at es i).item.id)) (ids es)) told)

pub parents_all : (es : List Claim) (parents : List ℕ) (i : ℕ) → length es ≤ i → parents ≡ take i (parents_of es) → parents ≡ parents_of es
unfolding parents_of
parents_all es parents i l n = n ∙ take_all i (map (λ e. place (built_parent es e.item.id) (ids es)) es) (let m : length (map (λ e. place (built_parent es e.item.id) (ids es)) es) ≡ length es = length-map es (λ e. place (built_parent es e.item.id) (ids es)) in omega arith)

pub next_length : (es : List Claim) (next : List ℕ) → next ≡ next_of es → length next ≡ length es
unfolding next_of
next_length es next e = ap length e ∙ length-map es (λ e. place (proposed_parents es e.item.id) (ids es))
