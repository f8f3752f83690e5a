-- Which items are kept as they were read, and the lists of claims.
use Rattle.std.proofs.Common.{◌≡◌, ℕ, zero, suc, ◌+◌, ◌<◌, ◌≤◌, ◌⊎◌, inl, inr, List, [], ◌∷◌, ◌++◌, length, map, take}
use Rattle.std.proofs.Common.{get_or, Bool, true, false, not, cond, ◌&&◌, ◌||◌, nat_lt, refl, sym, ap, ap₂, ◌∙◌, arith}
use Rattle.std.proofs.Common.{lt-ltb, filter, filter_map, bytes_eq, Option, Some, None, option_map, unwrap_or}
use Rattle.std.specs.List.{list_any, cons_option}
use Rattle.std.specs.Option.{option_to_list}
use Rattle.std.proofs.lemmas.Bool.{false≢true, false_from_ne_true}
use Rattle.std.proofs.lemmas.List.{append-nil, append_assoc, map_push, take_more, take_all, take_at, get_or-map}
use Rattle.std.proofs.lemmas.List.Elements.{filter-append, filter_map-append}
use Rattle.ss_text.specs.Names.{is_id}
use Rattle.ss_record.specs.Ids.{Apart, by_id, has, places, roots}
use Rattle.ss_record.specs.Kinds.{is_folder}
use Rattle.ss_build.specs.declared.claims.Claim.{Claim}
use Rattle.ss_build.specs.Built.{built_parent, claims, empty_root, ids, is_kept, keeps_parent, repaired, with_roots}
use Rattle.ss_build.specs.Rows.{Row, claim_of}
use Rattle.ss_build.specs.Places.{AreItems, at, as_told, parents_of, place}
use Rattle.ss_build.proofs.Items.{In, In_has}
use Rattle.ss_build.proofs.Valid.{length-ids, parent_cases}
use Rattle.ss_build.proofs.Seats.{place_lt, at_place, has_from_place, id_at, at_in}
use Rattle.ss_build.proofs.Uppers.{claims_from}
use Rattle.ss_build.proofs.Taking.{not_in_front}

-- ---- kept items

pub keeps_root : (es : List Claim) (e : Claim) → has e.item.id roots ≡ true → true ≡ keeps_parent es e
keeps_root es e h = sym (ap (λ b. b || unwrap_or (option_map (bytes_eq (built_parent es e.item.id)) e.parentid) false) h)

pub keeps_none : (es : List Claim) (e : Claim) → has e.item.id roots ≡ false → e.parentid ≡ None → false ≡ keeps_parent es e
keeps_none es e h q = sym (ap (λ b. b || unwrap_or (option_map (bytes_eq (built_parent es e.item.id)) e.parentid) false) h ∙ ap (λ o. unwrap_or (option_map (bytes_eq (built_parent es e.item.id)) o) false) q)

pub keeps_some : (es : List Claim) (parents : List ℕ) (i p : ℕ) (name : List ℕ) (b : Bool) → AreItems es → i < length es → parents ≡ parents_of es → p ≡ get_or parents i 0 → has (at es i).item.id roots ≡ false → (at es i).parentid ≡ Some name
    → b ≡ (nat_lt p (length es) && bytes_eq (at es p).item.id name) → b ≡ keeps_parent es (at es i)
unfolding parents_of
keeps_some es parents i p name b a l e q h n w =
    w ∙ (go (parent_cases es (claims_from es a) (at es i).item.id (In_has es (at es i) (at_in es i l)))
    ∙ sym (ap (λ b. b || unwrap_or (option_map (bytes_eq (built_parent es (at es i).item.id)) (at es i).parentid) false) h ∙ ap (λ o. unwrap_or (option_map (bytes_eq (built_parent es (at es i).item.id)) o) false) n))
  where
    here : p ≡ place (built_parent es (at es i).item.id) (ids es)
    here = q ∙ (ap (λ w. get_or w i 0) e ∙ get_or-map (λ e. place (built_parent es e.item.id) (ids es)) es i (empty_root places) 0 l)

    go : ((has (at es i).item.id roots ≡ true) × (built_parent es (at es i).item.id ≡ places)) ⊎ ((f : Claim) × In f es × (is_folder f.item.kind ≡ true) × (built_parent es (at es i).item.id ≡ f.item.id))
        → (nat_lt p (length es) && bytes_eq (at es p).item.id name) ≡ bytes_eq (built_parent es (at es i).item.id) name
    go (inl r) = absurd (false≢true (sym h ∙ r.0))
    go (inr f) =
        let k : has (built_parent es (at es i).item.id) (ids es) ≡ true = ap (λ w. has w (ids es)) f.3 ∙ In_has es f.0 f.1 in
        let m : place (built_parent es (at es i).item.id) (ids es) < length (ids es) = place_lt (built_parent es (at es i).item.id) (ids es) k in
        let s : length (ids es) ≡ length es = length-ids es in
        let r : p ≡ place (built_parent es (at es i).item.id) (ids es) = here in
        ap₂ (λ x y. x && bytes_eq y name) (lt-ltb p (length es) (omega arith)) (sym (id_at es p) ∙ (ap (λ k. get_or (ids es) k places) r ∙ at_place (built_parent es (at es i).item.id) (ids es) places k))

pub kept_both : (es : List Claim) (told : List Bool) (i : ℕ) (b c : Bool) → i < length es → told ≡ map (as_told es) es → b ≡ keeps_parent es (at es i) → c ≡ get_or told i false → (b && c) ≡ is_kept es (at es i)
unfolding is_kept as_told
kept_both es told i b c l e p q = ap₂ (λ x y. x && y) p (q ∙ (ap (λ w. get_or w i false) e ∙ get_or-map (as_told es) es i (empty_root places) false l))

-- the ids of those that aren't kept, one more
pub kept_more : (es : List Claim) (i : ℕ) (xs new : List (List ℕ)) (b : Bool) → i < length es → b ≡ is_kept es (at es i)
    → xs ≡ map (λ e. e.item.id) (filter (λ e. not (is_kept es e)) (take i es))
    → new ≡ cond b xs (xs ++ (at es i).item.id ∷ [])
    → new ≡ map (λ e. e.item.id) (filter (λ e. not (is_kept es e)) (take (i + 1) es))
kept_more es i xs new b l k e w =
    w ∙ (ap₂ (λ x y. cond x y (y ++ (at es i).item.id ∷ [])) k e
    ∙ (go (is_kept es (at es i))
    ∙ sym (ap (λ w. map (λ e. e.item.id) (filter (λ e. not (is_kept es e)) w)) (take_more es i (empty_root places) l) ∙ ap (map (λ e. e.item.id)) (filter-append (λ e. not (is_kept es e)) (take i es) (at es i ∷ [])))))
  where
    go : (b : Bool) → cond b (map (λ e. e.item.id) (filter (λ e. not (is_kept es e)) (take i es))) (map (λ e. e.item.id) (filter (λ e. not (is_kept es e)) (take i es)) ++ (at es i).item.id ∷ [])
        ≡ map (λ e. e.item.id) (filter (λ e. not (is_kept es e)) (take i es) ++ cond (not b) (at es i ∷ []) [])
    go true = ap (map (λ e. e.item.id)) (sym (append-nil (filter (λ e. not (is_kept es e)) (take i es))))
    go false = sym (map_push (λ e. e.item.id) (filter (λ e. not (is_kept es e)) (take i es)) (at es i))

-- ---- the index of the ids

pub keys_more : (xs keys new : List (List ℕ)) (i : ℕ) (x : List ℕ) → Apart xs → i < length xs → keys ≡ take i xs → x ≡ get_or xs i places
    → new ≡ cond (list_any (bytes_eq x) keys) keys (keys ++ x ∷ []) → new ≡ take (i + 1) xs
unfolding has
keys_more xs keys new i x a l k e w =
    w ∙ (ap₂ (λ ks y. cond (list_any (bytes_eq y) ks) ks (ks ++ y ∷ [])) k e
    ∙ (ap (λ b. cond b (take i xs) (take i xs ++ get_or xs i places ∷ [])) (not_in_front xs i places a l) ∙ sym (take_more xs i places l)))

-- ---- the roots

pub root_is_id : (i : ℕ) (d : List ℕ) → i < length roots → is_id (get_or roots i d) ≡ true
unfolding roots
root_is_id zero d l = refl
root_is_id (suc zero) d l = refl
root_is_id (suc (suc zero)) d l = refl
root_is_id (suc (suc (suc zero))) d l = refl
root_is_id (suc (suc (suc (suc i)))) d l = absurd (omega arith)

pub there : (x : List ℕ) (keys : List (List ℕ)) (i n : ℕ) → i ≡ place x keys → n ≡ length keys → i < n → has x keys ≡ true
there x keys i n e m l = has_from_place x keys (omega arith)

pub not_there : (x : List ℕ) (keys : List (List ℕ)) (i n : ℕ) → i ≡ place x keys → n ≡ length keys → n ≤ i → has x keys ≡ false
not_there x keys i n e m l = false_from_ne_true (has x keys) (λ h. let k : place x keys < length keys = place_lt x keys h in absurd (omega arith))

pub roots_more : (es old new : List Claim) (keys rs : List (List ℕ)) (i : ℕ) (r : List ℕ) → i < length rs → r ≡ get_or rs i places
    → old ≡ es ++ map empty_root (filter (λ r. not (has r keys)) (take i rs))
    → new ≡ cond (has r keys) old (old ++ empty_root r ∷ [])
    → new ≡ es ++ map empty_root (filter (λ r. not (has r keys)) (take (i + 1) rs))
roots_more es old new keys rs i r l e o w =
    w ∙ (ap₂ (λ x y. cond (has y keys) x (x ++ empty_root y ∷ [])) o e
    ∙ (go (has (get_or rs i places) keys)
    ∙ ap (λ w. es ++ map empty_root w) (sym (ap (filter (λ r. not (has r keys))) (take_more rs i places l) ∙ filter-append (λ r. not (has r keys)) (take i rs) (get_or rs i places ∷ [])))))
  where
    go : (b : Bool) → cond b (es ++ map empty_root (filter (λ r. not (has r keys)) (take i rs))) ((es ++ map empty_root (filter (λ r. not (has r keys)) (take i rs))) ++ empty_root (get_or rs i places) ∷ [])
        ≡ es ++ map empty_root (filter (λ r. not (has r keys)) (take i rs) ++ cond (not b) (get_or rs i places ∷ []) [])
    go true = ap (λ w. es ++ map empty_root w) (sym (append-nil (filter (λ r. not (has r keys)) (take i rs))))
    go false = append_assoc es (map empty_root (filter (λ r. not (has r keys)) (take i rs))) (empty_root (get_or rs i places) ∷ []) ∙ ap (λ w. es ++ w) (sym (map_push empty_root (filter (λ r. not (has r keys)) (take i rs)) (get_or rs i places)))

pub roots_all : (es all : List Claim) (keys rs : List (List ℕ)) (i : ℕ) → length rs ≤ i → rs ≡ roots → keys ≡ ids es → all ≡ es ++ map empty_root (filter (λ r. not (has r keys)) (take i rs)) → all ≡ with_roots es
unfolding with_roots
roots_all es all keys rs i l r k w = w ∙ ap₂ (λ x y. es ++ map empty_root (filter (λ r. not (has r x)) y)) k (take_all i rs l ∙ r)

-- ---- what was read

pub read_front : (rows : List Row) → take (length (filter_map claim_of rows)) (claims rows) ≡ filter_map claim_of rows
unfolding claims with_roots
read_front rows = take_at (filter_map claim_of rows) _ (length (filter_map claim_of rows)) refl

pub repaired_is : (rows : List Row) (es : List Claim) (n : ℕ) (found : List (List ℕ)) → es ≡ claims rows → n ≡ length (filter_map claim_of rows) → found ≡ by_id (map (λ e. e.item.id) (filter (λ e. not (is_kept es e)) (take n es))) → found ≡ repaired rows
unfolding repaired
repaired_is rows es n found e k w =
    w ∙ ap₂ (λ x y. by_id (map (λ e. e.item.id) (filter (λ e. not (is_kept x e)) y))) e (ap₂ take k e ∙ read_front rows)

-- one more row
pub claims_more : (rows : List Row) (i : ℕ) (r : Row) (old new : List Claim) (o : Option Claim) → i < length rows → r ≡ get_or rows i r → o ≡ claim_of r → old ≡ filter_map claim_of (take i rows)
    → new ≡ old ++ option_to_list o → new ≡ filter_map claim_of (take (i + 1) rows)
claims_more rows i r old new o l at_r e f w =
    w ∙ (ap₂ (λ x y. x ++ option_to_list y) f e
    ∙ (ap (λ w. filter_map claim_of (take i rows) ++ w) (one (claim_of r))
    ∙ (sym (filter_map-append claim_of (take i rows) (r ∷ [])) ∙ ap (filter_map claim_of) (ap (λ z. take i rows ++ z ∷ []) at_r ∙ sym (take_more rows i r l)))))
  where
    one : (o : Option Claim) → option_to_list o ≡ cons_option o []
    one None = refl
    one (Some e) = refl
