-- What is kept once an entry was put or added.
use Rattle.std.specs.Prelude.{◌≡◌, ◌≢◌, ◌<◌, ◌≤◌, ◌⊎◌, ◌&&◌, ◌||◌, ◌==◌, ℕ, zero, suc, Bool, true, false, cond, List}
use Rattle.std.specs.Prelude.{[], ◌∷◌, ◌++◌, length, get_or, set, bytes_eq, All, Contains, Some, None, if◌then◌else◌}
use Rattle.std.specs.Prelude.{Result, Ok, Err, IfOk, OnOk, OnErr, refl}
use Rattle.std.proofs.Common.{sym, ap, ap₂, subst, ◌∙◌, arith, inl, inr}
use Rattle.std.proofs.lemmas.Bool.{eqb-true}
use Rattle.std.proofs.lemmas.List.Elements.{All-contains, All-push, All-weaker}
use Rattle.ss_bso.specs.declared.changes.Kept.{Kept}
use Rattle.ss_bso.specs.Changes.{fresh_kept}
use Rattle.ss_site.specs.Sites.{IsEntry, IsWith}
use Rattle.ss_site.specs.Tables.{TableEntry, is_at, entries_of, knows, NoneBefore, IsPlace, KeepsPlaces}
use Rattle.ss_text.proofs.Basics.{both_left, both_right, bytes_eq-same, no_way, or_true, own_number, same_text}

-- an entry stands at one place
one_place : (folder : List ℕ) (uid : ℕ) (f : List ℕ) (u : ℕ) (held : TableEntry) (b : Bool) → is_at folder uid held ≡ true → ((f ≢ folder) ⊎ (u ≢ uid)) → is_at f u held ≡ b → is_at f u held ≡ false
one_place folder uid f u held false is apart seen = seen
one_place folder uid f u held true is apart seen =
    let same_folder : f ≡ folder = sym (same_text held.folder f (both_left _ _ seen)) ∙ same_text held.folder folder (both_left _ _ is) in
    let same_uid : u ≡ uid = sym (eqb-true held.uid u (both_right (bytes_eq held.folder f) _ seen)) ∙ eqb-true held.uid uid (both_right (bytes_eq held.folder folder) _ is) in
    absurd (elim apart [ inl h ↦ h same_folder | inr h ↦ h same_uid ])

apart_from : (folder : List ℕ) (uid : ℕ) (f : List ℕ) (u : ℕ) (held : TableEntry) → is_at folder uid held ≡ true → ((f ≢ folder) ⊎ (u ≢ uid)) → is_at f u held ≡ false
apart_from folder uid f u held is apart = one_place folder uid f u held (is_at f u held) is apart refl

later : (folder : List ℕ) (uid : ℕ) (held : TableEntry) (entries : List TableEntry) (i : ℕ) → NoneBefore folder uid (held ∷ entries) (suc i) → NoneBefore folder uid entries i
later folder uid held entries i none = λ k below d. none (suc k) (omega (arith, below)) d

pub set_there : (folder : List ℕ) (uid : ℕ) (entries : List TableEntry) (i : ℕ) (new d : TableEntry) → i < length entries → is_at folder uid (get_or entries i d) ≡ true → NoneBefore folder uid entries i
    → is_at folder uid new ≡ true → IsWith folder uid new.kept (entries_of entries) (entries_of (set entries i new))
set_there folder uid [] i new d inside is none at = absurd (omega (arith, inside))
set_there folder uid (held ∷ entries) zero new d inside is none at = record {
  here = ap (λ b. cond b new.kept (entries_of entries folder uid)) at;
  others = λ f u apart. ap (λ b. cond b new.kept (entries_of entries f u)) (apart_from folder uid f u new at apart)
      ∙ sym (ap (λ b. cond b held.kept (entries_of entries f u)) (apart_from folder uid f u held is apart));
}
set_there folder uid (held ∷ entries) (suc i) new d inside is none at =
    let rest = set_there folder uid entries i new d (omega (arith, inside)) is (later folder uid held entries i none) at in
    record {
      here = ap (λ b. cond b held.kept (entries_of (set entries i new) folder uid)) (none 0 (omega arith) held) ∙ rest.here;
      others = λ f u apart. ap (λ kept. cond (is_at f u held) held.kept kept) (rest.others f u apart);
    }

pub found_there : (folder : List ℕ) (uid : ℕ) (entries : List TableEntry) (i : ℕ) (d : TableEntry) → i < length entries → is_at folder uid (get_or entries i d) ≡ true → NoneBefore folder uid entries i
    → (get_or entries i d).kept ≡ entries_of entries folder uid
found_there folder uid [] i d inside is none = absurd (omega (arith, inside))
found_there folder uid (held ∷ entries) zero d inside is none = sym (ap (λ b. cond b held.kept (entries_of entries folder uid)) is)
found_there folder uid (held ∷ entries) (suc i) d inside is none =
    found_there folder uid entries i d (omega (arith, inside)) is (later folder uid held entries i none)
    ∙ sym (ap (λ b. cond b held.kept (entries_of entries folder uid)) (none 0 (omega arith) held))

pub none_there : (folder : List ℕ) (uid : ℕ) (entries : List TableEntry) (n : ℕ) → length entries ≤ n → NoneBefore folder uid entries n → fresh_kept ≡ entries_of entries folder uid
none_there folder uid [] n long none = refl
none_there folder uid (held ∷ entries) zero long none = absurd (omega (arith, long))
none_there folder uid (held ∷ entries) (suc n) long none =
    none_there folder uid entries n (omega (arith, long)) (later folder uid held entries n none)
    ∙ sym (ap (λ b. cond b held.kept (entries_of entries folder uid)) (none 0 (omega arith) held))

with_fresh : (entries : List TableEntry) (held : TableEntry) → held.kept ≡ fresh_kept → (f : List ℕ) (u : ℕ) → entries_of (entries ++ held ∷ []) f u ≡ entries_of entries f u
with_fresh [] held fresh f u = elim (is_at f u held) as (λ b. cond b held.kept fresh_kept ≡ fresh_kept) [ true ↦ fresh | false ↦ refl ]
with_fresh (first ∷ entries) held fresh f u = ap (λ kept. cond (is_at f u first) first.kept kept) (with_fresh entries held fresh f u)

pub added_there : (entries : List TableEntry) (held : TableEntry) → held.kept ≡ fresh_kept → entries_of (entries ++ held ∷ []) ≡ entries_of entries
added_there entries held fresh = λ i f u. with_fresh entries held fresh f u i

-- once the first entry of a place was changed
pub set_told : (folder : List ℕ) (uid : ℕ) (was entries : List TableEntry) (i : ℕ) (element new : TableEntry) (kept : Kept) → was ≡ entries → IsPlace folder uid was (Some i) → element ≡ get_or entries i element
    → new ≡ record element { kept = kept } → IsWith folder uid kept (entries_of was) (entries_of (set entries i new))
set_told folder uid was entries i element new kept same place here is =
    let Q : List TableEntry → Type 0 = λ old. IsPlace folder uid old (Some i) → IsWith folder uid kept (entries_of old) (entries_of (set entries i new)) in
    let there : Q entries = λ place. (let at : is_at folder uid new ≡ true = ap (is_at folder uid) is ∙ ap (is_at folder uid) here ∙ place.1 element in
    subst (λ (k : Kept). IsWith folder uid k (entries_of entries) (entries_of (set entries i new))) (ap (λ (h : TableEntry). h.kept) is)
    (set_there folder uid entries i new element place.0 (place.1 element) place.2 at)) in
    subst Q (sym same) there place

-- what the first entry of a place keeps
pub found_told : (folder : List ℕ) (uid : ℕ) (was entries : List TableEntry) (i : ℕ) (element : TableEntry) → was ≡ entries → IsPlace folder uid was (Some i) → element ≡ get_or entries i element
    → element.kept ≡ entries_of was folder uid
found_told folder uid was entries i element same place here =
    let Q : List TableEntry → Type 0 = λ old. IsPlace folder uid old (Some i) → element.kept ≡ entries_of old folder uid in
    let there : Q entries = λ place. ap (λ (h : TableEntry). h.kept) here ∙ found_there folder uid entries i element place.0 (place.1 element) place.2 in
    subst Q (sym same) there place

-- an element put in its own place
put_back : (entries : List TableEntry) (i : ℕ) (element : TableEntry) → element ≡ get_or entries i element → i < length entries → set entries i element ≡ entries
put_back [] i element here inside = absurd (omega (arith, inside))
put_back (held ∷ entries) zero element here inside = ap (λ (h : TableEntry). h ∷ entries) here
put_back (held ∷ entries) (suc i) element here inside = ap (λ (hs : List TableEntry). held ∷ hs) (put_back entries i element here (omega (arith, inside)))

pub same_told : (folder : List ℕ) (uid : ℕ) (was entries : List TableEntry) (i : ℕ) (element new : TableEntry) → was ≡ entries → IsPlace folder uid was (Some i) → element ≡ get_or entries i element → new ≡ element
    → entries_of (set entries i new) ≡ entries_of was
same_told folder uid was entries i element new same place here is =
    let inside : i < length entries = subst (λ (old : List TableEntry). i < length old) same place.0 in
    ap (λ (h : TableEntry). entries_of (set entries i h)) is ∙ ap entries_of (put_back entries i element here inside) ∙ ap entries_of (sym same)

pub no_place : (folder : List ℕ) (uid : ℕ) (entries : List TableEntry) → IsPlace folder uid entries None → fresh_kept ≡ entries_of entries folder uid
no_place folder uid entries none = none_there folder uid entries (length entries) (omega arith) none

pub added_or_not : {E : Type 0} (r : Result (Unit {0}) E) (old new : List TableEntry) (held : TableEntry) → held.kept ≡ fresh_kept → IfOk r (λ done. new ≡ old ++ held ∷ []) → OnErr r (new ≡ old) → entries_of new ≡ entries_of old
added_or_not (Ok done) old new held fresh added refused = ap entries_of added ∙ added_there old held fresh
added_or_not (Err fault) old new held fresh added refused = ap entries_of refused

pub with_ok : {T E : Type 0} (r : Result T E) (P Q : T → Type 0) → ((value : T) → P value → Q value) → IfOk r P → IfOk r Q
with_ok (Ok value) P Q so is = so value is
with_ok (Err fault) P Q so is = is

-- what a table keeps is the entry, told or not
pub entry_told : (folder : List ℕ) (uid : ℕ) (kept : Kept) (told : Bool) (table : List TableEntry) → kept ≡ entries_of table folder uid → IsEntry folder uid (Some kept) (if told then Some (entries_of table) else None)
entry_told folder uid kept true table same = ap Some same
entry_told folder uid kept false table same = tt

-- ---- folders and uids that have entries

or_on : (b c d : Bool) → (c ≡ true → d ≡ true) → (b || c) ≡ true → (b || d) ≡ true
or_on true c d so is = refl
or_on false c d so is = so is

known_there : (folder : List ℕ) (uid : ℕ) (entries : List TableEntry) (i : ℕ) (d : TableEntry) → i < length entries → is_at folder uid (get_or entries i d) ≡ true → knows entries (folder, uid) ≡ true
known_there folder uid [] i d inside is = absurd (omega (arith, inside))
known_there folder uid (held ∷ entries) zero d inside is = ap (λ b. b || knows entries (folder, uid)) is
known_there folder uid (held ∷ entries) (suc i) d inside is =
    ap (λ b. is_at folder uid held || b) (known_there folder uid entries i d (omega (arith, inside)) is) ∙ or_true (is_at folder uid held)

unknown : (folder : List ℕ) (uid : ℕ) (entries : List TableEntry) (n : ℕ) → length entries ≤ n → NoneBefore folder uid entries n → knows entries (folder, uid) ≡ false
unknown folder uid [] n long none = refl
unknown folder uid (held ∷ entries) zero long none = absurd (omega (arith, long))
unknown folder uid (held ∷ entries) (suc n) long none =
    ap₂ (λ a b. a || b) (none 0 (omega arith) held) (unknown folder uid entries n (omega (arith, long)) (later folder uid held entries n none))

-- an entry that has the folder and uid of the one in whose place it is put
known_put : (entries : List TableEntry) (i : ℕ) (element new : TableEntry) (place : List ℕ × ℕ) → element ≡ get_or entries i element → i < length entries → new.folder ≡ element.folder → new.uid ≡ element.uid
    → knows (set entries i new) place ≡ knows entries place
known_put [] i element new place here inside folder uid = absurd (omega (arith, inside))
known_put (held ∷ entries) zero element new place here inside folder uid =
    ap₂ (λ (f : List ℕ) (u : ℕ). (bytes_eq f place.0 && u == place.1) || knows entries place) (folder ∙ ap (λ (h : TableEntry). h.folder) here) (uid ∙ ap (λ (h : TableEntry). h.uid) here)
known_put (held ∷ entries) (suc i) element new place here inside folder uid =
    ap (λ b. is_at place.0 place.1 held || b) (known_put entries i element new place here (omega (arith, inside)) folder uid)

known_pushed : (entries : List TableEntry) (held : TableEntry) (place : List ℕ × ℕ) → knows entries place ≡ true → knows (entries ++ held ∷ []) place ≡ true
known_pushed [] held place is = no_way false is refl
known_pushed (first ∷ entries) held place is =
    or_on (is_at place.0 place.1 first) (knows entries place) (knows (entries ++ held ∷ []) place) (known_pushed entries held place) is

known_last : (folder : List ℕ) (uid : ℕ) (entries : List TableEntry) (held : TableEntry) → is_at folder uid held ≡ true → knows (entries ++ held ∷ []) (folder, uid) ≡ true
known_last folder uid [] held is = ap (λ b. b || false) is
known_last folder uid (first ∷ entries) held is = ap (λ b. is_at folder uid first || b) (known_last folder uid entries held is) ∙ or_true (is_at folder uid first)

pub not_there : (folder : List ℕ) (uid : ℕ) (entries : List TableEntry) → IsPlace folder uid entries None → knows entries (folder, uid) ≡ true → ⊥
not_there folder uid entries none there = no_way (knows entries (folder, uid)) there (unknown folder uid entries (length entries) (omega arith) none)

pub keeps_put : (folder : List ℕ) (uid : ℕ) (was entries : List TableEntry) (i : ℕ) (element new : TableEntry) → was ≡ entries → IsPlace folder uid was (Some i) → element ≡ get_or entries i element
    → new.folder ≡ element.folder → new.uid ≡ element.uid → KeepsPlaces was (set entries i new)
keeps_put folder uid was entries i element new same found here f u place there =
    let inside : i < length entries = subst (λ (old : List TableEntry). i < length old) same found.0 in
    known_put entries i element new place here inside f u ∙ ap (λ (old : List TableEntry). knows old place) (sym same) ∙ there

-- where one was found it is known, and known still
pub found_known : {E : Type 0} (r : Result Kept E) (folder : List ℕ) (uid : ℕ) (was new : List TableEntry) (i : ℕ) (d : TableEntry) → IsPlace folder uid was (Some i) → KeepsPlaces was new → OnOk r (knows new (folder, uid) ≡ true)
found_known (Ok kept) folder uid was new i d found keeps = keeps (folder, uid) (known_there folder uid was i d found.0 (found.1 d))
found_known (Err fault) folder uid was new i d found keeps = tt

pub keeps_itself : (old new : List TableEntry) → new ≡ old → KeepsPlaces old new
keeps_itself old new same place there = ap (λ (es : List TableEntry). knows es place) same ∙ there

pub keeps_pushed : {E : Type 0} (r : Result (Unit {0}) E) (old new : List TableEntry) (held : TableEntry) → IfOk r (λ done. new ≡ old ++ held ∷ []) → OnErr r (new ≡ old) → KeepsPlaces old new
keeps_pushed (Ok done) old new held added refused place there = ap (λ (es : List TableEntry). knows es place) added ∙ known_pushed old held place there
keeps_pushed (Err fault) old new held added refused place there = keeps_itself old new refused place there

pub knows_pushed : {E : Type 0} (r : Result (Unit {0}) E) (folder : List ℕ) (old new : List TableEntry) (held : TableEntry) → held.folder ≡ folder → IfOk r (λ done. new ≡ old ++ held ∷ []) → OnOk r (knows new (folder, held.uid) ≡ true)
knows_pushed (Ok done) folder old new held named added =
    ap (λ (es : List TableEntry). knows es (folder, held.uid)) added ∙ known_last folder held.uid old held (ap₂ (λ a b. a && b) (bytes_eq-same held.folder folder named) (own_number held.uid))
knows_pushed (Err fault) folder old new held named added = tt

-- ---- keepers that were given

pub known_still : (keepers : List (List ℕ × ℕ)) (old new : List TableEntry) → KeepsPlaces old new → All (λ (p : List ℕ × ℕ). knows old p ≡ true) keepers → All (λ (p : List ℕ × ℕ). knows new p ≡ true) keepers
known_still keepers old new keeps all = All-weaker (λ (p : List ℕ × ℕ). knows old p ≡ true) (λ (p : List ℕ × ℕ). knows new p ≡ true) keeps keepers all

pub known_more : (keepers : List (List ℕ × ℕ)) (place : List ℕ × ℕ) (old new : List TableEntry) → KeepsPlaces old new → All (λ (p : List ℕ × ℕ). knows old p ≡ true) keepers → knows new place ≡ true
    → All (λ (p : List ℕ × ℕ). knows new p ≡ true) (keepers ++ place ∷ [])
known_more keepers place old new keeps all is = All-push (λ (p : List ℕ × ℕ). knows new p ≡ true) keepers place (known_still keepers old new keeps all) is

pub was_known : (keepers : List (List ℕ × ℕ)) (place : List ℕ × ℕ) (entries : List TableEntry) → All (λ (p : List ℕ × ℕ). knows entries p ≡ true) keepers → Contains keepers place → knows entries place ≡ true
was_known keepers place entries all there = All-contains (λ (p : List ℕ × ℕ). knows entries p ≡ true) keepers place all there
