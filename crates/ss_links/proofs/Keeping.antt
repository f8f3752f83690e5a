-- What files stand under their names once one of them was saved.
use Rattle.std.proofs.Common.{◌≡◌, ◌≢◌, ◌<◌, ◌≤◌, ◌+◌, ℕ, zero, suc, List, [], ◌∷◌, ◌++◌, length, get_or, set, cond}
use Rattle.std.proofs.Common.{Bool, true, false, Option, None, Some, find, bytes_eq, option_map, String, string_bytes}
use Rattle.std.proofs.Common.{refl, sym, ◌∙◌, ap, subst, arith}
use Rattle.std.specs.Global.{Vec, Global}
use Rattle.std.proofs.lemmas.Slice.Eq.{bytes_eq-Decides}
use Rattle.ss_links.specs.Stores.{files_of, IsWith, IsPlace, HasSaved}

abbrev pub named : List ℕ → String Global × Vec ℕ → Bool
named name entry = bytes_eq (string_bytes entry.0) name

-- an entry has no two names
one_name : (name other : List ℕ) (entry : String Global × Vec ℕ) (b : Bool) → named name entry ≡ true → other ≢ name → named other entry ≡ b → b ≡ false
one_name name other entry false is apart seen = refl
one_name name other entry true is apart seen =
    absurd (apart (sym ((bytes_eq-Decides (string_bytes entry.0) other).0 seen) ∙ (bytes_eq-Decides (string_bytes entry.0) name).0 is))

-- the entry in front decides, where it has the name
front : (b : Bool) (name : List ℕ) (entry : String Global × Vec ℕ) (entries : List (String Global × Vec ℕ)) → named name entry ≡ b
    → files_of (entry ∷ entries) name ≡ cond b (Some entry.1.items) (files_of entries name)
front true name entry entries is = ap (λ b. option_map (λ (e : String Global × Vec ℕ). e.1.items) (cond b (Some entry) (find (named name) entries))) is
front false name entry entries is = ap (λ b. option_map (λ (e : String Global × Vec ℕ). e.1.items) (cond b (Some entry) (find (named name) entries))) is

-- where there is no file with a name, no entry has it
not_front : (b : Bool) (name : List ℕ) (e : String Global × Vec ℕ) (entries : List (String Global × Vec ℕ)) → named name e ≡ b → files_of (e ∷ entries) name ≡ None
    → (b ≡ false) × (files_of entries name ≡ None)
not_front true name e entries is none = absurd (let f : Some e.1.items ≡ None = sym (front true name e entries is) ∙ none in cc)
not_front false name e entries is none = (refl, sym (front false name e entries is) ∙ none)

-- behind one entry the rest counts
behind_same : (other : List ℕ) (e : String Global × Vec ℕ) (xs ys : List (String Global × Vec ℕ)) → files_of xs other ≡ files_of ys other
    → files_of (e ∷ xs) other ≡ files_of (e ∷ ys) other
behind_same other e xs ys same =
    front (named other e) other e xs refl ∙ ap (λ f. cond (named other e) (Some e.1.items) f) same ∙ sym (front (named other e) other e ys refl)

-- where no entry has a name, there is no file
none_there : (name : List ℕ) (entries : List (String Global × Vec ℕ)) (d : String Global × Vec ℕ)
    → ((k : ℕ) → k < length entries → named name (get_or entries k d) ≡ false) → files_of entries name ≡ None
none_there name [] d none = refl
none_there name (e ∷ entries) d none = front false name e entries (none 0 (omega arith)) ∙ none_there name entries d (λ k below. none (suc k) (omega arith))

pub nowhere : (name : List ℕ) (entries : List (String Global × Vec ℕ))
    → ((k : ℕ) → k < length entries → (d : String Global × Vec ℕ) → named name (get_or entries k d) ≡ false) → files_of entries name ≡ None
nowhere name [] none = refl
nowhere name (e ∷ entries) none = none_there name (e ∷ entries) e (λ k below. none k below e)

-- an entry with a new name stands at the end
pub put_last : (name : List ℕ) (entries : List (String Global × Vec ℕ)) (key : String Global) (bytes : Vec ℕ)
    → string_bytes key ≡ name → files_of entries name ≡ None
    → IsWith name bytes.items (files_of entries) (files_of (entries ++ (key, bytes) ∷ []))
put_last name [] key bytes is none =
    let now : named name (key, bytes) ≡ true = (bytes_eq-Decides (string_bytes key) name).1 is in (
      front true name (key, bytes) [] now,
      λ other apart. front false other (key, bytes) [] (one_name name other (key, bytes) (named other (key, bytes)) now apart refl),
    )
put_last name (e ∷ entries) key bytes is none =
    let no = not_front (named name e) name e entries refl none in
    let rest = put_last name entries key bytes is no.1 in (
      front false name e (entries ++ (key, bytes) ∷ []) no.0 ∙ rest.0,
      λ other apart. behind_same other e (entries ++ (key, bytes) ∷ []) entries (rest.1 other apart),
    )

-- the first entry with a name gets these bytes
pub set_there :
    (name : List ℕ) (entries : List (String Global × Vec ℕ)) (i : ℕ) (key : String Global) (bytes : Vec ℕ) (d : String Global × Vec ℕ)
    → i < length entries → named name (get_or entries i d) ≡ true → ((k : ℕ) → k < i → named name (get_or entries k d) ≡ false)
    → string_bytes key ≡ string_bytes (get_or entries i d).0
    → IsWith name bytes.items (files_of entries) (files_of (set entries i (key, bytes)))
set_there name [] i key bytes d inside is first same = absurd (omega arith)
set_there name (e ∷ entries) zero key bytes d inside is first same =
    let now : named name (key, bytes) ≡ true = ap (λ k. bytes_eq k name) same ∙ is in (
      front true name (key, bytes) entries now,
      λ other apart. front false other (key, bytes) entries (one_name name other (key, bytes) (named other (key, bytes)) now apart refl)
          ∙ sym (front false other e entries (one_name name other e (named other e) is apart refl)),
    )
set_there name (e ∷ entries) (suc i) key bytes d inside is first same =
    let rest = set_there name entries i key bytes d (omega arith) is (λ k below. first (suc k) (omega arith)) same in
    let no : named name e ≡ false = first 0 (omega arith) in (
      front false name e (set entries i (key, bytes)) no ∙ rest.0,
      λ other apart. behind_same other e (set entries i (key, bytes)) entries (rest.1 other apart),
    )

-- what stands under the names, where files are told
pub told_there : (name bytes : List ℕ) (old new : List (String Global × Vec ℕ)) → IsWith name bytes (files_of old) (files_of new)
    → HasSaved name bytes (Some (files_of old)) (Some (files_of new))
told_there name bytes old new is = (files_of new, refl, is)

-- once the first entry with the name was changed
pub set_told :
    (name bytes : List ℕ) (was entries : List (String Global × Vec ℕ)) (i : ℕ) (entry : String Global × Vec ℕ) (copy : Vec ℕ)
    → was ≡ entries → IsPlace name entries (Some i) → entry ≡ get_or entries i entry → copy.items ≡ bytes
    → HasSaved name bytes (Some (files_of was)) (Some (files_of (set entries i (entry.0, copy))))
set_told name bytes was entries i entry copy same place is items =
    let fact = set_there name entries i entry.0 copy entry place.0 (place.1 entry).0 (place.1 entry).1 (ap (λ (e : String Global × Vec ℕ). string_bytes e.0) is) in
    let P : List (String Global × Vec ℕ) → Type 0 = λ old. HasSaved name bytes (Some (files_of old)) (Some (files_of (set entries i (entry.0, copy)))) in
    let Q : List ℕ → Type 0 = λ b. IsWith name b (files_of entries) (files_of (set entries i (entry.0, copy))) in
    subst P (sym same) (told_there name bytes entries (set entries i (entry.0, copy)) (subst Q items fact))

-- once a new entry was put behind the others
pub push_told :
    (name bytes : List ℕ) (was entries new : List (String Global × Vec ℕ)) (key : String Global) (copy : Vec ℕ)
    → was ≡ entries → files_of entries name ≡ None → string_bytes key ≡ name → copy.items ≡ bytes → new ≡ entries ++ (key, copy) ∷ []
    → HasSaved name bytes (Some (files_of was)) (Some (files_of new))
push_told name bytes was entries new key copy same none is items grown =
    let fact = put_last name entries key copy is none in
    let P : List (String Global × Vec ℕ) → Type 0 = λ old. HasSaved name bytes (Some (files_of old)) (Some (files_of new)) in
    let Q : List ℕ → Type 0 = λ b. IsWith name b (files_of entries) (files_of (entries ++ (key, copy) ∷ [])) in
    let R : List (String Global × Vec ℕ) → Type 0 = λ n. IsWith name bytes (files_of entries) (files_of n) in
    subst P (sym same) (told_there name bytes entries new (subst R (sym grown) (subst Q items fact)))

-- the file with a name is the first entry with it
pub found :
    (name : List ℕ) (entries : List (String Global × Vec ℕ)) (i : ℕ) (entry : String Global × Vec ℕ)
    → IsPlace name entries (Some i) → entry ≡ get_or entries i entry → Some entry.1.items ≡ files_of entries name
found name [] i entry place is = absurd (omega (arith, place.0))
found name (e ∷ entries) zero entry place is = ap (λ (e : String Global × Vec ℕ). Some e.1.items) is ∙ sym (front true name e entries (place.1 entry).0)
found name (e ∷ entries) (suc i) entry place is =
    let inside : suc i < length (e ∷ entries) = place.0 in
    found name entries i entry (omega arith, λ d. ((place.1 d).0, λ k below. (place.1 d).1 (suc k) (omega arith))) is
    ∙ sym (front false name e entries ((place.1 entry).1 0 (omega arith)))
