-- A step over the elements of a body.
use Rattle.std.proofs.Common.{◌≡◌, ℕ, ◌+◌, ◌<◌, ◌≤◌, List, [], ◌∷◌, ◌++◌, length, map, drop, get_or, Bool, false, cond}
use Rattle.std.proofs.Common.{Option, Some, None, is_some, Result, Ok, Err, refl, sym, ap, ap₂, ◌∙◌, subst}
use Rattle.std.proofs.Common.{append_assoc, append-nil}
use Rattle.std.proofs.lemmas.List.{drop_more, drop_all, get_or_default}
use Rattle.std.specs.List.{filter_map, cons_option}
use Rattle.serde_json.specs.Data.{Data}
use Rattle.ss_bso.specs.declared.parts.Reason.{Reason}
use Rattle.ss_bso.specs.declared.parts.Part.{Part}
use Rattle.ss_bso.specs.declared.parts.Records.{Records}
use Rattle.ss_bso.specs.declared.bodies.BodyFault.{BodyFault}
use Rattle.ss_bso.specs.declared.bodies.BodyFault.TheVariants as fault
use Rattle.serde_json.specs.declared.value.Value.{Value}
use Rattle.serde_json.specs.View.{view, items_view}
use Rattle.serde_json.specs.Find.{as_array}
use Rattle.ss_bso.specs.Members.{parsed_body}
use Rattle.ss_bso.specs.Bodies.{Grows, part_of, failed_of, first_fault, fault_at, or_fault, records_of, id_of}
use Rattle.ss_bso.specs.Bodies.{items_list, list_records, json_records}

one_more : {B : Type 0} (o : Option B) (old new rest all : List B) → Grows old new o → old ++ cons_option o rest ≡ all → new ++ rest ≡ all
one_more None old new rest all grows e = ap (λ l. l ++ rest) grows ∙ e
one_more (Some x) old new rest all grows e = ap (λ l. l ++ rest) grows ∙ append_assoc old (x ∷ []) rest ∙ e

-- the loop has come so far: the rest of the body makes the whole of what was gathered
pub record Gathered (place : ℕ) (parts : List Part) (failed : List (List ℕ × Reason)) (rest all : List (Option Data)) : Type 0 where
  pub parts_are : parts ++ filter_map part_of rest ≡ filter_map part_of all
  pub failed_are : failed ++ filter_map failed_of rest ≡ filter_map failed_of all
  pub fault_is : first_fault (place + 1) rest ≡ first_fault 1 all

pub gathered_none : (all : List (Option Data)) → Gathered 0 [] [] all all
gathered_none all = record { parts_are = refl; failed_are = refl; fault_is = refl }

pub gathered_more : (place : ℕ) (parts parts' : List Part) (failed failed' : List (List ℕ × Reason)) (e : Option Data) (rest all : List (Option Data))
    → fault_at (place + 1) e ≡ None → Grows parts parts' (part_of e) → Grows failed failed' (failed_of e)
    → Gathered place parts failed (e ∷ rest) all → Gathered (place + 1) parts' failed' rest all
gathered_more place parts parts' failed failed' e rest all fine p f g = record {
  parts_are = one_more (part_of e) parts parts' (filter_map part_of rest) _ p g.parts_are;
  failed_are = one_more (failed_of e) failed failed' (filter_map failed_of rest) _ f g.failed_are;
  fault_is = sym (ap (λ o. cond (is_some o) o (first_fault (place + 1 + 1) rest)) fine) ∙ g.fault_is;
}

pub gathered_fault : (place : ℕ) (parts : List Part) (failed : List (List ℕ × Reason)) (e : Option Data) (rest all : List (Option Data)) (f : BodyFault)
    → fault_at (place + 1) e ≡ Some f → Gathered place parts failed (e ∷ rest) all → records_of all ≡ Err f
unfolding records_of
gathered_fault place parts failed e rest all f bad g =
    ap (λ o. or_fault o (record { parts = filter_map part_of all; failed = filter_map failed_of all })) (sym g.fault_is ∙ ap (λ o. cond (is_some o) o (first_fault (place + 1 + 1) rest)) bad)

gathered_as : List Part → List (List ℕ × Reason) → Result Records BodyFault
gathered_as parts failed = Ok (record { parts = parts; failed = failed })

pub gathered_all : (place : ℕ) (parts : List Part) (failed : List (List ℕ × Reason)) (all : List (Option Data))
    → Gathered place parts failed [] all → records_of all ≡ Ok (record { parts = parts; failed = failed })
unfolding records_of gathered_as
gathered_all place parts failed all g =
    ap (λ o. or_fault o (record { parts = filter_map part_of all; failed = filter_map failed_of all })) (sym g.fault_is)
    ∙ ap₂ gathered_as (sym g.parts_are ∙ append-nil parts) (sym g.failed_are ∙ append-nil failed)

pub map_drop_more : {X Y : Type 0} (f : X → Y) (xs : List X) (i : ℕ) (d : X) → i < length xs → map f (drop i xs) ≡ f (get_or xs i d) ∷ map f (drop (i + 1) xs)
map_drop_more f xs i d h = ap (map f) (drop_more xs i d h)

pub map_drop_all : {X Y : Type 0} (f : X → Y) (xs : List X) (i : ℕ) → length xs ≤ i → map f (drop i xs) ≡ []
map_drop_all f xs i h = ap (map f) (drop_all i xs h)

at_element : {X : Type 0} (F : X → Option Data) (xs : List X) (i : ℕ) (x : X) → i < length xs → x ≡ get_or xs i x → map F (drop i xs) ≡ F x ∷ map F (drop (i + 1) xs)
at_element F xs i x here is = map_drop_more F xs i x here ∙ ap (λ y. F y ∷ map F (drop (i + 1) xs)) (sym is)

pub loop_fault : {X : Type 0} (F : X → Option Data) (xs : List X) (i place : ℕ) (x : X) (parts : List Part) (failed : List (List ℕ × Reason)) (f : BodyFault) → i < length xs → x ≡ get_or xs i x
    → fault_at (place + 1) (F x) ≡ Some f → Gathered place parts failed (map F (drop i xs)) (map F xs) → records_of (map F xs) ≡ Err f
loop_fault F xs i place x parts failed f here is bad g =
    gathered_fault place parts failed (F x) (map F (drop (i + 1) xs)) (map F xs) f bad
    (subst (λ l. Gathered place parts failed l (map F xs)) (at_element F xs i x here is) g)

pub loop_all : {X : Type 0} (F : X → Option Data) (xs : List X) (i place : ℕ) (parts : List Part) (failed : List (List ℕ × Reason)) → length xs ≤ i
    → Gathered place parts failed (map F (drop i xs)) (map F xs) → records_of (map F xs) ≡ Ok (record { parts = parts; failed = failed })
loop_all F xs i place parts failed past g =
    gathered_all place parts failed (map F xs) (subst (λ l. Gathered place parts failed l (map F xs)) (map_drop_all F xs i past) g)

pub came_to : (es : List (Option Data)) (parts : List Part) (failed : List (List ℕ × Reason)) (records : Records)
    → records_of es ≡ Ok (record { parts = parts; failed = failed }) → records.parts ≡ parts → records.failed ≡ failed → records_of es ≡ Ok records
unfolding gathered_as
came_to es parts failed records all p f = all ∙ ap₂ gathered_as (sym p) (sym f)

pub no_id : (place : ℕ) (d : Data) (b : Bool) → b ≡ is_some (id_of d) → b ≡ false → fault_at place (Some d) ≡ Some (fault.NoId place)
no_id place d b is e = ap (λ t. cond t None (Some (fault.NoId place))) (sym is ∙ e)

pub items_as_list : (vs : List Value) → items_list (items_view vs) ≡ map (λ v. Some (view v)) vs
items_as_list [] = refl
items_as_list (v ∷ vs) = ap (λ l. Some (view v) ∷ l) (items_as_list vs)

pub map_map : {X Y Z : Type 0} (f : Y → Z) (g : X → Y) (xs : List X) → map f (map g xs) ≡ map (λ x. f (g x)) xs
map_map f g [] = refl
map_map f g (x ∷ xs) = ap (λ l. f (g x) ∷ l) (map_map f g xs)

pub not_json : (place : ℕ) (e : Option Data) → None ≡ e → fault_at place e ≡ Some fault.NotJson
not_json place e is = ap (fault_at place) (sym is)

pub json_list : (text : List ℕ) (d : Data) (vs : List Value) → Some d ≡ parsed_body text → Some (items_view vs) ≡ as_array d
    → records_of (map (λ v. Some (view v)) vs) ≡ json_records (parsed_body text)
json_list text d vs p a = ap records_of (sym (items_as_list vs)) ∙ ap list_records a ∙ ap json_records p

pub loop_fault_at : {X : Type 0} (F : X → Option Data) (xs : List X) (i place : ℕ) (d : X) (parts : List Part) (failed : List (List ℕ × Reason)) (f : BodyFault) → i < length xs
    → fault_at (place + 1) (F (get_or xs i d)) ≡ Some f → Gathered place parts failed (map F (drop i xs)) (map F xs) → records_of (map F xs) ≡ Err f
loop_fault_at F xs i place d parts failed f here bad g =
    loop_fault F xs i place (get_or xs i d) parts failed f here (get_or_default xs i d (get_or xs i d) here) bad g

-- the same where what is left to come is a list
pub left_fault : {X : Type 0} (F : X → Option Data) (left rest all : List X) (x : X) (place : ℕ) (parts : List Part) (failed : List (List ℕ × Reason)) (f : BodyFault) → left ≡ x ∷ rest
    → fault_at (place + 1) (F x) ≡ Some f → Gathered place parts failed (map F left) (map F all) → records_of (map F all) ≡ Err f
left_fault F left rest all x place parts failed f here bad g =
    gathered_fault place parts failed (F x) (map F rest) (map F all) f bad (subst (λ l. Gathered place parts failed (map F l) (map F all)) here g)

pub left_none : {X : Type 0} (F : X → Option Data) (left all : List X) (place : ℕ) (parts : List Part) (failed : List (List ℕ × Reason)) → left ≡ []
    → Gathered place parts failed (map F left) (map F all) → records_of (map F all) ≡ Ok (record { parts = parts; failed = failed })
left_none F left all place parts failed none g = gathered_all place parts failed (map F all) (subst (λ l. Gathered place parts failed (map F l) (map F all)) none g)
