-- Entries by id, and states that grow.
use Rattle.std.proofs.Common.{◌≡◌, ℕ, List, [], ◌∷◌, ◌++◌, Bool, true, false, cond, Option, Some, refl, sym, ap, subst}
use Rattle.std.proofs.Common.{◌∙◌, bytes_eq, map, unwrap_or}
use Rattle.std.specs.List.{AllByRecursion, IsDistinct}
use Rattle.std.specs.Map.{keys_of, lookup}
use Rattle.std.specs.Ordering.{nat_cmp}
use Rattle.ss_text.proofs.Basics.{bytes_eq-same, same_text}
use Rattle.ss_bso.specs.declared.rows.Row.{Row}
use Rattle.ss_bso.proofs.Lists.{Each, Each-and, Each-imp, Pairs}
use Rattle.ss_flat.specs.Joining.{Joins, Makes, OtherKey, heard_among, entry_heard}
use Rattle.ss_flat.specs.Readings.{reading}
use Rattle.ss_flat.specs.States.{IdView, RoomedId, IsFlatState, IsJoin, IsStateOf, State, face_cmp, heard_in, heard_of}
use Rattle.ss_flat.specs.States.{nothing as unheard, time_of}
use Rattle.ss_flat.proofs.Joined.{greater-none}
use Rattle.ss_flat.proofs.StateLemmas.{state_of_other, state_of_row, state_of_union}

-- ---- keys

each_key : {K X : Type 0} (P : K → Type 0) (es : List (K × X)) → AllByRecursion P (keys_of es) → Each (λ e. P e.0) es
each_key P [] h = tt
each_key P (e ∷ es) h = (h.0, each_key P es h.1)

-- keys of which no two are equal
pub apart_keys : {K X : Type 0} (eq : K → K → Bool) (es : List (K × X)) → IsDistinct eq (keys_of es) → Pairs (λ a b. eq a.0 b.0 ≡ false) es
unfolding IsDistinct
apart_keys eq [] h = tt
apart_keys eq (e ∷ es) h = (each_key (λ k. eq e.0 k ≡ false) es h.0, apart_keys eq es h.1)

module _ {K X : Type 0} (eq : K → K → Bool) (own : (k : K) → eq k k ≡ true) (flip : (k l : K) → eq k l ≡ false → eq l k ≡ false) where
  -- each entry is found by its key
  pub found_each : (es : List (K × X)) → Pairs (λ a b. eq a.0 b.0 ≡ false) es → Each (λ e. lookup (eq e.0) es ≡ Some e.1) es
  found_each [] o = tt
  found_each (e ∷ es) o = (
    ap (λ b. cond b (Some e.1) (lookup (eq e.0) es)) (own e.0),
    Each-imp (λ (f : K × X). (eq e.0 f.0 ≡ false) × (lookup (eq f.0) es ≡ Some f.1)) (λ (f : K × X). lookup (eq f.0) (e ∷ es) ≡ Some f.1)
        (λ f h. ap (λ b. cond b (Some e.1) (lookup (eq f.0) es)) (flip e.0 f.0 h.0) ∙ h.1) es
        (Each-and (λ (f : K × X). eq e.0 f.0 ≡ false) (λ (f : K × X). lookup (eq f.0) es ≡ Some f.1) es o.0 (found_each es o.1)),
  )

told_step : (b : Bool) (e : List ℕ × RoomedId) (o : Option RoomedId) (p : Option IdView) → heard_in o ≡ unwrap_or p unheard → heard_in (cond b (Some e.1) o) ≡ unwrap_or (cond b (Some e.1.heard) p) unheard
told_step true e o p h = refl
told_step false e o p h = h

-- what is kept of an id, by the entries without their room
pub heard_told : (id : List ℕ) (es : List (List ℕ × RoomedId)) → heard_among id es ≡ unwrap_or (lookup (bytes_eq id) (map entry_heard es)) unheard
heard_told id [] = refl
heard_told id (e ∷ es) = told_step (bytes_eq id e.0) e (lookup (bytes_eq id) es) (lookup (bytes_eq id) (map entry_heard es)) (heard_told id es)

pub same_told : (id : List ℕ) (es fs : List (List ℕ × RoomedId)) → map entry_heard es ≡ map entry_heard fs → heard_among id es ≡ heard_among id fs
same_told id es fs e = heard_told id es ∙ ap (λ l. unwrap_or (lookup (bytes_eq id) l) unheard) e ∙ sym (heard_told id fs)

-- the keys of entries without their room
each_told : (k : List ℕ) (es : List (List ℕ × RoomedId)) → Each (λ e. bytes_eq k e.0 ≡ false) es → Each (λ e. bytes_eq k e.0 ≡ false) (map entry_heard es)
each_told k [] h = tt
each_told k (e ∷ es) h = (h.0, each_told k es h.1)

each_untold : (k : List ℕ) (es : List (List ℕ × RoomedId)) → Each (λ e. bytes_eq k e.0 ≡ false) (map entry_heard es) → Each (λ e. bytes_eq k e.0 ≡ false) es
each_untold k [] h = tt
each_untold k (e ∷ es) h = (h.0, each_untold k es h.1)

apart_told : (es : List (List ℕ × RoomedId)) → Pairs OtherKey es → Pairs (λ a b. bytes_eq a.0 b.0 ≡ false) (map entry_heard es)
apart_told [] o = tt
apart_told (e ∷ es) o = (each_told e.0 es o.0, apart_told es o.1)

apart_untold : (es : List (List ℕ × RoomedId)) → Pairs (λ a b. bytes_eq a.0 b.0 ≡ false) (map entry_heard es) → Pairs OtherKey es
apart_untold [] o = tt
apart_untold (e ∷ es) o = (each_untold e.0 es o.0, apart_untold es o.1)

pub same_apart : (es fs : List (List ℕ × RoomedId)) → map entry_heard es ≡ map entry_heard fs → Pairs OtherKey fs → Pairs OtherKey es
same_apart es fs e o = apart_untold es (subst (λ l. Pairs (λ (a b : List ℕ × IdView). bytes_eq a.0 b.0 ≡ false) l) (sym e) (apart_told fs o))

-- ---- joining with nothing

skipped-none : (b : Bool) → b ≡ cond b true false
skipped-none true = refl
skipped-none false = refl

pub joins_nothing : (one : IdView) → Joins one unheard one
joins_nothing one = record {
  gone = greater-none nat_cmp one.gone;
  face = greater-none face_cmp one.face;
  visits = λ v. greater-none nat_cmp (time_of v one.visits);
  once = λ h. h;
  skipped = skipped-none one.skipped;
}

-- ---- a row that is seen

pub seen_state : (row : Row) (old new : State) (made : IdView) → new.kind ≡ old.kind → Makes row.modified (reading old.kind row) made → Joins (heard_of row.id old) made (heard_of row.id new)
    → ((other : List ℕ) → bytes_eq row.id other ≡ false → heard_of other new ≡ heard_of other old) → (rows : List Row) → IsFlatState rows old → IsFlatState (rows ++ row ∷ []) new
seen_state row old new made kind makes joins others rows state =
    λ id. subst (λ k. IsStateOf k (rows ++ row ∷ []) id (heard_of id new)) (sym kind) (by id (bytes_eq row.id id) refl)
  where
    by : (id : List ℕ) (b : Bool) → bytes_eq row.id id ≡ b → IsStateOf old.kind (rows ++ row ∷ []) id (heard_of id new)
    by id true e =
        subst (λ i. IsStateOf old.kind (rows ++ row ∷ []) i (heard_of i new)) (same_text row.id id e)
        (state_of_union old.kind rows (row ∷ []) row.id (heard_of row.id old) made (heard_of row.id new) (state row.id) (state_of_row old.kind row made makes) joins)
    by id false e =
        let here = state id in
        state_of_union old.kind rows (row ∷ []) id (heard_of id old) unheard (heard_of id new) here
        (state_of_other old.kind row id (λ same. let clash : true ≡ false = sym (bytes_eq-same row.id id same) ∙ e in cc))
        (subst (λ h. Joins (heard_of id old) unheard h) (sym (others id e)) (joins_nothing (heard_of id old)))

-- ---- states that are joined

pub joined_state : (one other both : State) (more : List (List ℕ × RoomedId)) → other.kind ≡ one.kind → both.kind ≡ one.kind → map entry_heard more ≡ map entry_heard other.entries
    → ((id : List ℕ) → Joins (heard_of id one) (heard_among id more) (heard_of id both)) → IsJoin one other both
joined_state one other both more kind same told_same joins = λ rows others a b id.
    subst (λ k. IsStateOf k (rows ++ others) id (heard_of id both)) (sym same)
    (state_of_union one.kind rows others id (heard_of id one) (heard_among id more) (heard_of id both) (a id)
    (subst (λ k. IsStateOf k others id (heard_among id more)) kind (subst (λ h. IsStateOf other.kind others id h) (sym (same_told id more other.entries told_same)) (b id))) (joins id))
