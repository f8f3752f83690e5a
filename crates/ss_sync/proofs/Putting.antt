-- Rows that are gathered by id, and what a part makes of them.
use Rattle.std.proofs.Common.{◌≡◌, ℕ, ◌+◌, ◌<◌, List, [], ◌∷◌, ◌++◌, length, map, take, fold, get_or, Bool, true, false}
use Rattle.std.proofs.Common.{cond, bytes_eq, Option, Some, None, option_map, Bor, is_eq, refl, sym, ap, ap₂, ◌∙◌}
use Rattle.std.proofs.Common.{append_assoc, append-nil}
use Rattle.std.proofs.lemmas.Map.Text.{is_eq-slice_cmp}
use Rattle.std.proofs.lemmas.List.{take_more}
use Rattle.std.specs.List.Sorted.{IsStrictlySortedBy}
use Rattle.std.specs.Map.{lookup}
use Rattle.std.specs.Option.{option_map_or}
use Rattle.ss_text.specs.Texts.{text_cmp}
use Rattle.ss_record.specs.declared.readings.Sheet.{Sheet}
use Rattle.ss_record.specs.Ids.{Apart}
use Rattle.ss_bso.specs.declared.parts.Part.{Part}
use Rattle.ss_bso.specs.Put.{field_value}
use Rattle.ss_plan.specs.Written.{sheet, sheet_put, sheet_after}
use Rattle.ss_plan.proofs.Last.{after-append}
use Rattle.ss_sync.specs.declared.written.Told.{Told}
use Rattle.ss_sync.specs.Rows.{ids_of}
use Rattle.ss_sync.specs.Told.{row_of, rows_of}
use Rattle.ss_record.proofs.Below.{below_out}
use Rattle.ss_text.proofs.Basics.{bytes_eq-sym, same_text}

-- one more row is there
pub put_row : (m n : List ℕ → Option Told) (key : List ℕ) (t : Told) → ((q : List ℕ) → n q ≡ cond (is_eq (text_cmp key q)) (Some t) (m q))
    → (x : List ℕ) → option_map (row_of x) (n x) ≡ cond (bytes_eq x key) (Some (row_of key t)) (option_map (row_of x) (m x))
put_row m n key t new x = ap (option_map (row_of x)) (new x ∙ ap (λ b. cond b (Some t) (m x)) (is_eq-slice_cmp key x ∙ bytes_eq-sym key x)) ∙ by (bytes_eq x key) refl
  where
    by : (b : Bool) → bytes_eq x key ≡ b → option_map (row_of x) (cond b (Some t) (m x)) ≡ cond b (Some (row_of key t)) (option_map (row_of x) (m x))
    by true e = ap (λ y. Some (row_of y t)) (same_text x key e)
    by false e = refl

pub sheet-cons : (x : List ℕ) (s : Sheet) (done : List Sheet) → sheet x (s ∷ done) ≡ cond (bytes_eq x s.id) (Some s) (sheet x done)
unfolding sheet
sheet-cons x s done = refl

-- the rows of those that were taken from the end are gathered
pub record Gathers (all left : List Sheet) (at : List ℕ → Option Sheet) : Type 0 where
  pub done : List Sheet
  pub whole : all ≡ left ++ done
  pub gathered : (x : List ℕ) → at x ≡ sheet x done

pub gathers_none : (all : List Sheet) (at : List ℕ → Option Sheet) → ((x : List ℕ) → at x ≡ None) → Gathers all all at
unfolding sheet
gathers_none all at none = record { done = []; whole = sym (append-nil all); gathered = none }

pub gathers_more : (all left rest : List Sheet) (s : Sheet) (m n : List ℕ → Option Told) → left ≡ rest ++ s ∷ []
    → ((q : List ℕ) → n q ≡ cond (is_eq (text_cmp s.id q)) (Some (record { modified = s.modified; payload = s.payload })) (m q))
    → Gathers all left (λ x. option_map (row_of x) (m x)) → Gathers all rest (λ x. option_map (row_of x) (n x))
gathers_more all left rest s m n is new g = record {
  done = s ∷ g.done;
  whole = g.whole ∙ (ap (λ l. l ++ g.done) is ∙ append_assoc rest (s ∷ []) g.done);
  gathered = λ x. put_row m n s.id (record { modified = s.modified; payload = s.payload }) new x ∙ (ap (λ o. cond (bytes_eq x s.id) (Some s) o) (g.gathered x) ∙ sym (sheet-cons x s g.done));
}

pub gathers_all : (all left : List Sheet) (at : List ℕ → Option Sheet) → left ≡ [] → Gathers all left at → (x : List ℕ) → at x ≡ sheet x all
gathers_all all left at none g x = g.gathered x ∙ ap (sheet x) (sym (g.whole ∙ ap (λ l. l ++ g.done) none))

old_payload : (x : List ℕ) (g : Option Told) → option_map_or (λ (t : Told). t.payload) g [] ≡ option_map_or (λ (s : Sheet). s.payload) (option_map (row_of x) g) []
old_payload x None = refl
old_payload x (Some t) = refl

after-one : (s : ℕ) (p : Part) (x : List ℕ) (o : Option Sheet) → sheet_after s (p ∷ []) x o ≡ cond (bytes_eq p.id x) (Some (sheet_put s o p)) o
unfolding sheet_after
after-one s p x o = by (bytes_eq p.id x)
  where
    by : (b : Bool) → fold (λ row part. Some (sheet_put s row part)) o (cond b (p ∷ []) []) ≡ cond b (Some (sheet_put s o p)) o
    by true = refl
    by false = refl

made : (s : ℕ) (p : Part) (g : Option Told) (key payload : List ℕ) → key ≡ p.id → payload ≡ field_value p.fields.payload (option_map_or (λ (t : Told). t.payload) g []) [] (λ text. text)
    → row_of key (record { modified = s; payload = payload }) ≡ sheet_put s (option_map (row_of p.id) g) p
unfolding sheet_put
made s p g key payload k w =
    let row = λ (i : List ℕ) (t : List ℕ). row_of i (record { modified = s; payload = t }) in
    ap₂ row k (w ∙ ap (λ old. field_value p.fields.payload old [] (λ (text : List ℕ). text)) (old_payload p.id g))

-- a part is put
pub put_part : (m n : List ℕ → Option Told) (s : ℕ) (p : Part) (key payload : List ℕ) → key ≡ p.id
    → payload ≡ field_value p.fields.payload (option_map_or (λ (t : Told). t.payload) (m p.id) []) [] (λ text. text)
    → ((q : List ℕ) → n q ≡ cond (is_eq (text_cmp key q)) (Some (record { modified = s; payload = payload })) (m q))
    → (x : List ℕ) → option_map (row_of x) (n x) ≡ sheet_after s (p ∷ []) x (option_map (row_of x) (m x))
put_part m n s p key payload k w new x =
    put_row m n key (record { modified = s; payload = payload }) new x
    ∙ (ap (λ y. cond (bytes_eq x y) (Some (row_of key (record { modified = s; payload = payload }))) (option_map (row_of x) (m x))) k
    ∙ (by (bytes_eq x p.id) refl
    ∙ (ap (λ b. cond b (Some (sheet_put s (option_map (row_of x) (m x)) p)) (option_map (row_of x) (m x))) (bytes_eq-sym x p.id) ∙ sym (after-one s p x (option_map (row_of x) (m x))))))
  where
    by : (b : Bool) → bytes_eq x p.id ≡ b → cond b (Some (row_of key (record { modified = s; payload = payload }))) (option_map (row_of x) (m x)) ≡ cond b (Some (sheet_put s (option_map (row_of x) (m x)) p)) (option_map (row_of x) (m x))
    by true e = ap Some (made s p (m p.id) key payload k w ∙ ap (λ y. sheet_put s (option_map (row_of y) (m y)) p) (sym (same_text x p.id e)))
    by false e = refl

-- one more part of a list
pub after_more : (s : ℕ) (parts : List Part) (i : ℕ) (p : Part) (x : List ℕ) (o : Option Sheet) → i < length parts → p ≡ get_or parts i p
    → sheet_after s (p ∷ []) x (sheet_after s (take i parts) x o) ≡ sheet_after s (take (i + 1) parts) x o
after_more s parts i p x o here is =
    sym (after-append s (take i parts) (p ∷ []) x o) ∙ ap (λ ps. sheet_after s ps x o) (ap (λ q. take i parts ++ q ∷ []) is ∙ sym (take_more parts i p here))

-- the rows of entries
pub rows-more : (es : List (List ℕ × Told)) (e : List ℕ × Told) → rows_of (es ++ e ∷ []) ≡ rows_of es ++ row_of e.0 e.1 ∷ []
rows-more [] e = refl
rows-more (d ∷ es) e = ap (λ l. row_of d.0 d.1 ∷ l) (rows-more es e)

pub found_rows : (x : List ℕ) (es : List (List ℕ × Told)) → sheet x (rows_of es) ≡ option_map (row_of x) (lookup (λ k. is_eq (text_cmp x k)) es)
unfolding sheet
found_rows x [] = refl
found_rows x (e ∷ es) = ap (λ b. cond b (Some (row_of e.0 e.1)) (sheet x (rows_of es))) (sym (is_eq-slice_cmp x e.0)) ∙ by (is_eq (text_cmp x e.0)) refl (found_rows x es)
  where
    by : (b : Bool) → is_eq (text_cmp x e.0) ≡ b → sheet x (rows_of es) ≡ option_map (row_of x) (lookup (λ k. is_eq (text_cmp x k)) es) → cond b (Some (row_of e.0 e.1)) (sheet x (rows_of es)) ≡ option_map (row_of x) (cond b (Some e.1) (lookup (λ k. is_eq (text_cmp x k)) es))
    by true q ih = ap (λ y. Some (row_of y e.1)) (sym (same_text x e.0 (sym (is_eq-slice_cmp x e.0) ∙ q)))
    by false q ih = ih

pub ids_of_rows : (es : List (List ℕ × Told)) → ids_of (rows_of es) ≡ map (λ e. e.0) es
ids_of_rows [] = refl
ids_of_rows (e ∷ es) = ap (λ l. e.0 ∷ l) (ids_of_rows es)

-- texts in order are apart
pub apart_sorted : (xs : List (List ℕ)) → IsStrictlySortedBy text_cmp xs → Apart xs
unfolding IsStrictlySortedBy Apart
apart_sorted [] h = tt
apart_sorted (x ∷ xs) h = (below_out x xs h.0, apart_sorted xs h.1)

-- what a part finds of the old row
pub old_now : (r : Option (Bor Told)) → option_map_or (λ (t : Bor Told). t.now.payload) r [] ≡ option_map_or (λ (t : Told). t.payload) (option_map (λ (t : Bor Told). t.now) r) []
old_now None = refl
old_now (Some t) = refl

-- rows that are made one after the other
pub made_more : (all done new : List Sheet) (left rest : List (List ℕ × Told)) (e : List ℕ × Told) → left ≡ e ∷ rest → new ≡ done ++ row_of e.0 e.1 ∷ [] → all ≡ done ++ rows_of left → all ≡ new ++ rows_of rest
made_more all done new left rest e l n a = a ∙ (ap (λ es. done ++ rows_of es) l ∙ (sym (append_assoc done (row_of e.0 e.1 ∷ []) (rows_of rest)) ∙ ap (λ xs. xs ++ rows_of rest) (sym n)))

pub made_all : (all done : List Sheet) (left : List (List ℕ × Told)) → left ≡ [] → all ≡ done ++ rows_of left → done ≡ all
made_all all done left n a = sym (a ∙ (ap (λ es. done ++ rows_of es) n ∙ append-nil done))
