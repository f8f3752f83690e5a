-- What lines tell: they are the lines of the account that is told, whose lists are in order.
use Rattle.std.proofs.Common.{◌≡◌, ℕ, suc, ◌&&◌, Bool, true, false, cond, List, [], ◌∷◌, ◌++◌, length, map, Some, None}
use Rattle.std.proofs.Common.{option_map, option_and_then, append_assoc, append-nil, refl, sym, ap, ap₂, ◌∙◌, subst}
use Rattle.std.proofs.Common.{arith}
use Rattle.std.proofs.lemmas.Bool.{and_parts, eqb-true}
use Rattle.std.specs.List.{AllByRecursion, flat_map}
use Rattle.ss_text.specs.Texts.{sorted}
use Rattle.ss_text.proofs.Basics.{and_then_some, map_some, some_same}
use Rattle.ss_bso.specs.declared.rows.Row.{Row}
use Rattle.ss_bso.specs.declared.parts.Part.{Part}
use Rattle.ss_bso.specs.declared.account.Staged.{Staged}
use Rattle.ss_bso.specs.declared.changes.Kept.{Kept}
use Rattle.ss_lines.specs.Lines.{IsLine, line_text}
use Rattle.ss_lines.specs.declared.lines.Line.{Line}
use Rattle.ss_lines.specs.declared.lines.Line.TheVariants.{Account, Times, Collection, Row as RowLine, Batch}
use Rattle.ss_lines.specs.declared.lines.Line.TheVariants.{Part as PartLine, Digest, End}
use Rattle.ss_dump.specs.Dumps.{account_lines, batch_lines, body_text, closed_by, collection_line, comes_before}
use Rattle.ss_dump.specs.Dumps.{in_order, name_cmp, number_cmp, place_cmp, text_of}
use Rattle.ss_dump.specs.Telling.{IsToldWith, State, account, begun, closed, is_empty, may_end, next, nothing}
use Rattle.ss_dump.specs.Telling.{kept_with_times, state_of_lines, told_from, whole, with_batch, with_collection}
use Rattle.ss_dump.specs.Telling.{with_part}
use Rattle.ss_dump.specs.Telling.{with_part_last, with_row}
use Rattle.ss_dump.proofs.Ascending.{IsAscending, ascending_more, ascending_sorted, same_numbers}

-- ---- the last batch grows

grown : Staged → Part → Staged
grown b p = record b { parts = b.parts ++ p ∷ [] }

pub with_last : (rest : List Staged) (b : Staged) (p : Part) → with_part_last (rest ++ b ∷ []) p ≡ Some (rest ++ record b { parts = b.parts ++ p ∷ [] } ∷ [])
with_last [] b p = refl
with_last (x ∷ []) b p = refl
with_last (x ∷ y ∷ ys) b p = ap (option_map (λ rest. x ∷ rest)) (with_last (y ∷ ys) b p)

pub part_added : (kept : Kept) (rest new : List Staged) (b g : Staged) (p : Part) → kept.batches ≡ rest ++ b ∷ [] → new ≡ rest ++ g ∷ [] → g ≡ record b { parts = b.parts ++ p ∷ [] }
    → Some (account (record kept { batches = new })) ≡ with_part kept p
part_added kept rest new b g p k n e =
    let last : with_part_last kept.batches p ≡ Some new =
    ap (λ bs. with_part_last bs p) k ∙ (with_last rest b p ∙ ap Some (ap (λ x. rest ++ x ∷ []) (sym e) ∙ sym n)) in
    sym (ap (option_map (λ bs. account (record kept { batches = bs }))) last)

lines_grown : (b : Staged) (p : Part) → batch_lines (record b { parts = b.parts ++ p ∷ [] }) ≡ batch_lines b ++ PartLine p ∷ []
lines_grown b p = ap (λ ls. Batch b.number b.collection b.begun ∷ ls) (map-snoc b.parts)
  where
    map-snoc : (ps : List Part) → map (λ q. PartLine q) (ps ++ p ∷ []) ≡ map (λ q. PartLine q) ps ++ PartLine p ∷ []
    map-snoc [] = refl
    map-snoc (q ∷ qs) = ap (λ ls. PartLine q ∷ ls) (map-snoc qs)

part_lines : (bs new : List Staged) (p : Part) → with_part_last bs p ≡ Some new → flat_map batch_lines new ≡ flat_map batch_lines bs ++ PartLine p ∷ []
part_lines [] new p e = cc
part_lines (b ∷ []) new p e =
    let same : record b { parts = b.parts ++ p ∷ [] } ∷ [] ≡ new = some_same e in
    ap (flat_map batch_lines) (sym same) ∙ (append-nil (batch_lines (record b { parts = b.parts ++ p ∷ [] })) ∙ (lines_grown b p ∙ ap (λ ls. ls ++ PartLine p ∷ []) (sym (append-nil (batch_lines b)))))
part_lines (b ∷ c ∷ bs) new p e =
    let r = map_some (λ rest. b ∷ rest) (with_part_last (c ∷ bs) p) new e in
    ap (flat_map batch_lines) (sym r.2) ∙ (ap (λ ls. batch_lines b ++ ls) (part_lines (c ∷ bs) r.0 p r.1) ∙ sym (append_assoc (batch_lines b) (flat_map batch_lines (c ∷ bs)) (PartLine p ∷ [])))

part_numbers : (bs new : List Staged) (p : Part) → with_part_last bs p ≡ Some new → map (λ b. b.number) bs ≡ map (λ b. b.number) new
part_numbers [] new p e = cc
part_numbers (b ∷ []) new p e =
    let same : record b { parts = b.parts ++ p ∷ [] } ∷ [] ≡ new = some_same e in ap (map (λ c. c.number)) same
part_numbers (b ∷ c ∷ bs) new p e =
    let r = map_some (λ rest. b ∷ rest) (with_part_last (c ∷ bs) p) new e in
    ap (λ ns. b.number ∷ ns) (part_numbers (c ∷ bs) r.0 p r.1) ∙ ap (map (λ d. d.number)) r.2

-- ---- lines of what is told

abbrev pub lines_of : State → List Line
lines_of nothing = []
lines_of begun = Account ∷ []
lines_of (account kept) = account_lines kept
lines_of (closed kept digest) = account_lines kept ++ Digest digest ∷ []
lines_of (whole kept digest) = account_lines kept ++ Digest digest ∷ End ∷ []

pub record IsOrdered (kept : Kept) : Type 0 where
  pub collections : IsAscending (comes_before name_cmp) kept.collections
  pub rows : IsAscending (comes_before place_cmp) kept.rows
  pub batches : IsAscending (comes_before number_cmp) kept.batches

abbrev pub AreOrdered : State → Type 0
AreOrdered nothing = Unit {0}
AreOrdered begun = Unit {0}
AreOrdered (account kept) = IsOrdered kept
AreOrdered (closed kept digest) = IsOrdered kept
AreOrdered (whole kept digest) = IsOrdered kept

-- what a line makes of what is told: its lines are one more, and the lists stay in order
pub record Grows (state : State) (l : Line) (s : State) : Type 0 where
  pub lines : lines_of s ≡ lines_of state ++ l ∷ []
  pub ordered : AreOrdered state → AreOrdered s

empty : {X : Type 0} (xs : List X) → is_empty xs ≡ true → xs ≡ []
empty [] e = refl
empty (x ∷ xs) e = let n : suc (length xs) ≡ 0 = eqb-true (suc (length xs)) 0 e in let never : ⊥ = omega arith in absurd never

map-more : {X Y : Type 0} (f : X → Y) (xs : List X) (x : X) → map f (xs ++ x ∷ []) ≡ map f xs ++ f x ∷ []
map-more f [] x = refl
map-more f (y ∷ ys) x = ap (λ l. f y ∷ l) (map-more f ys x)

flat-more : (bs : List Staged) (b : Staged) → flat_map batch_lines (bs ++ b ∷ []) ≡ flat_map batch_lines bs ++ batch_lines b
flat-more [] b = append-nil (batch_lines b)
flat-more (c ∷ bs) b = ap (λ l. batch_lines c ++ l) (flat-more bs b) ∙ sym (append_assoc (batch_lines c) (flat_map batch_lines bs) (batch_lines b))

-- the lines of lists
three : List Line → List Line → List Line → List Line
three cs rs bs = cs ++ (rs ++ bs)

collection_grows : (kept : Kept) (entry : List ℕ × ℕ) → kept.rows ≡ [] → kept.batches ≡ [] → account_lines (record kept { collections = kept.collections ++ entry ∷ [] }) ≡ account_lines kept ++ collection_line entry ∷ []
unfolding account_lines
collection_grows kept entry r b =
    let none : map (λ q. RowLine q) kept.rows ++ flat_map batch_lines kept.batches ≡ [] = ap₂ (λ rs bs. map (λ q. RowLine q) rs ++ flat_map batch_lines bs) r b in
    let front : List Line = map collection_line kept.collections in
    ap (λ t. Account ∷ Times kept.store kept.last_delete kept.counter ∷ t)
    (ap₂ (λ cs rest. cs ++ rest) (map-more collection_line kept.collections entry) none
    ∙ (append-nil (front ++ collection_line entry ∷ [])
    ∙ ap (λ t. t ++ collection_line entry ∷ []) (sym (ap (λ rest. front ++ rest) none ∙ append-nil front))))

row_grows : (kept : Kept) (row : Row) → kept.batches ≡ [] → account_lines (record kept { rows = kept.rows ++ row ∷ [] }) ≡ account_lines kept ++ RowLine row ∷ []
unfolding account_lines
row_grows kept row b =
    let none : flat_map batch_lines kept.batches ≡ [] = ap (flat_map batch_lines) b in
    let front : List Line = map collection_line kept.collections in
    let rows : List Line = map (λ q. RowLine q) kept.rows in
    ap (λ t. Account ∷ Times kept.store kept.last_delete kept.counter ∷ t)
    (ap₂ (λ rs bs. front ++ (rs ++ bs)) (map-more (λ q. RowLine q) kept.rows row) none
    ∙ (ap (λ t. front ++ t) (append-nil (rows ++ RowLine row ∷ []))
    ∙ (sym (append_assoc front rows (RowLine row ∷ []))
    ∙ ap (λ t. t ++ RowLine row ∷ []) (sym (ap (λ bs. front ++ (rows ++ bs)) none ∙ ap (λ t. front ++ t) (append-nil rows))))))

batches_grow : (kept : Kept) (new : List Staged) (l : Line) → flat_map batch_lines new ≡ flat_map batch_lines kept.batches ++ l ∷ [] → account_lines (record kept { batches = new }) ≡ account_lines kept ++ l ∷ []
unfolding account_lines
batches_grow kept new l e =
    let front : List Line = map collection_line kept.collections in
    let rows : List Line = map (λ q. RowLine q) kept.rows in
    ap (λ t. Account ∷ Times kept.store kept.last_delete kept.counter ∷ t)
    (ap (λ bs. front ++ (rows ++ bs)) e
    ∙ (ap (λ t. front ++ t) (sym (append_assoc rows (flat_map batch_lines kept.batches) (l ∷ [])))
    ∙ sym (append_assoc front (rows ++ flat_map batch_lines kept.batches) (l ∷ []))))

by_cond : (b : Bool) (k : Kept) (s : State) → cond b (Some (account k)) None ≡ Some s → (b ≡ true) × (account k ≡ s)
by_cond true k s e = (refl, some_same e)
by_cond false k s e = cc

with_collection_grows : (kept : Kept) (name : List ℕ) (time : ℕ) (s : State) → with_collection kept (name, time) ≡ Some s → Grows (account kept) (Collection name time) s
with_collection_grows kept name time s e =
    let r = by_cond (is_empty kept.rows && is_empty kept.batches && may_end (comes_before name_cmp) kept.collections (name, time)) (record kept { collections = kept.collections ++ (name, time) ∷ [] }) s e in
    let p = and_parts (is_empty kept.rows && is_empty kept.batches) (may_end (comes_before name_cmp) kept.collections (name, time)) r.0 in
    let q = and_parts (is_empty kept.rows) (is_empty kept.batches) p.0 in
    subst (Grows (account kept) (Collection name time)) r.1 (record {
      lines = collection_grows kept (name, time) (empty kept.rows q.0) (empty kept.batches q.1);
      ordered = λ o. record { collections = ascending_more (comes_before name_cmp) kept.collections (name, time) o.collections p.1; rows = o.rows; batches = o.batches };
    })

with_row_grows : (kept : Kept) (row : Row) (s : State) → with_row kept row ≡ Some s → Grows (account kept) (RowLine row) s
with_row_grows kept row s e =
    let r = by_cond (is_empty kept.batches && may_end (comes_before place_cmp) kept.rows row) (record kept { rows = kept.rows ++ row ∷ [] }) s e in
    let p = and_parts (is_empty kept.batches) (may_end (comes_before place_cmp) kept.rows row) r.0 in
    subst (Grows (account kept) (RowLine row)) r.1 (record {
      lines = row_grows kept row (empty kept.batches p.0);
      ordered = λ o. record { collections = o.collections; rows = ascending_more (comes_before place_cmp) kept.rows row o.rows p.1; batches = o.batches };
    })

abbrev bare : ℕ → List ℕ → ℕ → Staged
bare n name time = record { number = n; collection = name; begun = time; parts = [] }

with_batch_grows : (kept : Kept) (n : ℕ) (name : List ℕ) (time : ℕ) (s : State) → with_batch kept (bare n name time) ≡ Some s → Grows (account kept) (Batch n name time) s
with_batch_grows kept n name time s e =
    let r = by_cond (may_end (comes_before number_cmp) kept.batches (bare n name time)) (record kept { batches = kept.batches ++ bare n name time ∷ [] }) s e in
    subst (Grows (account kept) (Batch n name time)) r.1 (record {
      lines = batches_grow kept (kept.batches ++ bare n name time ∷ []) (Batch n name time) (flat-more kept.batches (bare n name time));
      ordered = λ o. record { collections = o.collections; rows = o.rows; batches = ascending_more (comes_before number_cmp) kept.batches (bare n name time) o.batches r.0 };
    })

with_part_grows : (kept : Kept) (part : Part) (s : State) → with_part kept part ≡ Some s → Grows (account kept) (PartLine part) s
with_part_grows kept part s e =
    let r = map_some (λ bs. account (record kept { batches = bs })) (with_part_last kept.batches part) s e in
    subst (Grows (account kept) (PartLine part)) r.2 (record {
      lines = batches_grow kept r.0 (PartLine part) (part_lines kept.batches r.0 part r.1);
      ordered = λ o. record { collections = o.collections; rows = o.rows; batches = same_numbers kept.batches r.0 (part_numbers kept.batches r.0 part r.1) o.batches };
    })

first_lines : (a b n : ℕ) → Grows begun (Times a b n) (account (kept_with_times a b n))
unfolding account_lines
first_lines a b n = record { lines = refl; ordered = λ o. record { collections = tt; rows = tt; batches = tt } }

begins : Grows nothing Account begun
begins = record { lines = refl; ordered = λ o. tt }

closes : (kept : Kept) (d : List ℕ) → Grows (account kept) (Digest d) (closed kept d)
closes kept d = record { lines = refl; ordered = λ o. o }

ends : (kept : Kept) (digest : List ℕ) → Grows (closed kept digest) End (whole kept digest)
ends kept digest = record { lines = sym (append_assoc (account_lines kept) (Digest digest ∷ []) (End ∷ [])); ordered = λ o. o }

pub grows : (state : State) (l : Line) (s : State) → next state l ≡ Some s → Grows state l s
unfolding next
grows nothing Account s e = subst (Grows nothing Account) (some_same e) begins
grows nothing (Times a b n) s e = cc
grows nothing (Collection name time) s e = cc
grows nothing (RowLine row) s e = cc
grows nothing (Batch n name time) s e = cc
grows nothing (PartLine part) s e = cc
grows nothing (Digest d) s e = cc
grows nothing End s e = cc
grows begun Account s e = cc
grows begun (Times a b n) s e = subst (Grows begun (Times a b n)) (some_same e) (first_lines a b n)
grows begun (Collection name time) s e = cc
grows begun (RowLine row) s e = cc
grows begun (Batch n name time) s e = cc
grows begun (PartLine part) s e = cc
grows begun (Digest d) s e = cc
grows begun End s e = cc
grows (account kept) Account s e = cc
grows (account kept) (Times a b n) s e = cc
grows (account kept) (Collection name time) s e = with_collection_grows kept name time s e
grows (account kept) (RowLine row) s e = with_row_grows kept row s e
grows (account kept) (Batch n name time) s e = with_batch_grows kept n name time s e
grows (account kept) (PartLine part) s e = with_part_grows kept part s e
grows (account kept) (Digest d) s e = subst (Grows (account kept) (Digest d)) (some_same e) (closes kept d)
grows (account kept) End s e = cc
grows (closed kept digest) Account s e = cc
grows (closed kept digest) (Times a b n) s e = cc
grows (closed kept digest) (Collection name time) s e = cc
grows (closed kept digest) (RowLine row) s e = cc
grows (closed kept digest) (Batch n name time) s e = cc
grows (closed kept digest) (PartLine part) s e = cc
grows (closed kept digest) (Digest d) s e = cc
grows (closed kept digest) End s e = subst (Grows (closed kept digest) End) (some_same e) (ends kept digest)
grows (whole kept digest) Account s e = cc
grows (whole kept digest) (Times a b n) s e = cc
grows (whole kept digest) (Collection name time) s e = cc
grows (whole kept digest) (RowLine row) s e = cc
grows (whole kept digest) (Batch n name time) s e = cc
grows (whole kept digest) (PartLine part) s e = cc
grows (whole kept digest) (Digest d) s e = cc
grows (whole kept digest) End s e = cc

-- ---- where a digest and the end come from

not_closed : (b : Bool) (x k : Kept) (d : List ℕ) → cond b (Some (account x)) None ≡ Some (closed k d) → ⊥
not_closed true x k d e = cc
not_closed false x k d e = cc

not_whole : (b : Bool) (x k : Kept) (d : List ℕ) → cond b (Some (account x)) None ≡ Some (whole k d) → ⊥
not_whole true x k d e = cc
not_whole false x k d e = cc

part_not_closed : (kept : Kept) (part : Part) (k : Kept) (d : List ℕ) → with_part kept part ≡ Some (closed k d) → ⊥
part_not_closed kept part k d e = let r = map_some (λ bs. account (record kept { batches = bs })) (with_part_last kept.batches part) (closed k d) e in let never : account (record kept { batches = r.0 }) ≡ closed k d = r.2 in cc

part_not_whole : (kept : Kept) (part : Part) (k : Kept) (d : List ℕ) → with_part kept part ≡ Some (whole k d) → ⊥
part_not_whole kept part k d e = let r = map_some (λ bs. account (record kept { batches = bs })) (with_part_last kept.batches part) (whole k d) e in let never : account (record kept { batches = r.0 }) ≡ whole k d = r.2 in cc

pub to_closed : (state : State) (l : Line) (k : Kept) (x : List ℕ) → next state l ≡ Some (closed k x) → (state ≡ account k) × (l ≡ Digest x)
unfolding next
to_closed nothing Account k x e = cc
to_closed nothing (Times a b n) k x e = cc
to_closed nothing (Collection name time) k x e = cc
to_closed nothing (RowLine row) k x e = cc
to_closed nothing (Batch n name time) k x e = cc
to_closed nothing (PartLine part) k x e = cc
to_closed nothing (Digest d) k x e = cc
to_closed nothing End k x e = cc
to_closed begun Account k x e = cc
to_closed begun (Times a b n) k x e = cc
to_closed begun (Collection name time) k x e = cc
to_closed begun (RowLine row) k x e = cc
to_closed begun (Batch n name time) k x e = cc
to_closed begun (PartLine part) k x e = cc
to_closed begun (Digest d) k x e = cc
to_closed begun End k x e = cc
to_closed (account kept) Account k x e = cc
to_closed (account kept) (Times a b n) k x e = cc
to_closed (account kept) (Collection name time) k x e = absurd (not_closed _ _ k x e)
to_closed (account kept) (RowLine row) k x e = absurd (not_closed _ _ k x e)
to_closed (account kept) (Batch n name time) k x e = absurd (not_closed _ _ k x e)
to_closed (account kept) (PartLine part) k x e = absurd (part_not_closed kept part k x e)
to_closed (account kept) (Digest d) k x e = let same : closed kept d ≡ closed k x = some_same e in let first : kept ≡ k = cc in let second : d ≡ x = cc in (ap account first, ap Digest second)
to_closed (account kept) End k x e = cc
to_closed (closed kept digest) Account k x e = cc
to_closed (closed kept digest) (Times a b n) k x e = cc
to_closed (closed kept digest) (Collection name time) k x e = cc
to_closed (closed kept digest) (RowLine row) k x e = cc
to_closed (closed kept digest) (Batch n name time) k x e = cc
to_closed (closed kept digest) (PartLine part) k x e = cc
to_closed (closed kept digest) (Digest d) k x e = cc
to_closed (closed kept digest) End k x e = cc
to_closed (whole kept digest) Account k x e = cc
to_closed (whole kept digest) (Times a b n) k x e = cc
to_closed (whole kept digest) (Collection name time) k x e = cc
to_closed (whole kept digest) (RowLine row) k x e = cc
to_closed (whole kept digest) (Batch n name time) k x e = cc
to_closed (whole kept digest) (PartLine part) k x e = cc
to_closed (whole kept digest) (Digest d) k x e = cc
to_closed (whole kept digest) End k x e = cc

pub to_whole : (state : State) (l : Line) (k : Kept) (x : List ℕ) → next state l ≡ Some (whole k x) → (state ≡ closed k x) × (l ≡ End)
unfolding next
to_whole nothing Account k x e = cc
to_whole nothing (Times a b n) k x e = cc
to_whole nothing (Collection name time) k x e = cc
to_whole nothing (RowLine row) k x e = cc
to_whole nothing (Batch n name time) k x e = cc
to_whole nothing (PartLine part) k x e = cc
to_whole nothing (Digest d) k x e = cc
to_whole nothing End k x e = cc
to_whole begun Account k x e = cc
to_whole begun (Times a b n) k x e = cc
to_whole begun (Collection name time) k x e = cc
to_whole begun (RowLine row) k x e = cc
to_whole begun (Batch n name time) k x e = cc
to_whole begun (PartLine part) k x e = cc
to_whole begun (Digest d) k x e = cc
to_whole begun End k x e = cc
to_whole (account kept) Account k x e = cc
to_whole (account kept) (Times a b n) k x e = cc
to_whole (account kept) (Collection name time) k x e = absurd (not_whole _ _ k x e)
to_whole (account kept) (RowLine row) k x e = absurd (not_whole _ _ k x e)
to_whole (account kept) (Batch n name time) k x e = absurd (not_whole _ _ k x e)
to_whole (account kept) (PartLine part) k x e = absurd (part_not_whole kept part k x e)
to_whole (account kept) (Digest d) k x e = cc
to_whole (account kept) End k x e = cc
to_whole (closed kept digest) Account k x e = cc
to_whole (closed kept digest) (Times a b n) k x e = cc
to_whole (closed kept digest) (Collection name time) k x e = cc
to_whole (closed kept digest) (RowLine row) k x e = cc
to_whole (closed kept digest) (Batch n name time) k x e = cc
to_whole (closed kept digest) (PartLine part) k x e = cc
to_whole (closed kept digest) (Digest d) k x e = cc
to_whole (closed kept digest) End k x e = let same : whole kept digest ≡ whole k x = some_same e in let first : kept ≡ k = cc in let second : digest ≡ x = cc in (ap₂ closed first second, refl)
to_whole (whole kept digest) Account k x e = cc
to_whole (whole kept digest) (Times a b n) k x e = cc
to_whole (whole kept digest) (Collection name time) k x e = cc
to_whole (whole kept digest) (RowLine row) k x e = cc
to_whole (whole kept digest) (Batch n name time) k x e = cc
to_whole (whole kept digest) (PartLine part) k x e = cc
to_whole (whole kept digest) (Digest d) k x e = cc
to_whole (whole kept digest) End k x e = cc

-- ---- lines one behind the other

pub told_more : (state : State) (ls : List Line) (l : Line) (m s : State) → told_from state ls ≡ Some m → next m l ≡ Some s → told_from state (ls ++ l ∷ []) ≡ Some s
told_more state [] l m s e h = let same : state ≡ m = some_same e in ap (option_and_then (λ t. told_from t [])) (ap (λ t. next t l) same ∙ h)
told_more state (x ∷ xs) l m s e h =
    let r = and_then_some (λ t. told_from t xs) (next state x) m e in
    ap (option_and_then (λ t. told_from t (xs ++ l ∷ []))) r.1 ∙ told_more r.0 xs l m s r.2 h

record Tells (front : List Line) (s : State) : Type 0 where
  lines : front ≡ lines_of s
  ordered : AreOrdered s

told_tells : (state : State) (front ls : List Line) (s : State) → Tells front state → told_from state ls ≡ Some s → Tells (front ++ ls) s
told_tells state front [] s h e = let same : state ≡ s = some_same e in subst (λ f. Tells f s) (sym (append-nil front)) (subst (Tells front) same h)
told_tells state front (l ∷ ls) s h e =
    let r = and_then_some (λ t. told_from t ls) (next state l) s e in
    let g = grows state l r.0 r.1 in
    let more : Tells (front ++ l ∷ []) r.0 = record { lines = ap (λ f. f ++ l ∷ []) h.lines ∙ sym g.lines; ordered = g.ordered h.ordered } in
    subst (λ f. Tells f s) (append_assoc front (l ∷ []) ls) (told_tells r.0 (front ++ l ∷ []) ls s more r.2)

nothing_told : Tells [] nothing
nothing_told = record { lines = refl; ordered = tt }

-- lines that tell something are its lines, and its lists are in order
pub told_lines : (ls : List Line) (s : State) → state_of_lines ls ≡ Some s → (ls ≡ lines_of s) × AreOrdered s
unfolding state_of_lines
told_lines ls s e = let t = told_tells nothing [] ls s nothing_told e in (t.lines, t.ordered)

pub ordered_is : (kept : Kept) → IsOrdered kept → in_order kept ≡ kept
ordered_is kept h =
    let c = ascending_sorted (comes_before name_cmp) kept.collections h.collections in
    let r = ascending_sorted (comes_before place_cmp) kept.rows h.rows in
    let b = ascending_sorted (comes_before number_cmp) kept.batches h.batches in
    let one : in_order kept ≡ record kept { rows = kept.rows; collections = kept.collections; batches = sorted (comes_before number_cmp) kept.batches } =
    ap₂ (λ rs cs. record kept { rows = rs; collections = cs; batches = sorted (comes_before number_cmp) kept.batches }) r c in
    one ∙ ap (λ bs. record kept { batches = bs }) b

pub text_append : (xs ys : List Line) → text_of (xs ++ ys) ≡ text_of xs ++ text_of ys
text_append [] ys = refl
text_append (x ∷ xs) ys = ap (λ t. line_text x ++ t) (text_append xs ys) ∙ sym (append_assoc (line_text x) (text_of xs) (text_of ys))

pub text_more : (ls : List Line) (l : Line) → text_of (ls ++ l ∷ []) ≡ text_of ls ++ line_text l
text_more ls l = text_append ls (l ∷ []) ∙ ap (λ t. text_of ls ++ t) (append-nil (line_text l))

pub all_front : (xs ys : List Line) → AllByRecursion IsLine (xs ++ ys) → AllByRecursion IsLine xs
all_front [] ys h = tt
all_front (x ∷ xs) ys h = (h.0, all_front xs ys h.1)

pub all_back : (xs ys : List Line) → AllByRecursion IsLine (xs ++ ys) → AllByRecursion IsLine ys
all_back [] ys h = h
all_back (x ∷ xs) ys h = all_back xs ys h.1

pub all_more : (xs : List Line) (l : Line) → AllByRecursion IsLine xs → IsLine l → AllByRecursion IsLine (xs ++ l ∷ [])
all_more [] l h k = (k, tt)
all_more (x ∷ xs) l h k = (h.0, all_more xs l h.1 k)

-- ---- a text that tells an account

pub record IsTextOf (text : List ℕ) (kept : Kept) (digest : List ℕ) : Type 0 where
  pub formed : AllByRecursion IsLine (account_lines kept)
  pub digest_formed : IsLine (Digest digest)
  pub ordered : in_order kept ≡ kept
  pub body_is : body_text kept ≡ text_of (account_lines kept)
  pub text_is : text ≡ closed_by digest (body_text kept)

pub text_told : (text : List ℕ) (kept : Kept) (digest : List ℕ) → IsToldWith text kept digest → IsTextOf text kept digest
unfolding body_text
text_told text kept digest h =
    let t = told_lines h.lines (whole kept digest) h.tell in
    let o = ordered_is kept t.1 in
    let back : List Line = Digest digest ∷ End ∷ [] in
    let body : body_text kept ≡ text_of (account_lines kept) = ap (λ k. text_of (account_lines k)) o in
    record {
      formed = all_front (account_lines kept) back (subst (AllByRecursion IsLine) t.0 h.are);
      digest_formed = (all_back (account_lines kept) back (subst (AllByRecursion IsLine) t.0 h.are)).0;
      ordered = o;
      body_is = body;
      text_is = h.text_is ∙ (ap text_of t.0 ∙ (text_append (account_lines kept) back ∙ ap₂ (λ a b. a ++ b) (sym body) (ap (λ t. line_text (Digest digest) ++ t) (append-nil (line_text End)))));
    }
