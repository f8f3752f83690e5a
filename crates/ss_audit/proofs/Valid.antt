-- An account is valid where each part of its validity holds, and its lists are told apart by their keys.
use Rattle.std.specs.Prelude.{◌≡◌, ◌≤◌, ◌<◌, ◌+◌, ◌==◌, ℕ, Bool, true, false, not, ◌&&◌, is_none, List, length, take}
use Rattle.std.specs.Prelude.{get_or, bytes_eq, IsSome, IsTrue, ◌↔◌, is_some, Option, Some, None, refl}
use Rattle.std.specs.List.{list_any}
use Rattle.std.proofs.Common.{subst, sym, ap, ◌∙◌}
use Rattle.std.proofs.lemmas.Bool.{eqb-false, eqb-true}
use Rattle.ss_bso.specs.declared.rows.Row.{Row}
use Rattle.ss_bso.specs.declared.account.Plain.{Plain}
use Rattle.ss_bso.specs.declared.account.Staged.{Staged}
use Rattle.ss_bso.specs.Account.{time_of}
use Rattle.ss_bso.specs.Lists.{Apart, Each, Pairs}
use Rattle.ss_bso.specs.Validity.{IsValid, IsValidBatch}
use Rattle.ss_bso.proofs.Lists.{Each-imp, Each-from_All, All-from_Each, Pairs-from_AllPairs, AllPairs-from_Pairs}
use Rattle.ss_text.proofs.Basics.{bytes_eq-flip}
use Rattle.ss_account.proofs.Opened.{any-time}
use Rattle.ss_audit.specs.Validity.{HasValidParts, IsItem, NamedApart, NumberedApart}
use Rattle.ss_audit.proofs.Lists.{each_none, none_any, pairs_at, pairs_more}

-- ---- a place, a name or a number that is among those before it

-- no row before stands at the place of a row
pub places_apart : (row : Row) (rows : List Row) → list_any (λ (other : Row). bytes_eq row.collection other.collection && bytes_eq row.id other.id) rows ≡ false → Each (λ (other : Row). Apart other row) rows
places_apart row rows e = each_none (λ (other : Row). bytes_eq row.collection other.collection && bytes_eq row.id other.id) rows e

pub apart_places : (row : Row) (rows : List Row) → Each (λ (other : Row). Apart other row) rows → list_any (λ (other : Row). bytes_eq row.collection other.collection && bytes_eq row.id other.id) rows ≡ false
apart_places row rows e = none_any (λ (other : Row). bytes_eq row.collection other.collection && bytes_eq row.id other.id) rows e

unplaced : (first found : Bool) → first ≡ not found → first ≡ true → found ≡ false
unplaced first true e f = let clash : false ≡ true = sym e ∙ f in cc
unplaced first false e f = refl

pub places_more : (rows : List Row) (k : ℕ) (row : Row) (found first : Bool) → k < length rows → row ≡ get_or rows k row → first ≡ not found
    → found ≡ list_any (λ (other : Row). bytes_eq row.collection other.collection && bytes_eq row.id other.id) (take k rows) → first ≡ true → Pairs Apart (take k rows) → Pairs Apart (take (k + 1) rows)
places_more rows k row found first lt item is at e p = pairs_more Apart rows k row lt item p (places_apart row (take k rows) (sym at ∙ unplaced first found is e))

pub places_not : (rows : List Row) (k : ℕ) (row : Row) (found first : Bool) → k < length rows → row ≡ get_or rows k row → first ≡ not found
    → found ≡ list_any (λ (other : Row). bytes_eq row.collection other.collection && bytes_eq row.id other.id) (take k rows) → first ≡ false → Pairs Apart rows → ⊥
places_not rows k row found first lt item is at e p =
    let none : found ≡ false = at ∙ apart_places row (take k rows) (pairs_at Apart rows k row lt item p) in
    let clash : true ≡ false = sym (is ∙ ap not none) ∙ e in
    cc

unnamed : (b c : Bool) → b ≡ not c → c ≡ true → b ≡ false
unnamed b c e f = e ∙ ap not f

named_not : (b c : Bool) → b ≡ not c → b ≡ false → c ≡ true
named_not b true e f = refl
named_not b false e f = cc

pub names_apart : (entry : List ℕ × ℕ) (times : List (List ℕ × ℕ)) → is_none (time_of entry.0 times) ≡ true → Each (λ (other : List ℕ × ℕ). NamedApart other entry) times
names_apart entry times e =
    Each-imp (λ (other : List ℕ × ℕ). bytes_eq other.0 entry.0 ≡ false) (λ (other : List ℕ × ℕ). NamedApart other entry) (λ other f. bytes_eq-flip other.0 entry.0 f) times
    (each_none (λ (other : List ℕ × ℕ). bytes_eq other.0 entry.0) times (unnamed _ _ (any-time entry.0 times) e))

pub apart_names : (entry : List ℕ × ℕ) (times : List (List ℕ × ℕ)) → Each (λ (other : List ℕ × ℕ). NamedApart other entry) times → is_none (time_of entry.0 times) ≡ true
apart_names entry times e =
    named_not _ _ (any-time entry.0 times)
    (none_any (λ (other : List ℕ × ℕ). bytes_eq other.0 entry.0) times
    (Each-imp (λ (other : List ℕ × ℕ). NamedApart other entry) (λ (other : List ℕ × ℕ). bytes_eq other.0 entry.0 ≡ false) (λ other f. bytes_eq-flip entry.0 other.0 f) times e))

pub names_more : (times : List (List ℕ × ℕ)) (k : ℕ) (entry : List ℕ × ℕ) (found : Option ℕ) (first : Bool) → k < length times → entry ≡ get_or times k entry → first ≡ is_none found
    → found ≡ time_of entry.0 (take k times) → first ≡ true → Pairs NamedApart (take k times) → Pairs NamedApart (take (k + 1) times)
names_more times k entry found first lt item is at e p = pairs_more NamedApart times k entry lt item p (names_apart entry (take k times) (sym (is ∙ ap is_none at) ∙ e))

pub names_not : (times : List (List ℕ × ℕ)) (k : ℕ) (entry : List ℕ × ℕ) (found : Option ℕ) (first : Bool) → k < length times → entry ≡ get_or times k entry → first ≡ is_none found
    → found ≡ time_of entry.0 (take k times) → first ≡ false → Pairs NamedApart times → ⊥
names_not times k entry found first lt item is at e p =
    let none : is_none (time_of entry.0 (take k times)) ≡ true = apart_names entry (take k times) (pairs_at NamedApart times k entry lt item p) in
    let clash : true ≡ false = sym none ∙ sym (is ∙ ap is_none at) ∙ e in
    cc

same_number : (m n : ℕ) → m ≡ n → (m == n) ≡ true
same_number m n e = subst (λ k. (m == k) ≡ true) e (own m)
  where
    own : (k : ℕ) → (k == k) ≡ true
    own k = elim (k == k) as (λ v. (k == k) ≡ v → v ≡ true) [ true ↦ (λ _. refl) | false ↦ (λ f. absurd (eqb-false k k f refl)) ] refl

pub numbers_apart : (batch : Staged) (batches : List Staged) → list_any (λ (other : Staged). other.number == batch.number) batches ≡ false → Each (λ (other : Staged). NumberedApart other batch) batches
numbers_apart batch batches e =
    Each-imp (λ (other : Staged). (other.number == batch.number) ≡ false) (λ (other : Staged). NumberedApart other batch) (λ other f. eqb-false other.number batch.number f) batches
    (each_none (λ (other : Staged). other.number == batch.number) batches e)

pub apart_numbers : (batch : Staged) (batches : List Staged) → Each (λ (other : Staged). NumberedApart other batch) batches → list_any (λ (other : Staged). other.number == batch.number) batches ≡ false
apart_numbers batch batches e =
    none_any (λ (other : Staged). other.number == batch.number) batches
    (Each-imp (λ (other : Staged). NumberedApart other batch) (λ (other : Staged). (other.number == batch.number) ≡ false) (λ other f. differ other.number batch.number f) batches e)
  where
    differ : (m n : ℕ) → (m ≡ n → ⊥) → (m == n) ≡ false
    differ m n h = elim (m == n) as (λ v. (m == n) ≡ v → v ≡ false) [ true ↦ (λ t. absurd (h (eqb-true m n t))) | false ↦ (λ _. refl) ] refl

pub numbers_more : (batches : List Staged) (k : ℕ) (batch : Staged) → k < length batches → batch ≡ get_or batches k batch → list_any (λ (other : Staged). other.number == batch.number) (take k batches) ≡ false
    → Pairs NumberedApart (take k batches) → Pairs NumberedApart (take (k + 1) batches)
numbers_more batches k batch lt item e p = pairs_more NumberedApart batches k batch lt item p (numbers_apart batch (take k batches) e)

pub numbers_not : (batches : List Staged) (k : ℕ) (batch : Staged) → k < length batches → batch ≡ get_or batches k batch → list_any (λ (other : Staged). other.number == batch.number) (take k batches) ≡ true
    → Pairs NumberedApart batches → ⊥
numbers_not batches k batch lt item e p =
    let none : list_any (λ (other : Staged). other.number == batch.number) (take k batches) ≡ false = apart_numbers batch (take k batches) (pairs_at NumberedApart batches k batch lt item p) in
    cc

-- ---- the whole

valid_from : (account : Plain) → HasValidParts account → Pairs Apart account.rows → Pairs NamedApart account.collections → Each (IsItem account.collections) account.rows → IsValid account
valid_from account parts places names items = record {
  places = AllPairs-from_Pairs Apart account.rows places;
  names = AllPairs-from_Pairs NamedApart account.collections names;
  limits = parts.limits;
  items = All-from_Each (IsItem account.collections) account.rows items;
  times = All-from_Each (λ (entry : List ℕ × ℕ). entry.1 ≤ account.store) account.collections parts.times.times;
  store = parts.times.store;
  moment = parts.times.moment;
  few = parts.batches.few;
  numbers = AllPairs-from_Pairs NumberedApart account.batches parts.batches.numbers;
  batches = All-from_Each (IsValidBatch account) account.batches parts.batches.batches;
}

parts_valid : (account : Plain) → IsValid account → HasValidParts account
parts_valid account valid = record {
  times = record {
    times = Each-from_All (λ (entry : List ℕ × ℕ). entry.1 ≤ account.store) account.collections valid.times;
    store = valid.store;
    moment = valid.moment;
  };
  limits = valid.limits;
  batches = record {
    few = valid.few;
    numbers = Pairs-from_AllPairs NumberedApart account.batches valid.numbers;
    batches = Each-from_All (IsValidBatch account) account.batches valid.batches;
  };
}

pub places_valid : (account : Plain) → IsValid account → Pairs Apart account.rows
places_valid account valid = Pairs-from_AllPairs Apart account.rows valid.places

pub names_valid : (account : Plain) → IsValid account → Pairs NamedApart account.collections
names_valid account valid = Pairs-from_AllPairs NamedApart account.collections valid.names

-- ---- what the tests of its parts tell of the whole

pub parts_not : (account : Plain) (parts : Bool) → IsTrue parts ↔ HasValidParts account → parts ≡ false → IsValid account → ⊥
parts_not account parts tells e valid = let t : parts ≡ true = tells.1 (parts_valid account valid) in cc

pub places_not_valid : (account : Plain) (rows : List Row) (apart : Bool) → rows ≡ account.rows → IsTrue apart ↔ Pairs Apart rows → apart ≡ false → IsValid account → ⊥
places_not_valid account rows apart is tells e valid =
    let t : apart ≡ true = tells.1 (subst (λ rs. Pairs Apart rs) (sym is) (places_valid account valid)) in cc

pub names_not_valid : {X : Type 0} (account : Plain) (times : List (List ℕ × ℕ)) (found : Option X) → times ≡ account.collections → IsSome found ↔ Pairs NamedApart times → found ≡ None → IsValid account → ⊥
names_not_valid account times found is tells e valid =
    let t : is_some found ≡ true = tells.1 (subst (λ ts. Pairs NamedApart ts) (sym is) (names_valid account valid)) in
    let f : is_some found ≡ false = ap is_some e in
    cc

pub valid_by_items : {X : Type 0} (account : Plain) (parts apart items : Bool) (rows : List Row) (times : List (List ℕ × ℕ)) (found : Option X) (x : X) → IsTrue parts ↔ HasValidParts account → parts ≡ true
    → rows ≡ account.rows → IsTrue apart ↔ Pairs Apart rows → apart ≡ true → times ≡ account.collections → IsSome found ↔ Pairs NamedApart times → found ≡ Some x
    → IsTrue items ↔ Each (IsItem account.collections) account.rows → IsTrue items ↔ IsValid account
valid_by_items account parts apart items rows times found x tells_parts p rows_are tells_apart a times_are tells_found f tells_items = (
  λ t.
      let places : Pairs Apart account.rows = subst (λ rs. Pairs Apart rs) rows_are (tells_apart.0 a) in
      let names : Pairs NamedApart account.collections = subst (λ ts. Pairs NamedApart ts) times_are (tells_found.0 (ap is_some f)) in
      valid_from account (tells_parts.0 p) places names (tells_items.0 t),
  λ valid. tells_items.1 (Each-from_All (IsItem account.collections) account.rows valid.items),
)
