-- Rows after a request of anybody: each was there before, or is later than the store's time was.
use Rattle.std.specs.Prelude.{◌≡◌, ◌⊎◌, ℕ, ◌<◌, ◌≤◌, Bool, true, false, not, ◌&&◌, cond, List, [], ◌∷◌, filter, find}
use Rattle.std.specs.Prelude.{Option, Some, None, option_map, is_some, bytes_eq, refl}
use Rattle.std.proofs.Common.{sym, ap, subst, inl, inr, ◌∙◌, arith}
use Rattle.ss_bso.specs.declared.rows.Row.{Row}
use Rattle.ss_bso.specs.declared.parts.Part.{Part}
use Rattle.ss_bso.specs.declared.account.Plain.{Plain}
use Rattle.ss_bso.specs.Account.{is_alive, is_at, row_at, tick, time_of}
use Rattle.ss_bso.specs.Lists.{Apart, Pairs}
use Rattle.ss_bso.specs.Put.{row_after_put}
use Rattle.ss_bso.specs.Validity.{IsValid, SameAccount}
use Rattle.ss_bso.specs.Write.{is_among, parts_of, put_all, rows_without, rows_written, account_after_write}
use Rattle.ss_bso.proofs.Lists.{Each-filter, Each-find, Pairs-filter, Pairs-from_AllPairs}
use Rattle.ss_bso.proofs.Places.{apart_flip}
use Rattle.ss_bso.proofs.Reordering.{NotBoth, Pairs-reordered, reordered-sym}
use Rattle.ss_bso.proofs.SameRows.{clash, pairs_not_both, row-same}
use Rattle.ss_text.specs.Time.{after}
use Rattle.std.proofs.lemmas.Bool.{and_from}
use Rattle.ss_text.proofs.Basics.{both_left, both_right, bytes_eq-same, same_text}
use Rattle.ss_query.specs.declared.requests.Request.{Request}
use Rattle.ss_query.specs.declared.requests.Request.TheVariants.{Info, DeleteAll, List as ListOf, Post}
use Rattle.ss_query.specs.declared.requests.Request.TheVariants.{DeleteCollection, DeleteIds, Put, Get as GetItem}
use Rattle.ss_query.specs.declared.requests.Request.TheVariants.{Delete as DeleteItem}
use Rattle.ss_query.specs.Refused.{Refusal}
use Rattle.ss_query.specs.Effect.{effect, parts_to_put, stamp_in, write_some}
use Rattle.ss_query.specs.Api.{api, outcome, refusal}
use Rattle.ss_laws.proofs.Reading.{write_law}
use Rattle.ss_laws.proofs.Valid.{valid-tick}
use Rattle.ss_record.specs.declared.readings.Sheet.{Sheet}
use Rattle.ss_plan.specs.Written.{sheet}
use Rattle.ss_serving.specs.Bookmarks.{Server, bookmarks, sheet_of, sheets_of, shown_by}
use Rattle.ss_serving.specs.Serving.{Ages}
use Rattle.ss_serving.specs.Steps.{Answers, Ticks}
use Rattle.ss_serving.proofs.Seen.{sheet-shown}

-- ---- finding

-- no two rows have one place
one_place : (collection id : List ℕ) (rows : List Row) → Pairs Apart rows → Pairs (NotBoth (is_at collection id)) rows
one_place collection id rows places =
    pairs_not_both Apart (is_at collection id)
    (λ row other apart e f.
    let first : other.collection ≡ row.collection = same_text other.collection collection (both_left (bytes_eq other.collection collection) (bytes_eq other.id id) f) ∙ sym (same_text row.collection collection (both_left (bytes_eq row.collection collection) (bytes_eq row.id id) e)) in
    let second : other.id ≡ row.id = same_text other.id id (both_right (bytes_eq other.collection collection) (bytes_eq other.id id) f) ∙ sym (same_text row.id id (both_right (bytes_eq row.collection collection) (bytes_eq row.id id) e)) in
    clash (is_at row.collection row.id other) (and_from (bytes_eq other.collection row.collection) (bytes_eq other.id row.id) (bytes_eq-same other.collection row.collection first) (bytes_eq-same other.id row.id second)) apart)
    rows places

-- what is found passes
find_passes : {X : Type 0} (p : X → Bool) (xs : List X) (x : X) → find p xs ≡ Some x → p x ≡ true
find_passes p [] x e = cc
find_passes p (y ∷ ys) x e =
    elim (p y) as (λ v. p y ≡ v → cond v (Some y) (find p ys) ≡ Some x → p x ≡ true) [
      | true ↦ (λ t h. let same : y ≡ x = cc in ap p (sym same) ∙ t)
      | false ↦ (λ t h. find_passes p ys x h)
    ] refl e

-- what is found among fewer is found among all
find_before : {X : Type 0} (p q : X → Bool) (xs : List X) → Pairs (NotBoth p) xs → (x : X) → find p (filter q xs) ≡ Some x → find p xs ≡ Some x
find_before p q [] once x e = e
find_before {X} p q (y ∷ ys) once x e =
    elim (q y) as (λ v. find p (cond v (y ∷ filter q ys) (filter q ys)) ≡ Some x → cond (p y) (Some y) (find p ys) ≡ Some x) [
      | true ↦ (λ h. kept (λ g. find_before p q ys once.1 x g) (p y) h)
      | false ↦ (λ h. left (p y) refl (find_before p q ys once.1 x h) (Each-find (NotBoth p y) p (filter q ys) x h (Each-filter (NotBoth p y) q ys once.0)) (find_passes p (filter q ys) x h))
    ] e
  where
    kept : (find p (filter q ys) ≡ Some x → find p ys ≡ Some x) → (v : Bool) → cond v (Some y) (find p (filter q ys)) ≡ Some x → cond v (Some y) (find p ys) ≡ Some x
    kept later true h = h
    kept later false h = later h

    left : (v : Bool) → p y ≡ v → find p ys ≡ Some x → (p y && p x) ≡ false → p x ≡ true → cond v (Some y) (find p ys) ≡ Some x
    left true t h apart passes = let clash : true ≡ false = sym (ap (λ b. b && p x) t ∙ passes) ∙ apart in cc
    left false t h apart passes = h

row_before : (collection id : List ℕ) (q : Row → Bool) (rows : List Row) → Pairs Apart rows → (row : Row) → row_at collection id (filter q rows) ≡ Some row → row_at collection id rows ≡ Some row
row_before collection id q rows places row e = find_before (is_at collection id) q rows (one_place collection id rows places) row e

-- ---- what a request leaves

-- no store's time falls; each row was at its place before, or is later than the store's time was
pub record RowsAge (a b : Plain) : Type 0 where
  pub store : a.store ≤ b.store
  pub rows : (collection id : List ℕ) (row : Row) → row_at collection id b.rows ≡ Some row → (row_at collection id a.rows ≡ Some row) ⊎ (a.store < row.modified)

-- the same rows, or fewer
fewer : (a b : Plain) (q : Row → Bool) → Pairs Apart a.rows → a.store ≤ b.store → b.rows ≡ filter q a.rows → RowsAge a b
fewer a b q places later is = record {
  store = later;
  rows = λ collection id row e. inl (row_before collection id q a.rows places row (subst (λ rows. row_at collection id rows ≡ Some row) is e));
}

same_rows : (a b : Plain) → a.store ≤ b.store → b.rows ≡ a.rows → RowsAge a b
same_rows a b later is = record { store = later; rows = λ collection id row e. inl (subst (λ rows. row_at collection id rows ≡ Some row) is e) }

no_rows : (a b : Plain) → a.store ≤ b.store → b.rows ≡ [] → RowsAge a b
no_rows a b later is = record { store = later; rows = λ collection id row e. let absent : None ≡ Some row = subst (λ rows. row_at collection id rows ≡ Some row) is e in cc }

-- a row after parts is the old one, or has their stamp
put-aged : (collection : List ℕ) (parts : List Part) (time : ℕ) (old : Option Row) (row : Row) → put_all collection parts time old ≡ Some row → (old ≡ Some row) ⊎ (row.modified ≡ time)
put-aged collection [] time old row e = inl e
put-aged collection (part ∷ parts) time old row e = elim (put-aged collection parts time (Some (row_after_put old collection part time)) row e) [
  | inl same ↦ inr (renewed (row_after_put old collection part time) refl same)
  | inr new ↦ inr new
]
  where
    renewed : (new : Row) → new.modified ≡ time → Some new ≡ Some row → row.modified ≡ time
    renewed new is same = let eq : new ≡ row = cc in sym (ap (λ (r : Row). r.modified) eq) ∙ is

written : (a b : Plain) (collection : List ℕ) (parts : List Part) (time : ℕ) → a.store < time → b.store ≡ time → b.rows ≡ rows_written collection parts time a.rows → RowsAge a b
written a b collection parts time later store is = record {
  store = omega (arith, later, store);
  rows = λ other id row e. by other id row (bytes_eq other collection) refl (subst (λ rows. row_at other id rows ≡ Some row) is e);
}
  where
    by : (other id : List ℕ) (row : Row) (v : Bool) → bytes_eq other collection ≡ v → row_at other id (rows_written collection parts time a.rows) ≡ Some row
        → (row_at other id a.rows ≡ Some row) ⊎ (a.store < row.modified)
    by other id row true t e =
        let here : other ≡ collection = same_text other collection t in
        let at : row_at collection id (rows_written collection parts time a.rows) ≡ Some row = subst (λ c. row_at c id (rows_written collection parts time a.rows) ≡ Some row) here e in
        elim (put-aged collection (parts_of id parts) time (row_at collection id a.rows) row (sym ((write_law collection parts time a.rows).here id) ∙ at)) [
          | inl old ↦ inl (subst (λ c. row_at c id a.rows ≡ Some row) (sym here) old)
          | inr new ↦ inr (omega (arith, later, new))
        ]
    by other id row false t e =
        inl (sym ((write_law collection parts time a.rows).elsewhere other id (λ same. clash (bytes_eq other collection) (bytes_eq-same other collection same) t)) ∙ e)

stamp_later : (a : Plain) → a.store < stamp_in a
stamp_later a = omega arith

post-aged : (a b : Plain) (collection : List ℕ) (parts : List Part) → b.rows ≡ (write_some a collection parts).rows → b.store ≡ (write_some a collection parts).store → RowsAge a b
post-aged a b collection [] rows store = same_rows a b (omega (arith, store)) rows
post-aged a b collection (part ∷ parts) rows store = written a b collection (part ∷ parts) (stamp_in a) (stamp_later a) store rows

effect-aged : (a : Plain) (request : Request) → Pairs Apart a.rows → RowsAge a (effect a request)
effect-aged a (Info what x) places = same_rows a a (omega arith) refl
effect-aged a (DeleteAll x) places = no_rows a (effect a (DeleteAll x)) (omega arith) refl
effect-aged a (ListOf collection query x) places = same_rows a a (omega arith) refl
effect-aged a (Post collection records mode x) places = post-aged a (effect a (Post collection records mode x)) collection (parts_to_put a collection records.parts mode) refl refl
effect-aged a (DeleteCollection collection x) places = fewer a (effect a (DeleteCollection collection x)) (λ row. not (bytes_eq row.collection collection)) places (omega arith) refl
effect-aged a (DeleteIds collection ids x) places = by (is_some (time_of collection a.collections)) (effect a (DeleteIds collection ids x)) refl
  where
    by : (there : Bool) (b : Plain) → b ≡ cond there (account_after_write a collection (stamp_in a) (rows_without collection ids a.rows)) a → RowsAge a b
    by true b is =
        let store : b.store ≡ stamp_in a = ap (λ (p : Plain). p.store) is in
        fewer a b (λ row. not (bytes_eq row.collection collection && is_among ids row.id)) places (let up = stamp_later a in omega (arith, store, up)) (ap (λ (p : Plain). p.rows) is)
    by false b is = let store : b.store ≡ a.store = ap (λ (p : Plain). p.store) is in same_rows a b (omega (arith, store)) (ap (λ (p : Plain). p.rows) is)
effect-aged a (GetItem collection id x) places = same_rows a a (omega arith) refl
effect-aged a (Put collection id fields x) places = written a (effect a (Put collection id fields x)) collection (record { id = id; fields = fields } ∷ []) (stamp_in a) (stamp_later a) refl refl
effect-aged a (DeleteItem collection id x) places = fewer a (effect a (DeleteItem collection id x)) (λ row. not (bytes_eq row.collection collection && is_among (id ∷ []) row.id)) places (omega arith) refl

outcome-aged : (a : Plain) (request : Request) (why : Option Refusal) → Pairs Apart a.rows → RowsAge a (outcome a request why).account
outcome-aged a request None places = effect-aged a request places
outcome-aged a request (Some why) places = same_rows a a (omega arith) refl

age-through : (a b c : Plain) → RowsAge a b → RowsAge b c → RowsAge a c
age-through a b c first second =
    let one : a.store ≤ b.store = first.store in
    let two : b.store ≤ c.store = second.store in
    record {
      store = omega (arith, one, two);
      rows = λ collection id row e. elim (second.rows collection id row e) [
        | inl old ↦ first.rows collection id row old
        | inr new ↦ inr (omega (arith, new, one))
      ];
    }

places_of : (a : Plain) → IsValid a → Pairs Apart a.rows
places_of a valid = Pairs-from_AllPairs Apart a.rows valid.places

tick-aged : (a : Plain) (now : ℕ) → Pairs Apart a.rows → RowsAge a (tick a now)
tick-aged a now places = fewer a (tick a now) (is_alive (after a.moment now)) places (omega arith) refl

api-aged : (a : Plain) (now : ℕ) (request : Request) → IsValid a → RowsAge a (api a now request).account
api-aged a now request valid =
    age-through a (tick a now) (api a now request).account (tick-aged a now (places_of a valid))
    (outcome-aged (tick a now) request (refusal (tick a now) request) (Pairs-filter Apart (is_alive (after a.moment now)) a.rows (places_of a valid)))

-- the order of the rows shows nowhere
same-aged : (a b : Plain) → SameAccount a b → Pairs Apart a.rows → RowsAge a b
same-aged a b s places = record {
  store = omega (arith, s.store);
  rows = λ collection id row e. inl (row-same collection id a.rows b.rows s.rows places ∙ e);
}

-- ---- what is shown of the bookmarks

shown-aged : (one other : Server) → Pairs Apart one.account.rows → Pairs Apart other.account.rows → RowsAge one.account other.account → Ages (shown_by one) (shown_by other)
shown-aged one other places others age = record {
  store = age.store;
  rows = λ x s e. by x s (row_at bookmarks x other.account.rows) refl (sym (sheet-shown other.account.rows others x) ∙ e);
}
  where
    by : (x : List ℕ) (s : Sheet) (o : Option Row) → row_at bookmarks x other.account.rows ≡ o → option_map sheet_of o ≡ Some s
        → (sheet x (sheets_of one.account.rows) ≡ Some s) ⊎ (one.account.store < s.modified)
    by x s None is e = cc
    by x s (Some row) is e = elim (age.rows bookmarks x row is) [
      | inl old ↦ inl (sheet-shown one.account.rows places x ∙ ap (option_map sheet_of) old ∙ e)
      | inr new ↦ inr (let same : sheet_of row ≡ s = cc in subst (λ n. one.account.store < n) (ap (λ (r : Sheet). r.modified) same) new)
    ]

pub answers-aged : (before after : Server) (now : ℕ) (request : Request) → IsValid before.account → Answers before now request after → Ages (shown_by before) (shown_by after)
answers-aged before after now request valid a =
    let left : Pairs Apart (api before.account now request).account.rows = Pairs-reordered Apart apart_flip (reordered-sym a.account.rows) (places_of after.account a.valid) in
    shown-aged before after (places_of before.account valid) (places_of after.account a.valid)
    (age-through before.account (api before.account now request).account after.account (api-aged before.account now request valid) (same-aged (api before.account now request).account after.account a.account left))

pub ticks-aged : (before after : Server) (now : ℕ) → IsValid before.account → Ticks before now after → Ages (shown_by before) (shown_by after)
ticks-aged before after now valid t =
    shown-aged before after (places_of before.account valid) (places_of after.account t.valid)
    (age-through before.account (tick before.account now) after.account (tick-aged before.account now (places_of before.account valid))
    (same-aged (tick before.account now) after.account t.account (places_of (tick before.account now) (valid-tick before.account now valid))))
