-- Rows that are fetched one after the other, each id once.
use Rattle.std.proofs.Common.{◌≡◌, ℕ, ◌+◌, ◌<◌, List, [], ◌∷◌, ◌++◌, length, take, drop, get_or, Bool, true, false}
use Rattle.std.proofs.Common.{cond, not, ◌&&◌, ◌||◌, bytes_eq, refl, sym, ap, ap₂, ◌∙◌, append_assoc, append-nil}
use Rattle.std.proofs.lemmas.List.{take_more, drop_more, take-append-drop}
use Rattle.std.proofs.lemmas.Bool.{false≢true}
use Rattle.std.specs.List.{list_any}
use Rattle.indexmap.specs.IndexSet.{insert_key}
use Rattle.ss_record.specs.declared.readings.Sheet.{Sheet}
use Rattle.ss_record.specs.Ids.{Apart, has}
use Rattle.ss_record.proofs.IdLists.{has-nil, has-cons, has-append, bytes_eq-refl, Apart-nil, Apart-cons, Apart-head}
use Rattle.ss_record.proofs.IdLists.{Apart-tail}
use Rattle.ss_sync.specs.Rows.{ids_of}
use Rattle.ss_sync.specs.Fetched.{are_apart, kept}
use Rattle.ss_text.proofs.Basics.{and_false, or_false, or_true, bytes_eq-sym, same_text, take_push}

pub ids-append : (xs ys : List Sheet) → ids_of (xs ++ ys) ≡ ids_of xs ++ ids_of ys
ids-append [] ys = refl
ids-append (x ∷ xs) ys = ap (λ l. x.id ∷ l) (ids-append xs ys)

-- ---- ids that are apart

pub apart-true : (xs : List (List ℕ)) → are_apart xs ≡ true → Apart xs
apart-true [] h = Apart-nil
apart-true (x ∷ xs) h = go (has x xs) refl h (apart-true xs)
  where
    go : (b : Bool) → has x xs ≡ b → (not b && are_apart xs) ≡ true → (are_apart xs ≡ true → Apart xs) → Apart (x ∷ xs)
    go true e k ih = absurd (false≢true k)
    go false e k ih = Apart-cons x xs e (ih k)

pub apart-from : (xs : List (List ℕ)) → Apart xs → are_apart xs ≡ true
apart-from [] h = refl
apart-from (x ∷ xs) h = ap (λ b. not b && are_apart xs) (Apart-head x xs h) ∙ apart-from xs (Apart-tail x xs h)

-- an id that stands among others and once more
pub apart-twice : (xs : List (List ℕ)) (y : List ℕ) (ys : List (List ℕ)) → has y xs ≡ true → are_apart (xs ++ y ∷ ys) ≡ false
apart-twice [] y ys h = absurd (false≢true (sym (has-nil y) ∙ h))
apart-twice (x ∷ xs) y ys h = go (bytes_eq y x) refl (sym (has-cons y x xs) ∙ h) (apart-twice xs y ys)
  where
    here : bytes_eq y x ≡ true → has x (xs ++ y ∷ ys) ≡ true
    here e =
        has-append x xs (y ∷ ys) ∙ (ap (λ b. has x xs || b) (has-cons x y ys ∙ ap (λ b. b || has x ys) (ap (bytes_eq x) (same_text y x e) ∙ bytes_eq-refl x)) ∙ or_true (has x xs))

    go : (b : Bool) → bytes_eq y x ≡ b → (b || has y xs) ≡ true → (has y xs ≡ true → are_apart (xs ++ y ∷ ys) ≡ false) → (not (has x (xs ++ y ∷ ys)) && are_apart (xs ++ y ∷ ys)) ≡ false
    go true e k ih = ap (λ b. not b && are_apart (xs ++ y ∷ ys)) (here e)
    go false e k ih = ap (λ b. not (has x (xs ++ y ∷ ys)) && b) (ih k) ∙ and_false (not (has x (xs ++ y ∷ ys)))

-- one id more, which isn't there
pub apart-more : (xs : List (List ℕ)) (y : List ℕ) → are_apart xs ≡ true → has y xs ≡ false → are_apart (xs ++ y ∷ []) ≡ true
apart-more [] y a h = ap (λ b. not b && true) (has-nil y)
apart-more (x ∷ xs) y a h = go (has x xs) refl (bytes_eq y x) refl a (sym (has-cons y x xs) ∙ h) (apart-more xs y)
  where
    sides : (a c : Bool) → (a || c) ≡ false → (a ≡ false) × (c ≡ false)
    sides true c k = absurd (false≢true (sym k))
    sides false c k = (refl, k)

    other : bytes_eq y x ≡ false → has x xs ≡ false → has x (xs ++ y ∷ []) ≡ false
    other e n =
        has-append x xs (y ∷ [])
        ∙ (ap₂ (λ a c. a || c) n (has-cons x y [] ∙ ap₂ (λ a c. a || c) (bytes_eq-sym x y ∙ e) (has-nil x)))

    go : (b : Bool) → has x xs ≡ b → (c : Bool) → bytes_eq y x ≡ c → (not b && are_apart xs) ≡ true → (c || has y xs) ≡ false → (are_apart xs ≡ true → has y xs ≡ false → are_apart (xs ++ y ∷ []) ≡ true)
        → (not (has x (xs ++ y ∷ [])) && are_apart (xs ++ y ∷ [])) ≡ true
    go true e c q a k ih = absurd (false≢true a)
    go false e c q a k ih =
        let s = sides c (has y xs) k in
        ap₂ (λ u v. not u && v) (other (q ∙ s.0) e) (ih a s.1)

-- ---- one row more

-- the keys after an id was put among them
pub keys-fresh : (ks : List (List ℕ)) (x : List ℕ) (b : Bool) → b ≡ not (list_any (bytes_eq x) ks) → b ≡ true → insert_key bytes_eq ks x ≡ ks ++ x ∷ []
keys-fresh ks x b e t = go (list_any (bytes_eq x) ks) (sym e ∙ t)
  where
    go : (c : Bool) → not c ≡ true → cond c ks (ks ++ x ∷ []) ≡ ks ++ x ∷ []
    go true k = absurd (false≢true k)
    go false k = refl

pub keys-old : (ks : List (List ℕ)) (x : List ℕ) (b : Bool) → b ≡ not (list_any (bytes_eq x) ks) → b ≡ false → insert_key bytes_eq ks x ≡ ks
keys-old ks x b e t = go (list_any (bytes_eq x) ks) (sym e ∙ t)
  where
    go : (c : Bool) → not c ≡ false → cond c ks (ks ++ x ∷ []) ≡ ks
    go true k = refl
    go false k = absurd (false≢true (sym k))

pub has-is : (x : List ℕ) (ks : List (List ℕ)) → has x ks ≡ list_any (bytes_eq x) ks
unfolding has
has-is x ks = refl

has-there : (ks : List (List ℕ)) (k x : List ℕ) → list_any (bytes_eq k) ks ≡ true → (b : Bool) → bytes_eq x k ≡ b → (c : Bool) → has x ks ≡ c → has x ks ≡ (has x ks || has x (k ∷ []))
has-there ks k x e true q true r = r ∙ sym (ap (λ a. a || has x (k ∷ [])) r)
has-there ks k x e true q false r = absurd (false≢true (sym r ∙ (ap (λ z. has z ks) (same_text x k q) ∙ (has-is k ks ∙ e))))
has-there ks k x e false q c r = sym (ap (λ a. has x ks || a) (has-cons x k [] ∙ ap₂ (λ a b. a || b) q (has-nil x)) ∙ or_false (has x ks))

pub has-insert : (ks : List (List ℕ)) (k x : List ℕ) → has x (insert_key bytes_eq ks k) ≡ has x (ks ++ k ∷ [])
has-insert ks k x = go (list_any (bytes_eq k) ks) refl
  where
    go : (b : Bool) → list_any (bytes_eq k) ks ≡ b → has x (cond b ks (ks ++ k ∷ [])) ≡ has x (ks ++ k ∷ [])
    go true e = has-there ks k x e (bytes_eq x k) refl (has x ks) refl ∙ sym (has-append x ks (k ∷ []))
    go false e = refl

-- ---- rows that are added one after the other

-- those of the rows that were taken stand behind the old ones
pub record Added (old now left all : List Sheet) : Type 0 where
  pub done : List Sheet
  pub apart : are_apart (ids_of now) ≡ true
  pub is : now ≡ old ++ done
  pub whole : all ≡ done ++ left

pub added_none : (old now left all : List Sheet) → now ≡ old → are_apart (ids_of now) ≡ true → left ≡ all → Added old now left all
added_none old now left all n a e = record { done = []; apart = a; is = n ∙ sym (append-nil old); whole = sym e }

pub added_more : (old now new left rest all : List Sheet) (s : Sheet) → left ≡ s ∷ rest → new ≡ now ++ s ∷ [] → are_apart (ids_of new) ≡ true → Added old now left all → Added old new rest all
added_more old now new left rest all s l n p a = record {
  done = a.done ++ s ∷ [];
  apart = p;
  is = n ∙ (ap (λ xs. xs ++ s ∷ []) a.is ∙ append_assoc old a.done (s ∷ []));
  whole = a.whole ∙ (ap (λ xs. a.done ++ xs) l ∙ sym (append_assoc a.done (s ∷ []) rest));
}

pub added_all : (old now left all : List Sheet) → left ≡ [] → Added old now left all → now ≡ old ++ all
added_all old now left all none a = a.is ∙ ap (λ xs. old ++ xs) (sym (a.whole ∙ (ap (λ xs. a.done ++ xs) none ∙ append-nil a.done)))

pub added_apart : (old now left all : List Sheet) → left ≡ [] → Added old now left all → true ≡ are_apart (ids_of (old ++ all))
added_apart old now left all none a = sym (ap (λ xs. are_apart (ids_of xs)) (sym (added_all old now left all none a)) ∙ a.apart)

-- an id that was there already
pub added_twice : (old now left rest all : List Sheet) (s : Sheet) → left ≡ s ∷ rest → has s.id (ids_of now) ≡ true → Added old now left all → are_apart (ids_of (old ++ all)) ≡ false
added_twice old now left rest all s l h a =
    let split : old ++ all ≡ now ++ s ∷ rest = ap (λ xs. old ++ xs) (a.whole ∙ ap (λ xs. a.done ++ xs) l) ∙ (sym (append_assoc old a.done (s ∷ rest)) ∙ ap (λ xs. xs ++ s ∷ rest) (sym a.is)) in
    ap (λ xs. are_apart (ids_of xs)) split ∙ (ap are_apart (ids-append now (s ∷ rest)) ∙ apart-twice (ids_of now) s.id (ids_of rest) h)

-- ---- rows of a mirror

kept-cons : (rows : List Sheet) (ids : List (List ℕ)) (m : Sheet) (ms : List Sheet) → kept rows ids (m ∷ ms) ≡ cond (has m.id ids && not (has m.id (ids_of rows))) (m ∷ kept rows ids ms) (kept rows ids ms)
unfolding kept
kept-cons rows ids m ms = refl

pub kept-nil : (rows : List Sheet) (ids : List (List ℕ)) → kept rows ids [] ≡ []
unfolding kept
kept-nil rows ids = refl

pub kept-append : (rows : List Sheet) (ids : List (List ℕ)) (ms ns : List Sheet) → kept rows ids (ms ++ ns) ≡ kept rows ids ms ++ kept rows ids ns
kept-append rows ids [] ns = ap (λ l. l ++ kept rows ids ns) (sym (kept-nil rows ids))
kept-append rows ids (m ∷ ms) ns = kept-cons rows ids m (ms ++ ns) ∙ (by (has m.id ids && not (has m.id (ids_of rows))) (kept-append rows ids ms ns) ∙ ap (λ l. l ++ kept rows ids ns) (sym (kept-cons rows ids m ms)))
  where
    by : (b : Bool) → kept rows ids (ms ++ ns) ≡ kept rows ids ms ++ kept rows ids ns → cond b (m ∷ kept rows ids (ms ++ ns)) (kept rows ids (ms ++ ns)) ≡ cond b (m ∷ kept rows ids ms) (kept rows ids ms) ++ kept rows ids ns
    by true ih = ap (λ l. m ∷ l) ih
    by false ih = ih

-- what isn't in the mirror isn't kept
has-kept : (rows : List Sheet) (ids : List (List ℕ)) (x : List ℕ) (ms : List Sheet) → has x (ids_of ms) ≡ false → has x (ids_of (kept rows ids ms)) ≡ false
has-kept rows ids x [] h = ap (λ l. has x (ids_of l)) (kept-nil rows ids) ∙ has-nil x
has-kept rows ids x (m ∷ ms) h = go (bytes_eq x m.id) refl (has x (ids_of ms)) refl (sym (has-cons x m.id (ids_of ms)) ∙ h) (has-kept rows ids x ms)
  where
    by : (b : Bool) → bytes_eq x m.id ≡ false → has x (ids_of (kept rows ids ms)) ≡ false → has x (ids_of (cond b (m ∷ kept rows ids ms) (kept rows ids ms))) ≡ false
    by true e k = has-cons x m.id (ids_of (kept rows ids ms)) ∙ ap₂ (λ a c. a || c) e k
    by false e k = k

    go : (a : Bool) → bytes_eq x m.id ≡ a → (c : Bool) → has x (ids_of ms) ≡ c → (a || c) ≡ false → (has x (ids_of ms) ≡ false → has x (ids_of (kept rows ids ms)) ≡ false) → has x (ids_of (kept rows ids (m ∷ ms))) ≡ false
    go true e c k q ih = absurd (false≢true (sym q))
    go false e true k q ih = absurd (false≢true (sym q))
    go false e false k q ih = ap (λ l. has x (ids_of l)) (kept-cons rows ids m ms) ∙ by (has m.id ids && not (has m.id (ids_of rows))) e (ih k)

-- an id of distinct ones stands in none of the places before
pub not_before : (ms : List Sheet) (i : ℕ) (m : Sheet) → Apart (ids_of ms) → i < length ms → m ≡ get_or ms i m → has m.id (ids_of (take i ms)) ≡ false
not_before ms i m a here is = go (has m.id (ids_of (take i ms))) refl
  where
    split : ms ≡ take i ms ++ m ∷ drop (i + 1) ms
    split = sym (take-append-drop i ms) ∙ ap (λ l. take i ms ++ l) (drop_more ms i m here ∙ ap (λ x. x ∷ drop (i + 1) ms) (sym is))

    go : (b : Bool) → has m.id (ids_of (take i ms)) ≡ b → has m.id (ids_of (take i ms)) ≡ false
    go false e = e
    go true e = absurd (false≢true (sym (ap are_apart (ap ids_of split ∙ ids-append (take i ms) (m ∷ drop (i + 1) ms)) ∙ apart-twice (ids_of (take i ms)) m.id (ids_of (drop (i + 1) ms)) e) ∙ apart-from (ids_of ms) a))

-- one row of the mirror more: it is listed, and was added where it wasn't there
pub kept_more : (rows now new ms : List Sheet) (ids : List (List ℕ)) (i : ℕ) (m : Sheet) (fresh : Bool) → Apart (ids_of ms) → i < length ms → m ≡ get_or ms i m → has m.id ids ≡ true
    → fresh ≡ not (has m.id (ids_of now)) → new ≡ cond fresh (now ++ m ∷ []) now → now ≡ rows ++ kept rows ids (take i ms) → new ≡ rows ++ kept rows ids (take (i + 1) ms)
kept_more rows now new ms ids i m fresh a here is listed f n old =
    let there : has m.id (ids_of now) ≡ has m.id (ids_of rows) =
    ap (λ l. has m.id (ids_of l)) old ∙ (ap (has m.id) (ids-append rows (kept rows ids (take i ms))) ∙ (has-append m.id (ids_of rows) (ids_of (kept rows ids (take i ms)))
    ∙ (ap (λ b. has m.id (ids_of rows) || b) (has-kept rows ids m.id (take i ms) (not_before ms i m a here is)) ∙ or_false (has m.id (ids_of rows))))) in
    n ∙ (ap₂ (λ b l. cond b (l ++ m ∷ []) l) (f ∙ ap not there) old
    ∙ (by (has m.id (ids_of rows)) refl
    ∙ ap (λ l. rows ++ l) (sym (kept-append rows ids (take i ms) (m ∷ [])) ∙ ap (kept rows ids) (ap (λ x. take i ms ++ x ∷ []) is ∙ sym (take_more ms i m here)))))
  where
    one : (b : Bool) → has m.id (ids_of rows) ≡ b → kept rows ids (m ∷ []) ≡ cond (not b) (m ∷ []) []
    one b e = kept-cons rows ids m [] ∙ ap₂ (λ c l. cond c (m ∷ l) l) (ap₂ (λ u v. u && not v) listed e) (kept-nil rows ids)

    by : (b : Bool) → has m.id (ids_of rows) ≡ b → cond (not (has m.id (ids_of rows))) ((rows ++ kept rows ids (take i ms)) ++ m ∷ []) (rows ++ kept rows ids (take i ms)) ≡ rows ++ (kept rows ids (take i ms) ++ kept rows ids (m ∷ []))
    by true e = ap (λ c. cond (not c) ((rows ++ kept rows ids (take i ms)) ++ m ∷ []) (rows ++ kept rows ids (take i ms))) e ∙ sym (ap (λ l. rows ++ (kept rows ids (take i ms) ++ l)) (one true e) ∙ ap (λ l. rows ++ l) (append-nil (kept rows ids (take i ms))))
    by false e = ap (λ c. cond (not c) ((rows ++ kept rows ids (take i ms)) ++ m ∷ []) (rows ++ kept rows ids (take i ms))) e ∙ (append_assoc rows (kept rows ids (take i ms)) (m ∷ []) ∙ sym (ap (λ l. rows ++ (kept rows ids (take i ms) ++ l)) (one false e)))

-- one that isn't listed
pub kept_other : (rows now ms : List Sheet) (ids : List (List ℕ)) (i : ℕ) (m : Sheet) → i < length ms → m ≡ get_or ms i m → has m.id ids ≡ false → now ≡ rows ++ kept rows ids (take i ms) → now ≡ rows ++ kept rows ids (take (i + 1) ms)
kept_other rows now ms ids i m here is listed old =
    old ∙ ap (λ l. rows ++ l) (sym (append-nil (kept rows ids (take i ms))) ∙ (ap (λ l. kept rows ids (take i ms) ++ l) (sym (kept-cons rows ids m [] ∙ ap₂ (λ c l. cond c (m ∷ l) l) (ap (λ u. u && not (has m.id (ids_of rows))) listed) (kept-nil rows ids)))
    ∙ (sym (kept-append rows ids (take i ms) (m ∷ [])) ∙ ap (kept rows ids) (ap (λ x. take i ms ++ x ∷ []) is ∙ sym (take_more ms i m here)))))

-- ---- the set of ids beside the rows

pub fresh_is : (b : Bool) (keys : List (List ℕ)) (copy id : List ℕ) (rows now : List Sheet) → b ≡ not (list_any (bytes_eq copy) keys) → copy ≡ id → keys ≡ ids_of rows → now ≡ rows → b ≡ not (has id (ids_of now))
fresh_is b keys copy id rows now e c k n =
    e ∙ ap not (ap₂ (λ y ks. list_any (bytes_eq y) ks) c (k ∙ ap ids_of (sym n)) ∙ sym (has-is id (ids_of now)))

pub inside_more : (keys keys' : List (List ℕ)) (rows mid rows' : List Sheet) (s : Sheet) (copy : List ℕ) (b : Bool) → keys ≡ ids_of rows → are_apart (ids_of rows) ≡ true → mid ≡ rows → rows' ≡ mid ++ s ∷ []
    → copy ≡ s.id → b ≡ not (list_any (bytes_eq copy) keys) → b ≡ true → keys' ≡ insert_key bytes_eq keys copy → (keys' ≡ ids_of rows') × (are_apart (ids_of rows') ≡ true)
inside_more keys keys' rows mid rows' s copy b k a m r c e t n =
    let ids : ids_of rows' ≡ ids_of rows ++ s.id ∷ [] = ap ids_of (r ∙ ap (λ xs. xs ++ s ∷ []) m) ∙ ids-append rows (s ∷ []) in
    let fresh : has s.id (ids_of rows) ≡ false = not_true (has s.id (ids_of rows)) (sym (fresh_is b keys copy s.id rows rows e c k refl) ∙ t) in
    (n ∙ (keys-fresh keys copy b e t ∙ (ap₂ (λ ks y. ks ++ y ∷ []) k c ∙ sym ids)), ap are_apart ids ∙ apart-more (ids_of rows) s.id a fresh)
  where
    not_true : (c : Bool) → not c ≡ true → c ≡ false
    not_true true q = absurd (false≢true q)
    not_true false q = refl

pub set_more : (keys keys' front next : List (List ℕ)) (copy id : List ℕ) → next ≡ front ++ id ∷ [] → copy ≡ id → keys' ≡ insert_key bytes_eq keys copy
    → ((x : List ℕ) → list_any (bytes_eq x) keys ≡ has x front) → (x : List ℕ) → list_any (bytes_eq x) keys' ≡ has x next
set_more keys keys' front next copy id n c k old x =
    ap (list_any (bytes_eq x)) k ∙ (sym (has-is x (insert_key bytes_eq keys copy)) ∙ (has-insert keys copy x ∙ (has-append x keys (copy ∷ [])
    ∙ (ap₂ (λ a y. a || has x (y ∷ [])) (has-is x keys ∙ old x) c ∙ (sym (has-append x front (id ∷ [])) ∙ ap (has x) (sym n))))))

pub set_none : (keys : List (List ℕ)) → keys ≡ [] → (x : List ℕ) → list_any (bytes_eq x) keys ≡ has x []
set_none keys e x = ap (list_any (bytes_eq x)) e ∙ sym (has-nil x)

pub ids_next : (xs : List Sheet) (i : ℕ) (x : Sheet) → i < length xs → x ≡ get_or xs i x → ids_of (take (i + 1) xs) ≡ ids_of (take i xs) ++ x.id ∷ []
ids_next xs i x here is = ap ids_of (take_push xs i x here is) ∙ ids-append (take i xs) (x ∷ [])

pub of_true : (b : Bool) (xs ys : List Sheet) (new : List Sheet) → new ≡ cond b xs ys → b ≡ true → new ≡ xs
of_true b xs ys new e t = e ∙ ap (λ c. cond c xs ys) t

-- a row's copy is put in its place
pub copied_fresh : (b : Bool) (now : List Sheet) (copy s : Sheet) → b ≡ not (has copy.id (ids_of now)) → copy ≡ s → b ≡ not (has s.id (ids_of now))
copied_fresh b now copy s e c = e ∙ ap (λ (x : Sheet). not (has x.id (ids_of now))) c

pub copied_added : (b : Bool) (new now : List Sheet) (copy s : Sheet) → new ≡ cond b (now ++ copy ∷ []) now → copy ≡ s → new ≡ cond b (now ++ s ∷ []) now
copied_added b new now copy s e c = e ∙ ap (λ x. cond b (now ++ x ∷ []) now) c
