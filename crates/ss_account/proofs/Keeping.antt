-- What is kept of an account after its clock was read, and what is held of it after a write, a begin, an append and a commit.
use Rattle.std.specs.Prelude.{◌≡◌, ℕ, ◌≤◌, ◌+◌, nat_lt, ◌==◌, Bool, true, false, not, ◌&&◌, ◌||◌, cond, List, [], ◌∷◌}
use Rattle.std.specs.Prelude.{◌++◌, filter, find, fold, map, bytes_eq, Option, Some, None, IsSomeAnd, option_map, refl}
use Rattle.std.specs.Option.{option_map_or}
use Rattle.std.specs.List.{list_any}
use Rattle.std.proofs.Common.{subst, sym, ap, ◌∙◌, arith}
use Rattle.std.proofs.lemmas.Bool.Decides.{nat_tests}
use Rattle.std.proofs.lemmas.List.{append-nil, map-append}
use Rattle.std.proofs.lemmas.List.Elements.{filter_agree}
use Rattle.ss_text.specs.Texts.{IsReordering, chain}
use Rattle.ss_text.specs.Time.{after}
use Rattle.ss_bso.specs.declared.rows.Row.{Row}
use Rattle.ss_bso.specs.declared.account.Plain.{Plain}
use Rattle.ss_bso.specs.declared.account.Staged.{Staged}
use Rattle.ss_bso.specs.declared.changes.Kept.{Kept}
use Rattle.ss_bso.specs.declared.changes.Changes.{Changes}
use Rattle.ss_bso.specs.declared.parts.Part.{Part}
use Rattle.ss_bso.specs.declared.changes.BatchChange.{BatchChange}
use Rattle.ss_bso.specs.declared.changes.BatchChange.TheVariants.{End as EndBatch, Begin as BeginBatch}
use Rattle.ss_bso.specs.declared.changes.BatchChange.TheVariants.{Append as AppendParts}
use Rattle.ss_bso.specs.declared.changes.RowChange.TheVariants.{Put as PutRow}
use Rattle.ss_bso.specs.declared.changes.CollectionChange.TheVariants.{Drop as DropName}
use Rattle.ss_bso.specs.Account.{is_alive, is_open, tick, time_of}
use Rattle.ss_bso.specs.Batches.{batches_without, grown}
use Rattle.ss_bso.specs.Changes.{batches_changed, kept_after_changes, drops, kept_of, row_changed}
use Rattle.ss_bso.specs.Validity.{IsValid, SameAccount}
use Rattle.ss_bso.specs.Write.{is_among, rows_without}
use Rattle.ss_batch.specs.Stage.{stage_after_append, stage_after_begin}
use Rattle.ss_keeper.specs.Keeping.{changed_by}
use Rattle.ss_account.specs.Keeping.{IsHeldBy, IsKeptAccount, IsKeptBeside, IsKeptBesideBy, IsKeptBy, IsSwept, IsWhole}
use Rattle.ss_account.specs.Keeping.{has_ended}
use Rattle.ss_account.specs.Steps.{stage_of, with_stage}
use Rattle.ss_writes.specs.declared.pending.Pending.{Pending}
use Rattle.ss_writes.specs.declared.pending.Pending.TheVariants.{Put, Cut, DropCollection, DropAll}
use Rattle.ss_writes.specs.Pending.{IsReady, IsPutReady, append_changes, account_after_pending, batch_changes}
use Rattle.ss_writes.specs.Pending.{batches_left, begin_changes, changes_to, ended_by, numbers_of}
use Rattle.ss_bso.proofs.Lists.{Each-imp, Each-from_All, Pairs-from_AllPairs}
use Rattle.ss_bso.proofs.Reordering.{reordered-filter, reordered-append_right, reordered-map, reordered-refl}
use Rattle.ss_bso.proofs.Reordering.{reordered-sym}
use Rattle.ss_bso.specs.Lists.{Each, Apart}
use Rattle.ss_laws.proofs.Written.{IsItem}
use Rattle.ss_account.proofs.Ending.{Noted, OtherNumber, batches-ended, batches-one, filter-all_gone, filter-ended}
use Rattle.ss_account.proofs.Ending.{filter-named, noted-later, noted-none, noted-open}
use Rattle.ss_writes.proofs.Changing.{filter-true, filter-absorb, is_covered, puts_are, covered_is, drops_are, no_times}
use Rattle.ss_text.proofs.Basics.{or_false, or_true, bytes_eq-sym, bytes_eq-same, number_turned}
use Rattle.ss_index.proofs.Shelves.{filter-none}

-- what is alive later is alive earlier
alive_before : (earlier later : ℕ) (expires : Option ℕ) → earlier ≤ later → option_map_or (λ expiry. nat_lt later expiry) expires true ≡ true → option_map_or (λ expiry. nat_lt earlier expiry) expires true ≡ true
alive_before earlier later None le e = refl
alive_before earlier later (Some expiry) le e = grind (arith, nat_tests)

pub alive-again : (earlier later : ℕ) (rows : List Row) → earlier ≤ later → filter (is_alive later) (filter (is_alive earlier) rows) ≡ filter (is_alive later) rows
alive-again earlier later rows le = filter-absorb (is_alive later) (is_alive earlier) rows (λ row e. alive_before earlier later row.expires le e)

-- what an account has kept beside what has ended
abbrev noted : {ended : List ℕ} {kept : Kept} {account : Plain} → IsKeptBeside ended kept account → Noted ended kept.batches account.batches account.moment
noted h = record { left = h.batches; over = h.over }

-- the clock
pub beside-tick : (ended : List ℕ) (kept : Kept) (account : Plain) (now : ℕ) → IsValid account → IsKeptBeside ended kept account
    → IsKeptBeside (ended ++ numbers_of (filter (λ batch. not (is_open (after account.moment now) batch)) account.batches)) kept (tick account now)
beside-tick ended kept account now valid h =
    let left = noted-later ended kept.batches account.batches account.moment (after account.moment now) (omega arith) (Pairs-from_AllPairs OtherNumber account.batches valid.numbers) (noted h) in
    record {
      rows = λ moment le.
          subst (λ rows. IsReordering rows (filter (is_alive moment) kept.rows)) (sym (alive-again (after account.moment now) moment account.rows le))
          (h.rows moment (omega arith));
      batches = left.left;
      over = left.over;
      collections = h.collections;
      store = h.store;
      last_delete = h.last_delete;
      counter = h.counter;
    }

-- what is kept beside what has ended is kept
kept-beside : (ended : List ℕ) (kept : Kept) (account : Plain) → IsKeptBeside ended kept account → IsKeptAccount kept account
kept-beside ended kept account h = record {
  rows = h.rows;
  batches = λ moment le. noted-open ended kept.batches account.batches account.moment moment le (noted h);
  collections = h.collections;
  store = h.store;
  last_delete = h.last_delete;
  counter = h.counter;
}

pub kept_by-beside : (ended : List ℕ) (told : Option Kept) (account : Plain) → IsKeptBesideBy ended told account → IsKeptBy told account
kept_by-beside ended None account h = h
kept_by-beside ended (Some kept) account h = kept-beside ended kept account h

-- what is just the account is kept, and nothing that has ended beside it
pub beside-whole : (kept : Kept) (account : Plain) → IsWhole kept account → IsKeptBeside [] kept account
beside-whole kept account h =
    let none = noted-none kept.batches account.batches account.moment h.batches in
    record {
      rows = λ moment le. reordered-filter (is_alive moment) h.rows;
      batches = none.left;
      over = none.over;
      collections = h.collections;
      store = h.store;
      last_delete = h.last_delete;
      counter = h.counter;
    }

pub beside_by-held : (told : Option Kept) (account : Plain) → IsHeldBy told account → IsKeptBesideBy [] told account
beside_by-held None account h = h
beside_by-held (Some kept) account h = beside-whole kept account h

-- rows in the places of those that are named
put_is : (collection : List ℕ) (targets : List (List ℕ)) (made rows : List Row) → map (λ (row : Row). row.id) made ≡ targets → Each (λ (row : Row). row.collection ≡ collection) made
    → filter (λ row. not (is_covered made row)) rows ≡ rows_without collection targets rows
put_is collection targets made rows ids here =
    filter_agree (λ row. not (is_covered made row)) (λ row. not (bytes_eq row.collection collection && is_among targets row.id))
    (λ row. ap not (covered_is collection made row here ∙ ap (λ (names : List (List ℕ)). bytes_eq row.collection collection && is_among names row.id) ids)) rows

changed-put : (kept : Kept) (account : Plain) (time : ℕ) (collection : List ℕ) (targets : List (List ℕ)) (made : List Row) (batch : Option ℕ)
    → IsPutReady account time collection targets made batch → (rows : List Row) → fold row_changed rows (map PutRow made) ≡ rows_without collection targets rows ++ made
changed-put kept account time collection targets made batch ready rows =
    puts_are rows made (Pairs-from_AllPairs Apart made ready.apart)
    ∙ ap (λ (left : List Row). left ++ made) (put_is collection targets made rows ready.ids (Each-from_All (λ (row : Row). row.collection ≡ collection) made ready.here))

-- a collection's name is dropped where all names are
named-dropped : (P : ℕ → Type 0) (name : List ℕ) (times : List (List ℕ × ℕ)) → IsSomeAnd (time_of name times) P → list_any (drops name) (map (λ (entry : List ℕ × ℕ). DropName entry.0) times) ≡ true
named-dropped P name [] h = absurd h
named-dropped P name (entry ∷ times) h =
    elim (bytes_eq entry.0 name) as (λ v. IsSomeAnd (option_map (λ (e : List ℕ × ℕ). e.1) (cond v (Some entry) (find (λ e. bytes_eq e.0 name) times))) P
    → (v || list_any (drops name) (map (λ (e : List ℕ × ℕ). DropName e.0) times)) ≡ true) [
      | true ↦ (λ _. refl)
      | false ↦ (λ g. named-dropped P name times g)
    ] h

each-dropped : (times : List (List ℕ × ℕ)) → Each (λ (entry : List ℕ × ℕ). list_any (drops entry.0) (map (λ (e : List ℕ × ℕ). DropName e.0) times) ≡ true) times
each-dropped [] = tt
each-dropped (entry ∷ times) = (
  ap (λ v. v || list_any (drops entry.0) (map (λ (e : List ℕ × ℕ). DropName e.0) times)) (bytes_eq-same entry.0 entry.0 refl),
  Each-imp (λ (other : List ℕ × ℕ). list_any (drops other.0) (map (λ (e : List ℕ × ℕ). DropName e.0) times) ≡ true)
      (λ (other : List ℕ × ℕ). list_any (drops other.0) (map (λ (e : List ℕ × ℕ). DropName e.0) (entry ∷ times)) ≡ true)
      (λ other h. ap (λ v. bytes_eq entry.0 other.0 || v) h ∙ or_true (bytes_eq entry.0 other.0)) times (each-dropped times),
)

-- the rows that are kept and alive at the account's moment are the account's
rows-swept : (ended : List ℕ) (kept : Kept) (account : Plain) → IsSwept account → IsKeptBeside ended kept account → IsReordering account.rows (filter (is_alive account.moment) kept.rows)
rows-swept ended kept account swept h =
    subst (λ (rows : List Row). IsReordering rows (filter (is_alive account.moment) kept.rows)) swept (h.rows account.moment (omega arith))

-- the batches that a write leaves are those of the account that it doesn't end
left-applied : (account : Plain) (pending : Pending) → IsValid account → filter (λ batch. not (has_ended (ended_by pending account.batches) batch)) account.batches ≡ batches_left pending account.batches
left-applied account (Put collection targets made None) valid = filter-true account.batches
left-applied account (Put collection targets made (Some number)) valid =
    filter_agree (λ (batch : Staged). not ((number == batch.number) || false)) (λ (batch : Staged). not (batch.number == number)) (λ batch. ap not (or_false (number == batch.number) ∙ number_turned number batch.number)) account.batches
left-applied account (Cut collection targets) valid = filter-true account.batches
left-applied account (DropCollection collection) valid =
    filter-named (λ batch. bytes_eq batch.collection collection) account.batches (Pairs-from_AllPairs OtherNumber account.batches valid.numbers)
left-applied account DropAll valid =
    ap (λ (all : List Staged). filter (λ batch. not (has_ended (numbers_of all) batch)) account.batches) (sym (filter-true account.batches))
    ∙ filter-named (λ batch. true) account.batches (Pairs-from_AllPairs OtherNumber account.batches valid.numbers)
    ∙ filter-all_gone account.batches

batches-applied : (ended : List ℕ) (kept : Kept) (account : Plain) (pending : Pending) → IsValid account → IsKeptBeside ended kept account
    → IsReordering (batches_left pending account.batches) (batches_changed kept.batches (map EndBatch (ended ++ ended_by pending account.batches)))
batches-applied ended kept account pending valid h =
    let more : List ℕ = ended_by pending account.batches in
    subst (λ (bs : List Staged). IsReordering (batches_left pending account.batches) bs) (filter-ended ended more kept.batches ∙ sym (batches-ended kept.batches (ended ++ more)))
    (subst (λ (bs : List Staged). IsReordering bs (filter (λ batch. not (has_ended more batch)) (filter (λ batch. not (has_ended ended batch)) kept.batches))) (left-applied account pending valid)
    (reordered-filter (λ batch. not (has_ended more batch)) h.batches))

-- after a write
pub whole-applied : (ended : List ℕ) (kept : Kept) (account : Plain) (time : ℕ) (pending : Pending) → IsValid account → IsReady account time pending → IsSwept account → IsKeptBeside ended kept account
    → IsWhole (kept_after_changes kept (changes_to account ended time pending)) (account_after_pending account time pending)
whole-applied ended kept account time (Put collection targets made batch) valid ready swept h =
    let alive : List Row = filter (is_alive account.moment) kept.rows in
    let keep : Row → Bool = λ row. not (bytes_eq row.collection collection && is_among targets row.id) in
    let made_is = changed-put kept account time collection targets made.items batch ready (filter (λ row. true) alive)
    ∙ ap (λ (rows : List Row). filter keep rows ++ made.items) (filter-true alive) in
    record {
      rows = subst (λ (rows : List Row). IsReordering (filter keep account.rows ++ made.items) rows) (sym made_is)
          (reordered-append_right made.items (reordered-filter keep (rows-swept ended kept account swept h)));
      collections = reordered-append_right ((collection, time) ∷ []) (reordered-filter (λ (entry : List ℕ × ℕ). not (bytes_eq entry.0 collection))
          (subst (λ (times : List (List ℕ × ℕ)). IsReordering account.collections times) (sym (filter-true kept.collections)) h.collections));
      batches = batches-applied ended kept account (Put collection targets made batch) valid h;
      store = refl;
      last_delete = refl;
      counter = refl;
    }
whole-applied ended kept account time (Cut collection targets) valid ready swept h =
    let alive : List Row = filter (is_alive account.moment) kept.rows in
    let keep : Row → Bool = λ row. not (bytes_eq row.collection collection && is_among targets row.id) in
    let left_is = drops_are collection targets (filter (λ row. true) alive) ∙ ap (λ (rows : List Row). filter keep rows) (filter-true alive) in
    record {
      rows = subst (λ (rows : List Row). IsReordering (filter keep account.rows) rows) (sym left_is) (reordered-filter keep (rows-swept ended kept account swept h));
      collections = reordered-append_right ((collection, time) ∷ []) (reordered-filter (λ (entry : List ℕ × ℕ). not (bytes_eq entry.0 collection))
          (subst (λ (times : List (List ℕ × ℕ)). IsReordering account.collections times) (sym (filter-true kept.collections)) h.collections));
      batches = batches-applied ended kept account (Cut collection targets) valid h;
      store = refl;
      last_delete = refl;
      counter = refl;
    }
whole-applied ended kept account time (DropCollection collection) valid ready swept h =
    let alive : List Row = filter (is_alive account.moment) kept.rows in
    let keep : Row → Bool = λ row. not (bytes_eq row.collection collection) in
    let names : (List ℕ × ℕ) → Bool = λ entry. not (bytes_eq entry.0 collection) in
    let left_is : filter (λ (row : Row). not (list_any (drops row.collection) (DropName collection ∷ []))) alive ≡ filter keep alive =
    filter_agree (λ (row : Row). not (list_any (drops row.collection) (DropName collection ∷ []))) keep (λ row. ap not (or_false (bytes_eq collection row.collection) ∙ bytes_eq-sym collection row.collection)) alive in
    let names_are : filter (λ (entry : List ℕ × ℕ). not (list_any (drops entry.0) (DropName collection ∷ []))) kept.collections ≡ filter names kept.collections =
    filter_agree (λ (entry : List ℕ × ℕ). not (list_any (drops entry.0) (DropName collection ∷ []))) names (λ entry. ap not (or_false (bytes_eq collection entry.0) ∙ bytes_eq-sym collection entry.0)) kept.collections in
    record {
      rows = subst (λ (rows : List Row). IsReordering (filter keep account.rows) rows) (sym left_is) (reordered-filter keep (rows-swept ended kept account swept h));
      collections = subst (λ (times : List (List ℕ × ℕ)). IsReordering (filter names account.collections) times) (sym names_are) (reordered-filter names h.collections);
      batches = batches-applied ended kept account (DropCollection collection) valid h;
      store = refl;
      last_delete = refl;
      counter = refl;
    }
whole-applied ended kept account time DropAll valid ready swept h =
    let dropped : List ℕ → Bool = λ name. list_any (drops name) (map (λ (entry : List ℕ × ℕ). DropName entry.0) account.collections) in
    let keep : Row → Bool = λ row. not (dropped row.collection) in
    let names : (List ℕ × ℕ) → Bool = λ entry. not (dropped entry.0) in
    let gone : Each (λ (row : Row). keep row ≡ false) account.rows =
    Each-imp (IsItem account.collections) (λ (row : Row). keep row ≡ false) (λ row item. ap not (named-dropped (λ time. row.modified ≤ time) row.collection account.collections item)) account.rows
    (Each-from_All (IsItem account.collections) account.rows valid.items) in
    let no_rows : filter keep account.rows ≡ [] = filter-none keep account.rows gone in
    let no_names : filter names account.collections ≡ [] =
    filter-none names account.collections (Each-imp (λ (entry : List ℕ × ℕ). dropped entry.0 ≡ true) (λ (entry : List ℕ × ℕ). names entry ≡ false) (λ entry e. ap not e) account.collections (each-dropped account.collections)) in
    record {
      rows = subst (λ (rows : List Row). IsReordering rows (filter keep (filter (is_alive account.moment) kept.rows))) no_rows (reordered-filter keep (rows-swept ended kept account swept h));
      collections = subst (λ (times : List (List ℕ × ℕ)). IsReordering [] times) (sym (no_times account.collections (filter names kept.collections)))
          (subst (λ (times : List (List ℕ × ℕ)). IsReordering times (filter names kept.collections)) no_names (reordered-filter names h.collections));
      batches = batches-applied ended kept account DropAll valid h;
      store = refl;
      last_delete = refl;
      counter = refl;
    }

-- what is held of an account is held of one that is the same
whole-same : (kept : Kept) (account other : Plain) → SameAccount account other → IsWhole kept account → IsWhole kept other
whole-same kept account other s h = record {
  rows = chain (reordered-sym s.rows) h.rows;
  collections = chain (reordered-sym s.collections) h.collections;
  batches = chain (reordered-sym s.batches) h.batches;
  store = sym s.store ∙ h.store;
  last_delete = sym s.last_delete ∙ h.last_delete;
  counter = sym s.counter ∙ h.counter;
}

held_by-same : (told : Option Kept) (account other : Plain) → SameAccount account other → IsHeldBy told account → IsHeldBy told other
held_by-same None account other s h = h
held_by-same (Some kept) account other s h = whole-same kept account other s h

-- an account is what is kept of it
pub whole-own : (account : Plain) → IsWhole (kept_of account) account
whole-own account = record {
  rows = reordered-refl account.rows;
  collections = reordered-refl account.collections;
  batches = reordered-refl account.batches;
  store = refl;
  last_delete = refl;
  counter = refl;
}

-- what is told after changes that make it the account
held-after : (told now : Option Kept) (changes with : Changes) (left : Plain) → ((kept : Kept) → told ≡ Some kept → IsWhole (kept_after_changes kept with) left) → changes ≡ with → now ≡ changed_by changes told → IsHeldBy now left
held-after None now changes with left whole c e = subst (λ (t : Option Kept). IsHeldBy t left) (sym e) tt
held-after (Some kept) now changes with left whole c e =
    subst (λ (t : Option Kept). IsHeldBy t left) (sym (e ∙ ap (λ (these : Changes). Some (kept_after_changes kept these)) c)) (whole kept refl)

beside-told : (ended : List ℕ) (told : Option Kept) (account : Plain) (kept : Kept) → IsKeptBesideBy ended told account → told ≡ Some kept → IsKeptBeside ended kept account
beside-told ended None account kept h e = cc
beside-told ended (Some x) account kept h e = let same : x ≡ kept = cc in subst (λ (k : Kept). IsKeptBeside ended k account) same h

pub held_by-applied : (ended : List ℕ) (told now : Option Kept) (account left : Plain) (time : ℕ) (pending : Pending) (changes : Changes) → IsValid account → IsReady account time pending → IsSwept account
    → changes ≡ changes_to account ended time pending → now ≡ changed_by changes told → SameAccount (account_after_pending account time pending) left → IsKeptBesideBy ended told account → IsHeldBy now left
held_by-applied ended told now account left time pending changes valid ready swept c e l h =
    held_by-same now (account_after_pending account time pending) left l
    (held-after told now changes (changes_to account ended time pending) (account_after_pending account time pending)
    (λ kept is. whole-applied ended kept account time pending valid ready swept (beside-told ended told account kept h is)) c e)

-- after a begin, an append and the end of a batch, which leave the rest as it is
whole-batch : (ended : List ℕ) (kept : Kept) (account : Plain) (counter : ℕ) (change : BatchChange) (left : List Staged) → IsSwept account → IsKeptBeside ended kept account
    → IsReordering left (batches_changed kept.batches (map EndBatch ended ++ change ∷ []))
    → IsWhole (kept_after_changes kept (batch_changes account ended counter change)) (record account { counter = counter; batches = left })
whole-batch ended kept account counter change left swept h batches = record {
  rows = subst (λ (rows : List Row). IsReordering account.rows rows) (sym (filter-true (filter (is_alive account.moment) kept.rows))) (rows-swept ended kept account swept h);
  collections = subst (λ (times : List (List ℕ × ℕ)). IsReordering account.collections times) (sym (filter-true kept.collections)) h.collections;
  batches = batches;
  store = refl;
  last_delete = refl;
  counter = refl;
}

not_other : (ended : List ℕ) (batches : List Staged) → filter (λ (batch : Staged). not (has_ended ended batch || false)) batches ≡ filter (λ batch. not (has_ended ended batch)) batches
not_other ended batches = filter_agree (λ (batch : Staged). not (has_ended ended batch || false)) (λ batch. not (has_ended ended batch)) (λ batch. ap not (or_false (has_ended ended batch))) batches

batches-begun : (ended : List ℕ) (kept : Kept) (account : Plain) (new : Staged) → IsKeptBeside ended kept account
    → IsReordering (account.batches ++ new ∷ []) (batches_changed kept.batches (map EndBatch ended ++ BeginBatch new ∷ []))
batches-begun ended kept account new h =
    subst (λ (bs : List Staged). IsReordering (account.batches ++ new ∷ []) bs) (sym (batches-one kept.batches ended (BeginBatch new) ∙ ap (λ (bs : List Staged). bs ++ new ∷ []) (not_other ended kept.batches)))
    (reordered-append_right (new ∷ []) h.batches)

batches-appended : (ended : List ℕ) (kept : Kept) (account : Plain) (number : ℕ) (parts : List Part) → IsKeptBeside ended kept account
    → IsReordering (map (grown number parts) account.batches) (batches_changed kept.batches (map EndBatch ended ++ AppendParts number parts ∷ []))
batches-appended ended kept account number parts h =
    subst (λ (bs : List Staged). IsReordering (map (grown number parts) account.batches) bs)
    (sym (batches-one kept.batches ended (AppendParts number parts) ∙ ap (map (grown number parts)) (append-nil (filter (λ (batch : Staged). not (has_ended ended batch || false)) kept.batches) ∙ not_other ended kept.batches)))
    (reordered-map (grown number parts) h.batches)

batches-finished : (ended : List ℕ) (kept : Kept) (account : Plain) (number : ℕ) → IsKeptBeside ended kept account
    → IsReordering (batches_without number account.batches) (batches_changed kept.batches (map EndBatch ended ++ EndBatch number ∷ []))
batches-finished ended kept account number h =
    let one : map EndBatch ended ++ EndBatch number ∷ [] ≡ map EndBatch (ended ++ number ∷ []) = sym (map-append EndBatch ended (number ∷ [])) in
    let mine : filter (λ (batch : Staged). not ((number == batch.number) || false)) account.batches ≡ batches_without number account.batches =
    filter_agree (λ (batch : Staged). not ((number == batch.number) || false)) (λ (batch : Staged). not (batch.number == number)) (λ batch. ap not (or_false (number == batch.number) ∙ number_turned number batch.number)) account.batches in
    subst (λ (bs : List Staged). IsReordering (batches_without number account.batches) bs)
    (filter-ended ended (number ∷ []) kept.batches ∙ sym (ap (batches_changed kept.batches) one ∙ batches-ended kept.batches (ended ++ number ∷ [])))
    (subst (λ (bs : List Staged). IsReordering bs (filter (λ (batch : Staged). not ((number == batch.number) || false)) (filter (λ batch. not (has_ended ended batch)) kept.batches))) mine
    (reordered-filter (λ (batch : Staged). not ((number == batch.number) || false)) h.batches))

pub held_by-begin : (ended : List ℕ) (told now : Option Kept) (account left : Plain) (collection : List ℕ) (parts : List Part) (changes : Changes) → IsSwept account
    → changes ≡ begin_changes account ended collection parts → now ≡ changed_by changes told
    → left ≡ with_stage account (stage_after_begin (stage_of account) account.moment collection parts) → IsKeptBesideBy ended told account → IsHeldBy now left
held_by-begin ended told now account left collection parts changes swept c e l h =
    let new : Staged = record { number = account.counter + 1; collection = collection; begun = account.moment; parts = parts } in
    subst (λ (a : Plain). IsHeldBy now a) (sym l)
    (held-after told now changes (begin_changes account ended collection parts) (record account { counter = account.counter + 1; batches = account.batches ++ new ∷ [] })
    (λ kept is. let beside = beside-told ended told account kept h is in
    whole-batch ended kept account (account.counter + 1) (BeginBatch new) (account.batches ++ new ∷ []) swept beside (batches-begun ended kept account new beside)) c e)

pub held_by-append : (ended : List ℕ) (told now : Option Kept) (account left : Plain) (number : ℕ) (parts : List Part) (changes : Changes) → IsSwept account
    → changes ≡ append_changes account ended number parts → now ≡ changed_by changes told
    → left ≡ with_stage account (stage_after_append (stage_of account) number parts) → IsKeptBesideBy ended told account → IsHeldBy now left
held_by-append ended told now account left number parts changes swept c e l h =
    subst (λ (a : Plain). IsHeldBy now a) (sym l)
    (held-after told now changes (append_changes account ended number parts) (record account { counter = account.counter; batches = map (grown number parts) account.batches })
    (λ kept is. let beside = beside-told ended told account kept h is in
    whole-batch ended kept account account.counter (AppendParts number parts) (map (grown number parts) account.batches) swept beside (batches-appended ended kept account number parts beside)) c e)

pub held_by-end : (ended : List ℕ) (told now : Option Kept) (account left : Plain) (number : ℕ) (changes : Changes) → IsSwept account
    → changes ≡ batch_changes account ended account.counter (EndBatch number) → now ≡ changed_by changes told
    → left ≡ record account { batches = batches_without number account.batches } → IsKeptBesideBy ended told account → IsHeldBy now left
held_by-end ended told now account left number changes swept c e l h =
    subst (λ (a : Plain). IsHeldBy now a) (sym l)
    (held-after told now changes (batch_changes account ended account.counter (EndBatch number)) (record account { counter = account.counter; batches = batches_without number account.batches })
    (λ kept is. let beside = beside-told ended told account kept h is in
    whole-batch ended kept account account.counter (EndBatch number) (batches_without number account.batches) swept beside (batches-finished ended kept account number beside)) c e)

-- what has ended by its moment is gone from an account whose clock was read
pub swept-tick : (account ticked : Plain) (now : ℕ) → ticked ≡ tick account now → IsSwept ticked
swept-tick account ticked now e =
    subst (λ (a : Plain). IsSwept a) (sym e) (alive-again (after account.moment now) (after account.moment now) account.rows (omega arith))
