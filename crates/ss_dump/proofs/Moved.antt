-- What is kept the same, whatever its order, has one dump; and the account that is opened from it is the same.
use Rattle.std.proofs.Common.{◌≡◌, ℕ, ◌^◌, ◌<◌, ◌≤◌, List, [], ◌∷◌, ◌++◌, map, refl, sym, ap, ◌∙◌, subst, arith}
use Rattle.std.specs.Prelude.{max, Result, Ok, Err, IfOk, IfErr}
use Rattle.std.specs.List.{AllByRecursion, flat_map}
use Rattle.ss_text.specs.Texts.{IsReordering, nothing, head, swapped, chain}
use Rattle.ss_text.specs.Time.{last_stamp}
use Rattle.ss_bso.specs.declared.rows.Row.{Row}
use Rattle.ss_bso.specs.declared.account.Plain.{Plain}
use Rattle.ss_bso.specs.declared.account.Staged.{Staged}
use Rattle.ss_bso.specs.declared.changes.Kept.{Kept}
use Rattle.ss_bso.specs.Changes.{kept_of, latest, account_at_opening, plain_of}
use Rattle.ss_bso.specs.Validity.{IsValid, SameAccount}
use Rattle.ss_bso.proofs.Reordering.{reordered-map}
use Rattle.ss_laws.proofs.SameApi.{tick-same}
use Rattle.ss_laws.proofs.SameValid.{valid-same}
use Rattle.ss_lines.specs.Lines.{IsLine}
use Rattle.ss_lines.specs.declared.lines.Line.{Line}
use Rattle.ss_lines.specs.declared.lines.Line.TheVariants.{Row as RowLine}
use Rattle.ss_account.specs.Opening.{IsGood}
use Rattle.ss_account.proofs.Opened.{good-kept, valid-plain_of}
use Rattle.ss_dump.specs.declared.faults.DumpFault.{DumpFault}
use Rattle.ss_dump.specs.declared.faults.DumpFault.TheVariants.{Memory}
use Rattle.ss_dump.specs.Dumps.{account_lines, batch_lines, body_text, closed_by, collection_line, digest_of, dump_text}
use Rattle.ss_dump.specs.Dumps.{in_order, text_of}
use Rattle.ss_dump.specs.Same.{SameKept}
use Rattle.ss_dump.specs.Undumped.{IsDumpOf, IsWhyNoDump}
use Rattle.ss_dump.proofs.Exact.{all_append, not_refused, one_dump}
use Rattle.ss_dump.proofs.Orders.{in_order_again, in_order_same, same_in_order}
use Rattle.ss_dump.proofs.Told.{all_back, all_front}

-- ---- texts

ordered_dump : (kept other : Kept) → in_order kept ≡ in_order other → dump_text kept ≡ dump_text other
unfolding dump_text body_text
ordered_dump kept other e = ap (λ k. closed_by (digest_of (text_of (account_lines k))) (text_of (account_lines k))) e

pub same_dump : (kept other : Kept) → IsGood kept → SameKept kept other → dump_text kept ≡ dump_text other
same_dump kept other good s = ordered_dump kept other (in_order_same kept other good s)

pub dump_in_order : (kept : Kept) → dump_text kept ≡ dump_text (in_order kept)
dump_in_order kept = ordered_dump kept (in_order kept) (sym (in_order_again kept))

-- two accounts that are the same but for the order of their lists
pub same_accounts : (account other : Plain) → IsValid account → SameAccount account other → dump_text (kept_of account) ≡ dump_text (kept_of other)
same_accounts account other valid s =
    same_dump (kept_of account) (kept_of other) (good-kept (kept_of account) account refl refl refl refl refl valid)
    (record { rows = s.rows; collections = s.collections; batches = s.batches; store = s.store; last_delete = s.last_delete; counter = s.counter })

-- ---- lines in another order

all_reordered : {ls ms : List Line} → IsReordering ls ms → AllByRecursion IsLine ls → AllByRecursion IsLine ms
all_reordered nothing h = tt
all_reordered (head x r) h = (h.0, all_reordered r h.1)
all_reordered (swapped x y xs) h = (h.1.0, (h.0, h.1.1))
all_reordered (chain r s) h = all_reordered s (all_reordered r h)

flat_reordered : {bs cs : List Staged} → IsReordering bs cs → AllByRecursion IsLine (flat_map batch_lines bs) → AllByRecursion IsLine (flat_map batch_lines cs)
flat_reordered nothing h = tt
flat_reordered (head b {xs} {ys} r) h =
    all_append (batch_lines b) (flat_map batch_lines ys) (all_front (batch_lines b) (flat_map batch_lines xs) h)
    (flat_reordered r (all_back (batch_lines b) (flat_map batch_lines xs) h))
flat_reordered (swapped b c xs) h =
    let rest : List Line = flat_map batch_lines xs in
    let behind = all_back (batch_lines b) (batch_lines c ++ rest) h in
    all_append (batch_lines c) (batch_lines b ++ rest) (all_front (batch_lines c) rest behind)
    (all_append (batch_lines b) rest (all_front (batch_lines b) (batch_lines c ++ rest) h) (all_back (batch_lines c) rest behind))
flat_reordered (chain r s) h = flat_reordered s (flat_reordered r h)

-- a counter fits its type
abbrev IsCount : ℕ → Type 0
IsCount n = n < 2 ^ 64

pub formed_same : (kept other : Kept) → SameKept kept other → AllByRecursion IsLine (account_lines kept) → AllByRecursion IsLine (account_lines other)
unfolding account_lines
formed_same kept other s h =
    let cs : List Line = map collection_line kept.collections in
    let rs : List Line = map (λ r. RowLine r) kept.rows in
    let bs : List Line = flat_map batch_lines kept.batches in
    let behind = all_back cs (rs ++ bs) h.1.1 in
    let times : (other.store ≤ last_stamp) × (other.last_delete ≤ last_stamp) × IsCount other.counter =
    (subst (λ n. n ≤ last_stamp) s.store h.1.0.0, subst (λ n. n ≤ last_stamp) s.last_delete h.1.0.1, subst IsCount s.counter h.1.0.2) in (
      h.0,
      (
        times,
        all_append (map collection_line other.collections) (map (λ r. RowLine r) other.rows ++ flat_map batch_lines other.batches)
            (all_reordered (reordered-map collection_line s.collections) (all_front cs (rs ++ bs) h.1.1))
            (all_append (map (λ r. RowLine r) other.rows) (flat_map batch_lines other.batches)
            (all_reordered (reordered-map (λ r. RowLine r) s.rows) (all_front rs bs behind))
            (flat_reordered s.batches (all_back rs bs behind))),
      ),
    )

-- ---- what is opened

latest_same : {bs cs : List Staged} → IsReordering bs cs → (time : ℕ) → latest time bs ≡ latest time cs
latest_same nothing time = refl
latest_same (head b r) time = latest_same r (max time b.begun)
latest_same (swapped b c bs) time =
    let turned : max (max time b.begun) c.begun ≡ max (max time c.begun) b.begun = omega arith in
    ap (λ t. latest t bs) turned
latest_same (chain r s) time = latest_same r time ∙ latest_same s time

plain_same : (kept other : Kept) → SameKept kept other → SameAccount (plain_of kept) (plain_of other)
plain_same kept other s = record {
  rows = s.rows;
  collections = s.collections;
  batches = s.batches;
  store = s.store;
  last_delete = s.last_delete;
  moment = latest_same s.batches kept.store ∙ ap (λ t. latest t other.batches) s.store;
  counter = s.counter;
}

pub opened_same : (kept other : Kept) → SameKept kept other → SameAccount (account_at_opening kept) (account_at_opening other)
opened_same kept other s = tick-same (plain_of kept) (plain_of other) 0 (plain_same kept other s)

-- ---- what can be opened

latest_low : (time : ℕ) (bs : List Staged) → time ≤ last_stamp → AllByRecursion IsLine (flat_map batch_lines bs) → latest time bs ≤ last_stamp
latest_low time [] le h = le
latest_low time (b ∷ bs) le h =
    let here : b.begun ≤ last_stamp = h.0.2 in
    latest_low (max time b.begun) bs (omega (arith, le, here)) (all_back (batch_lines b) (flat_map batch_lines bs) h)

latest_last : (kept : Kept) → AllByRecursion IsLine (account_lines kept) → latest kept.store kept.batches ≤ last_stamp
unfolding account_lines
latest_last kept h =
    let cs : List Line = map collection_line kept.collections in
    let rs : List Line = map (λ r. RowLine r) kept.rows in
    let bs : List Line = flat_map batch_lines kept.batches in
    latest_low kept.store kept.batches h.1.0.0 (all_back rs bs (all_back cs (rs ++ bs) h.1.1))

pub good_same : (kept other : Kept) → AllByRecursion IsLine (account_lines kept) → IsGood kept → SameKept kept other → IsGood other
good_same kept other formed good s =
    good-kept other (plain_of other) refl refl refl refl refl
    (valid-same (plain_of kept) (plain_of other) (valid-plain_of kept (latest_last kept formed) good) (plain_same kept other s))

-- ---- the dump of what is kept

pub dump_of : (kept : Kept) → AllByRecursion IsLine (account_lines kept) → IsGood kept → IsDumpOf (dump_text kept) (in_order kept)
dump_of kept formed good = record {
  formed = formed_same kept (in_order kept) (same_in_order kept) formed;
  ordered = in_order_again kept;
  good = good_same kept (in_order kept) formed good (same_in_order kept);
  text_is = dump_in_order kept;
}

pub dump_of_one : (kept other : Kept) → AllByRecursion IsLine (account_lines kept) → IsGood kept → IsDumpOf (dump_text kept) other → other ≡ in_order kept
dump_of_one kept other formed good h = one_dump (dump_text kept) other (in_order kept) h (dump_of kept formed good)

-- ---- a dump that is read again

pub read_is : (text : List ℕ) (kept : Kept) (r : Result Kept DumpFault) → AllByRecursion IsLine (account_lines kept) → IsGood kept → text ≡ dump_text kept
    → IfOk r (λ read. IsDumpOf text read) → IfOk r (λ read. read ≡ in_order kept)
read_is text kept (Ok read) formed good is h = dump_of_one kept read formed good (subst (λ t. IsDumpOf t read) is h)
read_is text kept (Err fault) formed good is h = tt

pub refused_for_memory : (text : List ℕ) (kept : Kept) (r : Result Kept DumpFault) → AllByRecursion IsLine (account_lines kept) → IsGood kept → text ≡ dump_text kept
    → IfErr r (λ fault. IsWhyNoDump text fault) → IfErr r (λ fault. fault ≡ Memory)
refused_for_memory text kept (Ok read) formed good is h = tt
refused_for_memory text kept (Err fault) formed good is h =
    not_refused text (in_order kept) fault (subst (λ t. IsDumpOf t (in_order kept)) (sym is) (dump_of kept formed good)) h
