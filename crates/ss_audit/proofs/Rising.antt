-- The entries of a log, as far as a loop over them has come: their tickets rise, and they are within the limits.
use Rattle.std.specs.Prelude.{◌≡◌, ◌≤◌, ◌<◌, ◌+◌, ◌-◌, ℕ, zero, suc, true, false, nat_lt, List, [], ◌∷◌, ◌++◌, length}
use Rattle.std.specs.Prelude.{take, get_or, slice_get, Option, Some, option_map, refl}
use Rattle.std.specs.Option.{option_map_or}
use Rattle.std.specs.List.Sorted.{IsStrictlyIncreasing}
use Rattle.std.proofs.Common.{subst, sym, ap, ◌∙◌, arith}
use Rattle.std.proofs.lemmas.Bool.{ltb-true, ltb-false}
use Rattle.std.proofs.lemmas.List.{map-append, length-append, length-map, length-take-le, take_all, get_or_append_left}
use Rattle.std.proofs.lemmas.List.{take-append-le}
use mathlib.Core.Logic.{dite}
use native.Mathlib.Decide.{dec_lt}
use Rattle.ss_bso.specs.declared.account.Plain.{Plain}
use Rattle.ss_bso.specs.Validity.{IsValid}
use Rattle.ss_laws.specs.declared.journal.Entry.{Entry}
use Rattle.ss_laws.specs.Journal.{Journal}
use Rattle.ss_booked.specs.Sizes.{journal_bytes, most_entries, most_journal_bytes, request_bytes}
use Rattle.ss_booked.proofs.Entering.{bytes-entered}
use Rattle.ss_text.proofs.Basics.{take_push}
use Rattle.ss_audit.specs.declared.verdict.Why.TheVariants as why
use Rattle.ss_audit.specs.Sound.{AreWithin, IsSoundLog, last_of, tickets_of}
use Rattle.ss_audit.specs.Verdicts.{FailsAt, GoesOnFrom, IsSoundBefore}
use Rattle.ss_audit.proofs.Lists.{last_push}

-- ---- numbers that rise

get_seam : (xs : List ℕ) (n : ℕ) → get_or (xs ++ n ∷ []) (length xs) 0 ≡ n
get_seam [] n = refl
get_seam (x ∷ xs) n = get_seam xs n

-- numbers that rise, and one more that is above the last of them
above_last : (xs : List ℕ) (n : ℕ) → IsStrictlyIncreasing xs → ((k : ℕ) → k + 1 ≡ length xs → get_or xs k 0 < n) → IsStrictlyIncreasing (xs ++ n ∷ [])
above_last xs n rises above = λ k lt.
    let len : length (xs ++ n ∷ []) ≡ length xs + 1 = length-append xs (n ∷ []) in
    let inside : k < length xs = omega (arith, len, lt) in
    let front : get_or (xs ++ n ∷ []) k 0 ≡ get_or xs k 0 = get_or_append_left xs (n ∷ []) 0 k inside in
    dite (dec_lt (k + 1) (length xs))
    (λ more. omega (arith, front, get_or_append_left xs (n ∷ []) 0 (k + 1) more, rises k more))
    (λ past.
    let last : k + 1 ≡ length xs = omega (arith, past, inside) in
    let seam : get_or (xs ++ n ∷ []) (k + 1) 0 ≡ n = subst (λ i. get_or (xs ++ n ∷ []) i 0 ≡ n) (sym last) (get_seam xs n) in
    omega (arith, front, seam, above k last))

-- the last number, where there is one, is below
below_more : (xs : List ℕ) (n : ℕ) → IsStrictlyIncreasing (xs ++ n ∷ []) → (k : ℕ) → k + 1 ≡ length xs → get_or xs k 0 < n
below_more xs n rises k last =
    let len : length (xs ++ n ∷ []) ≡ length xs + 1 = length-append xs (n ∷ []) in
    let inside : k < length xs = omega (arith, last) in
    let front : get_or (xs ++ n ∷ []) k 0 ≡ get_or xs k 0 = get_or_append_left xs (n ∷ []) 0 k inside in
    let seam : get_or (xs ++ n ∷ []) (k + 1) 0 ≡ n = subst (λ i. get_or (xs ++ n ∷ []) i 0 ≡ n) (sym last) (get_seam xs n) in
    omega (arith, front, seam, rises k (omega (arith, len, last)))

fewer : (xs : List ℕ) (n : ℕ) → IsStrictlyIncreasing (xs ++ n ∷ []) → IsStrictlyIncreasing xs
fewer xs n rises = λ k lt.
    let len : length (xs ++ n ∷ []) ≡ length xs + 1 = length-append xs (n ∷ []) in
    omega (arith, get_or_append_left xs (n ∷ []) 0 k (omega (arith, lt)), get_or_append_left xs (n ∷ []) 0 (k + 1) lt, rises k (omega (arith, len, lt)))

-- ---- tickets

-- the ticket of the last entry, where there is one, is below this
abbrev IsBelow : Option ℕ → ℕ → Type 0
IsBelow last ticket = option_map_or (λ before. nat_lt before ticket) last true ≡ true

last_ticket : (entries : List Entry) (k : ℕ) → k + 1 ≡ length entries → option_map (λ (entry : Entry). entry.ticket) (last_of entries) ≡ Some (get_or (tickets_of entries) k 0)
last_ticket entries k is =
    let back : length entries - 1 ≡ k = omega (arith, is) in
    ap (λ i. option_map (λ (entry : Entry). entry.ticket) (slice_get entries i)) back ∙ at entries k (omega (arith, is))
  where
    at : (es : List Entry) (i : ℕ) → i < length es → option_map (λ (entry : Entry). entry.ticket) (slice_get es i) ≡ Some (get_or (tickets_of es) i 0)
    at [] i lt = absurd (omega arith)
    at (e ∷ es) zero lt = refl
    at (e ∷ es) (suc i) lt = at es i (omega arith)

tickets_push : (entries : List Entry) (entry : Entry) → tickets_of (entries ++ entry ∷ []) ≡ tickets_of entries ++ entry.ticket ∷ []
tickets_push entries entry = map-append (λ (e : Entry). e.ticket) entries (entry ∷ [])

pub rise_push : (entries : List Entry) (entry : Entry) → IsStrictlyIncreasing (tickets_of entries)
    → option_map_or (λ before. nat_lt before entry.ticket) (option_map (λ (e : Entry). e.ticket) (last_of entries)) true ≡ true → IsStrictlyIncreasing (tickets_of (entries ++ entry ∷ []))
rise_push entries entry rises below =
    subst IsStrictlyIncreasing (sym (tickets_push entries entry))
    (above_last (tickets_of entries) entry.ticket rises (λ k last.
    let long : length (tickets_of entries) ≡ length entries = length-map entries (λ (e : Entry). e.ticket) in
    let is : option_map (λ (e : Entry). e.ticket) (last_of entries) ≡ Some (get_or (tickets_of entries) k 0) = last_ticket entries k (omega (arith, long, last)) in
    ltb-true (get_or (tickets_of entries) k 0) entry.ticket (subst (λ o. option_map_or (λ before. nat_lt before entry.ticket) o true ≡ true) is below)))

pub rise_not : (entries : List Entry) (entry : Entry) → option_map_or (λ before. nat_lt before entry.ticket) (option_map (λ (e : Entry). e.ticket) (last_of entries)) true ≡ false
    → IsStrictlyIncreasing (tickets_of (entries ++ entry ∷ [])) → ⊥
rise_not [] entry below rises = cc
rise_not (e ∷ es) entry below rises =
    let entries : List Entry = e ∷ es in
    let long : length (tickets_of (e ∷ es)) ≡ length (e ∷ es) = length-map (e ∷ es) (λ (x : Entry). x.ticket) in
    let is : option_map (λ (x : Entry). x.ticket) (last_of (e ∷ es)) ≡ Some (get_or (tickets_of (e ∷ es)) (length es) 0) = last_ticket (e ∷ es) (length es) (omega arith) in
    let not_below : nat_lt (get_or (tickets_of (e ∷ es)) (length es) 0) entry.ticket ≡ false = subst (λ o. option_map_or (λ before. nat_lt before entry.ticket) o true ≡ false) is below in
    let lt : get_or (tickets_of (e ∷ es)) (length es) 0 < entry.ticket = below_more (tickets_of (e ∷ es)) entry.ticket (subst IsStrictlyIncreasing (tickets_push (e ∷ es) entry) rises) (length es) (omega (arith, long)) in
    omega (arith, lt, ltb-false (get_or (tickets_of (e ∷ es)) (length es) 0) entry.ticket not_below)

-- ---- limits

pub within_push : (most : ℕ) (entries : List Entry) (entry : Entry) → AreWithin most entries → length entries + 1 ≤ most → length entries + 1 ≤ most_entries → journal_bytes entries < most_journal_bytes
    → AreWithin most (entries ++ entry ∷ [])
within_push most entries entry within room few light =
    let len : length (entries ++ entry ∷ []) ≡ length entries + 1 = length-append entries (entry ∷ []) in
    record {
      most = omega (arith, len, room);
      few = omega (arith, len, few);
      bytes = λ k lt.
          dite (dec_lt k (length entries))
          (λ before. subst (λ es. journal_bytes es < most_journal_bytes) (sym (take-append-le k entries (entry ∷ []) (omega (arith, before)))) (within.bytes k before))
          (λ past.
          let same : k ≡ length entries = omega (arith, len, lt, past) in
          subst (λ i. journal_bytes (take i (entries ++ entry ∷ [])) < most_journal_bytes) (sym same)
          (subst (λ es. journal_bytes es < most_journal_bytes) (sym (take-append-le (length entries) entries (entry ∷ []) (omega arith) ∙ take_all (length entries) entries (omega arith))) light));
    }

pub within_not : (most : ℕ) (entries : List Entry) (entry : Entry) → ((length entries + 1 ≤ most) → (length entries + 1 ≤ most_entries) → (journal_bytes entries < most_journal_bytes) → ⊥)
    → AreWithin most (entries ++ entry ∷ []) → ⊥
within_not most entries entry h within =
    let len : length (entries ++ entry ∷ []) ≡ length entries + 1 = length-append entries (entry ∷ []) in
    let front : take (length entries) (entries ++ entry ∷ []) ≡ entries = take-append-le (length entries) entries (entry ∷ []) (omega arith) ∙ take_all (length entries) entries (omega arith) in
    h (omega (arith, len, within.most)) (omega (arith, len, within.few)) (subst (λ es. journal_bytes es < most_journal_bytes) front (within.bytes (length entries) (omega (arith, len))))

-- ---- a log, up to a place

-- what is known of a log's first entries, once a loop has come so far
pub record Seen (log : Journal) (k : ℕ) (last : Option ℕ) (bytes : ℕ) : Type 0 where
  pub tickets : IsStrictlyIncreasing (tickets_of (take k log.entries))
  pub within : AreWithin log.most (take k log.entries)
  pub last_is : last ≡ option_map (λ (entry : Entry). entry.ticket) (last_of (take k log.entries))
  pub bytes_are : bytes ≡ journal_bytes (take k log.entries)

module _ (log : Journal) (k : ℕ) (entry : Entry) (lt : k < length log.entries) (item : entry ≡ get_or log.entries k entry) (last : Option ℕ) (bytes : ℕ) (seen : Seen log k last bytes) where
  one_more : take (k + 1) log.entries ≡ take k log.entries ++ entry ∷ []
  one_more = take_push log.entries k entry lt item

  long : length (take k log.entries) ≡ k
  long = length-take-le k log.entries (omega (arith, lt))

  pub rise_at : option_map_or (λ before. nat_lt before entry.ticket) last true ≡ true → IsStrictlyIncreasing (tickets_of (take (k + 1) log.entries))
  rise_at e =
      subst (λ es. IsStrictlyIncreasing (tickets_of es)) (sym one_more)
      (rise_push (take k log.entries) entry seen.tickets (subst (λ o. option_map_or (λ before. nat_lt before entry.ticket) o true ≡ true) seen.last_is e))

  pub rise_not_at : option_map_or (λ before. nat_lt before entry.ticket) last true ≡ false → IsStrictlyIncreasing (tickets_of (take (k + 1) log.entries)) → ⊥
  rise_not_at e rises =
      rise_not (take k log.entries) entry (subst (λ o. option_map_or (λ before. nat_lt before entry.ticket) o true ≡ false) seen.last_is e)
      (subst (λ es. IsStrictlyIncreasing (tickets_of es)) one_more rises)

  pub within_at : k + 1 ≤ log.most → k + 1 ≤ most_entries → bytes < most_journal_bytes → AreWithin log.most (take (k + 1) log.entries)
  within_at room few light =
      subst (λ es. AreWithin log.most es) (sym one_more)
      (within_push log.most (take k log.entries) entry seen.within (omega (arith, long, room)) (omega (arith, long, few)) (omega (arith, seen.bytes_are, light)))

  pub within_not_at : ((k + 1 ≤ log.most) → (k + 1 ≤ most_entries) → (bytes < most_journal_bytes) → ⊥) → AreWithin log.most (take (k + 1) log.entries) → ⊥
  within_not_at h within =
      within_not log.most (take k log.entries) entry (λ room few light. h (omega (arith, long, room)) (omega (arith, long, few)) (omega (arith, seen.bytes_are, light)))
      (subst (λ es. AreWithin log.most es) one_more within)

  pub seen_more : (ticket more : ℕ) → option_map_or (λ before. nat_lt before entry.ticket) last true ≡ true → k + 1 ≤ log.most → k + 1 ≤ most_entries → bytes < most_journal_bytes
      → ticket ≡ entry.ticket → more ≡ bytes + request_bytes entry.request → Seen log (k + 1) (Some ticket) more
  seen_more ticket more e room few light ticket_is more_is = record {
    tickets = rise_at e;
    within = within_at room few light;
    last_is =
        ap (λ t. Some t) ticket_is
        ∙ sym (ap (λ es. option_map (λ (x : Entry). x.ticket) (last_of es)) one_more ∙ ap (λ o. option_map (λ (x : Entry). x.ticket) o) (last_push (take k log.entries) entry));
    bytes_are =
        more_is ∙ ap (λ b. b + request_bytes entry.request) seen.bytes_are ∙ sym (ap journal_bytes one_more ∙ bytes-entered (take k log.entries) entry);
  }

  -- the log is sound before this entry
  pub sound_before : (closing : Option Plain) (n : ℕ) → n ≡ k + 1 → IsValid log.opening → GoesOnFrom closing log.opening → IsSoundBefore closing log n
  sound_before closing n n_is valid goes_on =
      let back : n - 1 ≡ k = omega (arith, n_is) in
      record {
        some = omega (arith, n_is);
        there = omega (arith, n_is, lt);
        goes_on = goes_on;
        sound = subst (λ i. IsSoundLog (record log { entries = take i log.entries })) (sym back) (record { opening = valid; tickets = seen.tickets; within = seen.within });
      }

  pub ticket_fails : (closing : Option Plain) (n : ℕ) → n ≡ k + 1 → IsValid log.opening → option_map_or (λ before. nat_lt before entry.ticket) last true ≡ false → GoesOnFrom closing log.opening
      → FailsAt closing log n why.Ticket
  ticket_fails closing n n_is valid e goes_on =
      (sound_before closing n n_is valid goes_on, λ rises. rise_not_at e (subst (λ i. IsStrictlyIncreasing (tickets_of (take i log.entries))) n_is rises))

  pub limits_fail : (closing : Option Plain) (n : ℕ) → n ≡ k + 1 → IsValid log.opening → option_map_or (λ before. nat_lt before entry.ticket) last true ≡ true
      → ((k + 1 ≤ log.most) → (k + 1 ≤ most_entries) → (bytes < most_journal_bytes) → ⊥) → GoesOnFrom closing log.opening → FailsAt closing log n why.Limits
  limits_fail closing n n_is valid e h goes_on = (
    sound_before closing n n_is valid goes_on,
    subst (λ i. IsStrictlyIncreasing (tickets_of (take i log.entries))) (sym n_is) (rise_at e),
    λ within. within_not_at h (subst (λ i. AreWithin log.most (take i log.entries)) n_is within),
  )
