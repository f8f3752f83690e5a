-- Logs, as far as an audit of them has come: those before are sound; and where the first fault is they aren't.
use Rattle.std.specs.Prelude.{◌≡◌, ◌≤◌, ◌<◌, ◌+◌, ◌-◌, ◌^◌, ℕ, zero, min, List, [], ◌∷◌, ◌++◌, length, take, drop}
use Rattle.std.specs.Prelude.{get_or, slice_get, sum_by, Option, Some, None, option_map, IfSome, All}
use Rattle.std.specs.List.{AllAdjacentBelow}
use Rattle.std.specs.List.Sorted.{IsStrictlyIncreasing}
use Rattle.std.proofs.Common.{subst, sym, ap, ◌∙◌, arith, drop-cons, add-one}
use Rattle.std.proofs.lemmas.List.{length-append, length-take-le, map-append, take_all, take-append-drop}
use Rattle.std.proofs.lemmas.List.{take-append-le, get_or_append_left}
use Rattle.std.proofs.lemmas.List.Elements.{All-append}
use Rattle.std.proofs.lemmas.List.Sums.{sum_by-append}
use Rattle.std.proofs.lemmas.Option.{slice_get-get_or}
use Rattle.std.proofs.Math.Seq.{get_or-append_seam}
use mathlib.Core.Logic.{dite}
use native.Mathlib.Decide.{dec_lt}
use Rattle.ss_bso.specs.declared.account.Plain.{Plain}
use Rattle.ss_bso.specs.Validity.{IsValid}
use Rattle.ss_query.specs.Fit.{IsFitRequest}
use Rattle.ss_laws.specs.declared.journal.Entry.{Entry}
use Rattle.ss_laws.specs.Journal.{Journal}
use Rattle.ss_laws.specs.Journals.{IsLegal, account_after}
use Rattle.ss_laws.proofs.Journals.{valid-account_after}
use Rattle.ss_booked.specs.Sizes.{journal_bytes, most_journal_bytes}
use Rattle.ss_text.proofs.Basics.{take_push}
use Rattle.ss_audit.specs.declared.verdict.Why.{Why}
use Rattle.ss_audit.specs.declared.verdict.Why.TheVariants as why
use Rattle.ss_audit.specs.Sound.{AreSound, AreWithin, GoesOn, IsSoundLog, closing_of, last_of, tickets_of}
use Rattle.ss_audit.specs.Verdicts.{FailsAt, GoesOnFrom, IsFirstFault, entries_in, last_closing}
use Rattle.ss_audit.proofs.Lists.{last_push}

-- ---- neighbours in a list

module _ {X : Type 0} (R : X → X → Type 0) where
  ends_from : (xs : List X) (x : X) → ((k : ℕ) (d : X) → k + 1 ≡ length xs → R (get_or xs k d) x) → IfSome (last_of xs) (λ y. R y x)
  ends_from [] x h = tt
  ends_from (y ∷ ys) x h =
      let back : length (y ∷ ys) - 1 ≡ length ys = omega arith in
      subst (λ o. IfSome o (λ z. R z x)) (sym (ap (slice_get (y ∷ ys)) back ∙ slice_get-get_or (y ∷ ys) (length ys) y (omega arith))) (h (length ys) y (omega arith))

  ends_at : (xs : List X) (x : X) → IfSome (last_of xs) (λ y. R y x) → (k : ℕ) (d : X) → k + 1 ≡ length xs → R (get_or xs k d) x
  ends_at xs x e k d is =
      let back : length xs - 1 ≡ k = omega (arith, is) in
      subst (λ o. IfSome o (λ z. R z x)) (ap (slice_get xs) back ∙ slice_get-get_or xs k d (omega (arith, is))) e

  adjacent_push : (xs : List X) (x : X) → AllAdjacentBelow R xs (length xs) → IfSome (last_of xs) (λ y. R y x) → AllAdjacentBelow R (xs ++ x ∷ []) (length (xs ++ x ∷ []))
  adjacent_push xs x h e = λ k d lt.
      let len : length (xs ++ x ∷ []) ≡ length xs + 1 = length-append xs (x ∷ []) in
      let inside : k < length xs = omega (arith, len, lt) in
      let front : get_or (xs ++ x ∷ []) k d ≡ get_or xs k d = get_or_append_left xs (x ∷ []) d k inside in
      subst (λ y. R y (get_or (xs ++ x ∷ []) (k + 1) d)) (sym front)
      (dite (dec_lt (k + 1) (length xs))
      (λ more. subst (λ z. R (get_or xs k d) z) (sym (get_or_append_left xs (x ∷ []) d (k + 1) more)) (h k d more))
      (λ past.
      let last : k + 1 ≡ length xs = omega (arith, past, inside) in
      subst (λ z. R (get_or xs k d) z) (sym (ap (λ i. get_or (xs ++ x ∷ []) i d) last ∙ get_or-append_seam xs x [] d)) (ends_at xs x e k d last)))

  adjacent_front : (xs ys : List X) → AllAdjacentBelow R (xs ++ ys) (length (xs ++ ys)) → AllAdjacentBelow R xs (length xs)
  adjacent_front xs ys h = λ k d lt.
      let len : length (xs ++ ys) ≡ length xs + length ys = length-append xs ys in
      subst (λ y. R y (get_or xs (k + 1) d)) (get_or_append_left xs ys d k (omega (arith, lt)))
      (subst (λ z. R (get_or (xs ++ ys) k d) z) (get_or_append_left xs ys d (k + 1) lt) (h k d (omega (arith, len, lt))))

  adjacent_seam : (xs : List X) (x : X) (ys : List X) → AllAdjacentBelow R (xs ++ x ∷ ys) (length (xs ++ x ∷ ys)) → IfSome (last_of xs) (λ y. R y x)
  adjacent_seam xs x ys h =
      ends_from xs x (λ k d is.
      let len : length (xs ++ x ∷ ys) ≡ length xs + length (x ∷ ys) = length-append xs (x ∷ ys) in
      subst (λ y. R y x) (get_or_append_left xs (x ∷ ys) d k (omega (arith, is)))
      (subst (λ z. R (get_or (xs ++ x ∷ ys) k d) z) (ap (λ i. get_or (xs ++ x ∷ ys) i d) is ∙ get_or-append_seam xs x ys d) (h k d (omega (arith, len, is)))))

all_front : {X : Type 0} (P : X → Type 0) (xs ys : List X) → All P (xs ++ ys) → All P xs
all_front P xs ys h = λ k d lt.
    let len : length (xs ++ ys) ≡ length xs + length ys = length-append xs ys in
    subst P (get_or_append_left xs ys d k lt) (h k d (omega (arith, len, lt)))

all_seam : {X : Type 0} (P : X → Type 0) (xs : List X) (x : X) (ys : List X) → All P (xs ++ x ∷ ys) → P x
all_seam P xs x ys h =
    let len : length (xs ++ x ∷ ys) ≡ length xs + length (x ∷ ys) = length-append xs (x ∷ ys) in
    subst P (get_or-append_seam xs x ys x) (h (length xs) x (omega (arith, len)))

all_one : {X : Type 0} (P : X → Type 0) (x : X) → P x → All P (x ∷ [])
all_one P x p = λ k d lt. let z : k ≡ zero = omega arith in subst (λ i. P (get_or (x ∷ []) i d)) (sym z) p

-- ---- sound logs

-- an opening goes on from the closing of a log
abbrev NextTo : Journal → Journal → Type 0
NextTo log next = GoesOn (closing_of log) next.opening

mapped : (found : Option Journal) (opening : Plain) → GoesOnFrom (option_map closing_of found) opening → IfSome found (λ log. GoesOn (closing_of log) opening)
mapped None opening g = tt
mapped (Some log) opening g = g

unmapped : (found : Option Journal) (opening : Plain) → IfSome found (λ log. GoesOn (closing_of log) opening) → GoesOnFrom (option_map closing_of found) opening
unmapped None opening g = tt
unmapped (Some log) opening g = g

pub sound_push : (logs : List Journal) (log : Journal) → AreSound logs → IsSoundLog log → GoesOnFrom (last_closing logs) log.opening → AreSound (logs ++ log ∷ [])
sound_push logs log sound own goes_on = record {
  each = All-append IsSoundLog logs (log ∷ []) sound.each (all_one IsSoundLog log own);
  go_on = adjacent_push NextTo logs log sound.go_on (mapped (last_of logs) log.opening goes_on);
}

pub sound_own : (logs : List Journal) (log : Journal) (later : List Journal) → AreSound (logs ++ log ∷ later) → IsSoundLog log
sound_own logs log later sound = all_seam IsSoundLog logs log later sound.each

pub sound_seam : (logs : List Journal) (log : Journal) (later : List Journal) → AreSound (logs ++ log ∷ later) → GoesOnFrom (last_closing logs) log.opening
sound_seam logs log later sound = unmapped (last_of logs) log.opening (adjacent_seam NextTo logs log later sound.go_on)

-- ---- where a log fails it isn't sound

pub rises_front : (entries : List Entry) (k : ℕ) → IsStrictlyIncreasing (tickets_of entries) → IsStrictlyIncreasing (tickets_of (take k entries))
rises_front entries k rises =
    let whole : tickets_of (take k entries ++ drop k entries) ≡ tickets_of entries = ap tickets_of (take-append-drop k entries) in
    fewer (tickets_of (take k entries)) (tickets_of (drop k entries)) (subst IsStrictlyIncreasing (sym whole ∙ map-append (λ (e : Entry). e.ticket) (take k entries) (drop k entries)) rises)
  where
    fewer : (xs ys : List ℕ) → IsStrictlyIncreasing (xs ++ ys) → IsStrictlyIncreasing xs
    fewer xs ys up = λ i lt.
        let len : length (xs ++ ys) ≡ length xs + length ys = length-append xs ys in
        omega (arith, get_or_append_left xs ys 0 i (omega (arith, lt)), get_or_append_left xs ys 0 (i + 1) lt, up i (omega (arith, len, lt)))

pub within_front : (most : ℕ) (entries : List Entry) (k : ℕ) → AreWithin most entries → AreWithin most (take k entries)
within_front most entries k within =
    let whole : take k entries ++ drop k entries ≡ entries = take-append-drop k entries in
    cut (take k entries) (drop k entries) (subst (λ es. AreWithin most es) (sym whole) within)
  where
    cut : (xs ys : List Entry) → AreWithin most (xs ++ ys) → AreWithin most xs
    cut xs ys w =
        let len : length (xs ++ ys) ≡ length xs + length ys = length-append xs ys in
        record {
          most = omega (arith, len, w.most);
          few = omega (arith, len, w.few);
          bytes = λ i lt. subst (λ es. journal_bytes es < most_journal_bytes) (take-append-le i xs ys (omega (arith, lt))) (w.bytes i (omega (arith, len, lt)));
        }

pub fails_not : (closing : Option Plain) (log : Journal) (entry : ℕ) (reason : Why) → FailsAt closing log entry reason → IsSoundLog log → GoesOnFrom closing log.opening → ⊥
fails_not closing log entry why.Opening f own goes_on = f.1 own.opening
fails_not closing log entry why.Follows f own goes_on = f.2 goes_on
fails_not closing log entry why.Ticket f own goes_on = f.1 (rises_front log.entries entry own.tickets)
fails_not closing log entry why.Limits f own goes_on = f.2 (within_front log.most log.entries entry own.within)

pub fault_not : (logs : List Journal) (number entry : ℕ) (reason : Why) → IsFirstFault logs number entry reason → AreSound logs → ⊥
fault_not logs number entry reason f sound =
    let s : AreSound (f.before ++ f.log ∷ f.later) = subst AreSound f.logs_are sound in
    fails_not (last_closing f.before) f.log entry reason f.fails (sound_own f.before f.log f.later s) (sound_seam f.before f.log f.later s)

-- ---- as far as an audit has come

-- so many logs are sound, and so many entries and this closing are theirs
pub record Passed (logs : List Journal) (k n entries : ℕ) (last : Option Plain) : Type 0 where
  pub number : n ≡ k
  pub within : k ≤ length logs
  pub sound : AreSound (take k logs)
  pub entries_are : entries ≡ entries_in (take k logs)
  pub last_is : last ≡ last_closing (take k logs)
  pub valid : IfSome last IsValid

-- a sound log is a legal journal, where its requests are such as routing gives
pub legal_log : (log : Journal) → IsSoundLog log → All (λ (entry : Entry). IsFitRequest entry.request) log.entries → IsLegal log
legal_log log sound fit = record { opening = sound.opening; requests = fit; tickets = sound.tickets; within = sound.within.most }

-- what it leaves is valid then
pub closing_valid : (log : Journal) → IsSoundLog log → All (λ (entry : Entry). IsFitRequest entry.request) log.entries → IsValid (closing_of log)
closing_valid log sound fit =
    subst (λ (es : List Entry). IsValid (account_after log.opening es)) (take_all (length log.entries) log.entries (omega arith)) (valid-account_after log (length log.entries) (legal_log log sound fit))

module _ (logs : List Journal) (k : ℕ) (log : Journal) (lt : k < length logs) (item : log ≡ get_or logs k log) where
  one_more : take (k + 1) logs ≡ take k logs ++ log ∷ []
  one_more = take_push logs k log lt item

  pub passed_more : (n entries : ℕ) (last : Option Plain) (n' entries' : ℕ) (closing : Plain) → Passed logs k n entries last → IsSoundLog log → GoesOnFrom last log.opening
      → All (λ (entry : Entry). IsFitRequest entry.request) log.entries → n' ≡ n + 1 → entries' ≡ min (entries + length log.entries) (2 ^ 64 - 1) → closing ≡ closing_of log
      → Passed logs (k + 1) n' entries' (Some closing)
  passed_more n entries last n' entries' closing p own goes_on fit n_is entries_is closing_is = record {
    number = n_is ∙ ap (λ m. m + 1) p.number;
    within = omega (arith, lt);
    sound = subst AreSound (sym one_more) (sound_push (take k logs) log p.sound own (subst (λ o. GoesOnFrom o log.opening) p.last_is goes_on));
    entries_are =
        let total : sum_by (λ (j : Journal). length j.entries) (take (k + 1) logs) ≡ sum_by (λ (j : Journal). length j.entries) (take k logs) + length log.entries =
        ap (sum_by (λ (j : Journal). length j.entries)) one_more ∙ sum_by-append (λ (j : Journal). length j.entries) (take k logs) (log ∷ [])
        ∙ ap (λ n. sum_by (λ (j : Journal). length j.entries) (take k logs) + n) (let one : 0 + length log.entries ≡ length log.entries = omega arith in one) in
        capped entries entries' (length log.entries) _ _ (2 ^ 64 - 1) p.entries_are entries_is total;
    last_is = ap (λ (account : Plain). Some account) closing_is ∙ sym (ap last_closing one_more ∙ ap (λ o. option_map closing_of o) (last_push (take k logs) log));
    valid = subst IsValid (sym closing_is) (closing_valid log own fit);
  }
    where
      capped : (was now more before after top : ℕ) → was ≡ min before top → now ≡ min (was + more) top → after ≡ before + more → now ≡ min after top
      capped was now more before after top a b c = omega (arith, a, b, c)

  pub passed_fault : (n entries : ℕ) (last : Option Plain) (n' entry : ℕ) (reason : Why) → Passed logs k n entries last → n' ≡ n + 1 → FailsAt last log entry reason → IsFirstFault logs n' entry reason
  passed_fault n entries last n' entry reason p n_is fails = record {
    before = take k logs;
    log = log;
    later = drop (k + 1) logs;
    logs_are =
        sym (take-append-drop k logs)
        ∙ ap (λ rest. take k logs ++ rest) (drop-cons logs k log lt ∙ (λ i. sym item i ∷ drop (sym (add-one k) i) logs));
    number_is = let long : length (take k logs) ≡ k = length-take-le k logs (omega (arith, lt)) in omega (arith, n_is, p.number, long);
    sound = p.sound;
    fails = subst (λ o. FailsAt o log entry reason) p.last_is fails;
  }
