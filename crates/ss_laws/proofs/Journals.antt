-- The reply at a place of a journal, and the accounts that a legal journal passes through.
use Rattle.std.specs.Prelude.{◌≡◌, ℕ, zero, suc, ◌+◌, List, [], ◌∷◌, take, slice_get, Option, option_map, refl}
use Rattle.std.proofs.Common.{sym, ap, ◌∙◌, add-one}
use Rattle.ss_bso.specs.declared.account.Plain.{Plain}
use Rattle.ss_bso.specs.Validity.{IsValid}
use Rattle.ss_query.specs.declared.replies.Mark.{Mark}
use Rattle.ss_query.specs.declared.replies.Mark.TheVariants.{Done, Keeper, Memory}
use Rattle.ss_query.specs.declared.replies.Reply.{Reply}
use Rattle.ss_query.specs.declared.requests.Request.{Request}
use Rattle.ss_laws.specs.declared.journal.Entry.{Entry}
use Rattle.ss_laws.specs.Journal.{Journal}
use Rattle.ss_query.specs.Fit.{IsFitRequest}
use Rattle.ss_laws.specs.Journals.{marked_outcome, entry_outcome, account_after, reply_at, IsLegal}
use Rattle.ss_bso.proofs.Lists.{Each-from_All}
use Rattle.ss_bso.specs.Lists.{Each}
use Rattle.ss_laws.proofs.Valid.{valid-tick, valid-api}

take-front : {X : Type 0} (xs : List X) (k : ℕ) → take k (take (suc k) xs) ≡ take k xs
take-front [] zero = refl
take-front [] (suc k) = refl
take-front (x ∷ xs) zero = refl
take-front (x ∷ xs) (suc k) = ap (λ rest. x ∷ rest) (take-front xs k)

get-front : {X : Type 0} (xs : List X) (k : ℕ) → slice_get (take (suc k) xs) k ≡ slice_get xs k
get-front [] k = refl
get-front (x ∷ xs) zero = refl
get-front (x ∷ xs) (suc k) = get-front xs k

-- the reply at a place of a list of entries
abbrev reply_in : Plain → ℕ → List Entry → List Entry → Option Reply
reply_in opening place before entries = option_map (λ (entry : Entry). (entry_outcome (account_after opening (take place before)) entry).reply) (slice_get entries place)

reply_at-front : (journal : Journal) (place : ℕ) → reply_in journal.opening place (take (suc place) journal.entries) (take (suc place) journal.entries) ≡ reply_at journal place
reply_at-front journal place =
    ap (λ entries. option_map (λ (entry : Entry). (entry_outcome (account_after journal.opening entries) entry).reply) (slice_get (take (suc place) journal.entries) place)) (take-front journal.entries place)
    ∙ ap (λ found. option_map (λ (entry : Entry). (entry_outcome (account_after journal.opening (take place journal.entries)) entry).reply) found) (get-front journal.entries place)

pub reply_at-alone : (one other : Journal) (place : ℕ) → one.opening ≡ other.opening → take (place + 1) one.entries ≡ take (place + 1) other.entries → reply_at one place ≡ reply_at other place
reply_at-alone one other place opening front =
    let e : take (suc place) one.entries ≡ take (suc place) other.entries = ap (λ n. take n one.entries) (sym (add-one place)) ∙ front ∙ ap (λ n. take n other.entries) (add-one place) in
    sym (reply_at-front one place)
    ∙ ap (λ account. reply_in account place (take (suc place) one.entries) (take (suc place) one.entries)) opening
    ∙ ap (λ entries. reply_in other.opening place entries entries) e
    ∙ reply_at-front other place

pub valid-marked : (account : Plain) (now : ℕ) (request : Request) (mark : Mark) → IsFitRequest request → IsValid account → IsValid (marked_outcome account now request mark).account
valid-marked account now request Done fit valid = valid-api account now request valid fit
valid-marked account now request Keeper fit valid = valid-tick account now valid
valid-marked account now request Memory fit valid = valid-tick account now valid

valid-after : (opening : Plain) (entries : List Entry) → Each (λ (entry : Entry). IsFitRequest entry.request) entries → IsValid opening → IsValid (account_after opening entries)
valid-after opening [] fit valid = valid
valid-after opening (entry ∷ entries) fit valid = valid-after (entry_outcome opening entry).account entries fit.1 (valid-marked opening entry.now entry.request entry.mark fit.0 valid)

pub Each-take : {X : Type 0} (P : X → Type 0) (k : ℕ) (xs : List X) → Each P xs → Each P (take k xs)
Each-take P zero [] e = tt
Each-take P zero (x ∷ xs) e = tt
Each-take P (suc k) [] e = tt
Each-take P (suc k) (x ∷ xs) e = (e.0, Each-take P k xs e.1)

pub valid-account_after : (journal : Journal) (place : ℕ) → IsLegal journal → IsValid (account_after journal.opening (take place journal.entries))
valid-account_after journal place legal =
    valid-after journal.opening (take place journal.entries)
    (Each-take (λ (entry : Entry). IsFitRequest entry.request) place journal.entries (Each-from_All (λ (entry : Entry). IsFitRequest entry.request) journal.entries legal.requests)) legal.opening
