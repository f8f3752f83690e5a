-- Accounts that are the same but for the order of their lists answer alike, and so does an account that is moved.
use Rattle.std.specs.Prelude.{◌≡◌, ℕ, ◌≤◌, List, [], ◌∷◌, Option, Some, None, IfSome, option_map, refl}
use Rattle.std.specs.Option.{option_map_or}
use Rattle.std.specs.List.{AllByRecursion}
use Rattle.std.proofs.Common.{sym, ap, ap₂, subst, ◌∙◌}
use Rattle.ss_bso.specs.declared.account.Plain.{Plain}
use Rattle.ss_bso.specs.declared.changes.Kept.{Kept}
use Rattle.ss_bso.specs.Account.{tick}
use Rattle.ss_bso.specs.Changes.{account_at_opening}
use Rattle.ss_bso.specs.Validity.{IsValid, SameAccount}
use Rattle.ss_bso.proofs.Reordering.{same-back, same-through}
use Rattle.ss_query.specs.declared.requests.Request.{Request}
use Rattle.ss_query.specs.Api.{api}
use Rattle.ss_query.specs.Fit.{IsFitRequest}
use Rattle.ss_query.specs.Flat.{Ask, after_all, after_ask, reply_to, turns}
use Rattle.ss_laws.proofs.SameApi.{order_law, tick-same}
use Rattle.ss_laws.proofs.Valid.{valid-api, valid-tick}
use Rattle.ss_lines.specs.Lines.{IsLine}
use Rattle.ss_account.specs.Keeping.{IsKeptAccount}
use Rattle.ss_account.specs.Opening.{IsGood}
use Rattle.ss_dump.specs.Dumps.{account_lines, dump_text, in_order}
use Rattle.ss_dump.specs.Undumped.{IsDumpOf}
use Rattle.ss_dump.proofs.Moved.{dump_of_one, opened_same}
use Rattle.ss_dump.proofs.Orders.{same_in_order}
use Rattle.ss_promises.specs.Moves.{AnswerAlike, AnswerAlikeFrom, AreFit}
use Rattle.ss_promises.specs.Restarts.{GoesOn}
use Rattle.ss_promises.proofs.Reopening.{goes_on}

-- ---- one reading, with a request or bare

record Alike (account other : Plain) (now : ℕ) (request : Option Request) : Type 0 where
  reply : option_map (λ q. (api account now q).reply) request ≡ option_map (λ q. (api other now q).reply) request
  same : SameAccount (option_map_or (λ q. (api account now q).account) request (tick account now)) (option_map_or (λ q. (api other now q).account) request (tick other now))
  valid : IsValid (option_map_or (λ q. (api account now q).account) request (tick account now))

one_alike : (account other : Plain) (now : ℕ) (request : Option Request) → IsValid account → SameAccount account other → IfSome request IsFitRequest → Alike account other now request
one_alike account other now None valid s fit = record { reply = refl; same = tick-same account other now s; valid = valid-tick account now valid }
one_alike account other now (Some q) valid s fit =
    let o = order_law account other now q valid s in
    record { reply = ap (λ r. Some r) o.reply; same = o.account; valid = valid-api account now q valid fit }

one_goes_on : (account again : Plain) (now : ℕ) (request : Option Request) → IsValid account → GoesOn account again → account.moment ≤ now → IfSome request IsFitRequest → Alike account again now request
one_goes_on account again now None valid g le fit = record { reply = refl; same = g.ticks now le; valid = valid-tick account now valid }
one_goes_on account again now (Some q) valid g le fit =
    let o = g.answers now q le in
    record { reply = ap (λ r. Some r) o.reply; same = o.account; valid = valid-api account now q valid fit }

-- ---- one after the other

all_replies : (account other : Plain) (asks : List Ask) → IsValid account → SameAccount account other → AreFit asks → turns account asks ≡ turns other asks
all_replies account other [] valid s fit = refl
all_replies account other (ask ∷ asks) valid s fit =
    let a = one_alike account other ask.now ask.request valid s fit.0 in
    ap₂ (λ reply rest. record { ask = ask; reply = reply } ∷ rest) a.reply (all_replies (after_ask account ask) (after_ask other ask) asks a.valid a.same fit.1)

all_accounts : (account other : Plain) (asks : List Ask) → IsValid account → SameAccount account other → AreFit asks → SameAccount (after_all account asks) (after_all other asks)
all_accounts account other [] valid s fit = s
all_accounts account other (ask ∷ asks) valid s fit =
    let a = one_alike account other ask.now ask.request valid s fit.0 in
    all_accounts (after_ask account ask) (after_ask other ask) asks a.valid a.same fit.1

pub answer_alike : (account other : Plain) → IsValid account → SameAccount account other → AnswerAlike account other
answer_alike account other valid s = record { replies = λ asks fit. all_replies account other asks valid s fit; accounts = λ asks fit. all_accounts account other asks valid s fit }

pub alike_from : (account again : Plain) → IsValid account → GoesOn account again → AnswerAlikeFrom account.moment account again
alike_from account again valid g = record {
  replies = λ ask asks le fit.
      let a = one_goes_on account again ask.now ask.request valid g le fit.0 in
      ap₂ (λ reply rest. record { ask = ask; reply = reply } ∷ rest) a.reply (all_replies (after_ask account ask) (after_ask again ask) asks a.valid a.same fit.1);
  accounts = λ ask asks le fit.
      let a = one_goes_on account again ask.now ask.request valid g le fit.0 in
      all_accounts (after_ask account ask) (after_ask again ask) asks a.valid a.same fit.1;
}

-- ---- a move

-- what is read of a dump opens as what was dumped
read_opens : (kept read : Kept) (again : Plain) → IsGood kept → AllByRecursion IsLine (account_lines kept) → IsDumpOf (dump_text kept) read → SameAccount (account_at_opening read) again → SameAccount (account_at_opening kept) again
read_opens kept read again good formed h s =
    let is : read ≡ in_order kept = dump_of_one kept read formed good h in
    same-through (account_at_opening kept) (account_at_opening (in_order kept)) again (opened_same kept (in_order kept) (same_in_order kept)) (subst (λ k. SameAccount (account_at_opening k) again) is s)

pub moves : (kept read : Kept) (account again : Plain) → IsValid account → IsKeptAccount kept account → IsGood kept → AllByRecursion IsLine (account_lines kept) → IsDumpOf (dump_text kept) read
    → SameAccount (account_at_opening read) again → GoesOn account again × AnswerAlikeFrom account.moment account again
moves kept read account again valid k good formed h s =
    let g = goes_on kept account again valid k (read_opens kept read again good formed h s) in
    (g, alike_from account again valid g)

-- what is opened from what a keeper tells that was filled
pub refilled_alike : (told : Option Kept) (kept : Kept) (account other : Plain) → IsValid account → IfSome told (λ held. held ≡ kept) → IfSome told (λ held. SameAccount (account_at_opening held) account)
    → SameAccount (account_at_opening kept) other → IfSome told (λ held. SameAccount account other × AnswerAlike account other)
refilled_alike None kept account other valid is o s = tt
refilled_alike (Some held) kept account other valid is o s =
    let same : SameAccount account other =
    same-through account (account_at_opening held) other (same-back (account_at_opening held) account o) (subst (λ k. SameAccount (account_at_opening k) other) (sym is) s) in
    (same, answer_alike account other valid same)
