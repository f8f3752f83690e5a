-- A step of an account over a keeper is one of an account with what its keeper tells.
use Rattle.std.specs.Prelude.{◌≡◌, ℕ, true, false, Option, Some, None, refl}
use Rattle.std.proofs.lemmas.Option.{same_Some}
use Rattle.ss_bso.specs.declared.account.Plain.{Plain}
use Rattle.ss_bso.specs.declared.changes.Kept.{Kept}
use Rattle.ss_bso.specs.Account.{tick}
use Rattle.ss_bso.specs.Validity.{IsValid, SameAccount}
use Rattle.ss_query.specs.declared.replies.Mark.{Mark}
use Rattle.ss_query.specs.declared.replies.Mark.TheVariants.{Done, Keeper, Memory}
use Rattle.ss_query.specs.declared.requests.Request.{Request}
use Rattle.ss_laws.specs.Journals.{marked_outcome}
use Rattle.ss_account.specs.Keeping.{IsHeldBy, is_for_keeper}
use Rattle.ss_promises.specs.Steps.{IsStep, IsStepBy, server}

-- what a step says, by its mark
step_by : (mark : Mark) (kept kept' : Kept) (before after : Plain) (now : ℕ) (request : Request) → SameAccount (marked_outcome before now request mark).account after → IsValid after
    → (mark ≡ Done → is_for_keeper (tick before now) request ≡ true → IsHeldBy (Some kept') after) → ((mark ≡ Done → ⊥) → Some kept' ≡ Some kept)
    → (is_for_keeper (tick before now) request ≡ false → Some kept' ≡ Some kept) → IsStep mark (server before kept) now request (server after kept')
step_by Done kept kept' before after now request same valid held refused unasked = record {
  account = same;
  valid = valid;
  kept = λ e. held refl e;
  left = λ e. same_Some kept' kept (unasked e);
}
step_by Keeper kept kept' before after now request same valid held refused unasked = record { account = same; valid = valid; left = same_Some kept' kept (refused (λ e. cc)) }
step_by Memory kept kept' before after now request same valid held refused unasked = record { account = same; valid = valid; left = same_Some kept' kept (refused (λ e. cc)) }

pub is_step : (mark : Mark) (told told' : Option Kept) (before after : Plain) (now : ℕ) (request : Request) → SameAccount (marked_outcome before now request mark).account after → IsValid after
    → (mark ≡ Done → is_for_keeper (tick before now) request ≡ true → IsHeldBy told' after) → ((mark ≡ Done → ⊥) → told' ≡ told)
    → (is_for_keeper (tick before now) request ≡ false → told' ≡ told) → IsStepBy mark told before now request told' after
is_step mark None told' before after now request same valid held refused unasked = tt
is_step mark (Some kept) None before after now request same valid held refused unasked = tt
is_step mark (Some kept) (Some kept') before after now request same valid held refused unasked = step_by mark kept kept' before after now request same valid held refused unasked
