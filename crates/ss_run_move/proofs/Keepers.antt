-- The dump of what a keeper holds.
use Rattle.std.specs.Prelude.{◌≡◌, List, ℕ, Option, Some, None, Result, Ok, Err, IfOk, IfSome}
use Rattle.std.proofs.Common.{◌∙◌}
use Rattle.ss_bso.specs.declared.account.Plain.{Plain}
use Rattle.ss_bso.specs.declared.changes.Kept.{Kept}
use Rattle.ss_bso.specs.Changes.{kept_of, account_at_opening}
use Rattle.ss_bso.specs.Validity.{IsValid, SameAccount}
use Rattle.ss_account.specs.Opening.{IsGood}
use Rattle.ss_dump.specs.Dumps.{dump_text}
use Rattle.ss_run_move.specs.declared.endings.Ending.{Ending}
use Rattle.ss_run_move.specs.Moves.{IsDumpFrom}
use Rattle.ss_run_move.proofs.SameDump.{opened_dump}

module _ {T : Type 0} (items : T → List ℕ) where
  pub dump_from : (told : Option Kept) (account copied : Plain) (r : Result T Ending) → IfSome told (λ kept. SameAccount (account_at_opening kept) account) → IfSome told IsGood → IsValid account
      → SameAccount account copied → IfOk r (λ text. items text ≡ dump_text (kept_of copied)) → IfOk r (λ text. IfSome told (λ kept. IsDumpFrom kept (items text)))
  dump_from told account copied (Err ending) opens good valid same is = is
  dump_from None account copied (Ok text) opens good valid same is = opens
  dump_from (Some kept) account copied (Ok text) opens good valid same is = record { good = good; text_is = is ∙ opened_dump kept account copied opens valid same }
