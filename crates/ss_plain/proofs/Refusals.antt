-- The first refusal, by whether a request is stopped before it is looked at as a write.
use Rattle.std.specs.Prelude.{◌≡◌, Bool, true, false, ◌&&◌, ◌||◌, cond, nat_le, [], ◌∷◌, Option, Some, None, is_some}
use Rattle.std.specs.Prelude.{refl}
use Rattle.std.proofs.Common.{◌∙◌}
use Rattle.ss_text.specs.Time.{last_stamp}
use Rattle.ss_bso.specs.declared.account.Plain.{Plain}
use Rattle.ss_query.specs.declared.requests.Request.{Request}
use Rattle.ss_query.specs.Refused.{Refusal, NoItem, NoMoreBatches, NoBatch, BatchFull, ClockEnded, AccountFull}
use Rattle.ss_query.specs.Effect.{effect, is_over, is_write}
use Rattle.ss_query.specs.Api.{misses_item, condition_cause, lacks_room, misses_batch, overfills_batch, first_some}
use Rattle.ss_query.specs.Api.{where_so, outcome, refusal}
use Rattle.ss_plain.specs.Steps.{is_stopped, within}

-- the account after a request with these causes
module _ (account : Plain) (request : Request) where
  abbrev left : Bool → Option Refusal → Bool → Bool → Bool → Bool → Bool → Plain
  left item condition room missing full clock over = (outcome account request (first_some (
      where_so item NoItem
      ∷ condition
      ∷ where_so room NoMoreBatches
      ∷ where_so missing NoBatch
      ∷ where_so full BatchFull
      ∷ where_so clock ClockEnded
      ∷ where_so over AccountFull
      ∷ []))).account

  late : (item : Bool) (condition : Option Refusal) (room missing full clock over : Bool) → (item || is_some condition || room || missing || full) ≡ false
      → left item condition room missing full clock over ≡ cond clock account (cond over account (effect account request))
  late true condition room missing full clock over e = cc
  late false (Some why) room missing full clock over e = cc
  late false None true missing full clock over e = cc
  late false None false true full clock over e = cc
  late false None false false true clock over e = cc
  late false None false false false true over e = refl
  late false None false false false false true e = refl
  late false None false false false false false e = refl

  passed : is_stopped account request ≡ false → (outcome account request (refusal account request)).account
      ≡ cond (is_write account request && nat_le last_stamp account.store) account (cond (is_write account request && is_over (effect account request)) account (effect account request))
  passed e =
      late (misses_item account request) (condition_cause account request) (lacks_room account request) (misses_batch account request) (overfills_batch account request)
      (is_write account request && nat_le last_stamp account.store) (is_write account request && is_over (effect account request)) e

  pub write-left : is_stopped account request ≡ false → is_write account request ≡ true
      → (outcome account request (refusal account request)).account ≡ cond (nat_le last_stamp account.store) account (within account (effect account request))
  write-left e write =
      passed e
      ∙ (λ i. cond (write i && nat_le last_stamp account.store) account (cond (write i && is_over (effect account request)) account (effect account request)))
