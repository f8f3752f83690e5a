-- The POSTs in which a plan is sent (SyncStorage API 1.5; how full they are is this project's).
use Rattle.std.specs.Prelude.{◌≡◌, ◌⊎◌, ◌<◌, ◌≤◌, ℕ, suc, List, Bool, true, false, ◌&&◌, nat_le, length, sum_by, take}
use Rattle.ss_bso.specs.declared.parts.Part.{Part}
use Rattle.ss_plan.specs.declared.limits.Limits.{Limits}
use Rattle.ss_plan.specs.Refusals.{payload_bytes}
use Rattle.ss_route.specs.Sending.{uploads_text}

-- parts that are within the limits of one POST: their number, their payload bytes, and the bytes of the body that is written
unfoldable pub fits : Limits → List Part → Bool
fits limits parts = nat_le (length parts) limits.max_post_records && (nat_le (sum_by payload_bytes parts) limits.max_post_bytes && nat_le (length (uploads_text parts)) limits.max_request_bytes)

-- a POST has the first n of the parts: the next one, and as many further ones as fit
pub record IsNext (limits : Limits) (parts : List Part) (n : ℕ) : Type 0 where
  pub some : 0 < n
  pub there : n ≤ length parts
  pub within : (n ≡ 1) ⊎ (fits limits (take n parts) ≡ true)
  pub full : n < length parts → fits limits (take (suc n) parts) ≡ false
