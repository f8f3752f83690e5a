-- The limits of a server, by the members of its configuration (SyncStorage API 1.5).
use Rattle.std.specs.Prelude.{ℕ, min, List, Option, Some, option_map, option_and_then, codes}
use Rattle.json.specs.Json.{Json}
use Rattle.ss_text.specs.Numbers.{number_of}
use Rattle.ss_bso.specs.Limits.{most_record_payload_bytes, most_post_records, most_post_bytes, most_batch_records}
use Rattle.ss_bso.specs.Limits.{most_batch_bytes}
use Rattle.ss_http.specs.Limits.{most_body_bytes}
use Rattle.ss_plan.specs.declared.limits.Limits.{Limits}
use Rattle.ss_hearing.specs.Bodies.{number_in, ◌>>=◌}

-- the limit that a member says, a whole number of at most 18 digits; or ours, where that is less
unfoldable pub limit_in : List ℕ → ℕ → Json → Option ℕ
limit_in name ours d = option_map (λ limit. min limit ours) (option_and_then (number_of 18) (number_in name d))

-- the limits that all six members say
unfoldable pub limits_of : Json → Option Limits
limits_of d = do
  request_bytes ← limit_in (codes "max_request_bytes") most_body_bytes d
  post_records ← limit_in (codes "max_post_records") most_post_records d
  post_bytes ← limit_in (codes "max_post_bytes") most_post_bytes d
  total_records ← limit_in (codes "max_total_records") most_batch_records d
  total_bytes ← limit_in (codes "max_total_bytes") most_batch_bytes d
  payload_bytes ← limit_in (codes "max_record_payload_bytes") most_record_payload_bytes d
  Some (record {
    max_request_bytes = request_bytes;
    max_post_records = post_records;
    max_post_bytes = post_bytes;
    max_total_records = total_records;
    max_total_bytes = total_bytes;
    max_record_payload_bytes = payload_bytes;
  })
