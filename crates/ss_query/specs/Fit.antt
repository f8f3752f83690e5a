-- What a request may carry.
use Rattle.std.specs.Prelude.{ℕ, ◌+◌, ◌≤◌, length, ⊤}
use Rattle.std.specs.Option.{ForSome}
use Rattle.ss_bso.specs.Limits.{part_bytes, most_ids}
pub use Rattle.ss_bso.specs.Limits.{most_post_records, most_post_bytes}
use Rattle.ss_query.specs.declared.requests.Request.{Request}
use Rattle.ss_query.specs.declared.requests.Request.TheVariants.{Post, List as ListOf, DeleteIds}

-- what a request may carry, as it is routed: a POST within its limits, and a list of not too many ids
abbrev pub IsFitRequest : Request → Type 0
IsFitRequest (Post collection records mode cond) = (length records.parts + length records.failed ≤ most_post_records) × (part_bytes records.parts ≤ most_post_bytes)
IsFitRequest (ListOf collection query cond) = ForSome query.ids (λ ids. length ids ≤ most_ids)
IsFitRequest (DeleteIds collection ids cond) = length ids ≤ most_ids
IsFitRequest _ = ⊤
