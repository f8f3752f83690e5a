use Rattle.std.proofs.Common.{◌≡◌, ◌+◌, take}
use Rattle.ss_bso.specs.Limits.{part_bytes}
use Rattle.ss_query.specs.Fit.{most_post_bytes}
use Rattle.ss_query.proofs.fit.are_within_post.Given as goal

abbrev pub invariant-loop-part : goal.invariant-loop-part
invariant-loop-part l = l.room + part_bytes (take l.part-index l.parts) ≡ most_post_bytes
