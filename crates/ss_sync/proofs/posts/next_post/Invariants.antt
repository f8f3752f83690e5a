use Rattle.std.proofs.Common.{◌≡◌, ◌⊎◌, ◌+◌, ◌*◌, ◌≤◌, true, take}
use Rattle.ss_sync.specs.Posts.{fits}
use Rattle.ss_sync.proofs.Sizes.{Counts}
use Rattle.ss_sync.proofs.posts.next_post.Given as goal

abbrev pub invariant-loop-count : goal.invariant-loop-count
invariant-loop-count l = record {
  counts : Counts l.parts l.count l.payloads l.body;
  within : (l.count ≤ 1) ⊎ (fits l.limits (take l.count l.parts) ≡ true);
  few : l.payloads ≤ l.count * 18446744073709551615;
  short : l.body ≤ 1 + l.count * 18446744073709551616;
}
