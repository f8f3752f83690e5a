use Rattle.std.proofs.Common.{◌≡◌, drop}
use Rattle.json.specs.Value.{members_view}
use Rattle.ss_hearing.specs.Posts.{are_failures}
use Rattle.ss_hearing.proofs.posts.are_failures.Given as goal

abbrev pub invariant-loop-member : goal.invariant-loop-member
invariant-loop-member l = are_failures (members_view l.members.items) ≡ are_failures (members_view (drop l.member-index l.members.items))
