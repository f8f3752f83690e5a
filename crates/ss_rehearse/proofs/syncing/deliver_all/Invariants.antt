use Rattle.ss_rehearse.specs.Syncing.{IsAsking, requests_left}
use Rattle.ss_rehearse.proofs.syncing.deliver_all.Given as goal

abbrev pub invariant-loop-is_post : goal.invariant-loop-is_post
invariant-loop-is_post l = IsAsking l.device l.fn.now l.initial.world l.posts l.world l.next

abbrev pub decreases-loop-is_post : goal.decreases-loop-is_post
decreases-loop-is_post l = requests_left l.device l.world
