use Rattle.std.proofs.Common.{◌≡◌, ◌+◌, ◌≤◌, length, vec_len}
use Rattle.std.specs.Prelude.{vec_capacity, reverse}
use Rattle.ss_desk.specs.Passes.{AreOf}
use Rattle.ss_town.specs.Town.{uids_of, desks_of, passes_of}
use Rattle.ss_serve.specs.Crew.{count_reports}
use Rattle.ss_serve.specs.Gathering.{IsGathering}
use Rattle.ss_serve.proofs.ending.gather.Given as goal

abbrev pub invariant-loop-worker : goal.invariant-loop-worker
invariant-loop-worker g l = record {
  of : AreOf (desks_of l.town) (passes_of l.passes);
  gathered : IsGathering (length (uids_of l.town)) (passes_of l.fn.passes) l.fn.crew.items l.crew.items (passes_of l.passes) l.reports.items (reverse l.clocks.items);
  room : vec_len l.reports + count_reports l.crew.items ≤ vec_capacity l.reports;
  clocks : vec_len l.clocks + vec_len l.crew ≤ vec_capacity l.clocks;
  kept : vec_capacity l.clocks ≡ vec_capacity l.fn.clocks;
}

abbrev pub decreases-loop-worker : goal.decreases-loop-worker
decreases-loop-worker g l = length l.crew.items
