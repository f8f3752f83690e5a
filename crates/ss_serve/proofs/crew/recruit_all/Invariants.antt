use Rattle.std.proofs.Common.{◌≡◌, ◌+◌, ◌≤◌, ◌++◌, length, map, vec_len, All}
use Rattle.std.specs.Prelude.{vec_capacity, reverse}
use Rattle.crossbeam_channel.specs.Claims.{view, IsSeatAt}
use Rattle.crossbeam_channel.specs.Ends.{sends_on}
use Rattle.ss_desk.specs.Passes.{AreOf}
use Rattle.ss_town.specs.Town.{uids_of, desks_of, passes_of}
use Rattle.ss_serve.specs.Crew.{IsReady, AreWorkerSigns, AreHalvedPasses, count_reports, fixed_at, sign, starts}
use Rattle.ss_serve.proofs.crew.recruit_all.Given as goal

abbrev pub invariant-loop-clock : goal.invariant-loop-clock
invariant-loop-clock g l = record {
  of : AreOf (desks_of l.town) (passes_of l.passes);
  left : AreHalvedPasses (length l.jobs.items) (passes_of l.fn.passes) (passes_of l.passes);
  seat : IsSeatAt (sends_on l.sender) l.place;
  parts : (view l.place).parts + length l.jobs.items ≡ 32;
  idle : ((view l.place).put ≡ 0) × ((view l.place).taken ≡ 0);
  ready : All (λ w. IsReady g.L.Told.told g.L.Closable.closed g.C.Clock.coming (uids_of l.town) (desks_of l.town) (sends_on l.sender) w) l.jobs.items;
  signed : AreWorkerSigns l.connections (fixed_at (passes_of l.fn.passes)) l.manner (map (sign g.C.Clock.coming) l.jobs.items);
  none : count_reports l.jobs.items ≡ 0;
  begun : starts (map (sign g.C.Clock.coming) l.jobs.items) ++ map g.C.Clock.coming (reverse l.clocks.items) ≡ map g.C.Clock.coming l.fn.clocks.items;
  count : vec_len l.jobs + vec_len l.clocks ≡ vec_len l.fn.clocks;
  jobs_room : vec_len l.jobs + vec_len l.clocks ≤ vec_capacity l.jobs;
}

abbrev pub decreases-loop-clock : goal.decreases-loop-clock
decreases-loop-clock g l = length l.clocks.items
