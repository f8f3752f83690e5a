use Rattle.std.proofs.Common.{◌≡◌, ◌≤◌, ◌+◌, vec_len, All}
use Rattle.std.specs.Prelude.{vec_capacity}
use Rattle.crossbeam_channel.specs.Claims.{view, IsSeatAt}
use Rattle.crossbeam_channel.specs.Ends.{sends_on}
use Rattle.ss_links.specs.Counts.{RoseBy}
use Rattle.ss_links.specs.Links.{IsUnusedLink}
use Rattle.ss_serve.proofs.accept.accept_links.Given as goal

abbrev pub invariant-loop : goal.invariant-loop
invariant-loop g l = record {
  seat : IsSeatAt (sends_on l.sender) l.place;
  parts : (view l.place).parts ≡ (view l.fn.place).parts;
  taken : (view l.place).taken ≡ (view l.fn.place).taken;
  more : (view l.place).put + vec_len l.left ≡ (view l.fn.place).put + vec_len l.fn.left + l.counter;
  rose : RoseBy l.counter (g.P.Port.counts l.fn.port).links (g.P.Port.counts l.port).links;
  ends : (g.P.Port.counts l.port).ends ≡ (g.P.Port.counts l.fn.port).ends;
  rests : (g.P.Port.counts l.port).rests ≡ (g.P.Port.counts l.fn.port).rests;
  faults : (g.P.Port.counts l.port).faults ≡ (g.P.Port.counts l.fn.port).faults;
  left : All (λ x. IsUnusedLink (g.L.Told.told x)) l.left.items;
  size : vec_len l.left ≤ vec_len l.fn.left + l.counter;
  room : vec_capacity l.left ≡ vec_capacity l.fn.left;
}
