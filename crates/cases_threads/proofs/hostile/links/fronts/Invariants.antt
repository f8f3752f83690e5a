use Rattle.std.specs.Prelude.{All}
use Rattle.ss_links.specs.Links.{IsUnusedLink, link_tells}
use Rattle.cases_threads.proofs.hostile.links.fronts.Given as goal

abbrev pub invariant-loop-end : goal.invariant-loop-end
invariant-loop-end l = All (λ link. IsUnusedLink (link_tells link)) l.links.items
