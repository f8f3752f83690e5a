use Rattle.std.specs.Prelude.{All}
use Rattle.ss_links.specs.Links.{IsUnusedLink, link_tells}
use Rattle.cases_threads.proofs.crowd.crowd.links.Given as goal

abbrev pub invariant-loop-number : goal.invariant-loop-number
invariant-loop-number l = All (λ link. IsUnusedLink (link_tells link)) l.links.items
