use Rattle.std.specs.Prelude.{All}
use Rattle.ss_links.specs.Links.{IsUnusedLink, link_tells}
use Rattle.cases_threads.proofs.terms.terms.links.Given as goal

abbrev pub invariant-loop-planned : goal.invariant-loop-planned
invariant-loop-planned l = All (λ link. IsUnusedLink (link_tells link)) l.links.items
