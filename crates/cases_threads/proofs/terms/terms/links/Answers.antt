use Rattle.std.specs.Prelude.{List, [], ◌∷◌, ◌++◌, ◌≡◌, All}
use Rattle.std.proofs.Common.{subst, sym}
use Rattle.std.proofs.lemmas.List.Elements.{All-push}
use Rattle.ss_links.specs.Links.{IsUnusedLink, link_tells}
use Rattle.cases_threads.proofs.terms.terms.links.Goals as goal

one_more : {L : Type 0} (P : L → Type 0) (before after : List L) (link : L) → after ≡ before ++ link ∷ [] → All P before → P link → All P after
one_more {L} P before after link is all this = subst (λ (links : List L). All P links) (sym is) (All-push P before link all this)

pub loop-planned-preserved : goal.loop-planned-preserved
loop-planned-preserved c =
    one_more (λ link. IsUnusedLink (link_tells link)) c.loop-planned.links.items c.push.new.self.items c.in_ok-link.field-0 c.in_ok-push.ensures.items c.loop-planned.invariant c.in_ok-link.ensures
