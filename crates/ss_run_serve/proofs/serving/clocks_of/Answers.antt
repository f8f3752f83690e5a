use Rattle.std.specs.Prelude.{◌≡◌, ◌+◌, ◌∷◌, [], ◌++◌, ℕ, List, Option, map, replicate}
use Rattle.std.proofs.Common.{sym, ap, ◌∙◌, arith}
use Rattle.std.proofs.lemmas.List.{map-append, replicate_more}
use Rattle.ss_site.specs.Sites.{LentParts}
use Rattle.ss_run_serve.proofs.serving.clocks_of.Goals as goal

-- one clock more, which reads what the site told of all
one_more : {C : Type 0} (coming : C → Option (List ℕ)) (clocks new : List C) (clock : C) (n : ℕ) (readings : Option (List ℕ)) → new ≡ clocks ++ clock ∷ [] → map coming clocks ≡ replicate n readings → coming clock ≡ readings
    → map coming new ≡ replicate (n + 1) readings
one_more coming clocks new clock n readings pushed all is =
    ap (λ (cs : List _). map coming cs) pushed ∙ map-append coming clocks (clock ∷ []) ∙ ap (λ (rs : List (Option (List ℕ))). rs ++ coming clock ∷ []) all
    ∙ ap (λ (r : Option (List ℕ)). replicate n readings ++ r ∷ []) is ∙ replicate_more n readings

pub loop-worker-preserved : goal.loop-worker-preserved
loop-worker-preserved g c =
    let invariant = c.loop-worker.invariant in
    record {
      count = omega (arith, invariant.count, c.push_reserved.ensures.len);
      unread = one_more g.X.Clock.Clock.coming c.loop-worker.clocks.items c.push_reserved.new.self.items c.clock.result c.loop-worker._worker (g.X.Site.lent c.args.site.now).readings c.push_reserved.ensures.items invariant.unread
          (c.clock.ensures.unread ∙ ap (λ (l : LentParts). l.readings) invariant.lent);
      room = omega (arith, invariant.room, c.push_reserved.ensures.capacity);
      counts = c.clock.ensures.counts ∙ invariant.counts;
      terms = c.clock.ensures.terms ∙ invariant.terms;
      lent = c.clock.ensures.lent ∙ invariant.lent;
      kept = c.clock.ensures.kept ∙ invariant.kept;
      logs = c.clock.ensures.logs ∙ invariant.logs;
    }
