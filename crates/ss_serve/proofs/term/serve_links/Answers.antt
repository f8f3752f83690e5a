use Rattle.std.proofs.Common.{sym, subst, ap, ◌∙◌, ◌≤◌, All, arith}
use Rattle.ss_town.specs.Town.{uids_of, desks_of}
use Rattle.ss_serve.specs.Crew.{IsReady, Sign, sign}
use Rattle.ss_serve.specs.Reports.{AreAllGated}
use Rattle.ss_serve.proofs.Crews.{all_same, same_long}
use Rattle.ss_serve.proofs.term.serve_links.Goals as goal

pub run-crew-requires-clause-jobs : goal.run-crew-requires-clause-jobs
run-crew-requires-clause-jobs g c κs within = let town = c.args.town.now in
    subst (λ ring. All (λ w. IsReady g.L.Told.told g.L.Closable.closed g.C.Clock.coming (uids_of town) (desks_of town) ring w) c.args.crew.jobs.items) (sym c.requires.channel) c.requires.jobs

pub lay_all_down-crew-requires-clause-ready : goal.lay_all_down-crew-requires-clause-ready
lay_all_down-crew-requires-clause-ready g c = let town = c.args.town.now in
    subst (λ ring. All (λ w. IsReady g.L.Told.told g.L.Closable.closed g.C.Clock.coming (uids_of town) (desks_of town) ring w) c.run-crew.result.0.items) c.requires.channel c.run-crew.ensures.all

pub serve_all_left-requires-clause-whole : goal.serve_all_left-requires-clause-whole
serve_all_left-requires-clause-whole g c = let r = c.run-crew in
    let long = same_long (sign g.C.Clock.coming) r.result.0.items c.args.crew.jobs.items r.ensures.signs in
    omega (arith, ap (λ v. v.parts) c.lay_all_down-crew.ensures.view, r.ensures.parts, c.requires.parts, long)

pub serve_all_left-requires-clause-some : goal.serve_all_left-requires-clause-some
serve_all_left-requires-clause-some g c = let r = c.run-crew in let d = c.lay_all_down-crew in
    let long = same_long (sign g.C.Clock.coming) d.result.items c.args.crew.jobs.items (d.ensures.signs ∙ r.ensures.signs) in
    omega (arith, long, c.requires.some.0)

pub serve_all_left-requires-clause-least : goal.serve_all_left-requires-clause-least
serve_all_left-requires-clause-least g c = let r = c.run-crew in let d = c.lay_all_down-crew in
    all_same (sign g.C.Clock.coming) (λ (s : Sign). c.args.connections ≤ s.room) d.result.items c.args.crew.jobs.items (d.ensures.signs ∙ r.ensures.signs) c.requires.least

pub serve_all_left-requires-clause-gated : goal.serve_all_left-requires-clause-gated
serve_all_left-requires-clause-gated g c = let r = c.run-crew in let d = c.lay_all_down-crew in let says = g.G.Gate.says c.args.gate.now in
    all_same (λ w. w.reports) (λ v. AreAllGated says v.items) d.result.items r.result.0.items d.ensures.reports r.ensures.gated
