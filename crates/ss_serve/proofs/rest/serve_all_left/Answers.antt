use Rattle.std.proofs.Common.{sym, subst, ap, ◌∙◌, ◌≡◌, ◌≤◌, arith}
use Rattle.std.specs.Prelude.{vec_capacity}
use Rattle.ss_town.specs.Town.{uids_of, desks_of}
use Rattle.ss_serve.specs.Crew.{HasWorked, IsGatedWorker, Sign, sign}
use Rattle.ss_serve.proofs.Crews.{all_first, map_first}
use Rattle.ss_serve.proofs.Tying.{count_first, count_least}
use Rattle.ss_serve.proofs.rest.serve_all_left.Goals as goal

pub serve_rest-requires-clause-room : goal.serve_rest-requires-clause-room
serve_rest-requires-clause-room g c = let l = c.args.crew.now.items in let old = c.index_mut-worker.result.now in let is = c.index_mut-worker.ensures.value in
    let least = count_least l old is c.requires.some in
    let room : c.args.connections ≤ vec_capacity old.reports = subst (λ w. c.args.connections ≤ vec_capacity w.reports) (sym is) (c.requires.least 0 old c.requires.some) in
    omega (arith, least, room, c.requires.taken, c.requires.room, old.reports.ok.0)

pub serve_left-requires-clause-room : goal.serve_left-requires-clause-room
serve_left-requires-clause-room g c = let l = c.args.crew.now.items in let old = c.index_mut-worker.result.now in let is = c.index_mut-worker.ensures.value in
    let least = count_least l old is c.requires.some in
    let room : c.args.connections ≤ vec_capacity old.reports = subst (λ w. c.args.connections ≤ vec_capacity w.reports) (sym is) (c.requires.least 0 old c.requires.some) in
    let kept : vec_capacity c.serve_rest.new.worker.reports ≡ vec_capacity old.reports = ap (λ (s : Sign). s.room) c.serve_rest.ensures.sign in
    omega (arith, least, room, kept, c.requires.taken, c.requires.room, old.reports.ok.0, c.serve_rest.ensures.count)

pub returns-clause-worked : goal.returns-clause-worked
returns-clause-worked g c = let l = c.args.crew.now.items in let town = c.args.town.now in
    all_first (λ w. HasWorked g.L.Told.told g.L.Closable.closed g.C.Clock.coming (uids_of town) (desks_of town) w) l c.serve_left.new.worker c.requires.worked c.serve_left.ensures.worked

pub returns-clause-signs : goal.returns-clause-signs
returns-clause-signs g c = let l = c.args.crew.now.items in let old = c.index_mut-worker.result.now in
    map_first (sign g.C.Clock.coming) l old c.serve_left.new.worker c.index_mut-worker.ensures.value (c.serve_left.ensures.sign ∙ c.serve_rest.ensures.sign)

pub returns-clause-count : goal.returns-clause-count
returns-clause-count g c = let l = c.args.crew.now.items in let old = c.index_mut-worker.result.now in let is = c.index_mut-worker.ensures.value in let new = c.serve_left.new.worker in
    let first = count_first l old new is c.requires.some in
    omega (arith, first, c.requires.taken, c.serve_rest.ensures.count, c.serve_left.ensures.count, old.reports.ok.0, new.reports.ok.0, c.serve_rest.new.worker.reports.ok.0)

pub returns-clause-gated : goal.returns-clause-gated
returns-clause-gated g c = all_first (λ w. IsGatedWorker (g.G.Gate.says c.args.gate.now) w) c.args.crew.now.items c.serve_left.new.worker c.requires.gated c.serve_left.ensures.gated
