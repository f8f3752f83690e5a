use Rattle.std.proofs.Common.{subst, sym, ap, ◌∙◌, ◌≡◌, ◌+◌, All, length, arith}
use Rattle.crossbeam_channel.specs.Claims.{view}
use Rattle.crossbeam_channel.specs.Ends.{sends_on}
use Rattle.ss_serve.specs.Tallies.{tally}
use Rattle.ss_desk.proofs.Beside.{last_long}
use Rattle.ss_town.specs.Town.{uids_of, desks_of}
use Rattle.ss_serve.specs.Crew.{IsReady, HasWorked, count_reports}
use Rattle.ss_serve.proofs.Crews.{all_end, all_last}
use Rattle.ss_serve.proofs.Gatherings.{count_end}
use Rattle.ss_serve.proofs.crew.+lay_all_down.Goals as goal

pub lay_down-requires-clause-ready : goal.lay_down-requires-clause-ready
lay_down-requires-clause-ready g t c = let town = c.args.town.now in
    all_last (λ w. IsReady g.L.Told.told g.L.Closable.closed g.C.Clock.coming (uids_of town) (desks_of town) (sends_on c.args.sender.now) w) c.pop.new.self.items c.in-Some.worker
    (subst (λ ws. All (λ w. IsReady g.L.Told.told g.L.Closable.closed g.C.Clock.coming (uids_of town) (desks_of town) (sends_on c.args.sender.now) w) ws) c.in-Some.ensures.items c.requires.ready)

pub returns-clause-view : goal.returns-clause-view
returns-clause-view g t c = let rest = c.pop.new.self.items in let w = c.in-Some.worker in let p = view c.args.place.now in
    let items = c.in-Some.ensures.items in
    let n = count_reports rest in
    let more : length c.args.crew.items ≡ length rest + 1 = ap length items ∙ last_long rest w in
    let e = ap count_reports items ∙ count_end rest w in
    let parts : (p.parts + length rest) + 1 ≡ p.parts + length c.args.crew.items = omega (arith, more) in
    let taken : (p.taken + n) + length w.reports.items ≡ p.taken + count_reports c.args.crew.items = omega (arith, e) in
    c.lay_down.ensures.view ∙ (ap (λ v. tally (v.parts + 1) v.put (v.taken + length w.reports.items)) c.lay_all_down-earlier.ensures.view ∙ (λ i. tally (parts i) p.put (taken i)))

pub returns-clause-worked : goal.returns-clause-worked
returns-clause-worked g t c = let town = c.args.town.now in
    subst (λ ws. All (λ w. HasWorked g.L.Told.told g.L.Closable.closed g.C.Clock.coming (uids_of town) (desks_of town) w) ws) (sym c.push_reserved.ensures.items)
    (all_end (λ w. HasWorked g.L.Told.told g.L.Closable.closed g.C.Clock.coming (uids_of town) (desks_of town) w) c.lay_all_down-earlier.result.items c.lay_down.new.worker c.lay_all_down-earlier.ensures.worked c.lay_down.ensures.worked)

pub returns-clause-count : goal.returns-clause-count
returns-clause-count g t c = let rest = c.pop.new.self.items in let w = c.in-Some.worker in let x = c.lay_down.new.worker in let before = c.lay_all_down-earlier.result.items in
    let a = ap count_reports c.in-Some.ensures.items ∙ count_end rest w in
    let b = ap count_reports c.push_reserved.ensures.items ∙ count_end before x in
    omega (arith, a, b, c.lay_all_down-earlier.ensures.count, ap (λ v. length v.items) c.lay_down.ensures.reports)
