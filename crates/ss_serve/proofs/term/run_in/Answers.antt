use Rattle.std.proofs.Common.{rules, refl, sym, subst, ap, ◌∙◌, ◌≡◌, ◌++◌, [], map, length, arith, List, Option, ℕ}
use Rattle.ss_desk.proofs.Lists.{append_nil}
use Rattle.ss_town.specs.Town.{uids_of, desks_of, passes_of}
use Rattle.ss_booked.specs.Booked.{account_of, journal_of, terms_of}
use Rattle.ss_serve.specs.Crew.{Sign, AreWorkerSigns, fixed_at, sign, starts}
use Rattle.ss_serve.specs.Reports.{AreAllGated}
use Rattle.ss_serve.specs.Terms.{AreServedAccounts}
use Rattle.ss_serve.proofs.Crews.{all_same, least_of, one_manner, same_long}
use Rattle.ss_serve.proofs.Gating.{all_gated, none_gated, nothing_gated}
use Rattle.ss_serve.proofs.Tying.{by_place, have_left, handed_from, whole_left}
use Rattle.ss_serve.proofs.term.run_in.Goals as goal

pub end_early-requires-clause-crew : goal.end_early-requires-clause-crew
end_early-requires-clause-crew g c = let e = c.recruit_all.ensures in let town = c.args.town in let opened = passes_of c.args.passes in let jobs = c.recruit_all.new.jobs.items in
    have_left g.L.Told.told g.L.Closable.closed g.C.Clock.coming (uids_of town) (desks_of town) (length jobs) opened (passes_of c.recruit_all.new.passes) jobs e.left
    (by_place g.L.Told.told g.L.Closable.closed g.C.Clock.coming (uids_of town) (desks_of town) opened c.args.connections c.args.manner jobs (λ k d lt. (e.ready k d lt).worked) e.signed)

pub end_early-requires-clause-whole : goal.end_early-requires-clause-whole
end_early-requires-clause-whole g c = let e = c.recruit_all.ensures in let town = c.args.town in let ps = passes_of c.recruit_all.new.passes in let n = length c.recruit_all.new.jobs.items in
    let long : length (uids_of town) ≡ length ps = omega (arith, e.of.0, town.alike, town.uids.ok.0, town.desks.ok.0) in
    whole_left n n (length (uids_of town)) (passes_of c.args.passes) ps e.left long refl

pub returns-then-not-recruit_all-clause-handed : goal.returns-then-not-recruit_all-clause-handed
returns-then-not-recruit_all-clause-handed g c =
    handed_from (λ b. terms_of g.K.Keeper.keep_faults b) (length c.recruit_all.new.jobs.items) (uids_of c.args.town) (passes_of c.args.passes) (passes_of c.recruit_all.new.passes) c.end_early.result.accounts.items c.recruit_all.ensures.left c.end_early.ensures.handed

pub returns-then-not-recruit_all-clause-served : goal.returns-then-not-recruit_all-clause-served
returns-then-not-recruit_all-clause-served g c = let r = c.end_early.result in let e = c.recruit_all.ensures in
    let one = one_manner c.args.connections (fixed_at (passes_of c.args.passes)) c.args.manner (sign g.C.Clock.coming) c.recruit_all.new.jobs.items e.signed in
    subst (λ (cs : List (Option (List ℕ))). AreServedAccounts (λ b. terms_of g.K.Keeper.keep_faults b) (λ b. (journal_of b).entries) (λ b. g.K.Keeper.keep_faults (account_of b).keeper) c.args.manner g.L.Told.told g.L.Closable.closed r.accounts.items r.links.items cs (map g.C.Clock.coming r.clocks.items)) e.starts (c.end_early.ensures.served c.args.manner one)

pub serve_links-crew-requires-clause-least : goal.serve_links-crew-requires-clause-least
serve_links-crew-requires-clause-least g c κs within = least_of c.args.connections (fixed_at (passes_of c.args.passes)) c.args.manner (sign g.C.Clock.coming) c.recruit_all.new.jobs.items c.recruit_all.ensures.signed

pub end_served-requires-clause-crew : goal.end_served-requires-clause-crew
end_served-requires-clause-crew g c = let e = c.recruit_all.ensures in let town = c.args.town in let opened = passes_of c.args.passes in let jobs = c.recruit_all.new.jobs.items in let l = c.serve_links-crew in
    have_left g.L.Told.told g.L.Closable.closed g.C.Clock.coming (uids_of town) (desks_of town) (length jobs) opened (passes_of c.recruit_all.new.passes) l.result.0.items e.left
    (by_place g.L.Told.told g.L.Closable.closed g.C.Clock.coming (uids_of town) (desks_of town) opened c.args.connections c.args.manner l.result.0.items l.ensures.worked
    (subst (λ (s : List Sign). AreWorkerSigns c.args.connections (fixed_at opened) c.args.manner s) (sym l.ensures.signs) e.signed))

pub end_served-requires-clause-one : goal.end_served-requires-clause-one
end_served-requires-clause-one g c = let jobs = c.recruit_all.new.jobs.items in let l = c.serve_links-crew in let coming = g.C.Clock.coming in (
  c.args.manner,
  all_same (sign coming) (λ (s : Sign). s.manner ≡ c.args.manner) l.result.0.items jobs l.ensures.signs
      (one_manner c.args.connections (fixed_at (passes_of c.args.passes)) c.args.manner (sign coming) jobs c.recruit_all.ensures.signed),
)

pub end_served-requires-clause-whole : goal.end_served-requires-clause-whole
end_served-requires-clause-whole g c = let e = c.recruit_all.ensures in let town = c.args.town in let ps = passes_of c.recruit_all.new.passes in let jobs = c.recruit_all.new.jobs.items in let l = c.serve_links-crew in
    let long : length (uids_of town) ≡ length ps = omega (arith, e.of.0, town.alike, town.uids.ok.0, town.desks.ok.0) in
    whole_left (length jobs) (length l.result.0.items) (length (uids_of town)) (passes_of c.args.passes) ps e.left long (same_long (sign g.C.Clock.coming) l.result.0.items jobs l.ensures.signs)

pub end_served-requires-clause-few : goal.end_served-requires-clause-few
end_served-requires-clause-few g c = let e = c.recruit_all.ensures in let l = c.serve_links-crew in
    let same = same_long (sign g.C.Clock.coming) l.result.0.items c.recruit_all.new.jobs.items l.ensures.signs in
    omega (arith, same, e.count, c.requires.clocks.1, c.recruit_all.new.jobs.ok.0)

pub end_served-requires-clause-clocks : goal.end_served-requires-clause-clocks
end_served-requires-clause-clocks g c = let e = c.recruit_all.ensures in let l = c.serve_links-crew in
    let same = same_long (sign g.C.Clock.coming) l.result.0.items c.recruit_all.new.jobs.items l.ensures.signs in
    omega (arith, same, e.count, c.requires.served.1, c.recruit_all.new.jobs.ok.0, l.result.0.ok.0)

pub returns-clause-handed : goal.returns-clause-handed
returns-clause-handed g c =
    handed_from (λ b. terms_of g.K.Keeper.keep_faults b) (length c.recruit_all.new.jobs.items) (uids_of c.args.town) (passes_of c.args.passes) (passes_of c.recruit_all.new.passes) c.end_served.result.accounts.items c.recruit_all.ensures.left c.end_served.ensures.handed

pub returns-clause-served : goal.returns-clause-served
returns-clause-served g c = let e = c.recruit_all.ensures in let r = c.end_served.result in let coming = g.C.Clock.coming in let signs = map (sign coming) c.recruit_all.new.jobs.items in
    let none : c.recruit_all.new.clocks.items ≡ [] = e.all (search (c.if-not-recruit_all.false, rules)) in
    let one = all_same (sign coming) (λ (s : Sign). s.manner ≡ c.args.manner) c.serve_links-crew.result.0.items c.recruit_all.new.jobs.items c.serve_links-crew.ensures.signs
    (one_manner c.args.connections (fixed_at (passes_of c.args.passes)) c.args.manner (sign coming) c.recruit_all.new.jobs.items e.signed) in
    let all : starts (map (sign coming) c.serve_links-crew.result.0.items) ≡ map coming c.args.clocks.items =
    ap starts c.serve_links-crew.ensures.signs ∙ (sym (append_nil (starts signs)) ∙ (ap (λ cs. starts signs ++ map coming cs) (sym none) ∙ e.starts)) in
    subst (λ (cs : List (Option (List ℕ))). AreServedAccounts (λ b. terms_of g.K.Keeper.keep_faults b) (λ b. (journal_of b).entries) (λ b. g.K.Keeper.keep_faults (account_of b).keeper) c.args.manner g.L.Told.told g.L.Closable.closed r.accounts.items r.links.items cs (map coming r.clocks.items)) all (c.end_served.ensures.served c.args.manner one)

pub serve_links-crew-requires-clause-gated : goal.serve_links-crew-requires-clause-gated
serve_links-crew-requires-clause-gated g c κs within = none_gated (g.G.Gate.says c.args.gate.now) c.recruit_all.new.jobs.items c.recruit_all.ensures.none

pub returns-then-not-recruit_all-clause-gated : goal.returns-then-not-recruit_all-clause-gated
returns-then-not-recruit_all-clause-gated g c = nothing_gated (g.G.Gate.says c.args.gate.now) c.end_early.result.links.items c.end_early.ensures.none

pub returns-clause-gated : goal.returns-clause-gated
returns-clause-gated g c = let says = g.G.Gate.says c.args.gate.now in
    subst (λ rs. AreAllGated says rs) (sym c.end_served.ensures.reports) (all_gated says c.serve_links-crew.result.0.items c.serve_links-crew.ensures.gated)
