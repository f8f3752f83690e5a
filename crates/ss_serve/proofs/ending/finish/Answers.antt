use Rattle.std.proofs.Common.{sym, ap, subst, ◌∙◌, ◌≡◌, length, arith, reverse, map}
use Rattle.ss_town.specs.Town.{uids_of, desks_of, passes_of}
use Rattle.ss_booked.specs.Booked.{account_of, journal_of, terms_of}
use Rattle.ss_serve.specs.Crew.{sign, starts}
use Rattle.ss_serve.specs.Gathering.{reports_in}
use Rattle.ss_serve.specs.Terms.{AreServedAccounts}
use Rattle.ss_serve.proofs.Closings.{served, are_handed, clock_count}
use Rattle.ss_serve.proofs.Gatherings.{covers_all, count_gathered}
use Rattle.ss_serve.proofs.ending.finish.Goals as goal

pub close-requires-clause-all : goal.close-requires-clause-all
close-requires-clause-all g c = let town = c.args.town in λ i lt.
    covers_all (length (uids_of town)) (passes_of c.args.passes) (passes_of c.gather.new.passes) c.args.crew.items c.gather.new.reports.items (reverse c.gather.new.clocks.items) c.gather.ensures.gathered i (omega (arith, town.alike, town.uids.ok.0, town.desks.ok.0))

pub returns-clause-count : goal.returns-clause-count
returns-clause-count g c = let town = c.args.town in
    count_gathered (length (uids_of town)) (passes_of c.args.passes) (passes_of c.gather.new.passes) c.args.crew.items c.gather.new.reports.items (reverse c.gather.new.clocks.items) c.gather.ensures.gathered

pub returns-clause-handed : goal.returns-clause-handed
returns-clause-handed g c = let town = c.args.town in let tells = g.L.Told.told in let closed = g.L.Closable.closed in let coming = g.C.Clock.coming in
    let q : length (desks_of town) ≡ length (uids_of town) = omega (arith, town.alike, town.uids.ok.0, town.desks.ok.0) in
    are_handed (λ b. terms_of g.K.Keeper.keep_faults b) (λ b. (journal_of b).entries) (λ b. g.K.Keeper.keep_faults (account_of b).keeper) tells closed coming (uids_of town) (desks_of town)
    (passes_of c.args.passes) (passes_of c.gather.new.passes) c.args.crew.items c.gather.new.reports.items (reverse c.gather.new.clocks.items) c.close.result.items
    c.gather.ensures.gathered (c.requires.of.0 ∙ q) c.requires.few q c.requires.crew c.close.ensures.handed c.close.ensures.sorted

pub returns-clause-served : goal.returns-clause-served
returns-clause-served g c = λ manner one. let town = c.args.town in let tells = g.L.Told.told in let closed = g.L.Closable.closed in let coming = g.C.Clock.coming in
    let q : length (desks_of town) ≡ length (uids_of town) = omega (arith, town.alike, town.uids.ok.0, town.desks.ok.0) in
    subst (λ cs. AreServedAccounts (λ b. terms_of g.K.Keeper.keep_faults b) (λ b. (journal_of b).entries) (λ b. g.K.Keeper.keep_faults (account_of b).keeper) manner tells closed c.close.result.items c.gather.new.reports.items (starts (map (sign coming) c.args.crew.items)) (map coming cs)) (sym c.reverse.ensures.items)
    (served (λ b. terms_of g.K.Keeper.keep_faults b) (λ b. (journal_of b).entries) (λ b. g.K.Keeper.keep_faults (account_of b).keeper) tells closed coming (uids_of town) (desks_of town)
    (passes_of c.args.passes) (passes_of c.gather.new.passes) c.args.crew.items c.gather.new.reports.items (reverse c.gather.new.clocks.items) c.close.result.items
    c.gather.ensures.gathered (c.requires.of.0 ∙ q) c.requires.few q c.requires.crew c.close.ensures.handed manner one (λ i uid b at. b.rose))

pub returns-clause-clocks : goal.returns-clause-clocks
returns-clause-clocks g c = let town = c.args.town in let tells = g.L.Told.told in let closed = g.L.Closable.closed in let coming = g.C.Clock.coming in
    let q : length (desks_of town) ≡ length (uids_of town) = omega (arith, town.alike, town.uids.ok.0, town.desks.ok.0) in
    ap length c.reverse.ensures.items ∙ clock_count (λ b. terms_of g.K.Keeper.keep_faults b) (λ b. (journal_of b).entries) (λ b. g.K.Keeper.keep_faults (account_of b).keeper) tells closed coming (uids_of town) (desks_of town)
    (passes_of c.args.passes) (passes_of c.gather.new.passes) c.args.crew.items c.gather.new.reports.items (reverse c.gather.new.clocks.items) c.close.result.items
    c.gather.ensures.gathered (c.requires.of.0 ∙ q) c.requires.few q c.requires.crew c.close.ensures.handed

pub returns-clause-reports : goal.returns-clause-reports
returns-clause-reports g c = let h = c.gather.ensures.gathered in h.reported ∙ ap reports_in (sym h.split)
