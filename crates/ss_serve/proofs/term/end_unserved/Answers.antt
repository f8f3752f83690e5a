use Rattle.std.proofs.Common.{ap, subst, ◌∙◌, ◌≡◌, [], length, arith, map}
use Rattle.ss_town.specs.Town.{uids_of, desks_of, passes_of}
use Rattle.ss_booked.specs.Booked.{account_of, journal_of, terms_of}
use Rattle.ss_serve.specs.Crew.{count_reports, sign, starts}
use Rattle.ss_serve.specs.Terms.{AreServedAccounts}
use Rattle.ss_serve.proofs.Crews.{none_so}
use Rattle.ss_serve.proofs.Naming.{no_more}
use Rattle.ss_serve.proofs.Tying.{have_none, whole_left, served_with}
use Rattle.ss_serve.proofs.term.end_unserved.Goals as goal

pub finish-accounts-requires-clause-crew : goal.finish-accounts-requires-clause-crew
finish-accounts-requires-clause-crew g c = have_none g.L.Told.told g.L.Closable.closed g.C.Clock.coming (uids_of c.args.town) (desks_of c.args.town) (passes_of c.args.passes) c.new-crew.result.items c.new-crew.ensures.items

pub finish-accounts-requires-clause-whole : goal.finish-accounts-requires-clause-whole
finish-accounts-requires-clause-whole g c = let town = c.args.town in let ps = passes_of c.args.passes in
    let long : length (uids_of town) ≡ length ps = omega (arith, c.requires.of.0, town.alike, town.uids.ok.0, town.desks.ok.0) in
    whole_left 0 (length c.new-crew.result.items) (length (uids_of town)) ps ps c.requires.start long (ap length c.new-crew.ensures.items)

pub returns-clause-served : goal.returns-clause-served
returns-clause-served g c = λ manner. let f = c.finish-accounts in let coming = g.C.Clock.coming in
    let crew = c.new-crew.ensures.items in
    let none : f.result.2.items ≡ [] = no_more f.result.2.items (f.ensures.clocks ∙ ap length crew) in
    let empty = subst (λ cs. AreServedAccounts (λ b. terms_of g.K.Keeper.keep_faults b) (λ b. (journal_of b).entries) (λ b. g.K.Keeper.keep_faults (account_of b).keeper) manner g.L.Told.told g.L.Closable.closed f.result.0.items f.result.1.items [] (map coming cs)) none
    (subst (λ ws. AreServedAccounts (λ b. terms_of g.K.Keeper.keep_faults b) (λ b. (journal_of b).entries) (λ b. g.K.Keeper.keep_faults (account_of b).keeper) manner g.L.Told.told g.L.Closable.closed f.result.0.items f.result.1.items (starts (map (sign coming) ws)) (map coming f.result.2.items)) crew (f.ensures.served manner (none_so (λ w. w.manner ≡ manner) c.new-crew.result.items crew))) in
    served_with (λ b. terms_of g.K.Keeper.keep_faults b) (λ b. (journal_of b).entries) (λ b. g.K.Keeper.keep_faults (account_of b).keeper) manner g.L.Told.told g.L.Closable.closed f.result.0.items f.result.1.items [] [] (map coming c.args.clocks.items) empty

pub returns-clause-none : goal.returns-clause-none
returns-clause-none g c = let f = c.finish-accounts in no_more f.result.1.items (f.ensures.count ∙ ap count_reports c.new-crew.ensures.items)
