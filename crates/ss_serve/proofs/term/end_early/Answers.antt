use Rattle.std.proofs.Common.{sym, ap, subst, ◌∙◌, ◌≡◌, ◌++◌, map, List, Option, ℕ}
use Rattle.std.proofs.lemmas.List.{map-append}
use Rattle.ss_booked.specs.Booked.{account_of, journal_of, terms_of}
use Rattle.ss_serve.specs.Crew.{sign, starts}
use Rattle.ss_serve.specs.Terms.{AreServedAccounts}
use Rattle.ss_serve.proofs.Tying.{served_with}
use Rattle.ss_serve.proofs.term.end_early.Goals as goal

pub returns-clause-served : goal.returns-clause-served
returns-clause-served g c = λ manner one. let f = c.finish-accounts in let coming = g.C.Clock.coming in
    let e : map coming c.move_all.new.into.items ≡ map coming f.result.2.items ++ map coming c.args.others.items = ap (map coming) c.move_all.ensures.items ∙ map-append coming f.result.2.items c.args.others.items in
    subst (λ (cs : List (Option (List ℕ))). AreServedAccounts (λ b. terms_of g.K.Keeper.keep_faults b) (λ b. (journal_of b).entries) (λ b. g.K.Keeper.keep_faults (account_of b).keeper) manner g.L.Told.told g.L.Closable.closed f.result.0.items f.result.1.items (starts (map (sign coming) c.args.crew.items) ++ map coming c.args.others.items) cs) (sym e)
    (served_with (λ b. terms_of g.K.Keeper.keep_faults b) (λ b. (journal_of b).entries) (λ b. g.K.Keeper.keep_faults (account_of b).keeper) manner g.L.Told.told g.L.Closable.closed f.result.0.items f.result.1.items (starts (map (sign coming) c.args.crew.items)) (map coming f.result.2.items) (map coming c.args.others.items) (f.ensures.served manner one))
