use Rattle.std.proofs.Common.{subst, length, map}
use Rattle.ss_booked.specs.Booked.{account_of, journal_of, terms_of}
use Rattle.ss_serve.specs.Crew.{sign, starts}
use Rattle.ss_serve.specs.Fullness.{IsNamedFull}
use Rattle.ss_serve.specs.Terms.{IsFull, Smallest}
use Rattle.ss_serve.proofs.Fillings.{smallest_same}
use Rattle.ss_serve.proofs.Naming.{named_same}
use Rattle.ss_serve.proofs.Tying.{full_says}
use Rattle.ss_serve.proofs.term.end_served.Goals as goal

pub returns-clause-full : goal.returns-clause-full
returns-clause-full g c = let f = c.finish-accounts in let bs = f.result.0.items in let rs = f.result.1.items in let full = c.smallest_full-full.result in let coming = g.C.Clock.coming in
    let named = subst (λ l. Smallest (IsNamedFull (λ b. (journal_of b).entries) rs) l (length l) full) c.as_slice.ensures.value
    (subst (λ l. Smallest (IsNamedFull (λ b. (journal_of b).entries) l) c.as_slice.result.now (length c.as_slice.result.now) full) c.as_slice-2.ensures.value c.smallest_full-full.ensures) in
    full_says (λ b. terms_of g.K.Keeper.keep_faults b) (λ b. (journal_of b).entries) bs rs full c.stop_of.result c.stop_of.ensures.full
    (smallest_same (IsNamedFull (λ b. (journal_of b).entries) rs) bs (IsFull (λ b. terms_of g.K.Keeper.keep_faults b) (λ b. (journal_of b).entries) rs) (length bs) full
    (named_same (λ b. terms_of g.K.Keeper.keep_faults b) (λ b. (journal_of b).entries) (λ b. g.K.Keeper.keep_faults (account_of b).keeper) c.requires.one.0 g.L.Told.told g.L.Closable.closed bs rs (starts (map (sign coming) c.args.crew.items)) (map coming f.result.2.items) (f.ensures.served c.requires.one.0 c.requires.one.1) f.ensures.handed.sorted)
    named)
