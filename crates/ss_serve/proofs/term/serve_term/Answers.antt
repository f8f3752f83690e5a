use Rattle.std.proofs.Common.{ap, length, map}
use Rattle.ss_town.specs.Town.{uids_of, desks_of, passes_of}
use Rattle.ss_booked.specs.Booked.{account_of, journal_of, terms_of}
use Rattle.ss_serve.proofs.Gating.{nothing_gated}
use Rattle.ss_serve.proofs.Tying.{starts_left, says_open, term_of}
use Rattle.ss_serve.proofs.term.serve_term.Goals as goal

pub run_term-requires-clause-start : goal.run_term-requires-clause-start
run_term-requires-clause-start g c κs within = starts_left (λ b. terms_of g.K.Keeper.keep_faults b) c.args.accounts.items (uids_of c.in-Ok.town) (desks_of c.in-Ok.town) (passes_of c.in-Ok.passes) c.in-Ok.ensures.opened

pub returns-in-Ok-clause-says : goal.returns-in-Ok-clause-says
returns-in-Ok-clause-says g c = let r = c.run_term.result in let coming = g.C.Clock.coming in
    says_open (λ b. terms_of g.K.Keeper.keep_faults b) (λ b. (journal_of b).entries) (λ b. g.K.Keeper.keep_faults (account_of b).keeper) c.args.manner g.L.Told.told g.L.Closable.closed r.ended c.args.accounts.items r.accounts.items r.links.items (map coming c.args.clocks.items) (map coming r.clocks.items) c.run_term.ensures.open
    (term_of (λ b. terms_of g.K.Keeper.keep_faults b) (λ b. (journal_of b).entries) (λ b. g.K.Keeper.keep_faults (account_of b).keeper) c.args.manner g.L.Told.told g.L.Closable.closed c.args.accounts.items r.accounts.items r.links.items (map coming c.args.clocks.items) (map coming r.clocks.items)
    (uids_of c.in-Ok.town) (desks_of c.in-Ok.town) (passes_of c.in-Ok.passes) c.in-Ok.ensures.may c.in-Ok.ensures.opened c.run_term.ensures.handed c.run_term.ensures.served)

pub returns-in-Err-clause-gated : goal.returns-in-Err-clause-gated
returns-in-Err-clause-gated g c = nothing_gated (g.G.Gate.says c.args.gate.now) c.new.result.items (ap length c.new.ensures.items)
