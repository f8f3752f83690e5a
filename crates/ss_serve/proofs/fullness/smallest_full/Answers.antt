use Rattle.std.proofs.Common.{rules, ◌≡◌, ◌<◌, arith, length, subst, Bool}
use Rattle.ss_booked.specs.Booked.{journal_of}
use Rattle.ss_serve.specs.Fullness.{IsTestOf, IsNamedFull, OneMore}
use Rattle.ss_serve.specs.Terms.{Smallest}
use Rattle.ss_serve.proofs.Fillings.{smallest_next}
use Rattle.ss_serve.proofs.fullness.smallest_full.Goals as goal

pub loop-i-preserved : goal.loop-i-preserved
loop-i-preserved g c = let l = c.args.accounts.now in let lt : c.loop-i.i < length l = search rules in
    smallest_next (IsNamedFull (λ b. (journal_of b).entries) c.args.reports.now) l c.loop-i.i c.index-accounts-i.result lt c.loop-i.found c.and_one-found.result c.loop-i.invariant
    (subst (λ a. (b : Bool) × IsTestOf b (IsNamedFull (λ b. (journal_of b).entries) c.args.reports.now a) × OneMore b c.loop-i.found a.0 c.and_one-found.result) c.index-accounts-i.is c.and_one-found.ensures)

pub returns : goal.returns
returns g c = let l = c.args.accounts.now in let all : c.loop-i.i ≡ length l = omega arith in
    subst (λ n. Smallest (IsNamedFull (λ b. (journal_of b).entries) c.args.reports.now) l n c.loop-i.found) all c.loop-i.invariant
