use Rattle.std.proofs.Common.{◌≡◌, ◌≤◌, List, ℕ, ap, arith, bytes_eq, length, subst}
use Rattle.ss_flat.specs.Joining.{OtherKey, entry_heard}
use Rattle.ss_flat.specs.States.{RoomedId, State}
use Rattle.ss_bso.specs.Lists.{Pairs}
use Rattle.ss_flat.proofs.Keeping.{apart_keys, same_apart}
use Rattle.ss_flat.proofs.Taking.{mapped_all, mapped_more}
use Rattle.ss_flat.proofs.flat.Flat.copies.Goals as goal

pub loop-i-preserved : goal.loop-i-preserved
loop-i-preserved c = mapped_more entry_heard entry_heard c.args.self.now.entries c.loop-i.i c.loop-i.copies.items _ c.loop-i.invariant c.in_ok-copy_entry.ensures

pub returns-clause-apart : goal.returns-clause-apart
returns-clause-apart c =
    let seen : c.self.inside.entries.entries ≡ c.args.self.now.entries = ap (λ (s : State). s.entries) c.self.view_is in
    let past : length c.args.self.now.entries ≤ c.loop-i.i = omega (arith, c.loop-i-test.false, c.len-i-end.ensures.len, ap (λ (es : List (List ℕ × RoomedId)). length es) seen) in
    same_apart c.loop-i.copies.items c.args.self.now.entries (mapped_all entry_heard entry_heard c.args.self.now.entries c.loop-i.i c.loop-i.copies.items past c.loop-i.invariant)
    (subst (λ es. Pairs OtherKey es) seen (apart_keys bytes_eq c.self.inside.entries.entries c.len-i-end.ensures.unique))
