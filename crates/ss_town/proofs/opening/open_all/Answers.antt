use Rattle.std.proofs.Common.{rules, arith, length, ◌≡◌}
use Rattle.std.proofs.lemmas.List.Sorted.{length_permutation}
use Rattle.ss_town.proofs.Sorting.{come_back, bare_moved, distinct_moved, uids_rise}
use Rattle.ss_town.proofs.opening.open_all.Goals as goal

pub returns-in_default-clause-returned : goal.returns-in_default-clause-returned
returns-in_default-clause-returned g c = let k = g.T.Journaled in come_back k.fixed k.entries c.args.accounts.items c.sort_by_uid.new.accounts.items c.sort_by_uid.ensures.moved c.requires.bare

pub returns-in_default-room_for-clause-returned : goal.returns-in_default-room_for-clause-returned
returns-in_default-room_for-clause-returned g c = let k = g.T.Journaled in come_back k.fixed k.entries c.args.accounts.items c.sort_by_uid.new.accounts.items c.sort_by_uid.ensures.moved c.requires.bare

pub open_from-requires-clause-bare : goal.open_from-requires-clause-bare
open_from-requires-clause-bare g c = let k = g.T.Journaled in bare_moved k.entries c.args.accounts.items c.sort_by_uid.new.accounts.items c.sort_by_uid.ensures.moved c.requires.bare

pub invariant_of-result : goal.invariant_of-result
invariant_of-result g c = let k = g.T.Journaled in let o = c.in-Ok-open_from.opened in let h = c.in-Ok-open_from.ensures.opened in
    let sorted = c.sort_by_uid.new.accounts.items in
    let moved = c.sort_by_uid.ensures.moved in
    let long : length sorted ≡ length c.args.accounts.items = length_permutation c.args.accounts.items sorted moved in record {
      alike = omega (arith, h.uids_count, h.count, o.uids.ok.0, o.desks.ok.0);
      rise = uids_rise k.fixed sorted o.uids.items o.desks.items o.passes.items h (distinct_moved c.args.accounts.items sorted moved c.requires.may.distinct) c.sort_by_uid.ensures.sorted;
      few = omega (arith, long, c.requires.may.few.1, h.count, o.desks.ok.0);
    }

pub invariant_of-result-in-Ok-open_from : goal.invariant_of-result-in-Ok-open_from
invariant_of-result-in-Ok-open_from g c = let o = c.in-Ok-open_from.opened in let h = c.in-Ok-open_from.ensures.opened in
    let sorted = c.sort_by_uid.new.accounts.items in
    let long : length sorted ≡ length c.args.accounts.items = length_permutation c.args.accounts.items sorted c.sort_by_uid.ensures.moved in
    record { some = omega (arith, long, c.requires.may.few.0, h.count, h.of.0, o.passes.ok.0) }
