use Rattle.std.proofs.Common.{rules}
use Rattle.ss_index.proofs.Filling.{in_time_closure}
use Rattle.ss_bso.proofs.Permutations.{reordered-from_IsPermutation}
use Rattle.ss_index.proofs.shelf.in_time.Goals as goal

pub returns-clause-same : goal.returns-clause-same
returns-clause-same c = reordered-from_IsPermutation c.args.rows.items c.sort_by.new.self.items c.sort_by.ensures.permutation

pub returns-clause-sorted : goal.returns-clause-sorted
returns-clause-sorted c = in_time_closure c.sort_by.new.self.items c.in_ok-sort_by.ensures.sorted (λ a r q k. search rules)
