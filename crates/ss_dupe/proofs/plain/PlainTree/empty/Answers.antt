use Rattle.std.proofs.Common.{ap, bytes_eq, option_map}
use Rattle.std.specs.Map.{lookup}
use Rattle.ss_dupe.specs.Plains.{placed_at}
use Rattle.ss_dupe.proofs.plain.PlainTree.empty.Goals as goal

pub returns-clause-none : goal.returns-clause-none
returns-clause-none c = λ x. ap (λ es. option_map placed_at (lookup (bytes_eq x) es)) c.with_hasher.ensures.empty
