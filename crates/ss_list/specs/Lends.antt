-- What a `Chain` ends as, once a reference to one of its values has ended.
use Rattle.std.specs.Prelude.{ℕ}
use Rattle.std.specs.Borrow.{Lends, Fml, RattleType, MutBor}
use Rattle.ss_list.specs.Chain.{Chain, with_value}
use Rattle.ss_list.specs.contracts.chain.Chain.{the_row}

-- once the borrow r ends, the node at this place has the last value written through r
abbrev pub lends_value : (T : RattleType) → MutBor (Chain T.Denot) → ℕ → MutBor T.Denot → Fml
lends_value T c at r = Lends (the_row T) T c r (with_value c.now at)
