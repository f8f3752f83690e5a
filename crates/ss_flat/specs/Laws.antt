-- What holds of the state of a set, whichever way it came.
use Rattle.std.specs.Prelude.{◌≡◌, List, Contains}
use Rattle.ss_bso.specs.declared.rows.Row.{Row}
use Rattle.ss_flat.specs.States.{IsFlatState, IsJoin, State, TellsSame}

-- two lists of rows have the same rows, in whatever order and however often
pub record SameSet (rows others : List Row) : Type 0 where
  pub there : (row : Row) → Contains rows row → Contains others row
  pub back : (row : Row) → Contains others row → Contains rows row

-- a state of a collection of some kind, of some set of rows
pub record IsOfRows (state : State) : Type 0 where
  pub rows : List Row
  pub is : IsFlatState rows state

abbrev pub Commutes : Type 0
Commutes = (one other both turned : State) → IsOfRows one → IsOfRows other → both.kind ≡ turned.kind → IsJoin one other both → IsJoin other one turned → TellsSame both turned

abbrev pub Associates : Type 0
Associates = (one two three front back left right : State) → IsOfRows one → IsOfRows two → IsOfRows three → left.kind ≡ right.kind
    → IsJoin one two front → IsJoin front three left → IsJoin two three back → IsJoin one back right → TellsSame left right

abbrev pub IsIdempotent : Type 0
IsIdempotent = (one both : State) → IsOfRows one → one.kind ≡ both.kind → IsJoin one one both → TellsSame both one
