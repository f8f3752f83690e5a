-- What callers say of a desk and its passes.
use Rattle.std.specs.Prelude.{◌≡◌}
use Rattle.ss_desk.specs.declared.view.View.{View}
use Rattle.ss_desk.specs.declared.desk.Desk.{Desk}
use Rattle.ss_desk.specs.declared.pass.RawPass.{RawPass}

module _ {T F E : Type 0} where
  -- what the pass knows
  abbrev pub view : RawPass T F E → View F E
  view p = p.seat.me.0

  -- two passes to one desk
  abbrev pub SameDesk : RawPass T F E → RawPass T F E → Type 0
  SameDesk p q = q.seat.table_id ≡ p.seat.table_id

module _ {T F E A R : Type 0} where
  -- a pass to this desk
  abbrev pub IsPassOf : Desk T F E A R → RawPass T F E → Type 0
  IsPassOf d p = p.seat.table_id ≡ d.table.shared.table_id
