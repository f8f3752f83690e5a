use Rattle.std.proofs.Common.{map, filter, take}
use Rattle.ss_text.specs.Texts.{IsReordering}
use Rattle.ss_bso.specs.declared.rows.Row.{Row}
use Rattle.ss_bso.specs.Write.{is_among}
use Rattle.ss_query.specs.Answer.{is_asked}
use Rattle.ss_index.proofs.drawer.Drawer.named.Given as goal

abbrev pub invariant-loop-i : goal.invariant-loop-i
invariant-loop-i l = IsReordering (filter (is_asked l.query) (filter (λ (row : Row). is_among (take l.i l.ids) row.id) l.self.rows)) (map (λ row. row.now) l.found.items)
