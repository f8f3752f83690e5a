use Rattle.std.proofs.Common.{ap, ◌∙◌}
use Rattle.std.specs.Prelude.{not}
use Rattle.ss_index.proofs.Tidying.{some_nodes}
use Rattle.ss_index.proofs.drawer.Drawer.has_rows.Goals as goal

pub returns : goal.returns
returns c = rw (← c.self.view_is) (ap not c.is_empty.ensures ∙ some_nodes c.self.inside.rows.nodes)
