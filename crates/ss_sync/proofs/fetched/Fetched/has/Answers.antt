use Rattle.std.proofs.Common.{sym, ap, ◌∙◌}
use Rattle.ss_record.specs.Ids.{has}
use Rattle.ss_sync.specs.Rows.{ids_of}
use Rattle.ss_sync.proofs.Fetching.{has-is}
use Rattle.ss_sync.proofs.fetched.Fetched.has.Goals as goal

pub returns : goal.returns
returns c = c.contains.ensures ∙ (sym (has-is c.args.id.now c.self.inside.ids.keys) ∙ ap (has c.args.id.now) (c.self.invariant.0 ∙ ap ids_of c.self.view_is))
