use Rattle.std.proofs.Common.{rules}
use Rattle.std.proofs.lemmas.Fn.{filter_same}
use Rattle.ss_keeper.specs.Together.{leaves}
use Rattle.ss_keeper.proofs.making.cut_rows.Goals as goal

pub returns-clause-rows : goal.returns-clause-rows
returns-clause-rows c = filter_same _ (leaves c.args.edits.now) _ (λ x b f h. search rules) c.args.rows.now.items c.retain.new.self.items c.retain.ensures.filtered
