use Rattle.std.proofs.Common.{rules}
use Rattle.std.proofs.lemmas.Fn.{filter_same}
use Rattle.std.specs.Prelude.{not, bytes_eq}
use Rattle.ss_writes.proofs.editing.remove_time.Goals as goal

pub returns-clause-times : goal.returns-clause-times
returns-clause-times c = filter_same _ (λ entry. not (bytes_eq entry.0 c.args.collection.now)) _ (λ x b f h. search rules) c.args.collections.now.items c.retain.new.self.items c.retain.ensures.filtered
