use Rattle.std.proofs.Common.{rules, List, ℕ, not, bytes_eq}
use Rattle.std.proofs.lemmas.Fn.{filter_same}
use Rattle.ss_plain.proofs.writing.other_times.Goals as goal

pub returns : goal.returns
returns c = filter_same _ (λ (entry : List ℕ × ℕ). not (bytes_eq entry.0 c.args.collection.now)) _ (λ x b f h. search rules) _ _ c.retain.ensures.filtered
