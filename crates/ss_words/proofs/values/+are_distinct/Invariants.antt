use Rattle.std.specs.Prelude.{length}
use Rattle.ss_words.proofs.values.+are_distinct.Given as goal

abbrev pub decreases-are_distinct : goal.decreases-are_distinct
decreases-are_distinct l = length l.uids.now
