use Rattle.std.proofs.Common.{sym, ◌∙◌}
use Rattle.ss_plain.proofs.Making.{some-first}
use Rattle.ss_plain.proofs.writing.are_none.Goals as goal

pub returns-else-is_empty : goal.returns-else-is_empty
returns-else-is_empty c =
    c.if-is_empty.false ∙ sym (some-first c.args.first.now c.args.more.now (sym c.is_empty.ensures ∙ c.if-is_empty.false))
