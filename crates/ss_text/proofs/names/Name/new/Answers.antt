use Rattle.std.proofs.Common.{sym, ◌∙◌}
use Rattle.ss_text.proofs.NameLemmas.{IsUtf8-from_name}
use Rattle.ss_text.proofs.names.Name.new.Goals as goal

pub unreachable-requires : goal.unreachable-requires
unreachable-requires c =
    c.in-Err.ensures.cases.0 (IsUtf8-from_name c.args.bytes.now (sym c.has_form_of_name.ensures ∙ c.if-not-has_form_of_name.false))
