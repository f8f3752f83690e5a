use Rattle.std.proofs.Common.{◌∙◌}
use Rattle.ss_dump.proofs.Moved.{read_is, refused_for_memory}
use Rattle.ss_dump.proofs.laws.read_again.Goals as goal

pub returns-clause-read : goal.returns-clause-read
returns-clause-read c =
    read_is c.as_slice.result.now c.args.kept.now c.undump.result c.kept_form.ensures c.requires (c.as_slice.ensures.value ∙ c.in_ok-text.ensures) c.undump.ensures.account

pub returns-clause-memory : goal.returns-clause-memory
returns-clause-memory c =
    refused_for_memory c.as_slice.result.now c.args.kept.now c.undump.result c.kept_form.ensures c.requires (c.as_slice.ensures.value ∙ c.in_ok-text.ensures) c.undump.ensures.refused
