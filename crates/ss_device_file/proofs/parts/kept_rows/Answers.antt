use Rattle.std.proofs.Common.{rules, ap, ◌∙◌, sym}
use Rattle.std.proofs.lemmas.Fn.{filter_same}
use Rattle.ss_device_file.specs.Files.{is_exact, kept_rows}
use Rattle.ss_device_file.proofs.parts.kept_rows.Goals as goal

pub returns-in-First : goal.returns-in-First
returns-in-First c =
    filter_same _ is_exact _ (λ x b f' t. search rules) _ _ c.retain.ensures.filtered ∙ ap (λ v. kept_rows v c.args.rows.items) (sym c.in-First.is)
