use Rattle.std.proofs.Common.{◌∷◌, ◌++◌, [], ap, subst, ◌∙◌}
use Rattle.ss_bso.specs.declared.rows.Row.{Row as Stored}
use Rattle.ss_flat.specs.declared.kinds.FlatKind.{FlatKind}
use Rattle.ss_flat.specs.States.{IsFlatState}
use Rattle.ss_run_flat.specs.Files.{stored_row}
use Rattle.ss_run_flat.proofs.rows.see.Goals as goal

pub returns-clause-seen : goal.returns-clause-seen
returns-clause-seen c = λ rows is.
    subst (λ (r : Stored). IsFlatState (rows ++ r ∷ []) c.see.new.self) (c.in_ok-row.ensures ∙ ap (λ (k : FlatKind). stored_row k c.args.sheet) c.kind.ensures) (c.in_ok-see.ensures.seen rows is)
