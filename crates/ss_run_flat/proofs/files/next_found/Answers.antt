use Rattle.std.proofs.Common.{◌+◌, sym, ◌∙◌}
use Rattle.ss_device_file.specs.declared.lines.Line.TheVariants.{Row, End}
use Rattle.ss_run_flat.proofs.Lines.{bad_line, cut_short, end_formed, no_end_found, no_row_found}
use Rattle.ss_run_flat.proofs.files.next_found.Goals as goal
use Rattle.ss_text.proofs.Basics.{none_some, some_same}

pub returns-in_default-clause-stuck : goal.returns-in_default-clause-stuck
returns-in_default-clause-stuck c = cut_short c.args.rest.now c.args.number c.in_default.ensures

pub returns-in_default-2-clause-stuck : goal.returns-in_default-2-clause-stuck
returns-in_default-2-clause-stuck c =
    bad_line c.args.rest.now c.args.number c.in-Some.end c.in-Some.ensures
    (λ r is text. none_some (sym c.in_default-2.is ∙ c.in_ok-line.ensures.all (Row r) is text))
    (λ text. none_some (sym c.in_default-2.is ∙ c.in_ok-line.ensures.all End end_formed text))

pub returns-in-None-clause-stuck : goal.returns-in-None-clause-stuck
returns-in-None-clause-stuck c =
    bad_line c.args.rest.now c.args.number c.in-Some.end c.in-Some.ensures
    (λ r is text. no_row_found (c.in-Some.end + 1) c.in-Some-2.line r c.in-None.ensures (some_same (sym c.in-Some-2.is ∙ c.in_ok-line.ensures.all (Row r) is text)))
    (λ text. no_end_found (c.in-Some.end + 1) c.in-Some-2.line c.in-None.ensures (some_same (sym c.in-Some-2.is ∙ c.in_ok-line.ensures.all End end_formed text)))
