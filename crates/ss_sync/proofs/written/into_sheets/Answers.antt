use Rattle.std.proofs.Common.{sym, ap, ◌∙◌, subst}
use Rattle.std.specs.List.Sorted.{IsStrictlySortedBy}
use Rattle.ss_text.specs.Texts.{text_cmp}
use Rattle.ss_plan.specs.Written.{sheet}
use Rattle.ss_sync.specs.Rows.{ids_of}
use Rattle.ss_sync.specs.Told.{rows_of}
use Rattle.ss_sync.proofs.Putting.{found_rows, ids_of_rows}
use Rattle.ss_sync.proofs.written.into_sheets.Goals as goal

pub returns-clause-rows : goal.returns-clause-rows
returns-clause-rows c = λ x. ap (sheet x) (c.in_ok-sheets.ensures ∙ ap rows_of c.in_ok-pairs.ensures.pairs) ∙ found_rows x c.args.rows.entries

pub returns-clause-by_id : goal.returns-clause-by_id
returns-clause-by_id c =
    subst (IsStrictlySortedBy text_cmp) (sym (ap ids_of (c.in_ok-sheets.ensures ∙ ap rows_of c.in_ok-pairs.ensures.pairs) ∙ ids_of_rows c.args.rows.entries)) c.in_ok-pairs.ensures.ordered
