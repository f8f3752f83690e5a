use Rattle.std.specs.Prelude.{◌≤◌, ◌+◌, ℕ, Option, Some, count_by}
use Rattle.std.proofs.Common.{rules, subst}
use Rattle.ss_bso.specs.Limits.{rows_of}
use Rattle.ss_index.specs.Shelved.{rows_in}
use Rattle.ss_index.specs.Walk.{is_above}
use Rattle.ss_index.proofs.Newer.{fewer_of}
use Rattle.cases_accounts.proofs.rows.newer.few_newer.Goals as goal

pub returns : goal.returns
returns g c =
    let name = c.drop.inside.text.bytes.items in
    let all = rows_in c.args.shelf.now in
    let few = fewer_of (is_above (Some c.args.newer)) name c.in_ok-rows.rows all c.in_ok-rows.ensures in
    let P : Option ℕ → Type 0 = λ newer. c.select.new.steps ≤ c.args.steps.now + count_by (is_above newer) (rows_of name all) in
    let steps = subst P c.in_ok-query.ensures c.in_ok-select.ensures.steps in
    search (few, steps, c.count_newer.ensures, c.if-count_newer-gt3.false, rules)
