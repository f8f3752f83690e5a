use Rattle.std.proofs.Common.{ap, ◌∙◌, ◌++◌, fold, [], subst, sym}
use Rattle.ss_bso.specs.Lists.{Pairs}
use Rattle.ss_writes.specs.Parts.{OtherText, with_part_id}
use Rattle.ss_writes.proofs.Made.{ids-apart, ids-fold}
use Rattle.ss_writes.proofs.targets.Targets.of_parts.Goals as goal

pub returns-clause-ids : goal.returns-clause-ids
returns-clause-ids c =
    let first = c.args.first.now in
    let more = c.args.more.now in
    c.in_ok-add_parts-2.ensures
    ∙ ap (λ ids. fold with_part_id ids more) (c.in_ok-add_parts.ensures ∙ ap (λ ids. fold with_part_id ids first) c.new-targets.ensures ∙ ids-fold [] first)
    ∙ ids-fold first more

pub returns-clause-apart : goal.returns-clause-apart
returns-clause-apart c =
    let first = c.args.first.now in
    let more = c.args.more.now in
    let all =
    c.in_ok-add_parts-2.ensures
    ∙ ap (λ ids. fold with_part_id ids more) (c.in_ok-add_parts.ensures ∙ ap (λ ids. fold with_part_id ids first) c.new-targets.ensures ∙ ids-fold [] first)
    ∙ ids-fold first more in
    subst (Pairs OtherText) (sym all) (ids-apart (first ++ more))
