use Rattle.std.proofs.Common.{ap, ◌∙◌, take_all}
use Rattle.ss_record.specs.Ids.{has}
use Rattle.ss_sync.specs.Rows.{ids_of}
use Rattle.ss_sync.proofs.Fetching.{set_none, set_more, ids_next}
use Rattle.ss_sync.proofs.fetched.ids_of.Goals as goal

pub loop-sheet-init : goal.loop-sheet-init
loop-sheet-init c = set_none _ c.in_ok-set.ensures.empty

pub loop-sheet-preserved : goal.loop-sheet-preserved
loop-sheet-preserved c =
    set_more c.loop-sheet.set.keys c.insert.new.self.keys _ _ c.in_ok-copy.field-0 c.sheet-item.result.id (ids_next c.args.sheets.now c.loop-sheet.sheet-index c.sheet-item.result c.loop-sheet-test.true c.sheet-item.is)
    c.in_ok-copy.ensures c.in_ok-insert.ensures.keys c.loop-sheet.invariant

pub returns : goal.returns
returns c = λ x. c.loop-sheet.invariant x ∙ ap (λ l. has x (ids_of l)) (take_all c.loop-sheet.sheet-index c.args.sheets.now c.loop-sheet-test.false)
