use Rattle.std.proofs.Common.{◌≡◌, sym, ap, ◌∙◌, append-nil, ◌++◌}
use Rattle.ss_record.specs.Ids.{has}
use Rattle.ss_sync.proofs.Fetching.{kept-nil, kept_more, kept_other, copied_fresh, copied_added}
use Rattle.ss_sync.proofs.fetched.Fetched.keep.Goals as goal
use Rattle.ss_sync.proofs.fetched.Fetched.keep.Goals.{then-contains+in_ok-copy+in_ok-insert, else-contains}

pub loop-sheet-init : goal.loop-sheet-init
loop-sheet-init c = sym (ap (λ l. c.args.self.now ++ l) (kept-nil c.args.self.now c.args.ids.now) ∙ append-nil c.args.self.now)

pub loop-sheet-preserved : goal.loop-sheet-preserved
loop-sheet-preserved c =
    let listed : c.contains.result ≡ has c.sheet-item.result.id c.args.ids.now = c.contains.ensures ∙ c.in_ok-listed.ensures c.sheet-item.result.id in
    let at = c.sheet-item in
    elim c.if-contains.branch [
      | then-contains+in_ok-copy+in_ok-insert w ↦
          w.self-is ∙ kept_more c.args.self.now c.loop-sheet.self w.insert.new.self c.args.mirror.now c.args.ids.now c.loop-sheet.sheet-index at.result w.in_ok-insert.field-0 c.requires c.loop-sheet-test.true at.is (sym listed ∙ w.if-contains.true)
          (copied_fresh _ c.loop-sheet.self _ _ w.in_ok-insert.ensures.fresh w.in_ok-copy.ensures) (copied_added _ _ c.loop-sheet.self _ _ w.in_ok-insert.ensures.added w.in_ok-copy.ensures) c.loop-sheet.invariant
      | else-contains w ↦ w.self-is ∙ kept_other c.args.self.now c.loop-sheet.self c.args.mirror.now c.args.ids.now c.loop-sheet.sheet-index at.result c.loop-sheet-test.true at.is (sym listed ∙ w.if-contains.false) c.loop-sheet.invariant
    ]
