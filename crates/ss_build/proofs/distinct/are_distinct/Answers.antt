use Rattle.std.proofs.Common.{◌≡◌, ◌∙◌, ap, sym, length, map, arith}
use Rattle.std.proofs.lemmas.List.{get_or-map, length-map}
use Rattle.ss_record.specs.Ids.{places}
use Rattle.ss_build.proofs.Meeting.{none_met, met_more, met_twice, met_all}
use Rattle.ss_build.proofs.distinct.are_distinct.Goals as goal

pub loop-sheet-init : goal.loop-sheet-init
loop-sheet-init c = none_met _ _ c.in_ok-ids.ensures.empty

pub loop-sheet-preserved : goal.loop-sheet-preserved
loop-sheet-preserved c =
    let n : length (map (λ s. s.id) c.args.sheets.now) ≡ length c.args.sheets.now = length-map c.args.sheets.now (λ s. s.id) in
    met_more (map (λ s. s.id) c.args.sheets.now) c.loop-sheet.ids.keys c.insert.new.self.keys c.loop-sheet.sheet-index c.in_ok-word_of.field-0 c.in_ok-insert.field-0 (omega arith)
    (c.in_ok-word_of.ensures ∙ (c.as_str.ensures.text ∙ (ap (λ s. s.id) c.sheet-item.is ∙ sym (get_or-map (λ s. s.id) c.args.sheets.now c.loop-sheet.sheet-index c.sheet-item.result places c.loop-sheet-test.true))))
    c.in_ok-insert.ensures.added c.if-not-branch.false c.in_ok-insert.ensures.keys c.loop-sheet.invariant

pub returns-then-not-branch : goal.returns-then-not-branch
returns-then-not-branch c =
    let n : length (map (λ s. s.id) c.args.sheets.now) ≡ length c.args.sheets.now = length-map c.args.sheets.now (λ s. s.id) in
    met_twice (map (λ s. s.id) c.args.sheets.now) c.loop-sheet.ids.keys c.loop-sheet.sheet-index c.in_ok-word_of.field-0 c.in_ok-insert.field-0 (omega arith)
    (c.in_ok-word_of.ensures ∙ (c.as_str.ensures.text ∙ (ap (λ s. s.id) c.sheet-item.is ∙ sym (get_or-map (λ s. s.id) c.args.sheets.now c.loop-sheet.sheet-index c.sheet-item.result places c.loop-sheet-test.true))))
    c.in_ok-insert.ensures.added c.if-not-branch.true c.loop-sheet.invariant

pub returns : goal.returns
returns c =
    let n : length (map (λ s. s.id) c.args.sheets.now) ≡ length c.args.sheets.now = length-map c.args.sheets.now (λ s. s.id) in
    met_all (map (λ s. s.id) c.args.sheets.now) c.loop-sheet.ids.keys c.loop-sheet.sheet-index (omega arith) c.loop-sheet.invariant
