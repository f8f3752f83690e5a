use Rattle.std.proofs.Common.{ap, option_map, is_eq}
use Rattle.std.specs.BTreeMap.{get}
use Rattle.std.specs.Map.{lookup}
use Rattle.ss_text.specs.Texts.{text_cmp}
use Rattle.ss_sync.specs.Told.{row_of}
use Rattle.ss_sync.proofs.Putting.{gathers_none, gathers_more}
use Rattle.ss_sync.proofs.written.gathered.Goals as goal

pub loop-sheet-init : goal.loop-sheet-init
loop-sheet-init c = gathers_none _ _ (λ x. ap (λ es. option_map (row_of x) (lookup (λ k. is_eq (text_cmp x k)) es)) c.new-rows.ensures.empty)

pub loop-sheet-preserved-in_ok-insert : goal.loop-sheet-preserved-in_ok-insert
loop-sheet-preserved-in_ok-insert c =
    gathers_more _ _ _ c.in-Some.sheet (get text_cmp c.loop-sheet.rows) (get text_cmp c.insert.new.self) c.in-Some.ensures.items c.in_ok-insert.ensures.updates.0 c.loop-sheet.invariant

pub loop-sheet-preserved : goal.loop-sheet-preserved
loop-sheet-preserved c =
    gathers_more _ _ _ c.in-Some.sheet (get text_cmp c.loop-sheet.rows) (get text_cmp c.insert.new.self) c.in-Some.ensures.items c.in_ok-insert.ensures.updates.0 c.loop-sheet.invariant
