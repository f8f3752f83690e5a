use Rattle.std.proofs.Common.{◌≤◌, length, subst, sym, ap, take, arith, ◌∙◌}
use Rattle.std.proofs.lemmas.List.{take_all}
use Rattle.std.specs.Prelude.{List, ℕ, slice_get}
use Rattle.std.specs.Option.{option_to_list}
use Rattle.ss_text.specs.Texts.{IsReordering, nothing, chain}
use Rattle.ss_bso.proofs.Reordering.{reordered-append_right}
use Rattle.ss_index.specs.Held.{HeldRows}
use Rattle.ss_index.specs.Shelved.{rows_in}
use Rattle.ss_index.proofs.Counting.{take_one, rows_in-append}
use Rattle.ss_index.proofs.shelf.Shelf.copy_counting.Goals as goal

pub loop-i-preserved : goal.loop-i-preserved
loop-i-preserved g c =
    let drawers = c.args.self.now in
    let next : List (List ℕ × HeldRows) = option_to_list (slice_get drawers c.loop-i.i) in
    subst (λ l. IsReordering l c.copy_drawer.new.rows.items) (sym (ap (λ l. rows_in l) (take_one drawers c.loop-i.i) ∙ rows_in-append (take c.loop-i.i drawers) next))
    (chain (reordered-append_right (rows_in next) c.loop-i.invariant) c.in_ok-copy_drawer.ensures)

pub loop-i-init : goal.loop-i-init
loop-i-init g c = rw c.new-rows.ensures.items nothing

pub returns : goal.returns
returns g c =
    let past : length c.args.self.now ≤ c.loop-i.i = omega (arith, c.loop-i-test.false, c.len-i-end.ensures.len, ap (λ (drawers : List (List ℕ × HeldRows)). length drawers) c.self.view_is) in
    rw c.new.ensures (subst (λ l. IsReordering (rows_in l) c.loop-i.rows.items) (take_all c.loop-i.i c.args.self.now past) c.loop-i.invariant)
