use Rattle.std.proofs.Common.{◌≤◌, ◌++◌, sym, ap, take, arith, length, ◌∙◌}
use Rattle.std.specs.Prelude.{List, ℕ, slice_get}
use Rattle.std.specs.Option.{option_to_list}
use Rattle.std.proofs.lemmas.Result.{IfOk-weaker}
use Rattle.ss_query.specs.Told.{by_name}
use Rattle.ss_index.specs.Held.{HeldRows}
use Rattle.ss_index.specs.Numbers.{entries_of}
use Rattle.ss_index.proofs.Counting.{take_one, entries_of-append, entries_are}
use Rattle.ss_index.proofs.shelf.Shelf.numbers.Goals as goal

pub loop-i-preserved : goal.loop-i-preserved
loop-i-preserved c =
    let drawers = c.args.self.now in
    let measure = c.args.measure in
    let next : List (List ℕ × HeldRows) = option_to_list (slice_get drawers c.loop-i.i) in
    c.in_ok-note_number.ensures ∙ ap (λ l. l ++ entries_of measure next) c.loop-i.invariant
    ∙ sym (ap (λ l. entries_of measure l) (take_one drawers c.loop-i.i) ∙ entries_of-append measure (take c.loop-i.i drawers) next)

pub returns : goal.returns
returns c =
    let drawers = c.args.self.now in
    let past : length drawers ≤ c.loop-i.i = omega (arith, c.loop-i-test.false, c.len-i-end.ensures.len, ap (λ (drawers : List (List ℕ × HeldRows)). length drawers) c.self.view_is) in
    let named = rw c.self.view_is at c.self.invariant.named in
    let names = rw c.self.view_is at c.self.invariant.names in
    IfOk-weaker c.by_name.result _ _ (λ numbers e. e ∙ ap by_name c.loop-i.invariant ∙ entries_are c.args.measure drawers c.loop-i.i named names past) c.by_name.ensures
