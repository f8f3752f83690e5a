use Rattle.std.proofs.Common.{◌≡◌, ◌≤◌, ℕ, List, Option, Some, None, sym, ap₂, subst, ◌∙◌}
use Rattle.std.specs.Option.{IfSome}
use Rattle.std.proofs.lemmas.Result.{IfOk-weaker}
use Rattle.std.specs.Str.{IsUtf8}
use Rattle.ss_text.specs.Time.{last_stamp}
use Rattle.ss_device.specs.Writing.{item_line}
use Rattle.ss_device_file.specs.declared.lines.ItemLine.{ItemLine}
use Rattle.ss_device_file.specs.Lines.{IsItemLine, record_in}
use Rattle.ss_device_file.specs.Records.{item_from}
use Rattle.ss_device_file.proofs.Recorded.{item_cut, parts_are, read_is_line, written_read}
use Rattle.ss_device_file.proofs.items.item_in.Goals as goal
use Rattle.ss_text.proofs.Basics.{some_same, none_some}

pub returns-in_default-clause-all : goal.returns-in_default-clause-all
returns-in_default-clause-all c = λ i h u is. absurd (none_some (item_cut _ _ c.in_default.ensures i h is))

pub returns-in_default-time_of-clause-all : goal.returns-in_default-time_of-clause-all
returns-in_default-time_of-clause-all c = λ i h u is.
    let p = parts_are c.in-Some.cut i (item_cut _ _ c.in-Some.ensures i h is) in
    absurd (none_some (c.in_default-time_of.ensures.all i.time h.time p.digits))

so : (time : ℕ) (text : List ℕ) → time ≤ last_stamp → (o : Option ItemLine) → o ≡ item_from time text → IfSome o IsItemLine
so time text h None e = tt
so time text h (Some i) e = read_is_line time text i h (sym e)

pub returns-in-Ok-clause-form : goal.returns-in-Ok-clause-form
returns-in-Ok-clause-form c =
    IfOk-weaker c.item_from.result _ (λ o. IfSome o IsItemLine) (so c.in-Some-time_of.time c.in-Ok.text.now c.in-Some-time_of.ensures.range) c.item_from.ensures

pub returns-in-Ok-clause-all : goal.returns-in-Ok-clause-all
returns-in-Ok-clause-all c =
    IfOk-weaker c.item_from.result _ (λ o. (i : ItemLine) → IsItemLine i → IsUtf8 (record_in i) → item_line i.time (record_in i) ≡ c.args.line.now → o ≡ Some i)
    (λ o e i h u is.
    let p = parts_are c.in-Some.cut i (item_cut _ _ c.in-Some.ensures i h is) in
    e ∙ (ap₂ item_from (some_same (c.in-Some-time_of.ensures.all i.time h.time p.digits)) (c.in-Ok.ensures.cases.0 ∙ p.text) ∙ written_read i h))
    c.item_from.ensures

pub returns-in-Err-clause-all : goal.returns-in-Err-clause-all
returns-in-Err-clause-all c = λ i h u is.
    let p = parts_are c.in-Some.cut i (item_cut _ _ c.in-Some.ensures i h is) in
    absurd (c.in-Err.ensures.cases.0 (subst IsUtf8 (sym p.text) u))
