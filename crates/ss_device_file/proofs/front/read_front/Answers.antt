use Rattle.std.proofs.Common.{ℕ, ◌-◌, List, length, take, drop, subst}
use Rattle.std.proofs.lemmas.List.{take_rest}
use Rattle.ss_device_file.specs.Files.{IsNextLine}
use Rattle.ss_device_file.specs.declared.lines.Line.{Line}
use Rattle.ss_device_file.proofs.Chained.{more_read, none_read}
use Rattle.ss_device_file.proofs.front.read_front.Goals as goal

pub lines-init : goal.lines-init
lines-init c = none_read c.args.text.now c.new-lines.result.items c.new-lines.ensures.items

pub lines-preserved : goal.lines-preserved
lines-preserved c =
    more_read c.args.text.now c.lines.lines.items c.keep.new.lines.items c.lines.used c.in_ok-next.next.length c.in_ok-next.next.line c.lines.invariant
    (subst (λ (rest : List ℕ). IsNextLine c.lines.lines.items rest c.in_ok-next.next.line c.in_ok-next.next.length) (take_rest c.args.text.now c.lines.used)
    (subst (λ (ls : List Line). IsNextLine ls (take (length c.args.text.now - c.lines.used) (drop c.lines.used c.args.text.now)) c.in_ok-next.next.line c.in_ok-next.next.length) c.deref-in-lines.ensures.value c.in_ok-next.ensures.next))
    c.in_ok-keep.ensures
