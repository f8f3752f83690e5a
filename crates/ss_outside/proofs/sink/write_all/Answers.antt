use Rattle.std.proofs.Common.{◌≤◌, ◌<◌, ◌∙◌, [], take, drop, length, refl, sym, arith, length-drop}
use Rattle.std.proofs.lemmas.List.{take-append-drop, take_rest}
use Rattle.std.proofs.lemmas.Result.{err_from_is_err_and}
use Rattle.ss_outside.specs.Told.{HasWritten}
use Rattle.ss_outside.proofs.Telling.{HasWritten-further, HasWritten-nothing, HasWritten-none}
use Rattle.ss_outside.proofs.sink.write_all.Goals as goal

pub loop-at-init : goal.loop-at-init
loop-at-init g c = record {
  within = omega arith;
  written = HasWritten-none (g.T.Told.told c.args.sink.now);
  faults = refl;
}

pub returns-in_err-count-clause-partly : goal.returns-in_err-count-clause-partly
returns-in_err-count-clause-partly g c =
    let from = c.args.from.now in
    let at = c.loop-at.at in
    let p = err_from_is_err_and c.from_residual.result c.from_residual.ensures.1 in
    rw (p.1) (
      take at from,
      drop at from,
      sym (take-append-drop at from),
      HasWritten-nothing (take at from) (g.T.Told.told c.args.sink.now) (g.T.Told.told c.loop-at.sink) (g.T.Told.told c.write.new.self) c.loop-at.invariant.written c.in_err-count.ensures.bytes,
    )

pub returns-then-count-eq0-clause-partly : goal.returns-then-count-eq0-clause-partly
returns-then-count-eq0-clause-partly g c =
    let from = c.args.from.now in
    let at = c.loop-at.at in
    let w : HasWritten [] (g.T.Told.told c.loop-at.sink) (g.T.Told.told c.write.new.self) = rw c.if-count-eq0.true at c.in_ok-count.ensures.bytes in (
      take at from,
      drop at from,
      sym (take-append-drop at from),
      HasWritten-nothing (take at from) (g.T.Told.told c.args.sink.now) (g.T.Told.told c.loop-at.sink) (g.T.Told.told c.write.new.self) c.loop-at.invariant.written w,
    )

pub loop-at-preserved : goal.loop-at-preserved
loop-at-preserved g c =
    let e = c.in_ok-count.ensures in
    let i = c.loop-at.invariant in
    let from = c.args.from.now in
    let at = c.loop-at.at in
    let n = c.in_ok-count.count in
    let bound : n ≤ length (drop at from) = rw take_rest at e.bound in
    let written : HasWritten (take n (drop at from)) (g.T.Told.told c.loop-at.sink) (g.T.Told.told c.write.new.self) = rw take_rest at e.bytes in
    let some : 0 < n = omega (arith, c.if-count-eq0.false) in
    record {
      within = omega (arith, length-drop at from, bound);
      written = HasWritten-further from at n (g.T.Told.told c.args.sink.now) (g.T.Told.told c.loop-at.sink) (g.T.Told.told c.write.new.self) i.written written;
      faults = e.cause.1 some ∙ i.faults;
    }
