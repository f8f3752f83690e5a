use Rattle.std.proofs.Common.{◌≡◌, ◌+◌, ap, drop, arith, slice_index_or}
use Rattle.std.proofs.lemmas.List.{drop_all}
use Rattle.ss_text.specs.Decimals.{inside}
use Rattle.ss_text.specs.Scan.{inside_len}
use Rattle.ss_text.proofs.Scans.{two_more, one_more, no_more, a_quote}
use Rattle.ss_text.proofs.decimals.inside_end.Goals as goal
use Rattle.ss_text.proofs.decimals.inside_end.Goals.{then-end-text, else-end-text}

pub loop-end-init : goal.loop-end-init
loop-end-init c = let e = c.quote_or_backslash-end.ensures in (e.within, e.passed, e.stops)

pub loop-end-preserved : goal.loop-end-preserved
loop-end-preserved c =
    let t = c.args.text.now in
    let end = c.loop-end.end in
    let next = c.quote_or_backslash-end-in-loop-end.ensures in
    let behind = c.if-end-text.behind in
    let step : end + inside_len inside (drop end t) ≡ behind + inside_len inside (drop behind t) = elim c.if-end-text.branch [
      | then-end-text w ↦ omega (arith, two_more t end w.if-end-text.true c.if-text-end-eq92.true, ap (λ m. inside_len inside (drop m t)) w.behind-is, w.behind-is)
      | else-end-text w ↦ omega (arith, one_more t end (omega (arith, w.if-end-text.false)) c.if-text-end-eq92.true, ap (inside_len inside) (drop_all behind t (omega (arith, w.if-end-text.false, w.behind-is))), w.behind-is)
    ] in
    (next.within, omega (arith, step, next.passed, c.loop-end.invariant.1), next.stops)

pub returns-else-text-end-eq92 : goal.returns-else-text-end-eq92
returns-else-text-end-eq92 c =
    let t = c.args.text.now in
    let quote = a_quote (slice_index_or t c.loop-end.end 0) (c.loop-end.invariant.2 c.loop-end-test.true) c.if-text-end-eq92.false in
    omega (arith, no_more t c.loop-end.end c.loop-end-test.true quote, c.loop-end.invariant.1)

pub returns-after-loop-end : goal.returns-after-loop-end
returns-after-loop-end c =
    let t = c.args.text.now in
    omega (arith, ap (inside_len inside) (drop_all c.loop-end.end t (omega arith)), c.loop-end.invariant.1)
