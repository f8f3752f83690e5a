use Rattle.std.proofs.Common.{◌++◌, ◌-◌, ◌∙◌, ap, take, drop, arith, rules, ◌+◌, slice_index_or}
use Rattle.json.specs.Print.{escape, escape_byte}
use Rattle.ss_text.proofs.Strings.{plain_to, after_plain, after_escape, more_behind}
use Rattle.ss_text.proofs.json_texts.push_escaped.Goals as goal

pub slice_bounds-extend_from_slice-end : goal.slice_bounds-extend_from_slice-end
slice_bounds-extend_from_slice-end c =
    let p = plain_to c.args.text.now c.loop-at.at c.plain_end-end.result (omega arith) c.plain_end-end.ensures in
    search (rules, p.later, p.within)

pub push_escape-requires : goal.push_escape-requires
push_escape-requires c = (plain_to c.args.text.now c.loop-at.at c.plain_end-end.result (omega arith) c.plain_end-end.ensures).stops c.if-end-text.true

pub loop-at-preserved-then-end-text : goal.loop-at-preserved-then-end-text
loop-at-preserved-then-end-text c =
    let t = c.args.text.now in
    let old = c.args.out.now.items in
    let p = plain_to t c.loop-at.at c.plain_end-end.result (omega arith) c.plain_end-end.ensures in
    let plain = c.in_ok-extend_from_slice.ensures.items in
    let escaped = c.in_ok-push_escape.ensures.ok in
    let behind = after_plain c.loop-at.out.items old t c.loop-at.at c.plain_end-end.result p c.loop-at.invariant.1 in
    let step = after_escape c.extend_from_slice.new.self.items old t c.plain_end-end.result c.if-end-text.true (ap (λ l. l ++ escape (drop c.plain_end-end.result t)) plain ∙ behind) in
    let more = more_behind c.loop-at.out.items old (take (c.plain_end-end.result - c.loop-at.at) (drop c.loop-at.at t)) c.loop-at.invariant.2 in
    let last = more_behind c.extend_from_slice.new.self.items old (escape_byte (slice_index_or t c.plain_end-end.result 0)) (more.0, plain ∙ more.1) in
    (omega arith, ap (λ l. l ++ escape (drop (c.plain_end-end.result + 1) t)) escaped ∙ step, (last.0, escaped ∙ last.1))

pub loop-at-preserved : goal.loop-at-preserved
loop-at-preserved c =
    let t = c.args.text.now in
    let old = c.args.out.now.items in
    let p = plain_to t c.loop-at.at c.plain_end-end.result (omega arith) c.plain_end-end.ensures in
    let plain = c.in_ok-extend_from_slice.ensures.items in
    let behind = after_plain c.loop-at.out.items old t c.loop-at.at c.plain_end-end.result p c.loop-at.invariant.1 in
    let more = more_behind c.loop-at.out.items old (take (c.plain_end-end.result - c.loop-at.at) (drop c.loop-at.at t)) c.loop-at.invariant.2 in
    (p.within, ap (λ l. l ++ escape (drop c.plain_end-end.result t)) plain ∙ behind, (more.0, plain ∙ more.1))
