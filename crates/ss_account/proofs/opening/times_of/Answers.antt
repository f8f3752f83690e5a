use Rattle.std.proofs.Common.{◌≡◌, ℕ, ◌+◌, cond, bytes_eq, sym, ap, ◌∙◌}
use Rattle.std.specs.Prelude.{Option, Some}
use Rattle.std.specs.HashMap.{get}
use Rattle.ss_bso.specs.Account.{time_of}
use Rattle.ss_account.specs.Opening.{is_bad_collection}
use Rattle.ss_writes.specs.Parts.{or_else}
use Rattle.ss_account.proofs.Opened.{bad-at, none-at, time-more, time_bad}
use Rattle.ss_account.proofs.opening.times_of.Goals as goal
use Rattle.ss_text.proofs.Basics.{take_push}

pub loop-entry-preserved : goal.loop-entry-preserved
loop-entry-preserved c =
    let all = c.args.collections.now in
    let k = c.loop-entry.entry-index in
    let entry = c.entry-item.result in
    let number : c.loop-entry.n + 1 ≡ k + 1 = ap (λ (m : ℕ). m + 1) c.loop-entry.invariant.number in
    let bad = time_bad c.args.store c.get-last.result all k (c.loop-entry.n + 1) entry (get bytes_eq c.loop-entry.times entry.0) c.in_ok-is_first.is_first c.is_bad_time.result
    c.loop-entry-test.true number c.loop-entry.invariant.same c.in_ok-is_first.ensures.first (c.loop-entry.invariant.times entry.0) c.is_bad_time.ensures in
    record {
      number = number;
      same = c.loop-entry.invariant.same;
      times = λ name. c.in_ok-is_first.ensures.times name
          ∙ ap (λ (o : Option ℕ). cond (bytes_eq entry.0 name) (or_else o (Some entry.1)) o) (c.loop-entry.invariant.times name)
          ∙ sym (ap (time_of name) (take_push all k entry c.loop-entry-test.true c.entry-item.is) ∙ time-more name _ entry);
      good = none-at (is_bad_collection c.args.store) all k entry c.loop-entry-test.true c.entry-item.is c.loop-entry.invariant.good (sym bad ∙ c.if-is_bad_time.false);
    }

pub returns-then-is_bad_time-clause-bad : goal.returns-then-is_bad_time-clause-bad
returns-then-is_bad_time-clause-bad c =
    let all = c.args.collections.now in
    let k = c.loop-entry.entry-index in
    let entry = c.entry-item.result in
    let number : c.loop-entry.n + 1 ≡ k + 1 = ap (λ (m : ℕ). m + 1) c.loop-entry.invariant.number in
    let bad = time_bad c.args.store c.get-last.result all k (c.loop-entry.n + 1) entry (get bytes_eq c.loop-entry.times entry.0) c.in_ok-is_first.is_first c.is_bad_time.result
    c.loop-entry-test.true number c.loop-entry.invariant.same c.in_ok-is_first.ensures.first (c.loop-entry.invariant.times entry.0) c.is_bad_time.ensures in
    bad-at (is_bad_collection c.args.store) all k (c.loop-entry.n + 1) entry c.loop-entry-test.true c.entry-item.is c.loop-entry.invariant.good (sym bad ∙ c.if-is_bad_time.true) number
