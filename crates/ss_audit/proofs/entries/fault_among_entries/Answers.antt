use Rattle.std.proofs.Common.{◌≡◌, ◌+◌, ◌<◌, ◌≤◌, ℕ, length, get_or, subst, sym, ap, ◌∙◌, arith}
use Rattle.ss_booked.specs.Sizes.{most_entries, most_journal_bytes}
use Rattle.ss_audit.proofs.Rising.{limits_fail, seen_more, ticket_fails}
use Rattle.ss_audit.proofs.entries.fault_among_entries.Goals as goal
use Rattle.ss_audit.proofs.entries.fault_among_entries.Goals.{then-n-most-via-then-n-most}
use Rattle.ss_audit.proofs.entries.fault_among_entries.Goals.{then-n-most-via-else-n-most+then-bytes-ge-MOST_JOURNAL_BYTES}

pub returns-then-not-rises-clause-some : goal.returns-then-not-rises-clause-some
returns-then-not-rises-clause-some c = λ closing goes_on.
    ticket_fails c.args.log.now c.loop-entry.entry-index c.entry-item.result
    (subst (λ es. c.loop-entry.entry-index < length es) c.entries-entry-items.ensures c.loop-entry-test.true)
    (subst (λ es. c.entry-item.result ≡ get_or es c.loop-entry.entry-index c.entry-item.result) c.entries-entry-items.ensures c.entry-item.is)
    c.loop-entry.last c.loop-entry.bytes c.loop-entry.invariant.seen closing (c.loop-entry.n + 1) (ap (λ (m : ℕ). m + 1) c.loop-entry.invariant.number) c.requires.valid
    (sym c.rises.ensures ∙ c.if-not-rises.true) goes_on

pub returns-then-n-most-clause-some : goal.returns-then-n-most-clause-some
returns-then-n-most-clause-some c = λ closing goes_on.
    limits_fail c.args.log.now c.loop-entry.entry-index c.entry-item.result
    (subst (λ es. c.loop-entry.entry-index < length es) c.entries-entry-items.ensures c.loop-entry-test.true)
    (subst (λ es. c.entry-item.result ≡ get_or es c.loop-entry.entry-index c.entry-item.result) c.entries-entry-items.ensures c.entry-item.is)
    c.loop-entry.last c.loop-entry.bytes c.loop-entry.invariant.seen closing (c.loop-entry.n + 1) (ap (λ (m : ℕ). m + 1) c.loop-entry.invariant.number) c.requires.valid
    (sym c.rises.ensures ∙ c.if-not-rises.false)
    (λ room few light.
    elim c.then-n-most.branch [
      | then-n-most-via-then-n-most w ↦ omega (arith, room, few, w.if-n-most.true, c.loop-entry.invariant.most, c.loop-entry.invariant.number)
      | then-n-most-via-else-n-most+then-bytes-ge-MOST_JOURNAL_BYTES w ↦ omega (arith, light, w.if-bytes-ge-MOST_JOURNAL_BYTES.true)
    ])
    goes_on

pub loop-entry-preserved : goal.loop-entry-preserved
loop-entry-preserved c =
    let room : c.loop-entry.entry-index + 1 ≤ c.args.log.now.most = omega (arith, c.if-n-most.false, c.loop-entry.invariant.most, c.loop-entry.invariant.number) in
    let few : c.loop-entry.entry-index + 1 ≤ most_entries = omega (arith, c.if-n-most.false, c.loop-entry.invariant.most, c.loop-entry.invariant.number) in
    let light : c.loop-entry.bytes < most_journal_bytes = omega (arith, c.if-bytes-ge-MOST_JOURNAL_BYTES.false) in
    record {
      number = ap (λ (m : ℕ). m + 1) c.loop-entry.invariant.number;
      most = c.loop-entry.invariant.most;
      seen =
          seen_more c.args.log.now c.loop-entry.entry-index c.entry-item.result
          (subst (λ es. c.loop-entry.entry-index < length es) c.entries-entry-items.ensures c.loop-entry-test.true)
          (subst (λ es. c.entry-item.result ≡ get_or es c.loop-entry.entry-index c.entry-item.result) c.entries-entry-items.ensures c.entry-item.is)
          c.loop-entry.last c.loop-entry.bytes c.loop-entry.invariant.seen _ _ (sym c.rises.ensures ∙ c.if-not-rises.false) room few light (λ _. c.entry-item.result.ticket)
          (ap (λ (b : ℕ). c.loop-entry.bytes + b) c.bytes_of_request-bytes.ensures.bytes);
    }
