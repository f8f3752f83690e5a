use Rattle.std.proofs.Common.{ℕ, cond, bytes_eq, sym, ap, ◌∙◌}
use Rattle.std.specs.Prelude.{Option, Some}
use Rattle.std.specs.HashMap.{get}
use Rattle.ss_bso.specs.Account.{time_of}
use Rattle.ss_text.proofs.Basics.{take_push}
use Rattle.ss_writes.specs.Parts.{or_else}
use Rattle.ss_account.proofs.Opened.{time-more}
use Rattle.ss_audit.proofs.Lists.{never}
use Rattle.ss_audit.proofs.Valid.{names_more, names_not}
use Rattle.ss_audit.proofs.validity.times_by_name.Goals as goal

pub loop-entry-preserved : goal.loop-entry-preserved
loop-entry-preserved c =
    let all = c.args.collections.now in
    let k = c.loop-entry.entry-index in
    let entry = c.entry-item.result in
    record {
      times = λ name. c.in_ok-is_first.ensures.times name
          ∙ ap (λ (o : Option ℕ). cond (bytes_eq entry.0 name) (or_else o (Some entry.1)) o) (c.loop-entry.invariant.times name)
          ∙ sym (ap (time_of name) (take_push all k entry c.loop-entry-test.true c.entry-item.is) ∙ time-more name _ entry);
      apart =
          names_more all k entry (get bytes_eq c.loop-entry.times entry.0) c.in_ok-is_first.is_first c.loop-entry-test.true c.entry-item.is c.in_ok-is_first.ensures.first
          (c.loop-entry.invariant.times entry.0) c.if-not-is_first.false c.loop-entry.invariant.apart;
    }

pub returns-then-not-is_first-clause-apart : goal.returns-then-not-is_first-clause-apart
returns-then-not-is_first-clause-apart c =
    let entry = c.entry-item.result in
    never (names_not c.args.collections.now c.loop-entry.entry-index entry (get bytes_eq c.loop-entry.times entry.0) c.in_ok-is_first.is_first c.loop-entry-test.true c.entry-item.is
    c.in_ok-is_first.ensures.first (c.loop-entry.invariant.times entry.0) c.if-not-is_first.true)
