use Rattle.std.proofs.Common.{rules, ◌≡◌, true, false, nat_le, subst, sym, arith}
use Rattle.ss_bso.specs.declared.account.Plain.{Plain}
use Rattle.ss_bso.specs.Validity.{SameAccount}
use Rattle.std.proofs.lemmas.Bool.Decides.{nat_tests}
use Rattle.std.proofs.lemmas.Result.{err_from_is_err_and}
use Rattle.ss_text.specs.Time.{last_stamp}
use Rattle.ss_query.specs.Effect.{effect, is_over, stamp_in}
use Rattle.ss_account.specs.Kinds.{request_written}
use Rattle.ss_account.specs.Steps.{late_refusal}
use Rattle.ss_query.specs.Told.{body_of}
use Rattle.ss_writes.specs.Pending.{Tells}
use Rattle.ss_account.proofs.Asking.{asked-as, cause-as}
use Rattle.ss_account.proofs.Stepping.{late-clock, late-full, refused-account, written-account, written-reply}
use Rattle.ss_account.proofs.state.State.write.Goals as goal

pub returns-clause-reply : goal.returns-clause-reply
returns-clause-reply g c =
    let account = c.args.self.now in
    let request = request_written c.args.request in
    let stamp = c.next_stamp-stamp.result in
    let clock : nat_le last_stamp account.store ≡ false = grind (arith, nat_tests) in
    written-reply account request stamp c.in-Some.pending c.in-Some.body c.requires.write clock c.next_stamp-stamp.ensures
    (subst (λ o. Tells account stamp (effect account request) (body_of account request (stamp_in account)) o) c.in-Some.is c.in_ok-pending.ensures)

pub returns-clause-account : goal.returns-clause-account
returns-clause-account g c =
    let account = c.args.self.now in
    let request = request_written c.args.request in
    let stamp = c.next_stamp-stamp.result in
    let clock : nat_le last_stamp account.store ≡ false = grind (arith, nat_tests) in
    subst (λ (a : Plain). SameAccount a c.keep.new.self)
    (sym (written-account account request stamp c.in-Some.pending c.in-Some.body c.requires.write clock
    (subst (λ o. Tells account stamp (effect account request) (body_of account request (stamp_in account)) o) c.in-Some.is c.in_ok-pending.ensures))) c.in_ok-keep.ensures.ok

pub returns-then-get-eq-LAST-clause-account : goal.returns-then-get-eq-LAST-clause-account
returns-then-get-eq-LAST-clause-account g c =
    let account = c.args.self.now in
    let request = request_written c.args.request in
    let clock : nat_le last_stamp account.store ≡ true = grind (arith, nat_tests) in
    refused-account account request (late_refusal account request) (late-clock account request c.requires.write clock)

pub returns-in_default-clause-account : goal.returns-in_default-clause-account
returns-in_default-clause-account g c =
    let account = c.args.self.now in
    let request = request_written c.args.request in
    let clock : nat_le last_stamp account.store ≡ false = grind (arith, nat_tests) in
    let over : is_over (effect account request) ≡ true = search rules in
    refused-account account request (late_refusal account request) (late-full account request c.requires.write clock over)

pub returns-in_err-keep-clause-cause : goal.returns-in_err-keep-clause-cause
returns-in_err-keep-clause-cause g c =
    let p = err_from_is_err_and c.from_residual-in_err-keep.result c.from_residual-in_err-keep.ensures.1 in
    rw (p.1, p.2) (cause-as c.in_err-keep.ensures.cause)

pub returns-in_err-keep-clause-called : goal.returns-in_err-keep-clause-called
returns-in_err-keep-clause-called g c =
    let p = err_from_is_err_and c.from_residual-in_err-keep.result c.from_residual-in_err-keep.ensures.1 in
    rw (p.1, p.2) (λ e. asked-as c.in_err-keep.ensures.called)
