use Rattle.std.proofs.Common.{◌≡◌, sym, ap, subst, ◌∙◌}
use Rattle.std.specs.Prelude.{ℕ, List, Bool, true, false, Result, Ok, Err, refl}
use Rattle.std.specs.Result.{IfOk, OnOk, OnErr}
use Rattle.ss_outside.specs.Causes.{Rose}
use Rattle.ss_bso.specs.declared.account.Plain.{Plain}
use Rattle.ss_bso.specs.Account.{tick}
use Rattle.ss_bso.specs.Validity.{SameAccount}
use Rattle.ss_query.specs.declared.replies.Mark.TheVariants.{Done, Keeper as KeeperMark, Memory as MemoryMark}
use Rattle.ss_query.specs.Marks.{mark_of}
use Rattle.ss_query.specs.Api.{outcome, refusal}
use Rattle.ss_laws.specs.Journals.{marked_outcome}
use Rattle.ss_keeper.specs.declared.calls.KeeperCalls.{KeeperCalls}
use Rattle.ss_keeper.specs.declared.faults.KeepFault.TheVariants.{Fault, Memory}
use Rattle.ss_account.specs.declared.ledger.Ledger.{Ledger}
use Rattle.ss_account.specs.Held.{AccountWithKeeper}
use Rattle.ss_account.specs.Keeping.{AsksOnce, IsHeldBy, IsSound, is_for_keeper}
use Rattle.ss_account.proofs.Keeping.{kept_by-beside, swept-tick}
use Rattle.ss_account.proofs.Sound.{sound-held, sound-same, sound-tick}
use Rattle.ss_account.proofs.Stepped.{Sides, Stepped, stepped-done, stepped-keeper, stepped-memory}
use Rattle.ss_account.proofs.Stepping.{api-mark}
use Rattle.ss_account.proofs.account.Account.step.Goals.{in-Ok, in-Err-Fault, in-Err-Memory}
use Rattle.ss_account.proofs.account.Account.step.Goals as goal
use Rattle.ss_account.proofs.account.Account.step.Given.{Over}

pub tick-requires : goal.tick-requires
tick-requires g c = c.self.invariant.few

pub answer-requires : goal.answer-requires
answer-requires g c =
    let told = g.K.Keeper.told c.self.inside.ledger.keeper in
    let sound = sound-tick told c.self.inside.state c.tick.new.self c.self.inside.ledger.ended c.tick.new.ended c.args.now c.tick.ensures.account c.tick.ensures.ended c.self.invariant in
    record {
      valid = sound.valid;
      swept = swept-tick c.self.inside.state c.tick.new.self c.args.now c.tick.ensures.account;
      told = sound.kept;
      fits = c.requires;
    }

sides : (g : Over) (c : goal.Joined-answer g) → Sides
sides g c = record {
  told = g.K.Keeper.told c.self.inside.ledger.keeper;
  told_after = g.K.Keeper.told c.answer.new.ledger.keeper;
  faults = g.K.Keeper.keep_faults c.self.inside.ledger.keeper;
  faults_after = g.K.Keeper.keep_faults c.answer.new.ledger.keeper;
}

stepped : (g : Over) (c : goal.Joined-answer g) → Stepped c.self.inside.state c.args.now c.args.request.now c.match-answer.result c.answer.new.self (sides g c)
unfolding sides
stepped g c =
    let account = c.self.inside.state in
    let ticked = c.tick.new.self in
    let now = c.args.now in
    let request = c.args.request.now in
    let left = c.answer.new.self in
    let told = g.K.Keeper.told c.self.inside.ledger.keeper in
    let after = g.K.Keeper.told c.answer.new.ledger.keeper in
    elim c.match-answer.branch [
      | in-Ok w ↦ stepped-done account ticked now request c.match-answer.result left (sides g c) c.tick.ensures.account c.self.invariant.valid c.requires
          (w.result-is ∙ subst (λ o. IfOk o (λ reply. reply ≡ (outcome ticked request (refusal ticked request)).reply)) w.in-Ok.is c.answer.ensures.reply)
          (subst (λ o. OnOk o (SameAccount (outcome ticked request (refusal ticked request)).account left)) w.in-Ok.is c.answer.ensures.account)
      | in-Err-Memory w ↦ stepped-memory account ticked now request c.match-answer.result left (sides g c) c.tick.ensures.account c.self.invariant.valid (w.result-is ∙ w.out_of_memory.ensures)
          (subst (λ o. OnErr o (left ≡ ticked)) w.in-Err-Memory.is c.answer.ensures.err)
          (subst (λ o. OnErr o (after ≡ told)) w.in-Err-Memory.is c.answer.ensures.refused)
      | in-Err-Fault w ↦ stepped-keeper account ticked now request c.match-answer.result left (sides g c) c.tick.ensures.account c.self.invariant.valid (w.result-is ∙ w.keeper_failed.ensures)
          (subst (λ o. OnErr o (left ≡ ticked)) w.in-Err-Fault.is c.answer.ensures.err)
          (subst (λ o. OnErr o (after ≡ told)) w.in-Err-Fault.is c.answer.ensures.refused)
          (c.answer.ensures.cause.fault (cc))
    ]

sound : (g : Over) (c : goal.Joined-answer g) → IsSound (g.K.Keeper.told c.answer.new.ledger.keeper) c.answer.new.self c.answer.new.ledger.ended
sound g c =
    let request = c.args.request.now in
    let ticked = c.tick.new.self in
    let left = c.answer.new.self in
    let told = g.K.Keeper.told c.self.inside.ledger.keeper in
    let after = g.K.Keeper.told c.answer.new.ledger.keeper in
    let ended : List ℕ = c.tick.new.ended in
    let more : List ℕ = c.answer.new.ledger.ended in
    let before = sound-tick told c.self.inside.state ticked c.self.inside.ledger.ended ended c.args.now c.tick.ensures.account c.tick.ensures.ended c.self.invariant in
    let asked : (b : Bool) → is_for_keeper ticked request ≡ b → OnOk c.answer.result (IsSound after left more) = λ b. elim b as (λ v. is_for_keeper ticked request ≡ v → OnOk c.answer.result (IsSound after left more)) [
      | true ↦ (λ e. both_ok c.answer.result (c.answer.ensures.cleared e) (c.answer.ensures.held e) (λ none held. sound-held after left more none held (stepped g c).valid))
      | false ↦ (λ e.
          let same = c.answer.ensures.unasked e in
          if_ok c.answer.result (sound-same told after ticked left ended more (ap (λ (l : Ledger _). g.K.Keeper.told l.keeper) same) (c.answer.ensures.quiet e) (ap (λ (l : Ledger _). l.ended) same) before))
    ] in
    elim c.match-answer.branch [
      | in-Ok w ↦ subst (λ o. OnOk o (IsSound after left more)) w.in-Ok.is (asked (is_for_keeper ticked request) refl)
      | in-Err-Memory w ↦ sound-same told after ticked left ended more (subst (λ o. OnErr o (after ≡ told)) w.in-Err-Memory.is c.answer.ensures.refused)
          (subst (λ o. OnErr o (left ≡ ticked)) w.in-Err-Memory.is c.answer.ensures.err) (subst (λ o. OnErr o (more ≡ ended)) w.in-Err-Memory.is c.answer.ensures.left) before
      | in-Err-Fault w ↦ sound-same told after ticked left ended more (subst (λ o. OnErr o (after ≡ told)) w.in-Err-Fault.is c.answer.ensures.refused)
          (subst (λ o. OnErr o (left ≡ ticked)) w.in-Err-Fault.is c.answer.ensures.err) (subst (λ o. OnErr o (more ≡ ended)) w.in-Err-Fault.is c.answer.ensures.left) before
    ]
  where
    both_ok : {T E : Type 0} {P Q R : Type 0} (r : Result T E) → OnOk r P → OnOk r Q → (P → Q → R) → OnOk r R
    both_ok (Ok x) p q f = f p q
    both_ok (Err x) p q f = tt

    if_ok : {T E : Type 0} {Q : Type 0} (r : Result T E) → Q → OnOk r Q
    if_ok (Ok x) q = q
    if_ok (Err x) q = tt

pub invariant_of-self : goal.invariant_of-self
invariant_of-self g c = sound g c

pub returns-clause-account : goal.returns-clause-account
returns-clause-account g c =
    subst (λ (a : AccountWithKeeper _). SameAccount (marked_outcome a.plain c.args.now c.args.request.now (mark_of c.match-answer.result)).account c.answer.new.self) c.self.view_is (stepped g c).same

pub returns-clause-reply : goal.returns-clause-reply
returns-clause-reply g c =
    subst (λ (a : AccountWithKeeper _). c.match-answer.result ≡ (marked_outcome a.plain c.args.now c.args.request.now (mark_of c.match-answer.result)).reply) c.self.view_is (stepped g c).told

pub returns-clause-valid : goal.returns-clause-valid
returns-clause-valid g c = (stepped g c).valid

pub returns-clause-kept : goal.returns-clause-kept
returns-clause-kept g c = kept_by-beside c.answer.new.ledger.ended (g.K.Keeper.told c.answer.new.ledger.keeper) c.answer.new.self (sound g c).kept

held : (g : Over) (c : goal.Joined-answer g) → mark_of c.match-answer.result ≡ Done → is_for_keeper c.tick.new.self c.args.request.now ≡ true → IsHeldBy (g.K.Keeper.told c.answer.new.ledger.keeper) c.answer.new.self
held g c m e =
    let after = g.K.Keeper.told c.answer.new.ledger.keeper in
    let left = c.answer.new.self in
    elim c.match-answer.branch [
      | in-Ok w ↦ subst (λ o. OnOk o (IsHeldBy after left)) w.in-Ok.is (c.answer.ensures.held e)
      | in-Err-Memory w ↦ absurd (let no : MemoryMark ≡ Done = sym (ap mark_of (w.result-is ∙ w.out_of_memory.ensures)) ∙ m in cc)
      | in-Err-Fault w ↦ absurd (let no : KeeperMark ≡ Done = sym (ap mark_of (w.result-is ∙ w.keeper_failed.ensures)) ∙ m in cc)
    ]

pub returns-clause-held : goal.returns-clause-held
returns-clause-held g c =
    let request = c.args.request.now in
    subst (λ (a : AccountWithKeeper _). mark_of c.match-answer.result ≡ Done → is_for_keeper (tick a.plain c.args.now) request ≡ true → IsHeldBy (g.K.Keeper.told c.answer.new.ledger.keeper) c.answer.new.self) c.self.view_is
    (λ m e. held g c m (ap (λ (t : Plain). is_for_keeper t request) c.tick.ensures.account ∙ e))

pub returns-clause-again : goal.returns-clause-again
returns-clause-again g c = (sound g c).again

pub returns-clause-refused : goal.returns-clause-refused
unfolding sides
returns-clause-refused g c = λ no. (stepped g c).refused no ∙ ap (λ (a : AccountWithKeeper _). g.K.Keeper.told a.keeper) c.self.view_is

pub returns-clause-unasked : goal.returns-clause-unasked
returns-clause-unasked g c =
    let request = c.args.request.now in
    subst (λ (a : AccountWithKeeper _). is_for_keeper (tick a.plain c.args.now) request ≡ false → c.answer.new.ledger.keeper ≡ a.keeper) c.self.view_is
    (λ e. ap (λ (l : Ledger _). l.keeper) (c.answer.ensures.unasked (ap (λ (t : Plain). is_for_keeper t request) c.tick.ensures.account ∙ e)))

pub returns-clause-cause : goal.returns-clause-cause
unfolding sides
returns-clause-cause g c = λ k.
    subst (λ (a : AccountWithKeeper _). Rose (g.K.Keeper.keep_faults a.keeper) (g.K.Keeper.keep_faults c.answer.new.ledger.keeper)) c.self.view_is ((stepped g c).cause k)

quiet : (g : Over) (c : goal.Joined-answer g) → (mark_of c.match-answer.result ≡ KeeperMark → ⊥) → g.K.Keeper.keep_faults c.answer.new.ledger.keeper ≡ g.K.Keeper.keep_faults c.self.inside.ledger.keeper
quiet g c other =
    elim c.match-answer.branch [
      | in-Ok w ↦ c.answer.ensures.cause.quiet (λ e. cc)
      | in-Err-Memory w ↦ c.answer.ensures.cause.quiet (λ e. cc)
      | in-Err-Fault w ↦ absurd (other (ap mark_of (w.result-is ∙ w.keeper_failed.ensures)))
    ]

pub returns-clause-quiet : goal.returns-clause-quiet
returns-clause-quiet g c = λ other. quiet g c other ∙ ap (λ (a : AccountWithKeeper _). g.K.Keeper.keep_faults a.keeper) c.self.view_is

-- memory was wanting in the answer, so the reply says so
marks_memory : (g : Over) (c : goal.Joined-answer g) → c.answer.result ≡ Err Memory → mark_of c.match-answer.result ≡ MemoryMark
marks_memory g c e =
    elim c.match-answer.branch [
      | in-Ok w ↦ absurd (let no = sym w.in-Ok.is ∙ e in cc)
      | in-Err-Memory w ↦ ap mark_of (w.result-is ∙ w.out_of_memory.ensures)
      | in-Err-Fault w ↦ absurd (let no = sym w.in-Err-Fault.is ∙ e in cc)
    ]

-- the reply says that the keeper failed, so it did
failed_at : (g : Over) (c : goal.Joined-answer g) → mark_of c.match-answer.result ≡ KeeperMark → c.answer.result ≡ Err Fault
failed_at g c m =
    let request = c.args.request.now in
    let ticked = c.tick.new.self in
    elim c.match-answer.branch [
      | in-Ok w ↦ absurd (
          let told = w.result-is ∙ subst (λ o. IfOk o (λ reply. reply ≡ (outcome ticked request (refusal ticked request)).reply)) w.in-Ok.is c.answer.ensures.reply in
          let no : KeeperMark ≡ Done = sym m ∙ ap mark_of told ∙ api-mark ticked request (refusal ticked request) in
          cc)
      | in-Err-Memory w ↦ absurd (let no : MemoryMark ≡ KeeperMark = sym (ap mark_of (w.result-is ∙ w.out_of_memory.ensures)) ∙ m in cc)
      | in-Err-Fault w ↦ cc
    ]

called : (g : Over) (c : goal.Joined-answer g)
    → AsksOnce c.tick.new.self c.args.request.now (mark_of c.match-answer.result) (g.K.Keeper.calls c.self.inside.ledger.keeper) (g.K.Keeper.calls c.answer.new.ledger.keeper)
called g c =
    let asks = is_for_keeper c.tick.new.self c.args.request.now in
    let before : KeeperCalls = g.K.Keeper.calls c.self.inside.ledger.keeper in
    let after : KeeperCalls = g.K.Keeper.calls c.answer.new.ledger.keeper in
    let never : asks ≡ false → after ≡ before = λ e. ap (λ (l : Ledger _). g.K.Keeper.calls l.keeper) (c.answer.ensures.unasked e) in
    record {
      never = never;
      once = λ e no. (c.answer.ensures.called e).once (λ m. no (marks_memory g c m));
      most = λ rose. decide asks (λ e. (c.answer.ensures.called e).most rose) (λ e. absurd (rose (never e)));
      failed = λ m. decide asks (λ e. e) (λ e. absurd (c.answer.ensures.own e (failed_at g c m)));
    }
  where
    decide : {X : Type 0} (b : Bool) → (b ≡ true → X) → (b ≡ false → X) → X
    decide true f h = f refl
    decide false f h = h refl

pub returns-clause-called : goal.returns-clause-called
returns-clause-called g c =
    let request = c.args.request.now in
    let mark = mark_of c.match-answer.result in
    let after : KeeperCalls = g.K.Keeper.calls c.answer.new.ledger.keeper in
    subst (λ (a : AccountWithKeeper _). AsksOnce (tick a.plain c.args.now) request mark (g.K.Keeper.calls a.keeper) after) c.self.view_is
    (subst (λ (t : Plain). AsksOnce t request mark (g.K.Keeper.calls c.self.inside.ledger.keeper) after) c.tick.ensures.account (called g c))
