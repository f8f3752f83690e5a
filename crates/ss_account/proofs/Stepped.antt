-- What a step comes to, where it answers by the API, where memory ran out and where the keeper failed.
use Rattle.std.specs.Prelude.{◌≡◌, ℕ, Option, None}
use Rattle.std.proofs.Common.{sym, ap, subst, ◌∙◌}
use Rattle.ss_outside.specs.Causes.{Rose}
use Rattle.ss_bso.specs.declared.account.Plain.{Plain}
use Rattle.ss_bso.specs.declared.changes.Kept.{Kept}
use Rattle.ss_bso.specs.Account.{tick}
use Rattle.ss_query.specs.declared.requests.Request.{Request}
use Rattle.ss_query.specs.declared.replies.Reply.{Reply}
use Rattle.ss_query.specs.declared.replies.Body.TheVariants.{Said}
use Rattle.ss_query.specs.declared.replies.Said.TheVariants.{Keeper as KeeperWord, Memory as MemoryWord}
use Rattle.ss_query.specs.declared.replies.Mark.TheVariants.{Done, Keeper, Memory}
use Rattle.ss_query.specs.Marks.{mark_of}
use Rattle.ss_bso.specs.Validity.{IsValid, SameAccount}
use Rattle.ss_query.specs.Fit.{IsFitRequest}
use Rattle.ss_query.specs.Api.{api, outcome, refusal}
use Rattle.ss_laws.specs.Journals.{marked_outcome}
use Rattle.ss_account.specs.Steps.{plain_reply}
use Rattle.ss_bso.proofs.Reordering.{same-self}
use Rattle.ss_account.proofs.Stepping.{api-mark}
use Rattle.ss_laws.proofs.SameValid.{valid-same}
use Rattle.ss_laws.proofs.Valid.{valid-tick, valid-api}

-- told and counted before and after
pub record Sides : Type 0 where
  pub told : Option Kept
  pub told_after : Option Kept
  pub faults : ℕ
  pub faults_after : ℕ

pub record Stepped (account : Plain) (now : ℕ) (request : Request) (reply : Reply) (left : Plain) (s : Sides) : Type 0 where
  pub same : SameAccount (marked_outcome account now request (mark_of reply)).account left
  pub told : reply ≡ (marked_outcome account now request (mark_of reply)).reply
  pub valid : IsValid left
  pub refused : (mark_of reply ≡ Done → ⊥) → s.told_after ≡ s.told
  pub cause : mark_of reply ≡ Keeper → Rose s.faults s.faults_after

pub stepped-done : (account ticked : Plain) (now : ℕ) (request : Request) (reply : Reply) (left : Plain) (s : Sides) → ticked ≡ tick account now → IsValid account → IsFitRequest request
    → reply ≡ (outcome ticked request (refusal ticked request)).reply → SameAccount (outcome ticked request (refusal ticked request)).account left → Stepped account now request reply left s
stepped-done account ticked now request reply left s e valid fit_request r l =
    let told : reply ≡ (api account now request).reply = r ∙ ap (λ (t : Plain). (outcome t request (refusal t request)).reply) e in
    let same : SameAccount (api account now request).account left = subst (λ (t : Plain). SameAccount (outcome t request (refusal t request)).account left) e l in
    let mark : mark_of reply ≡ Done = ap mark_of told ∙ api-mark (tick account now) request (refusal (tick account now) request) in
    record {
      same = subst (λ m. SameAccount (marked_outcome account now request m).account left) (sym mark) same;
      told = subst (λ m. reply ≡ (marked_outcome account now request m).reply) (sym mark) told;
      valid = valid-same (api account now request).account left (valid-api account now request valid fit_request) same;
      refused = λ no. absurd (no mark);
      cause = λ k. absurd (let no : Done ≡ Keeper = sym mark ∙ k in cc);
    }

pub stepped-memory : (account ticked : Plain) (now : ℕ) (request : Request) (reply : Reply) (left : Plain) (s : Sides) → ticked ≡ tick account now → IsValid account
    → reply ≡ plain_reply left.moment 507 None (Said MemoryWord) → left ≡ ticked → s.told_after ≡ s.told → Stepped account now request reply left s
stepped-memory account ticked now request reply left s e valid r l t =
    let same : left ≡ tick account now = l ∙ e in
    let told : reply ≡ plain_reply (tick account now).moment 507 None (Said MemoryWord) = r ∙ ap (λ (a : Plain). plain_reply a.moment 507 None (Said MemoryWord)) same in
    let mark : mark_of reply ≡ Memory = ap mark_of told in
    record {
      same = subst (λ m. SameAccount (marked_outcome account now request m).account left) (sym mark) (subst (λ (a : Plain). SameAccount (tick account now) a) (sym same) (same-self (tick account now)));
      told = subst (λ m. reply ≡ (marked_outcome account now request m).reply) (sym mark) told;
      valid = subst IsValid (sym same) (valid-tick account now valid);
      refused = λ no. t;
      cause = λ k. absurd (let no : Memory ≡ Keeper = sym mark ∙ k in cc);
    }

pub stepped-keeper : (account ticked : Plain) (now : ℕ) (request : Request) (reply : Reply) (left : Plain) (s : Sides) → ticked ≡ tick account now → IsValid account
    → reply ≡ plain_reply left.moment 503 None (Said KeeperWord) → left ≡ ticked → s.told_after ≡ s.told → Rose s.faults s.faults_after → Stepped account now request reply left s
stepped-keeper account ticked now request reply left s e valid r l t rose =
    let same : left ≡ tick account now = l ∙ e in
    let told : reply ≡ plain_reply (tick account now).moment 503 None (Said KeeperWord) = r ∙ ap (λ (a : Plain). plain_reply a.moment 503 None (Said KeeperWord)) same in
    let mark : mark_of reply ≡ Keeper = ap mark_of told in
    record {
      same = subst (λ m. SameAccount (marked_outcome account now request m).account left) (sym mark) (subst (λ (a : Plain). SameAccount (tick account now) a) (sym same) (same-self (tick account now)));
      told = subst (λ m. reply ≡ (marked_outcome account now request m).reply) (sym mark) told;
      valid = subst IsValid (sym same) (valid-tick account now valid);
      refused = λ no. t;
      cause = λ k. rose;
    }
