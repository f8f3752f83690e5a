use Rattle.std.proofs.Common.{◌≡◌, false, true, sym, ap, subst, ◌∙◌}
use Rattle.std.specs.Result.{IfOk}
use Rattle.ss_bso.specs.Write.{ids_of}
use Rattle.ss_query.specs.declared.requests.Request.{Request}
use Rattle.ss_query.specs.declared.requests.Request.TheVariants.{Post}
use Rattle.ss_query.specs.declared.requests.Mode.TheVariants.{Commit}
use Rattle.ss_query.specs.declared.replies.Body.TheVariants.{Gone, Posted}
use Rattle.ss_query.specs.Effect.{effect, is_over, is_write, stamp_in}
use Rattle.ss_query.specs.Told.{body_of, first_failures}
use Rattle.ss_text.specs.declared.stamps.Cond.TheVariants.{Free}
use Rattle.ss_account.specs.Kinds.{request_written}
use Rattle.ss_account.specs.Steps.{account_after_commit}
use Rattle.ss_writes.specs.declared.pending.Pending.TheVariants.{DropCollection}
use Rattle.ss_writes.specs.Pending.{Tells, account_after_pending}
use Rattle.ss_account.proofs.Batching.{committed-effect}
use Rattle.ss_account.proofs.Stepping.{over-deleted, told-as}
use Rattle.ss_account.proofs.state.State.prepare.Goals as goal

pub returns-in-Commit : goal.returns-in-Commit
returns-in-Commit c =
    let account = c.args.self.now in
    let collection = c.in-Commit.collection.now in
    let records = c.in-Commit.records.now in
    let number = c.in-Commit.batch in
    let asked : Request = Post collection records (Commit number) Free in
    let is : request_written c.args.request ≡ asked = ap request_written c.in-Commit.is in
    let writes : is_write account asked ≡ true = ap (is_write account) (sym is) ∙ c.requires.write in
    subst (λ (request : Request). IfOk c.commit.result (λ found. Tells account c.args.stamp (effect account request) (body_of account request (stamp_in account)) found)) (sym is)
    (told-as account _ (effect account asked) c.args.stamp (Posted c.args.stamp (ids_of records.parts) (first_failures records.failed)) _ c.commit.result c.commit.ensures
    (ap (account_after_commit account collection records.parts number) c.requires.stamp ∙ committed-effect account collection records number Free writes)
    (ap (λ time. Posted time (ids_of records.parts) (first_failures records.failed)) c.requires.stamp))

pub returns-in_ok-collection-in-DeleteCollection : goal.returns-in_ok-collection-in-DeleteCollection
returns-in_ok-collection-in-DeleteCollection c =
    let account = c.args.self.now in
    let stamp = c.args.stamp in
    let name = c.in_ok-collection-in-DeleteCollection.collection in
    subst (λ (r : Request). (is_over (effect account r) ≡ false) × (account_after_pending account stamp (DropCollection name) ≡ effect account r) × Unit {0} × (Gone stamp ≡ body_of account r (stamp_in account)))
    (ap request_written (sym c.in-DeleteCollection.is)) (
      over-deleted account c.in-DeleteCollection.collection.now c.requires.valid.limits,
      (λ i. account_after_pending account (c.requires.stamp i) (DropCollection (c.in_ok-collection-in-DeleteCollection.ensures i))),
      tt,
      ap Gone c.requires.stamp,
    )
