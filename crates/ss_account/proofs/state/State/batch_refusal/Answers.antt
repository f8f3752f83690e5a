use Rattle.std.proofs.Common.{sym, ap, ◌∙◌, option_map}
use Rattle.ss_query.specs.declared.requests.Request.{Request}
use Rattle.ss_query.specs.declared.requests.Request.TheVariants.{Post}
use Rattle.ss_query.specs.Refused.{said_by}
use Rattle.ss_batch.specs.Stage.{append_fault}
use Rattle.ss_account.specs.Steps.{batch_cause, fault_body, stage_of}
use Rattle.ss_account.proofs.Batching.{append-said, commit-said}
use Rattle.ss_account.proofs.state.State.batch_refusal.Goals as goal

pub returns-in-Append : goal.returns-in-Append
returns-in-Append c =
    let account = c.args.self.now in
    let collection = c.in-Post.collection in
    let number = c.in-Append.batch in
    c.continue_refusal.ensures
    ∙ ap (λ parts. option_map fault_body (append_fault (stage_of account) number collection parts)) c.as_slice-parts.ensures
    ∙ append-said account collection c.in-Post.records number c.in-Post.cond c.requires
    ∙ ap (λ (request : Request). option_map said_by (batch_cause account request)) (sym (c.in-Post.is ∙ ap (λ mode. Post collection c.in-Post.records mode c.in-Post.cond) c.in-Append.is))

pub returns-in-Commit : goal.returns-in-Commit
returns-in-Commit c =
    let account = c.args.self.now in
    let collection = c.in-Post.collection in
    let number = c.in-Commit.batch in
    c.continue_refusal-in-Commit.ensures
    ∙ ap (λ parts. option_map fault_body (append_fault (stage_of account) number collection parts)) c.as_slice-parts.ensures
    ∙ commit-said account collection c.in-Post.records number c.in-Post.cond c.requires
    ∙ ap (λ (request : Request). option_map said_by (batch_cause account request)) (sym (c.in-Post.is ∙ ap (λ mode. Post collection c.in-Post.records mode c.in-Post.cond) c.in-Commit.is))
