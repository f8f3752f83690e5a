use Rattle.std.proofs.Common.{◌≡◌, sym, ap, subst, ◌∙◌}
use Rattle.std.specs.Result.{IfOk}
use Rattle.ss_bso.specs.declared.account.Plain.{Plain}
use Rattle.ss_query.specs.declared.requests.Request.TheVariants.{Post}
use Rattle.ss_query.specs.declared.requests.Mode.TheVariants.{Commit}
use Rattle.ss_query.specs.Effect.{effect, is_write}
use Rattle.ss_plain.specs.Steps.{within}
use Rattle.ss_plain.proofs.Effects.{effect-commit}
use Rattle.ss_plain.proofs.writing.write.Goals as goal

pub returns-in-Commit : goal.returns-in-Commit
returns-in-Commit c =
    let account = c.args.account in
    let asked : c.args.request.now ≡ Post c.in-Post.collection c.in-Post.records (Commit c.in-Commit.batch) c.in-Post.cond =
    c.in-Post.is ∙ ap (λ mode. Post c.in-Post.collection c.in-Post.records mode c.in-Post.cond) c.in-Commit.is in
    let left = effect-commit account c.in-Post.collection c.in-Post.records c.in-Post.cond c.in-Commit.batch (sym (ap (is_write account) asked) ∙ c.requires.write) in
    subst (λ (plain : Plain). IfOk c.commit.result (λ after. after ≡ within account plain)) (sym (ap (effect account) asked ∙ left)) c.commit.ensures
