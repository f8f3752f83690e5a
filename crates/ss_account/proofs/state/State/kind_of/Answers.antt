use Rattle.std.proofs.Common.{sym, subst}
use Rattle.ss_query.specs.declared.requests.Request.{Request}
use Rattle.ss_account.specs.Kinds.{IsKindOf}
use Rattle.ss_account.proofs.state.State.kind_of.Goals as goal

pub returns-in-Post : goal.returns-in-Post
returns-in-Post c = subst (λ (request : Request). IsKindOf c.args.self.now request c.post_kind.result) (sym c.in-Post.is) (c.post_kind.ensures c.in-Post.cond)
