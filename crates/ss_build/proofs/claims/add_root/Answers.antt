use Rattle.std.proofs.Common.{◌++◌, ◌∷◌, [], ◌∙◌, ap, sym, cond}
use Rattle.ss_build.specs.Built.{empty_root}
use Rattle.ss_build.proofs.Kept.{there, not_there}
use Rattle.ss_build.proofs.claims.add_root.Goals as goal

pub returns-then-place-len : goal.returns-then-place-len
returns-then-place-len c =
    sym (ap (λ b. cond b c.args.claims.now.items (c.args.claims.now.items ++ empty_root c.args.root.now ∷ []))
    (there c.args.root.now c.args.read.now.keys c.place.result c.len.result c.place.ensures.place c.len.ensures.len c.if-place-len.true))

pub returns : goal.returns
returns c =
    c.in_ok-push.ensures.items
    ∙ (ap (λ e. c.args.claims.now.items ++ e ∷ []) c.in_ok-empty_root.ensures
    ∙ sym (ap (λ b. cond b c.args.claims.now.items (c.args.claims.now.items ++ empty_root c.args.root.now ∷ []))
    (not_there c.args.root.now c.args.read.now.keys c.place.result c.len.result c.place.ensures.place c.len.ensures.len c.if-place-len.false)))
