use Rattle.std.proofs.Common.{ap, ◌∙◌, ◌++◌, ◌∷◌, [], cond, bytes_eq}
use Rattle.std.specs.List.{list_any}
use Rattle.ss_writes.proofs.Made.{among-turn}
use Rattle.ss_writes.proofs.targets.Targets.add.Goals as goal

pub returns : goal.returns
returns c =
    let named = c.args.self.now in
    let id = c.args.id.now in
    let copied = c.in_ok-copy.ensures in
    let same = c.self.view_is in
    c.in_ok-insert.ensures.keys
    ∙ (λ i. cond (list_any (bytes_eq (copied i)) (same i)) (same i) (same i ++ copied i ∷ []))
    ∙ ap (λ b. cond b named (named ++ id ∷ [])) (among-turn id named)
