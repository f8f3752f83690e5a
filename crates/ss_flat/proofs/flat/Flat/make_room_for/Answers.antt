use Rattle.std.proofs.Common.{ap, ◌∙◌}
use Rattle.ss_flat.specs.Joining.{heard_among}
use Rattle.ss_flat.proofs.flat.Flat.make_room_for.Goals as goal

pub returns-clause-same : goal.returns-clause-same
returns-clause-same c =
    let inv = c.loop-id.invariant.same in
    record {
      kind = inv.kind ∙ c.reserve.ensures.kind;
      heard = λ id. inv.heard id ∙ ap (λ es. heard_among id es) c.reserve.ensures.entries;
    }
