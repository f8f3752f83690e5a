use Rattle.std.proofs.Common.{subst, ◌∙◌}
use Rattle.ss_flat.specs.Joining.{Joins, heard_among}
use Rattle.ss_flat.specs.States.{heard_of}
use Rattle.ss_flat.proofs.Keeping.{joined_state}
use Rattle.ss_flat.proofs.flat.Flat.join.Goals as goal

pub returns-clause-joined : goal.returns-clause-joined
returns-clause-joined c =
    let more = c.in_ok-more.more.items in
    let room = c.make_room_for.ensures.same in
    joined_state c.args.self.now c.args.other.now c.put_all.new.self more c.requires (c.put_all.ensures.kind ∙ room.kind) c.in_ok-more.ensures.same
    (λ id. subst (λ h. Joins h (heard_among id more) (heard_of id c.put_all.new.self)) (room.heard id) (c.put_all.ensures.joins id))
