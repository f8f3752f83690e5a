use Rattle.std.proofs.lemmas.Result.{on_ok_weaker}
use Rattle.ss_world.specs.Worlds.{server_of}
use Rattle.ss_world.proofs.Stepping.{editable, edits, unchanged}
use Rattle.ss_world.proofs.worlds.World.change.Goals as goal

pub returns-clause-happens : goal.returns-clause-happens
returns-clause-happens c =
    on_ok_weaker c.edit_at.result (λ h. edits c.args.self.now (server_of c.self.inside.account) c.self.inside.seats.items c.edit_at.new.seats.items c.args.n c.args.now c.args.edit.now c.self.view_is h.0 h.1 h.2) c.edit_at.ensures.changed

pub returns-clause-permitted : goal.returns-clause-permitted
returns-clause-permitted c =
    on_ok_weaker c.edit_at.result (λ h. editable c.args.self.now (server_of c.self.inside.account) c.self.inside.seats.items c.edit_at.new.seats.items c.args.n c.args.now c.args.edit.now c.self.view_is h.0 h.1 h.2) c.edit_at.ensures.changed

pub returns-clause-refused : goal.returns-clause-refused
returns-clause-refused c =
    unchanged c.edit_at.result c.args.self.now (server_of c.self.inside.account) c.self.inside.seats.items c.edit_at.new.seats.items c.args.n c.args.now c.args.edit.now c.self.view_is c.edit_at.ensures.refused c.edit_at.ensures.wanting c.edit_at.ensures.left
