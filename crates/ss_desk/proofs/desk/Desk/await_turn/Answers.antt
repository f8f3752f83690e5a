use Rattle.std.proofs.Common.{rules, ◌∙◌, ap, subst, sym}
use Rattle.ss_desk.specs.Views.{Live}
use Rattle.ss_desk.proofs.Turns.{looks}
use Rattle.ss_desk.proofs.desk.Desk.await_turn.Goals as goal

pub load-serving-requires : goal.load-serving-requires
load-serving-requires g c = let k = g.T.Journaled in let s = c.args.self.now.table.shared in let seat = c.loop.seat in let same = c.loop.invariant.3 in (
  search rules,
  search rules,
  looks k.ticket_of k.pass_of k.fixed k.entries k.legal (k.fixed s.key.value) s.table_id.slots seat.id c.args.ticket seat.me
      (ap (λ m. m.1) same ∙ c.requires.bare) (ap (λ m. m.0.stage) same ∙ c.requires.waits) (subst (λ m. Live m.0) (sym same) c.requires.live),
)
