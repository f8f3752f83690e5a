use Rattle.std.proofs.Crossing.{crosses}
use denote.Param.Send.{sendable}
use Rattle.ss_desk.proofs.desk.Desk.TheSendSync as desk
use Rattle.ss_desk.specs.Desks.{view}
use Rattle.ss_desk.proofs.Covering.{covers_again}
use Rattle.ss_booked.proofs.Crossing.{asked_send, booked_send, keeper_send, pass_send}
use Rattle.cases_threads.proofs.turns.account.call_both.Goals as goal

pub join-pass-requires-send-F : goal.join-pass-requires-send-F
join-pass-requires-send-F g c = λ κs bounds. let sync = c.type_bounds.sync-R in
    search (desk.the_sync, pass_send, asked_send, booked_send, keeper_send, sendable, crosses) depth 100 fits 400000

pub join-pass-requires-send-A : goal.join-pass-requires-send-A
join-pass-requires-send-A g c = λ κs bounds. search (pass_send, booked_send, keeper_send, sendable, crosses) depth 60 fits 200000

pub returns-clause-covers : goal.returns-clause-covers
returns-clause-covers g c = let left = c.join-pass.result.0.0 in let right = c.join-pass.result.1.0 in
    covers_again (view c.args.pass) (view c.split-other.new.self) (view c.split-other.result) (view left) (view right) (view c.back.new.into) c.split-other.ensures.lower c.split-other.ensures.upper c.back.ensures.joined
    c.join-pass.ensures.first.1 c.join-pass.ensures.second.1
