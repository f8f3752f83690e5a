use Rattle.std.proofs.Common.{Ok, Err, sym, subst}
use Rattle.ss_query.specs.declared.requests.Request.{Request}
use Rattle.ss_device.specs.Device.{DeviceView}
use Rattle.ss_route.specs.Sending.{request_sent}
use Rattle.ss_client.specs.declared.summaries.SyncFault.TheVariants.{BadReply}
use Rattle.ss_run_sync.specs.declared.asking.Missed.TheVariants as missed
use Rattle.ss_run_sync.specs.declared.talk.Talk.TheVariants as talks
use Rattle.ss_run_sync.specs.Course.{Account}
use Rattle.ss_run_sync.specs.Answers.{AsksOnce}
use Rattle.ss_run_sync.specs.Talks.{Talks}
use Rattle.ss_run_sync.proofs.Talking.{turn_heard, turn_missed}
use Rattle.ss_run_sync.proofs.conversing.exchange.Goals as goal

pub returns-in-Ok-clause-turns : goal.returns-in-Ok-clause-turns
returns-in-Ok-clause-turns g c =
    let account : Account = record { uid = c.args.uid; host = c.args.host.now } in
    let a = g.L.Told.told c.args.link.now in
    let b = g.L.Told.told c.ask.new.link in
    turn_heard account c.args.machine c.in-Ok.heard c.hear.result a b
    (subst (λ (r : Request). AsksOnce (request_sent c.args.uid c.args.host.now r) (Ok c.in-Ok.heard) a b) c.requires.asked c.in-Ok.ensures) c.hear.ensures.hears

pub returns-in-Err-Unread-clause-turns : goal.returns-in-Err-Unread-clause-turns
returns-in-Err-Unread-clause-turns g c =
    let account : Account = record { uid = c.args.uid; host = c.args.host.now } in
    let m = c.args.machine in
    let a = g.L.Told.told c.args.link.now in
    let b = g.L.Told.told c.ask.new.link in
    let t = turn_missed account m missed.Unread a b (subst (λ (r : Request). AsksOnce (request_sent c.args.uid c.args.host.now r) (Err missed.Unread) a b) c.requires.asked (rw c.in-Err-Unread.field-0-is at c.in-Err-Unread.ensures)) in
    subst (λ (d : DeviceView). Talks account m (talks.Stop d (BadReply c.number-number.result)) a b) (sym c.give_up.ensures)
    (subst (λ n. Talks account m (talks.Stop m.device (BadReply n)) a b) (sym c.number-number.ensures.number) t)

pub returns-in-Err-Wire-clause-turns : goal.returns-in-Err-Wire-clause-turns
returns-in-Err-Wire-clause-turns g c =
    let account : Account = record { uid = c.args.uid; host = c.args.host.now } in
    let m = c.args.machine in
    let a = g.L.Told.told c.args.link.now in
    let b = g.L.Told.told c.ask.new.link in
    let t = turn_missed account m missed.Wire a b (subst (λ (r : Request). AsksOnce (request_sent c.args.uid c.args.host.now r) (Err missed.Wire) a b) c.requires.asked (rw c.in-Err-Wire.field-0-is at c.in-Err-Wire.ensures)) in
    subst (λ (d : DeviceView). Talks account m (talks.Wire d) a b) (sym c.give_up-in-Err-Wire.ensures) t

pub returns-in-Err-Memory-clause-turns : goal.returns-in-Err-Memory-clause-turns
returns-in-Err-Memory-clause-turns g c =
    let account : Account = record { uid = c.args.uid; host = c.args.host.now } in
    let m = c.args.machine in
    let a = g.L.Told.told c.args.link.now in
    let b = g.L.Told.told c.ask.new.link in
    let t = turn_missed account m missed.Memory a b (subst (λ (r : Request). AsksOnce (request_sent c.args.uid c.args.host.now r) (Err missed.Memory) a b) c.requires.asked (rw c.in-Err-Memory.field-0-is at c.in-Err-Memory.ensures)) in
    subst (λ (d : DeviceView). Talks account m (talks.Memory d) a b) (sym c.give_up-in-Err-Memory.ensures) t
