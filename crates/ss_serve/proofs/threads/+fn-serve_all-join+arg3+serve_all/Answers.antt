use Rattle.std.proofs.Common.{rules, sym, subst, All}
use Rattle.std.proofs.Crossing.{crosses}
use Rattle.std.proofs.option.Option.TheSendSync as option
use Rattle.std.proofs.alloc.Global.TheSendSync as heap
use Rattle.std.below.std_heap.proofs.GlobalAllocator.TheSendSync as allocator
use denote.Param.Send.{sendable}
use Rattle.atomic_table.proofs.badge.Badge.TheSendSync as badge
use Rattle.crossbeam_channel.proofs.flavors.array.Rows.TheSendSync as rows
use Rattle.crossbeam_channel.proofs.flavors.array.ruled.Receiving.TheSendSync as receiving
use Rattle.crossbeam_channel.specs.Ends.{receives_on}
use Rattle.ss_serve.proofs.channel.Job.TheSendSync as job
use Rattle.ss_town.proofs.town.Town.TheSendSync as town
use Rattle.ss_town.specs.Town.{uids_of, desks_of}
use Rattle.ss_serve.specs.Crew.{IsGatedWorker, IsReady}
use Rattle.ss_serve.proofs.Crews.{all_end, all_last, all_front}
use Rattle.ss_serve.proofs.Crossing.{worker_send}
use Rattle.ss_serve.proofs.threads.+fn-serve_all-join+arg3+serve_all.Goals as goal
use Rattle.ss_booked.proofs.Crossing.{booked_send}

pub join-mine-requires-send-F : goal.join-mine-requires-send-F
join-mine-requires-send-F g t c κs within = let r = c.requires-raw.1.1.1.1.1.1 in
    let l = r.0 in let clock = r.1.0 in let keeper = r.1.1.0 in let gate = r.1.1.1.0 in let runtime = r.1.1.1.1.0 in
    search (town.the_sync, worker_send, booked_send, receiving.the_sync, rows.the_sync, rows.the_send, badge.the_send, option.the_send, job.the_send, heap.the_send, heap.the_sync, allocator.the_frees, sendable, crosses) depth 100 fits 400000

pub join-mine-requires-send-A : goal.join-mine-requires-send-A
join-mine-requires-send-A g t c κs within = let r = c.requires-raw.1.1.1.1.1.1 in
    let l = r.0 in let clock = r.1.0 in let keeper = r.1.1.0 in search (worker_send, booked_send, sendable, crosses) depth 40 fits 100000

pub join-mine-requires-after_bounds : goal.join-mine-requires-after_bounds
join-mine-requires-after_bounds g t c κs within = let town = c.args.town.now in let rest = c.pop.new.self.items in let job = c.in-Some.job in
    let split = subst (λ ws. All (λ w. IsReady g.L.Told.told g.L.Closable.closed g.C.Clock.coming (uids_of town) (desks_of town) (receives_on c.args.receiver.now) w) ws) c.in-Some.ensures.items c.requires.jobs in
    let front = all_front (λ w. IsReady g.L.Told.told g.L.Closable.closed g.C.Clock.coming (uids_of town) (desks_of town) (receives_on c.args.receiver.now) w) rest job split in
    let says = g.G.Gate.says c.args.gate.now in
    let asked = subst (λ ws. All (λ w. IsGatedWorker says w) ws) c.in-Some.ensures.items c.requires.gated in
    let asked_front = all_front (λ w. IsGatedWorker says w) rest job asked in
    let r = c.requires-raw.1.1.1.1.1.1 in (
      (all_last (λ w. IsReady g.L.Told.told g.L.Closable.closed g.C.Clock.coming (uids_of town) (desks_of town) (receives_on c.args.receiver.now) w) rest job split, all_last (λ w. IsGatedWorker says w) rest job asked),
      search (front, asked_front, r.1.1.1.0, r.1.1.1.1.0, rules),
    )

pub returns-clause-all : goal.returns-clause-all
returns-clause-all g t c = let town = c.args.town.now in let a = c.join-mine.ensures.first in let b = c.join-mine.ensures.second in
    subst (λ ws. All (λ w. IsReady g.L.Told.told g.L.Closable.closed g.C.Clock.coming (uids_of town) (desks_of town) (receives_on c.args.receiver.now) w) ws) (sym c.push_reserved.ensures.items)
    (all_end (λ w. IsReady g.L.Told.told g.L.Closable.closed g.C.Clock.coming (uids_of town) (desks_of town) (receives_on c.args.receiver.now) w) c.join-mine.result.1.items c.join-mine.result.0 b.0 a.0)

pub returns-clause-gated : goal.returns-clause-gated
returns-clause-gated g t c = let says = g.G.Gate.says c.args.gate.now in let a = c.join-mine.ensures.first in let b = c.join-mine.ensures.second in
    subst (λ ws. All (λ w. IsGatedWorker says w) ws) (sym c.push_reserved.ensures.items)
    (all_end (λ w. IsGatedWorker says w) c.join-mine.result.1.items c.join-mine.result.0 b.4 a.2)
