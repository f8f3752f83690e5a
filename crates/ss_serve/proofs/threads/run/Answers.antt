use Rattle.std.proofs.Crossing.{crosses}
use Rattle.std.proofs.option.Option.TheSendSync as option
use Rattle.std.proofs.alloc.Global.TheSendSync as heap
use Rattle.std.below.std_heap.proofs.GlobalAllocator.TheSendSync as allocator
use denote.Param.Send.{sendable}
use Rattle.atomic_table.proofs.badge.Badge.TheSendSync as badge
use Rattle.crossbeam_channel.proofs.flavors.array.Rows.TheSendSync as rows
use Rattle.crossbeam_channel.proofs.flavors.array.ruled.Receiving.TheSendSync as receiving
use Rattle.ss_serve.proofs.channel.Job.TheSendSync as job
use Rattle.ss_town.proofs.town.Town.TheSendSync as town
use Rattle.ss_serve.proofs.Crossing.{worker_send, crew_send}
use Rattle.ss_serve.proofs.threads.run.Goals as goal
use Rattle.ss_booked.proofs.Crossing.{booked_send}

pub join_mut-requires-send-F : goal.join_mut-requires-send-F
join_mut-requires-send-F g c κs within =
    let l = c.type_bounds.send-L in let clock = c.type_bounds.send-C in let keeper = c.type_bounds.send-K in let gate = c.type_bounds.sync-G in let runtime = c.type_bounds.sync-R in
    search (town.the_sync, crew_send, booked_send, receiving.the_sync, rows.the_sync, rows.the_send, badge.the_send, option.the_send, job.the_send, heap.the_send, heap.the_sync, allocator.the_frees, sendable, crosses) depth 100 fits 400000

pub join_mut-requires-send-A : goal.join_mut-requires-send-A
join_mut-requires-send-A g c κs within = search (worker_send, booked_send, sendable, crosses) depth 40 fits 100000
