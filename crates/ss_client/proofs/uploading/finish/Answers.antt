use Rattle.std.proofs.Common.{sym, ap, ◌∙◌, subst}
use Rattle.std.proofs.lemmas.Result.{IfOk-weaker}
use Rattle.ss_build.specs.Rows.{readings, rows_of}
use Rattle.ss_plan.specs.Written.{AreRowsAfter}
use Rattle.ss_sync.specs.Rows.{ids_of}
use Rattle.ss_sync.specs.Fetched.{are_apart}
use Rattle.ss_sync.proofs.Fetching.{apart-true}
use Rattle.ss_client.specs.Machine.{Finishes}
use Rattle.ss_client.specs.Told.{next_of_step}
use Rattle.ss_client.proofs.Leaving.{leaves_known}
use Rattle.ss_client.proofs.Posting.{finishes}
use Rattle.ss_client.proofs.uploading.finish.Goals as goal

pub join-requires-clause-rows : goal.join-requires-clause-rows
join-requires-clause-rows c = apart-true _ (ap (λ r. are_apart (ids_of r)) c.as_slice.ensures.rows ∙ c.as_slice.ensures.apart)

pub begin-requires : goal.begin-requires
begin-requires c =
    leaves_known c.new.result c.new-in-Ok.result c.in_ok-joined.joined.tree c.in_ok-joined.joined.remote.readings.items c.in_ok-joined.ensures.joined.valid
    (c.in_ok-joined.ensures.readings ∙ ap (λ s. readings (rows_of s)) (c.as_slice.ensures.rows ∙ sym (c.new.ensures ∙ c.into_vec.ensures)))
    (λ sheets after stamp e w. c.in-Ok.ensures.stand sheets after stamp e (subst (λ ps. AreRowsAfter sheets ps stamp after) c.new-in-Ok.ensures w))

pub returns-in-Ok : goal.returns-in-Ok
returns-in-Ok c =
    IfOk-weaker c.begin.result _ (λ step. Finishes c.args.device.now c.args.run c.args.time c.args.rows (next_of_step step))
    (λ step b. finishes c.args.device.now c.args.run c.args.time c.args.rows c.as_slice.result.now c.new.result c.mirror.result.now c.tree.result.now c.in_ok-dead.dead c.in_ok-joined.joined.tree c.in_ok-joined.joined.remote.readings.items
    c.new-in-Ok.result c.in-Ok.parts.items (next_of_step step) c.as_slice.ensures.rows (c.new.ensures ∙ c.into_vec.ensures) c.mirror.ensures.rows c.tree.ensures.tree c.in_ok-dead.ensures c.in_ok-joined.ensures.joined c.in_ok-joined.ensures.readings
    c.new-in-Ok.ensures c.in-Ok.ensures.parts c.in-Ok.ensures.refused c.in-Ok.ensures.stand b)
    c.begin.ensures
