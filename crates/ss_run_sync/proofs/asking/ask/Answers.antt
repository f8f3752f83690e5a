use Rattle.std.proofs.Common.{sym, ◌∙◌, subst}
use Rattle.ss_outside.specs.Told.{HasWritten}
use Rattle.ss_route.specs.Sending.{request_sent}
use Rattle.ss_run_sync.proofs.OneRequest.{cut_off, unheard}
use Rattle.ss_run_sync.proofs.asking.ask.Goals as goal

pub returns-in-Err : goal.returns-in-Err
returns-in-Err g c =
    let p = c.in-Err.ensures.partly in
    cut_off (request_sent c.args.uid c.args.host.now c.args.request.now) p.0 p.1 (g.L.Told.told c.args.link.now) (g.L.Told.told c.write_all.new.sink)
    (sym (c.as_slice.ensures.value ∙ c.in-Ok.ensures.text) ∙ p.2) p.3 c.in-Err.ensures.cause

pub returns : goal.returns
returns g c =
    unheard (request_sent c.args.uid c.args.host.now c.args.request.now) c.in-Err-read_response.fault c.missed_by.result (g.L.Told.told c.args.link.now) (g.L.Told.told c.write_all.new.sink)
    (g.L.Told.told c.read_response.new.source) c.missed_by.ensures
    (subst (λ t. HasWritten t (g.L.Told.told c.args.link.now) (g.L.Told.told c.write_all.new.sink)) (c.as_slice.ensures.value ∙ c.in-Ok.ensures.text) c.in-Ok-write_all.ensures.whole)
    c.in-Ok-write_all.ensures.cause c.in-Err-read_response.ensures.takes c.in-Err-read_response.ensures.ended c.in-Err-read_response.ensures.cause
