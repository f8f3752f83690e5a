use Rattle.ss_http.proofs.Filling.{Brings-append}
use Rattle.ss_http.proofs.reading.fill_to.Goals as goal

pub returns-in-Err-clause-bytes : goal.returns-in-Err-clause-bytes
returns-in-Err-clause-bytes g c =
    Brings-append c.args.buffer.now.bytes c.bodies.buffer.bytes c.fill.new.self.bytes (g.S.Told.told c.args.source.now) (g.S.Told.told c.bodies.source) (g.S.Told.told c.fill.new.source)
    c.bodies.invariant.bytes c.fill.ensures.bytes
