use Rattle.std.proofs.Common.{refl, length-drop, arith}
use Rattle.std.proofs.lemmas.List.{take_rest}
use Rattle.ss_http.proofs.Filling.{behind_kept, behind_err, behind_ended}
use Rattle.ss_http.proofs.buffer.read_behind.Goals as goal

pub returns-clause-kept : goal.returns-clause-kept
returns-clause-kept g c = behind_kept c.read.result c.args.bytes.now _ c.read.new.into _ c.args.start c.args.end (g.S.Told.told c.args.source.now) (g.S.Told.told c.read.new.self)
    refl c.requires.ordered (omega arith) c.read.ensures.bound c.read.ensures.bytes

pub returns-clause-err : goal.returns-clause-err
returns-clause-err g c = behind_err c.read.result c.args.bytes.now _ c.read.new.into _ c.args.start c.args.end refl c.requires.ordered (omega arith)

pub returns-clause-ended : goal.returns-clause-ended
returns-clause-ended g c = behind_ended c.read.result _ (g.S.Told.told c.args.source.now) (rw take_rest (omega (arith, length-drop c.args.end c.args.bytes.now))) c.read.ensures.ended
