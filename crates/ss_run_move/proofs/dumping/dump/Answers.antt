use Rattle.ss_run_move.proofs.Told.{dumped}
use Rattle.ss_run_move.proofs.dumping.dump.Goals as goal

pub returns-in-Ok-clause-dumps : goal.returns-in-Ok-clause-dumps
returns-in-Ok-clause-dumps g c =
    dumped c.args.folder.now c.args.uid c.in-Ok.text.items c.as_slice.result.now c.write_out.result _ _ _ _ c.as_slice.ensures.value c.in-Ok.ensures.text c.write_out.ensures c.in-Ok.ensures.counted c.dump_at.ensures.back
    c.dump_at.ensures.leaves c.dump_at.ensures.stays
