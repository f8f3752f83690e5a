use Rattle.ss_run_move.proofs.Keepers.{dump_from}
use Rattle.ss_run_move.proofs.dumping.dump_of.Goals as goal

pub returns-in-Ok-plain-clause-text : goal.returns-in-Ok-plain-clause-text
returns-in-Ok-plain-clause-text g c =
    dump_from (λ text. text.items) (g.K.Keeper.told c.args.keeper) c.in-Ok.account.plain c.in-Ok-plain.plain c.text_of.result c.in-Ok.ensures.opened c.in-Ok.ensures.good c.in-Ok.ensures.valid c.in-Ok-plain.ensures.plain
    c.text_of.ensures.text
