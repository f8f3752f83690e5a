use Rattle.std.specs.Prelude.{refl, map, string_bytes}
use Rattle.std.proofs.Common.{sym, subst}
use Rattle.ss_words.specs.declared.commands.Command.{Command}
use Rattle.ss_words.specs.declared.commands.Command.TheVariants.{Sync}
use Rattle.ss_words.specs.Refused.{AsksNothing}
use Rattle.ss_words.specs.Commands.{Asks}
use Rattle.ss_words.proofs.Asked.{one_command}
use Rattle.ss_run_sync.specs.Runs.{syncs, asks_nothing}
use Rattle.ss_run_sync.proofs.Ends.{prints_told}
use Rattle.ss_run_sync.proofs.running.run.Goals as goal

pub returns-in_default : goal.returns-in_default
returns-in_default g c =
    asks_nothing (λ command asks. c.in_default.not-Sync command (one_command (map (λ word. string_bytes word) c.args.words.now) c.in-Ok.command (Sync command) c.in-Ok.ensures.asks asks)) refl refl refl

pub returns-in-Err-Refused : goal.returns-in-Err-Refused
returns-in-Err-Refused g c =
    asks_nothing (λ command asks. c.in-Err-Refused.ensures.refused (subst AsksNothing (sym c.in-Err-Refused.field-0-is) tt) (Sync command) asks) refl refl refl

pub returns : goal.returns
returns g c =
    syncs c.in-Sync.command c.sync.ensures.ending (subst (λ (x : Command). Asks (map (λ word. string_bytes word) c.args.words.now) x) c.in-Sync.is c.in-Ok.ensures.asks) c.sync.ensures.syncs
    (prints_told c.sync.ensures.ending c.sync.result c.print-2.result (g.T.Told.told c.args.output.now) (g.T.Told.told c.print-2.new.output) c.sync.ensures.tells c.print-2.ensures)
