use Rattle.std.proofs.Common.{sym, subst}
use Rattle.ss_client.specs.Sound.{TellsOurs}
use Rattle.ss_client.proofs.Told.{tells_ours}
use Rattle.ss_client.proofs.machine.Machine.next.Goals as goal

pub hear-requires-in-Ok : goal.hear-requires-in-Ok
hear-requires-in-Ok c = subst TellsOurs (sym c.in-Ok.ensures.answer) (tells_ours c.awaits.result c.args.heard.now)
