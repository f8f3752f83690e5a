use Rattle.std.specs.Prelude.{◌≡◌, ℕ, List}
use Rattle.std.proofs.Common.{subst}
use Rattle.ss_outside.specs.Told.{Meanings}
use Rattle.ss_rehearse.specs.declared.endings.Ending.{Ending}
use Rattle.ss_rehearse.specs.Endings.{Wrote}
use Rattle.ss_rehearse.specs.Rehearsals.{IsSummary}
use Rattle.ss_rehearse.specs.Runs.{Rehearses, written}
use Rattle.ss_rehearse.proofs.running.write_summary.Goals as goal

wrote : (items seed : ℕ) (text given : List ℕ) (ending : Ending) (output output' : Meanings) → IsSummary items seed text → given ≡ text → Wrote given ending output output' → Rehearses items seed ending output output'
wrote items seed text given ending output output' summary same sent = written text summary (subst (λ (sending : List ℕ). Wrote sending ending output output') same sent)

pub returns-in-Ok : goal.returns-in-Ok
returns-in-Ok g c = wrote c.args.items c.args.seed c.in-Ok.text.items c.as_slice.result.now c.write_out.result _ _ c.in-Ok.ensures.summary c.as_slice.ensures.value c.write_out.ensures
