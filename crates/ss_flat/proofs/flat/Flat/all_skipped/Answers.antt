use Rattle.std.proofs.Common.{ap, bytes_eq, subst}
use Rattle.ss_bso.specs.Lists.{Pairs}
use Rattle.ss_flat.specs.Joining.{OtherKey}
use Rattle.ss_flat.specs.States.{State}
use Rattle.ss_flat.proofs.Keeping.{apart_keys}
use Rattle.ss_flat.specs.Told.{skipped_of}
use Rattle.ss_flat.proofs.Taking.{kept_more}
use Rattle.ss_flat.proofs.flat.Flat.all_skipped.Goals as goal

pub loop-i-preserved : goal.loop-i-preserved
loop-i-preserved c = kept_more skipped_of c.args.self.now.entries c.loop-i.i c.loop-i.skipped.items _ c.loop-i.invariant c.in_ok-note_skipped.ensures

pub returns-clause-apart : goal.returns-clause-apart
returns-clause-apart c = subst (λ es. Pairs OtherKey es) (ap (λ (s : State). s.entries) c.self.view_is) (apart_keys bytes_eq c.self.inside.entries.entries c.len-i-end.ensures.unique)
