use Rattle.ss_audit.proofs.Terms.{terms_sound}
use Rattle.ss_audit.proofs.laws.terms_are_sound.Goals as goal

pub returns : goal.returns
returns c = terms_sound
