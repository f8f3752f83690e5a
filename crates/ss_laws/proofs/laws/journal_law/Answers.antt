use Rattle.ss_laws.proofs.Journals.{reply_at-alone, valid-account_after}
use Rattle.ss_laws.proofs.laws.journal_law.Goals as goal

pub returns : goal.returns
returns c = record { alone = reply_at-alone; valid = valid-account_after }
