use Rattle.ss_laws.proofs.JournalOrder.{reply_at-reordered}
use Rattle.ss_laws.proofs.laws.journal_order_law.Goals as goal

pub returns : goal.returns
returns c = reply_at-reordered
