use Rattle.std.specs.Prelude.{take}
use Rattle.ss_promises.specs.Journals.{asks_of}
use Rattle.ss_promises.proofs.Listed.{alike, same_accounts, same_replies}
use Rattle.ss_promises.proofs.journals.journals_are_lists.Goals as goal

pub returns-clause-accounts : goal.returns-clause-accounts
returns-clause-accounts c = λ journal place. same_accounts journal.opening (take place journal.entries)

pub returns-clause-replies : goal.returns-clause-replies
returns-clause-replies c = same_replies

pub returns-clause-batches : goal.returns-clause-batches
returns-clause-batches c = λ journal legal. c.batch_law.ensures.flat journal.opening (asks_of journal.entries) (c.batch_law.ensures.valid journal.opening legal.opening)

pub returns-clause-alike : goal.returns-clause-alike
returns-clause-alike c = λ journal place entry legal is e out.
    alike journal place entry (c.batch_law.ensures.flat journal.opening (asks_of journal.entries) (c.batch_law.ensures.valid journal.opening legal.opening)) is e out
