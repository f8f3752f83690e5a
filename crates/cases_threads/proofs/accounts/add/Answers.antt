use Rattle.ss_booked.specs.Booked.{journal_of}
use Rattle.cases_threads.proofs.accounts.add.Goals as goal
use Rattle.ss_serve.proofs.Bare.{bare_pushed}

pub returns : goal.returns
returns c c' =
    record { bare = bare_pushed c'.args.accounts.now.items c'.push.new.self.items _ c'.args.booked (λ b. (journal_of b).entries) c'.in_ok-push.ensures.items c'.requires.bare c'.requires.empty }
