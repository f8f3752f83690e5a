-- Of a journal without entries it is a fact that calls can make it, where it is legal.
use Rattle.std.specs.Prelude.{◌≡◌, List, []}
use Rattle.std.proofs.Common.{subst, arith}
use Rattle.ss_laws.specs.declared.journal.Entry.{Entry}
use Rattle.ss_laws.specs.Journal.{Journal}
use Rattle.ss_laws.specs.Journals.{IsLegal}
use Rattle.ss_booked.specs.Turns.{IsMadeByCalls}

-- a journal without entries is made by calls as the one that it is
pub made_of_none : (journal : Journal) → journal.entries ≡ [] → IsLegal journal → IsMadeByCalls (record journal { entries = [] })
made_of_none journal empty legal = record {
  legal = subst (λ (entries : List Entry). IsLegal (record journal { entries = entries })) empty legal;
  had_room = λ k lt. absurd (omega arith);
}
