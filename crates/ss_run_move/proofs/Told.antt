-- What comes of an input that tells no account, and of a dump that is at hand.
use Rattle.std.proofs.Common.{◌≡◌, ℕ, List, refl, sym, subst}
use Rattle.ss_outside.specs.Told.{Meanings}
use Rattle.ss_dump.specs.declared.faults.DumpFault.{DumpFault}
use Rattle.ss_dump.specs.Undumped.{IsWhyNoDump}
use Rattle.ss_site.specs.Sites.{Counts, TellsStill}
use Rattle.ss_run_move.specs.declared.endings.Ending.{Ending}
use Rattle.ss_run_move.specs.declared.endings.Ending.TheVariants.{Done, OtherWords, Site, Keeper, Output, Damaged}
use Rattle.ss_run_move.specs.declared.endings.Ending.TheVariants.{NoAccount, NotFresh, NoDump, TooLong, Input, Memory}
use Rattle.ss_run_move.specs.declared.words.Verb.{Verb}
use Rattle.ss_run_move.specs.declared.words.Verb.TheVariants.{Restore}
use Rattle.ss_run_move.specs.Endings.{Wrote, at_dump}
use Rattle.ss_run_move.specs.Inputs.{IsWhole}
use Rattle.ss_run_move.specs.Moves.{CameBack, Dumps, CountsEnding, IsDumpAt, Leaves, Restores, MoveSite, refused}
use Rattle.ss_run_move.specs.Moves.{unread}
use Rattle.ss_run_move.specs.Moves.{written}
use Rattle.ss_run_move.specs.Runs.{Does}
use Rattle.ss_run_move.specs.Steps.{IsUntold, not_whole, no_dump}

pub untold_for : (text lent : List ℕ) (fault : DumpFault) (ending : Ending) (input input' : Meanings) → lent ≡ text → IsWhole text input input' → IsWhyNoDump lent fault → ending ≡ at_dump fault
    → IsUntold ending input input'
untold_for text lent fault ending input input' all whole why is = no_dump text fault whole (subst (λ (x : List ℕ). IsWhyNoDump x fault) all why) is

-- the site isn't asked
pub unrestored : (folder : List ℕ) (uid : ℕ) (ending : Ending) (site : MoveSite) (input input' : Meanings) → IsUntold ending input input' → Restores folder uid ending site site input input'
unrestored folder uid ending site input input' (not_whole why) = unread why refl
unrestored folder uid ending site input input' (no_dump text fault whole why is) = refused text fault whole why is refl

pub does_restore : (verb : Verb) (folder : List ℕ) (uid : ℕ) (ending : Ending) (site site' : MoveSite) (input input' output : Meanings) → verb ≡ Restore → Restores folder uid ending site site' input input'
    → Does verb folder uid ending site site' input input' output output
does_restore verb folder uid ending site site' input input' output is restores =
    subst (λ (v : Verb). Does v folder uid ending site site' input input' output output) (sym is) (restores, refl)

-- where a dump was written nothing more is counted
quiet_ending : (text : List ℕ) (ending : Ending) (output output' : Meanings) (old new : Counts) → Wrote text ending output output' → new ≡ old → CountsEnding ending old new
quiet_ending text Done output output' old new wrote same = same
quiet_ending text Output output output' old new wrote same = same
quiet_ending text OtherWords output output' old new wrote same = absurd wrote
quiet_ending text Site output output' old new wrote same = absurd wrote
quiet_ending text Damaged output output' old new wrote same = absurd wrote
quiet_ending text Keeper output output' old new wrote same = absurd wrote
quiet_ending text Input output output' old new wrote same = absurd wrote
quiet_ending text (NoAccount fault) output output' old new wrote same = absurd wrote
quiet_ending text NotFresh output output' old new wrote same = absurd wrote
quiet_ending text (NoDump fault) output output' old new wrote same = absurd wrote
quiet_ending text TooLong output output' old new wrote same = absurd wrote
quiet_ending text Memory output output' old new wrote same = absurd wrote

pub dumped : (folder : List ℕ) (uid : ℕ) (text sent : List ℕ) (ending : Ending) (site site' : MoveSite) (output output' : Meanings) → sent ≡ text → IsDumpAt folder uid site.kept text
    → Wrote sent ending output output' → site'.counts ≡ site.counts → CameBack folder uid site.lent site'.lent → Leaves folder uid site.kept site'.kept → TellsStill site.kept site'.kept → Dumps folder uid ending site site' output output'
dumped folder uid text sent ending site site' output output' all is wrote counts back leaves stays = record {
  told = written text is (subst (λ (x : List ℕ). Wrote x ending output output') all wrote);
  counted = quiet_ending sent ending output output' site.counts site'.counts wrote counts;
  back = back;
  leaves = leaves;
  stays = stays;
}
