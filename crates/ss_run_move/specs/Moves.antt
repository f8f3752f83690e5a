-- What a dump and a restore do at a site (this project's).
use Rattle.std.specs.Prelude.{◌≡◌, ◌≤◌, ◌++◌, ◌∷◌, [], ℕ, zero, suc, List, true, false, Option, Some, ⊤}
use Rattle.ss_outside.specs.Told.{Meanings}
use Rattle.ss_links.specs.Counts.{RoseBy}
use Rattle.ss_bso.specs.declared.changes.Kept.{Kept}
use Rattle.ss_bso.specs.Changes.{kept_of, account_at_opening}
use Rattle.ss_account.specs.declared.faults.OpenFault.{OpenFault}
use Rattle.ss_account.specs.declared.faults.OpenFault.TheVariants.{BadCollection, BadRow, BadBatch}
use Rattle.ss_account.specs.declared.faults.OpenFault.TheVariants.{Keeper as KeeperFault, Memory as NoRoom}
use Rattle.ss_account.specs.Opening.{IsFaultOf, IsGood}
use Rattle.ss_dump.specs.declared.faults.DumpFault.{DumpFault}
use Rattle.ss_dump.specs.Dumps.{dump_text}
use Rattle.ss_dump.specs.Refilled.{is_fresh}
use Rattle.ss_dump.specs.Undumped.{IsDumpOf, IsWhyNoDump}
use Rattle.ss_site.specs.Sites.{CameBackFailed, Counts, Entries, FoundDamage, CallFailed, IsWith, LentParts, TellsStill}
use Rattle.ss_run_move.specs.declared.endings.Ending.{Ending}
use Rattle.ss_run_move.specs.declared.endings.Ending.TheVariants.{Done, Site, Damaged, Keeper, NoAccount, NotFresh}
use Rattle.ss_run_move.specs.declared.endings.Ending.TheVariants.{Memory}
use Rattle.ss_run_move.specs.Endings.{Wrote, at_dump}
use Rattle.ss_run_move.specs.Inputs.{IsUnread, IsWhole}

-- ---- the site

-- what a site counts, the keepers that it gave and took back, and the entries that it tells
pub record MoveSite : Type 0 where
  pub counts : Counts
  pub lent : LentParts
  pub kept : Option Entries

-- the count of faults rose, and that of the site's own calls that failed or found damage, where that is why; the first alone where the
-- keeper that came back had failed; else all counts are as before
abbrev pub CountsEnding : Ending → Counts → Counts → Type 0
CountsEnding Site old new = CallFailed old new
CountsEnding Damaged old new = FoundDamage old new
CountsEnding Keeper old new = CameBackFailed old new
CountsEnding ending old new = new ≡ old

-- of so many keepers, one at most, that a site gave, this is the folder and uid
abbrev pub IsAskedAt : List ℕ → ℕ → ℕ → List (List ℕ × ℕ) → List (List ℕ × ℕ) → Type 0
IsAskedAt folder uid zero old new = new ≡ old
IsAskedAt folder uid (suc n) old new = new ≡ old ++ (folder, uid) ∷ []

-- one keeper at most was given, that of this folder and uid, and it came back; no port was given
pub record CameBack (folder : List ℕ) (uid : ℕ) (old new : LentParts) : Type 0 where
  pub number : ℕ
  pub one : number ≤ 1
  pub given : RoseBy number old.given new.given
  pub back : RoseBy number old.back new.back
  pub addresses : new.addresses ≡ old.addresses
  pub keepers : IsAskedAt folder uid number old.keepers new.keepers

-- where the entries are told afterwards they were told before, and each is as it was, that of this folder and uid and all others
abbrev pub Leaves : List ℕ → ℕ → Option Entries → Option Entries → Type 0
Leaves folder uid old new = (after : Entries) → new ≡ Some after → (before : Entries) × (old ≡ Some before) × IsWith folder uid (before folder uid) before after

-- where the entries are told afterwards they were told before; nothing was kept under this folder and uid, and exactly this is kept there
-- now; all others are as they were
abbrev pub Fills : List ℕ → ℕ → Kept → Option Entries → Option Entries → Type 0
Fills folder uid kept old new =
    (after : Entries) → new ≡ Some after → (before : Entries) × (old ≡ Some before) × (is_fresh (before folder uid) ≡ true) × IsWith folder uid kept before after

-- ---- a dump

-- an account can be opened from what is kept, and the text is the dump of what is kept of that account
pub record IsDumpFrom (kept : Kept) (text : List ℕ) : Type 0 where
  pub good : IsGood kept
  pub text_is : text ≡ dump_text (kept_of (account_at_opening kept))

-- the same of the entry of this folder and uid, where the entries are told
abbrev pub IsDumpAt : List ℕ → ℕ → Option Entries → List ℕ → Type 0
IsDumpAt folder uid kept text = (entries : Entries) → kept ≡ Some entries → IsDumpFrom (entries folder uid) text

-- no account can be opened from what is kept, for this collection, row or batch, where that is told
abbrev pub IsNoAccount : List ℕ → ℕ → Option Entries → OpenFault → Type 0
IsNoAccount folder uid kept (BadCollection n) = (entries : Entries) → kept ≡ Some entries → IsFaultOf (entries folder uid) (BadCollection n)
IsNoAccount folder uid kept (BadRow n) = (entries : Entries) → kept ≡ Some entries → IsFaultOf (entries folder uid) (BadRow n)
IsNoAccount folder uid kept (BadBatch n) = (entries : Entries) → kept ≡ Some entries → IsFaultOf (entries folder uid) (BadBatch n)
IsNoAccount folder uid kept KeeperFault = ⊥
IsNoAccount folder uid kept NoRoom = ⊥

-- Why there is no dump: a call of the site or the keeper failed, the site found no account, none can be opened, or no memory was found
abbrev pub IsEndWithoutDump : List ℕ → ℕ → Option Entries → Ending → Type 0
IsEndWithoutDump folder uid kept Site = ⊤
IsEndWithoutDump folder uid kept Damaged = ⊤
IsEndWithoutDump folder uid kept Keeper = ⊤
IsEndWithoutDump folder uid kept (NoAccount fault) = IsNoAccount folder uid kept fault
IsEndWithoutDump folder uid kept Memory = ⊤
IsEndWithoutDump folder uid kept ending = ⊥

-- the dump is written, or there is none and nothing is written
pub data TellsDump (folder : List ℕ) (uid : ℕ) (ending : Ending) (kept : Option Entries) (output output' : Meanings) : Type 0 where
  written : (text : List ℕ) → IsDumpAt folder uid kept text → Wrote text ending output output' → TellsDump folder uid ending kept output output'
  untold : IsEndWithoutDump folder uid kept ending → output' ≡ output → TellsDump folder uid ending kept output output'

-- what a dump of the account under this folder and uid does, which ends so
pub record Dumps (folder : List ℕ) (uid : ℕ) (ending : Ending) (site site' : MoveSite) (output output' : Meanings) : Type 0 where
  pub told : TellsDump folder uid ending site.kept output output'
  pub counted : CountsEnding ending site.counts site'.counts
  pub back : CameBack folder uid site.lent site'.lent
  pub leaves : Leaves folder uid site.kept site'.kept
  pub stays : TellsStill site.kept site'.kept

-- ---- a restore

-- Why nothing is restored from a dump: a call of the site or the keeper failed, the site found no account, something is kept already where
-- that is told, or no memory was found
abbrev pub IsEndWithoutRestore : List ℕ → ℕ → Option Entries → Ending → Type 0
IsEndWithoutRestore folder uid kept Site = ⊤
IsEndWithoutRestore folder uid kept Damaged = ⊤
IsEndWithoutRestore folder uid kept Keeper = ⊤
IsEndWithoutRestore folder uid kept NotFresh = (entries : Entries) → kept ≡ Some entries → is_fresh (entries folder uid) ≡ false
IsEndWithoutRestore folder uid kept Memory = ⊤
IsEndWithoutRestore folder uid kept ending = ⊥

-- what becomes of the entries where a dump of this is at hand
abbrev pub RestoresDump : List ℕ → ℕ → Kept → Ending → Option Entries → Option Entries → Type 0
RestoresDump folder uid told Done old new = Fills folder uid told old new
RestoresDump folder uid told ending old new = IsEndWithoutRestore folder uid old ending × Leaves folder uid old new

-- what is done at the site with what a dump tells
pub record FillsFrom (folder : List ℕ) (uid : ℕ) (told : Kept) (ending : Ending) (site site' : MoveSite) : Type 0 where
  pub filled : RestoresDump folder uid told ending site.kept site'.kept
  pub counted : CountsEnding ending site.counts site'.counts
  pub back : CameBack folder uid site.lent site'.lent
  pub stays : TellsStill site.kept site'.kept

-- What a restore of the account under this folder and uid does, which ends so: the input is a dump, and what it tells is put there; or it is
-- none, or isn't read whole, and the site isn't asked
pub data Restores (folder : List ℕ) (uid : ℕ) (ending : Ending) (site site' : MoveSite) (input input' : Meanings) : Type 0 where
  filled : (text : List ℕ) (told : Kept) → IsWhole text input input' → IsDumpOf text told → FillsFrom folder uid told ending site site' → Restores folder uid ending site site' input input'
  refused : (text : List ℕ) (fault : DumpFault) → IsWhole text input input' → IsWhyNoDump text fault → ending ≡ at_dump fault → site' ≡ site → Restores folder uid ending site site' input input'
  unread : IsUnread ending input input' → site' ≡ site → Restores folder uid ending site site' input input'
