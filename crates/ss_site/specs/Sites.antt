-- Sites: what they count and tell.
use Rattle.std.specs.Prelude.{◌≡◌, ◌≢◌, ◌⊎◌, ℕ, Bool, true, List, [], ◌∷◌, ◌++◌, map, is_some, Contains, Option, Some}
use Rattle.std.specs.Prelude.{None, Result, Ok, Err}
use Rattle.std.specs.Borrow.{Bor}
use Rattle.ss_outside.specs.Causes.{Rose}
use Rattle.ss_bso.specs.declared.changes.Kept.{Kept}
use Rattle.ss_laws.specs.Journal.{Journal}
use Rattle.ss_links.specs.Counts.{RoseBy}
use Rattle.ss_links.specs.Ports.{Accepts}
use Rattle.ss_site.specs.declared.site.SiteFault.{SiteFault}
use Rattle.ss_site.specs.declared.site.SiteFault.TheVariants.{Fault, Memory}
use Rattle.ss_site.specs.declared.site.NoKeeper.{NoKeeper}
use Rattle.ss_site.specs.declared.site.NoKeeper.TheVariants as missing

-- a site's own calls that gave nothing: those that failed, and those for a keeper that found no account in what is kept
pub record RefusedCalls : Type 0 where
  pub failed : ℕ
  pub damaged : ℕ

-- what a site counts: its calls that failed or found damage, and the keepers, ports and stores that came back after a fault; of these
-- its own calls; the links of the ports that were shut; those of these ports that had ended; and how often these ports rested
pub record Counts : Type 0 where
  pub faults : ℕ
  pub refused : RefusedCalls
  pub links : ℕ
  pub ends : ℕ
  pub rests : ℕ

-- how many keepers, ports and stores a site gave, and how many of them came back; the address of each port and the folder and uid of
-- each keeper that it gave, in order; and what each clock reads that it gives, where that is told
pub record LentParts : Type 0 where
  pub given : ℕ
  pub back : ℕ
  pub addresses : List (List ℕ)
  pub keepers : List (List ℕ × ℕ)
  pub readings : Option (List ℕ)

-- a term as a site is told it: the reports of its links, and each account's journal
pub record Term (R : Type 0) : Type 0 where
  pub reports : List R
  pub journals : List (ℕ × Journal)

-- what is kept under each folder and uid; a fresh one where nothing is
abbrev pub Entries : Type 0
Entries = List ℕ → ℕ → Kept

-- a call failed: that is counted as a fault, and nothing else is
pub record CallFailed (old new : Counts) : Type 0 where
  pub faults : Rose old.faults new.faults
  pub failed : Rose old.refused.failed new.refused.failed
  pub damaged : new.refused.damaged ≡ old.refused.damaged
  pub links : new.links ≡ old.links
  pub ends : new.ends ≡ old.ends
  pub rests : new.rests ≡ old.rests

-- a call found no account in what is kept: that is counted as a fault, and nothing else is
pub record FoundDamage (old new : Counts) : Type 0 where
  pub faults : Rose old.faults new.faults
  pub failed : new.refused.failed ≡ old.refused.failed
  pub damaged : Rose old.refused.damaged new.refused.damaged
  pub links : new.links ≡ old.links
  pub ends : new.ends ≡ old.ends
  pub rests : new.rests ≡ old.rests

-- a keeper, a port or a store came back that had failed: that is counted as a fault, and nothing else is
pub record CameBackFailed (old new : Counts) : Type 0 where
  pub faults : Rose old.faults new.faults
  pub refused : new.refused ≡ old.refused
  pub links : new.links ≡ old.links
  pub ends : new.ends ≡ old.ends
  pub rests : new.rests ≡ old.rests

-- a failure is counted in a call that answers a fault, and in no other
abbrev pub HasCause : {T : Type 0} → Result T SiteFault → Counts → Counts → Type 0
HasCause (Ok value) old new = new ≡ old
HasCause (Err Fault) old new = CallFailed old new
HasCause (Err Memory) old new = new ≡ old

-- the same of a call for a keeper, which counts damage where it answers that
abbrev pub HasKeeperCause : {T : Type 0} → Result T NoKeeper → Counts → Counts → Type 0
HasKeeperCause (Ok keeper) old new = new ≡ old
HasKeeperCause (Err missing.Fault) old new = CallFailed old new
HasKeeperCause (Err missing.Damaged) old new = FoundDamage old new
HasKeeperCause (Err missing.Memory) old new = new ≡ old

-- one more was given, and nothing else is noted of it
pub record GivesOneMore (old new : LentParts) : Type 0 where
  pub given : RoseBy 1 old.given new.given
  pub back : new.back ≡ old.back
  pub addresses : new.addresses ≡ old.addresses
  pub keepers : new.keepers ≡ old.keepers
  pub readings : new.readings ≡ old.readings

-- a store was given where the answer is one, and nothing where it is a fault
abbrev pub HasLent : {T : Type 0} → Result T SiteFault → LentParts → LentParts → Type 0
HasLent (Ok value) old new = GivesOneMore old new
HasLent (Err why) old new = new ≡ old

-- the keeper of this folder and uid was given where the answer is one, and nothing where it is none
abbrev pub HasLentKeeper : {T : Type 0} → List ℕ → ℕ → Result T NoKeeper → LentParts → LentParts → Type 0
HasLentKeeper folder uid (Ok keeper) old new =
    RoseBy 1 old.given new.given × (new.back ≡ old.back) × (new.addresses ≡ old.addresses) × (new.keepers ≡ old.keepers ++ (folder, uid) ∷ []) × (new.readings ≡ old.readings)
HasLentKeeper folder uid (Err why) old new = new ≡ old

-- a port was given that listens at this address where the answer is one, and nothing where it is a fault
abbrev pub Listens : {T : Type 0} → List ℕ → Result T SiteFault → LentParts → LentParts → Type 0
Listens address (Ok value) old new =
    RoseBy 1 old.given new.given × (new.back ≡ old.back) × (new.addresses ≡ old.addresses ++ address ∷ []) × (new.keepers ≡ old.keepers) × (new.readings ≡ old.readings)
Listens address (Err why) old new = new ≡ old

-- one of those that were given came back
pub record IsBack (old new : LentParts) : Type 0 where
  pub given : new.given ≡ old.given
  pub back : RoseBy 1 old.back new.back
  pub addresses : new.addresses ≡ old.addresses
  pub keepers : new.keepers ≡ old.keepers
  pub readings : new.readings ≡ old.readings

-- a keeper that was given tells what the entry is, where the entries are told
abbrev pub IsEntry : List ℕ → ℕ → Option Kept → Option Entries → Type 0
IsEntry folder uid told None = Unit {0}
IsEntry folder uid told (Some entries) = told ≡ Some (entries folder uid)

-- what this folder and uid have is the entry, and each other entry is as before
pub record IsWith (folder : List ℕ) (uid : ℕ) (kept : Kept) (old new : Entries) : Type 0 where
  pub here : new folder uid ≡ kept
  pub others : (f : List ℕ) (u : ℕ) → ((f ≢ folder) ⊎ (u ≢ uid)) → new f u ≡ old f u

-- where the entries are told after a keeper came back, it told one, which is the entry now
abbrev pub HasRetired : List ℕ → ℕ → Option Kept → Option Entries → Option Entries → Type 0
HasRetired folder uid told old new = (after : Entries) → new ≡ Some after → (before : Entries) × (kept : Kept) × (old ≡ Some before) × (told ≡ Some kept) × IsWith folder uid kept before after

-- where the entries were told, they are told
abbrev pub TellsStill : Option Entries → Option Entries → Type 0
TellsStill old new = is_some old ≡ true → is_some new ≡ true

-- where the entries are told, and a keeper of this folder and uid was given, they are told once one came back
abbrev pub StaysTold : List ℕ → ℕ → List (List ℕ × ℕ) → Option Entries → Option Entries → Type 0
StaysTold folder uid keepers old new = Contains keepers (folder, uid) → TellsStill old new

-- a count rose where a number isn't 0, and stayed where it is
pub record RoseUnless (n before now : ℕ) : Type 0 where
  pub some : n ≢ 0 → Rose before now
  pub none : n ≡ 0 → now ≡ before

-- the counts after a keeper came back that had failed so often
pub record CountsKeeper (n : ℕ) (old new : Counts) : Type 0 where
  pub faults : RoseUnless n old.faults new.faults
  pub refused : new.refused ≡ old.refused
  pub links : new.links ≡ old.links
  pub ends : new.ends ≡ old.ends
  pub rests : new.rests ≡ old.rests

-- the counts after a store came back that had failed so often: as after a keeper
abbrev pub CountsStore : ℕ → Counts → Counts → Type 0
CountsStore n old new = CountsKeeper n old new

-- the counts after a port was shut
pub record CountsPort (port : Accepts) (old new : Counts) : Type 0 where
  pub faults : RoseUnless port.faults old.faults new.faults
  pub refused : new.refused ≡ old.refused
  pub links : RoseBy port.links old.links new.links
  pub ends : RoseUnless port.ends old.ends new.ends
  pub rests : RoseBy port.rests old.rests new.rests

-- a term stands at the end, where terms are told
abbrev pub HasAdded : {R : Type 0} → Term R → Option (List (Term R)) → Option (List (Term R)) → Type 0
HasAdded term None new = new ≡ None
HasAdded term (Some terms) new = new ≡ Some (terms ++ term ∷ [])

-- the reports and these journals are told as one term, at the end
abbrev pub AddsTerm : {R : Type 0} → List R → List (ℕ × Bor Journal) → Option (List (Term R)) → Option (List (Term R)) → Type 0
AddsTerm reports journals old new = HasAdded (record { reports = reports; journals = map (λ journal. (journal.0, journal.1.now)) journals }) old new
