-- Dials, and those in memory.
use Rattle.std.specs.Prelude.{◌≡◌, ◌≢◌, ◌⊎◌, ℕ, nat_lt, ◌&&◌, List, [], ◌∷◌, ◌++◌, length, Bool, true, false, Option}
use Rattle.std.specs.Prelude.{Some, None, is_some, Result, Ok, Err, if◌then◌else◌}
use Rattle.std.specs.Option.{unwrap_or}
use Rattle.ss_outside.specs.Told.{Meanings}
use Rattle.ss_outside.specs.Causes.{Rose}
use Rattle.ss_outside.specs.Plans.{Plan, raised_count, is_failing, after_call}
use Rattle.ss_outside.specs.Memory.{flat}
use Rattle.ss_links.specs.Links.{Link}
use Rattle.ss_links.specs.declared.dial.DialFault.{DialFault}
use Rattle.ss_links.specs.declared.dial.DialFault.TheVariants.{Fault, Memory}

-- what a link that was hung up told: the bytes that were taken from it, that were left in it and that were written to it
pub record HungLink : Type 0 where
  pub taken : List ℕ
  pub left : List ℕ
  pub written : List ℕ

-- a host, and a port of it, for which a dial is asked
pub record Address : Type 0 where
  pub host : List ℕ
  pub port : ℕ

-- where it is told afterwards what was asked for, this stands at the end, behind what was told before
abbrev pub IsBehind : Address → Option (List Address) → Option (List Address) → Type 0
IsBehind address old new = (y : List Address) → new ≡ Some y → (x : List Address) × (old ≡ Some x) × (y ≡ x ++ address ∷ [])

-- a dial enters what it was asked for; without memory it enters nothing
abbrev pub HasAsked : {L : Type 0} → Address → Result L DialFault → Option (List Address) → Option (List Address) → Type 0
HasAsked address (Err Memory) old new = new ≡ old
HasAsked address (Err Fault) old new = IsBehind address old new
HasAsked address (Ok link) old new = IsBehind address old new

-- the count rises in a call that answers a fault, and in no other
abbrev pub HasCause : {L : Type 0} → Result L DialFault → ℕ → ℕ → Type 0
HasCause (Ok link) before now = now ≡ before
HasCause (Err Fault) before now = Rose before now
HasCause (Err Memory) before now = now ≡ before

-- a link told this
pub record Tells (link : Meanings) (hung : HungLink) : Type 0 where
  pub taken : link.taken ≡ Some hung.taken
  pub left : link.left ≡ Some hung.left
  pub written : link.written ≡ Some hung.written

-- where it is told afterwards which links were hung up, this one stands at the end, behind those that were told before
abbrev pub HasHung : Meanings → Option (List HungLink) → Option (List HungLink) → Type 0
HasHung link old new = (y : List HungLink) → new ≡ Some y → (x : List HungLink) × (hung : HungLink) × (old ≡ Some x) × Tells link hung × (y ≡ x ++ hung ∷ [])

-- the count rises where a call of the link had failed, and stays where none had
pub record HangUpCounts (link : Meanings) (before now : ℕ) : Type 0 where
  pub failed : ((link.read_faults ≢ 0) ⊎ (link.write_faults ≢ 0)) → Rose before now
  pub fine : link.read_faults ≡ 0 → link.write_faults ≡ 0 → now ≡ before

-- a dial in memory: the links that it has yet to give, what it was asked for, what the links told that were hung up, where that
-- is told, for how many of these it has room, which of its calls fail, and its count of faults
pub record Dialling : Type 0 where
  pub links : List Link
  pub asked : List Address
  pub hung : Option (List HungLink)
  pub room : ℕ
  pub plan : Option Plan
  pub faults : ℕ

-- what a dial in memory answers; past the last link it fails
abbrev pub dialled_by : Bool → List Link → Result Link DialFault
dialled_by true links = Err Fault
dialled_by false [] = Err Fault
dialled_by false (link ∷ links) = Ok link

-- the dial after the next call, which asks for this
abbrev pub after_dial : Address → Bool → List Link → Dialling → Dialling
after_dial address true links d = record { links = links; asked = d.asked ++ address ∷ []; hung = d.hung; room = d.room; plan = after_call d.plan; faults = raised_count d.faults }
after_dial address false [] d = record { links = []; asked = d.asked ++ address ∷ []; hung = d.hung; room = d.room; plan = after_call d.plan; faults = raised_count d.faults }
after_dial address false (link ∷ links) d = record { links = links; asked = d.asked ++ address ∷ []; hung = d.hung; room = d.room; plan = after_call d.plan; faults = d.faults }

-- a call of a dial in memory: without memory nothing is done; else what was asked for is entered, and its next link is given
abbrev pub HasDialled : Address → Result Link DialFault → Dialling → Dialling → Type 0
HasDialled address result old new =
    ((result ≡ Err Memory) × (new ≡ old)) ⊎ ((result ≡ dialled_by (is_failing old.plan) old.links) × (new ≡ after_dial address (is_failing old.plan) old.links old))

-- what a link that was hung up told, where it tells all
abbrev pub hung_of : Link → HungLink
hung_of link = record { taken = link.source.taken; left = flat link.source.pieces; written = unwrap_or link.sink.written [] }

-- which links are told once one more was hung up: it stands at the end, where it tells, and there is room
abbrev pub with_link : ℕ → Option (List HungLink) → Link → Option (List HungLink)
with_link room None link = None
with_link room (Some hung) link = if is_some link.sink.written && nat_lt (length hung) room then Some (hung ++ hung_of link ∷ []) else None
