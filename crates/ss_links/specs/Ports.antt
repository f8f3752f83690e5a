-- Ports, and those in memory.
use Rattle.std.specs.Prelude.{◌≡◌, ℕ, ◌+◌, List, [], ◌∷◌, Bool, true, false, Option, Result, Ok, Err, ⊤}
use Rattle.ss_outside.specs.Causes.{Rose}
use Rattle.ss_outside.specs.Plans.{Plan, fault_count, raised_count, is_failing, after_call}
use Rattle.ss_links.specs.Counts.{RoseBy}
use Rattle.ss_links.specs.Links.{Link}
use Rattle.ss_links.specs.declared.port.Accepted.{Accepted}
use Rattle.ss_links.specs.declared.port.Accepted.TheVariants as gives
use Rattle.ss_links.specs.declared.port.PortFault.{PortFault}
use Rattle.ss_links.specs.declared.port.PortFault.TheVariants.{Fault, Memory}

-- what a port counts: its calls that failed, those that found its end, the links that it gave, and how often it rested
pub record Accepts : Type 0 where
  pub faults : ℕ
  pub ends : ℕ
  pub links : ℕ
  pub rests : ℕ

-- the count that an answer raises, and no other
abbrev pub HasAccepted : {L : Type 0} → Result (Accepted L) PortFault → Accepts → Accepts → Type 0
HasAccepted (Ok (gives.Link link)) old new = (new.faults ≡ old.faults) × (new.ends ≡ old.ends) × RoseBy 1 old.links new.links × (new.rests ≡ old.rests)
HasAccepted (Ok gives.Rest) old new = (new.faults ≡ old.faults) × (new.ends ≡ old.ends) × (new.links ≡ old.links) × RoseBy 1 old.rests new.rests
HasAccepted (Ok gives.End) old new = (new.faults ≡ old.faults) × Rose old.ends new.ends × (new.links ≡ old.links) × (new.rests ≡ old.rests)
HasAccepted (Err Fault) old new = Rose old.faults new.faults × (new.ends ≡ old.ends) × (new.links ≡ old.links) × (new.rests ≡ old.rests)
HasAccepted (Err Memory) old new = new ≡ old

-- this holds of the link, where one was given
abbrev pub IfLink : {L : Type 0} → Accepted L → (L → Type 0) → Type 0
IfLink (gives.Link link) P = P link
IfLink gives.Rest P = ⊤
IfLink gives.End P = ⊤

-- a port in memory: the links that it has yet to give, which of its calls fail, how many calls found its end and how many links
-- were given, whether it rests after each link, whether it is to rest now, and how often it rested
pub record Waiting : Type 0 where
  pub links : List Link
  pub plan : Option Plan
  pub ends : ℕ
  pub given : ℕ
  pub rests_after_each : Bool
  pub is_to_rest : Bool
  pub rests : ℕ

-- what a port in memory counts
abbrev pub port_counts : Waiting → Accepts
port_counts p = record { faults = fault_count p.plan; ends = p.ends; links = p.given; rests = p.rests }

-- what a port in memory answers
abbrev pub given_by : Bool → Bool → List Link → Result (Accepted Link) PortFault
given_by true rests links = Err Fault
given_by false true links = Ok gives.Rest
given_by false false [] = Ok gives.End
given_by false false (link ∷ links) = Ok (gives.Link link)

-- the port after the next call
abbrev pub passed_by : Bool → Bool → List Link → Waiting → Waiting
passed_by true rests links p = record p { links = links; plan = after_call p.plan }
passed_by false true links p = record p { links = links; plan = after_call p.plan; is_to_rest = false; rests = raised_count p.rests }
passed_by false false [] p = record p { links = []; plan = after_call p.plan; ends = raised_count p.ends }
passed_by false false (link ∷ links) p = record p { links = links; plan = after_call p.plan; given = raised_count p.given; is_to_rest = p.rests_after_each }

-- a port in memory before the first call
abbrev pub fresh_port : List Link → Option Plan → Waiting
fresh_port links plan = record { links = links; plan = plan; ends = 0; given = 0; rests_after_each = false; is_to_rest = false; rests = 0 }

-- the counts of a port before the first call
abbrev pub idle_port : Accepts
idle_port = record { faults = 0; ends = 0; links = 0; rests = 0 }
