-- What accepting tells.
use Rattle.std.specs.Prelude.{All, ◌≡◌, ◌≤◌, ◌<◌, ℕ, ◌+◌, List}
use Rattle.ss_outside.specs.Told.{Meanings}
use Rattle.ss_outside.specs.Causes.{Rose}
use Rattle.ss_links.specs.Counts.{RoseBy}
use Rattle.ss_links.specs.Links.{IsUnusedLink}
use Rattle.ss_links.specs.Ports.{Accepts}
use Rattle.ss_serve.specs.declared.accept.Stopped.{Stopped}
use Rattle.ss_serve.specs.declared.accept.Stopped.TheVariants.{Connections, PortEnded, Rested, Port, Memory}

-- a port gave fewer links than this, by its counts of them
pub record GaveFewer (n before now : ℕ) : Type 0 where
  pub count : ℕ
  pub few : count < n
  pub rose : RoseBy count before now

-- Why no more links are accepted, by the port's counts before and after: beside its links at most one of them rose. Want of memory
-- has no other cause here
abbrev pub HasCause : Stopped → ℕ → Accepts → Accepts → Type 0
HasCause Connections n old new = RoseBy n old.links new.links × (new.faults ≡ old.faults) × (new.ends ≡ old.ends) × (new.rests ≡ old.rests)
HasCause PortEnded n old new = Rose old.ends new.ends × (new.faults ≡ old.faults) × (new.rests ≡ old.rests)
HasCause Rested n old new = RoseBy 1 old.rests new.rests × (new.faults ≡ old.faults) × (new.ends ≡ old.ends) × GaveFewer n old.links new.links
HasCause Port n old new = Rose old.faults new.faults × (new.ends ≡ old.ends) × (new.rests ≡ old.rests)
HasCause Memory n old new = (new.faults ≡ old.faults) × (new.ends ≡ old.ends) × (new.rests ≡ old.rests)

-- so many links more are in hand as the port gave, at most so many
pub record HasGiven (before after most : ℕ) (old new : Accepts) : Type 0 where
  pub given : ℕ
  pub more : after ≡ before + given
  pub few : given ≤ most
  pub rose : RoseBy given old.links new.links

-- no byte was taken from any of the links or written to it, and none of their calls failed
pub record AreUnusedLinks {L : Type 0} (told : L → Meanings) (ls : List L) : Type 0 where
  pub each : All (λ l. IsUnusedLink (told l)) ls
