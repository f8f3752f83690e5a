-- Exchanges one after the other are a run of a world.
use Rattle.std.specs.Prelude.{◌≡◌, ℕ, List, [], ◌∷◌}
use Rattle.std.proofs.Common.{sym, subst}
use Rattle.ss_route.specs.declared.manner.Manner.{Manner}
use Rattle.ss_world.specs.declared.events.Event.{Event}
use Rattle.ss_world.specs.declared.events.Event.TheVariants.{Deliver, LoseReply}
use Rattle.ss_world.specs.declared.seats.Seat.TheVariants.{Idle}
use Rattle.ss_world.specs.Happening.{Happens, Runs, Step}
use Rattle.ss_world.specs.Seats.{after}
use Rattle.ss_world.specs.Worlds.{WorldView, world_with_seat}
use Rattle.ss_promises.specs.Courses.{AreReady, AreTurns, AsksServer, IsExchange, IsTurn, IsUnheard, exchanged, unheard}
use Rattle.ss_promises.specs.Courses.{other}
use Rattle.ss_promises.specs.Exchanges.{Address, IsReady}
use Rattle.ss_promises.proofs.Readying.{send_on}

-- an event at the world that it leads to
at : (w v u : WorldView) (event it : Event) → event ≡ it → v ≡ u → Happens w it u → Happens w event v
at w v u event it e is h = subst (λ x. Happens w x v) (sym e) (subst (Happens w it) (sym is) h)

module _ (manner : Manner) (address : Address)
    (delivers : (n : ℕ) (w : WorldView) (now : ℕ) (v : WorldView) → (x : IsExchange manner address n w now v) → IsReady x.asked.machine → Happens w (Deliver n now) (world_with_seat w x.asked.server n (after x.asked.machine x.next)))
    (loses : (n : ℕ) (w : WorldView) (now : ℕ) (v : WorldView) → (x : IsUnheard manner address n w now v) → IsReady x.asked.machine → Happens w (LoseReply n now) (world_with_seat w x.asked.server n (Idle x.asked.machine.device))) where
  ready : (n : ℕ) (w : WorldView) (now : ℕ) → AreReady w → (x : AsksServer manner address n w now) → IsReady x.machine
  ready n w now all x = let both = all n x.machine x.there in record { sound = both.0; readable = both.1; typed = x.typed }

  turn : (w : WorldView) (step : Step) → AreReady w → IsTurn manner address w step → Happens w step.event step.world
  turn w step all (exchanged n now e x) = at w step.world _ step.event (Deliver n now) e x.is (delivers n w now step.world x (ready n w now all x.asked))
  turn w step all (unheard n now e x) = at w step.world _ step.event (LoseReply n now) e x.is (loses n w now step.world x (ready n w now all x.asked))
  turn w step all (other h) = h

  pub run : (w : WorldView) (steps : List Step) → AreReady w → AreTurns manner address w steps → Runs w steps
  run w [] all h = tt
  run w (step ∷ steps) all h =
      let here : Happens w step.event step.world = turn w step all h.0 in
      (here, run step.world steps (send_on w step.world step.event here all) h.1)
