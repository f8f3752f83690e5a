-- Runs of a world that go on.
use Rattle.std.proofs.Common.{◌≡◌, List, [], ◌∷◌, ◌++◌, refl, sym, ap, subst, ◌∙◌}
use Rattle.std.specs.Prelude.{Result, Ok, Err, IfErr, OnOk}
use Rattle.ss_world.specs.declared.events.Event.{Event}
use Rattle.ss_world.specs.declared.faults.WorldFault.{WorldFault}
use Rattle.ss_world.specs.declared.faults.WorldFault.TheVariants.{Memory}
use Rattle.ss_world.specs.Worlds.{WorldView}
use Rattle.ss_world.specs.Happening.{Happens, Runs, Step, last}
use Rattle.ss_rehearse.specs.Plays.{Leads}
use Rattle.ss_rehearse.specs.Syncing.{HadMemory}

-- what holds of an event that happened or was refused
pub happened : (done : Result (Unit {0}) WorldFault) (H : Type 0) → OnOk done H → IfErr done (λ e. (e ≡ Memory → ⊥) → H) → HadMemory done → H
happened (Ok x) H h p i = h
happened (Err e) H h p i = p i

runs_on : (w : WorldView) (xs ys : List Step) → Runs w xs → Runs (last w xs) ys → Runs w (xs ++ ys)
runs_on w [] ys r s = s
runs_on w (x ∷ xs) ys r s = (r.0, runs_on x.world xs ys r.1 s)

last_on : (w : WorldView) (xs ys : List Step) → last w (xs ++ ys) ≡ last (last w xs) ys
last_on w [] ys = refl
last_on w (x ∷ xs) ys = last_on x.world xs ys

pub leads_on : (w v u : WorldView) (xs ys : List Step) → Leads w xs v → Leads v ys u → Leads w (xs ++ ys) u
leads_on w v u xs ys l m = record {
  runs = runs_on w xs ys l.runs (subst (λ x. Runs x ys) (sym l.here) m.runs);
  here = last_on w xs ys ∙ (ap (λ x. last x ys) l.here ∙ m.here);
}

pub leads_one : (w v : WorldView) (event : Event) → Happens w event v → Leads w (record { event = event; world = v } ∷ []) v
leads_one w v event h = record { runs = (h, tt); here = refl }
