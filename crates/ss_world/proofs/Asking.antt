-- What a machine asks is one of the things that an account serves.
use Rattle.std.proofs.Common.{◌≡◌, ℕ, List, [], ◌∷◌, Option, Some, None, refl}
use Rattle.ss_text.specs.declared.stamps.Cond.TheVariants.{IfUnmodified}
use Rattle.ss_bso.specs.declared.parts.Part.{Part}
use Rattle.ss_query.specs.declared.requests.Request.TheVariants.{Post}
use Rattle.ss_client.specs.declared.runs.Stage.{Stage}
use Rattle.ss_client.specs.declared.runs.Stage.TheVariants.{Asks, Opens, Pages, Lists, Uploads}
use Rattle.ss_client.specs.Runs.{MachineView, post_of, rest_of}
use Rattle.ss_client.specs.Asking.{asked, awaits, mode_of, awaited_of}
use Rattle.ss_serving.specs.Bookmarks.{bookmarks}
use Rattle.ss_serving.specs.Asking.{request_of, awaited_of as served_by}
use Rattle.ss_world.specs.Worlds.{asks, post_ask}

pub asked-asks : (m : MachineView) (stage : Stage) → asked m stage ≡ request_of (asks m stage)
unfolding asked
asked-asks m Asks = refl
asked-asks m Opens = refl
asked-asks m (Pages p) = refl
asked-asks m (Lists l) = refl
asked-asks m (Uploads u) = by u.batch (rest_of u)
  where
    by : (o : Option ℕ) (rest : List Part) → Post bookmarks (record { parts = post_of u; failed = [] }) (mode_of o rest) (IfUnmodified u.time) ≡ request_of (post_ask u.time o (post_of u) rest)
    by None [] = refl
    by None (p ∷ rest) = refl
    by (Some batch) [] = refl
    by (Some batch) (p ∷ rest) = refl

pub awaits-asks : (m : MachineView) (stage : Stage) → awaits stage ≡ served_by (asks m stage)
unfolding awaits
awaits-asks m Asks = refl
awaits-asks m Opens = refl
awaits-asks m (Pages p) = refl
awaits-asks m (Lists l) = refl
awaits-asks m (Uploads u) = by u.batch (rest_of u)
  where
    by : (o : Option ℕ) (rest : List Part) → awaited_of rest ≡ served_by (post_ask u.time o (post_of u) rest)
    by None [] = refl
    by None (p ∷ rest) = refl
    by (Some batch) [] = refl
    by (Some batch) (p ∷ rest) = refl
