-- What a sound machine asks is written by a client.
use Rattle.std.proofs.Common.{◌≡◌, ℕ, ◌≤◌, List, Some, None, length, drop, refl, inl, inr, arith}
use Rattle.std.proofs.lemmas.List.Elements.{All-take, All-drop}
use Rattle.ss_query.specs.Fit.{IsFitRequest}
use Rattle.ss_route.specs.Sending.{IsSentRequest, IsUpload}
use Rattle.ss_client.specs.declared.runs.Stage.{Stage}
use Rattle.ss_client.specs.declared.runs.Stage.TheVariants.{Asks, Opens, Pages, Lists, Uploads}
use Rattle.ss_client.specs.Runs.{MachineView}
use Rattle.ss_client.specs.Asking.{asked}
use Rattle.ss_client.specs.Sound.{CanGo}

no_ids : (x : List (List ℕ)) → None ≡ Some x → length x ≤ 100
no_ids x e = cc

pub asked_sent : (m : MachineView) (stage : Stage) → CanGo stage → IsSentRequest (asked m stage) × IsFitRequest (asked m stage)
unfolding asked
asked_sent m Asks c = ((refl, refl), tt)
asked_sent m Opens c = ((refl, inl (refl, refl)), no_ids)
asked_sent m (Pages p) c = ((refl, inl (refl, tt)), no_ids)
asked_sent m (Lists l) c = ((refl, inr (refl, tt)), no_ids)
asked_sent m (Uploads u) c = ((refl, refl, All-take IsUpload u.count (drop u.sent u.parts) (All-drop IsUpload u.sent u.parts c.uploads), tt), (omega (arith, c.few), c.short))
