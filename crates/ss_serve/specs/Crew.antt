-- The workers of a term: what one has done, and what is known of their passes.
use Rattle.std.specs.Prelude.{◌≡◌, ℕ, Bool, ◌+◌, ◌<◌, ◌≤◌, List, [], ◌∷◌, length, map, Option, Some, vec_capacity}
use Rattle.std.specs.List.Sorted.{IsStrictlyIncreasing}
use mathlib.Core.Option.{some}
use lib.ListN.{get_elem?}
use Rattle.atomic_table.specs.declared.badge.Badge.{Badge}
use Rattle.crossbeam_channel.specs.declared.flavors.array.Rows.{Rows}
use Rattle.crossbeam_channel.specs.declared.flavors.array.Key.{Key}
use Rattle.crossbeam_channel.specs.declared.flavors.array.Doing.{Doing}
use Rattle.crossbeam_channel.specs.Claims.{view, IsSeatAt}
use Rattle.ss_desk.specs.declared.desk.Desk.{Desk}
use Rattle.ss_desk.specs.declared.journaled.Journaled.{Ghosts}
use Rattle.ss_desk.specs.declared.pass.RawPass.{RawPass}
use Rattle.ss_desk.specs.declared.view.View.{View}
use Rattle.ss_desk.specs.Passes.{AreOf, view_at}
use Rattle.ss_desk.specs.Views.{range_of}
use Rattle.ss_outside.specs.Told.{Meanings}
use Rattle.ss_serve.specs.declared.channel.Job.{Job}
use Rattle.ss_serve.specs.declared.channel.Tally.{Tally}
use Rattle.ss_serve.specs.Tallies.{tally}
use Rattle.ss_town.specs.Places.{At}
use Rattle.ss_town.specs.Town.{passes_of}
use Rattle.ss_laws.specs.declared.journal.Entry.{Entry}
use Rattle.ss_booked.specs.declared.booked.Terms.{Terms}
use Rattle.ss_route.specs.declared.manner.Manner.{Manner}
use Rattle.ss_connection.specs.Known.{known_by}
use Rattle.ss_connection.specs.Calls.{own_tickets}
use Rattle.ss_serve.specs.declared.report.LinkReport.{LinkReport}
use Rattle.ss_serve.specs.declared.worker.Worker.{Worker}
use Rattle.ss_serve.specs.Reports.{AreAllGated, AreReports, all_calls_to}
use Rattle.ss_serve.specs.Terms.{uids_in}
use Rattle.ss_serve.specs.Workers.{half, share}

-- what stays of a worker while it works: its number, the manner in which it reads conditions, its room for reports, what its clock
-- told at first, and what the fixed parts of the accounts are to its passes
pub record Sign : Type 0 where
  pub number : ℕ
  pub manner : Manner
  pub room : ℕ
  pub start : Option (List ℕ)
  pub fixed : ℕ → Option Terms

-- what the clocks told at first
abbrev pub starts : List Sign → List (Option (List ℕ))
starts signs = map (λ (s : Sign). s.start) signs

-- the number of each worker is its place, it has room for so many reports, its passes are of accounts with these fixed parts, and it
-- reads conditions in this manner
abbrev pub AreWorkerSigns : ℕ → (ℕ → Option Terms) → Manner → List Sign → Type 0
AreWorkerSigns least fixed manner signs = (k : ℕ) (s : Sign) → get_elem? signs k ≡ some s → (s.number ≡ k) × (least ≤ s.room) × (s.fixed ≡ fixed) × (s.manner ≡ manner)

module _ {T : Type 0} where
  -- the fixed parts of the accounts, as these passes know them
  abbrev pub fixed_at : List (RawPass T Terms Entry) → ℕ → Option Terms
  fixed_at ps i = (view_at ps i).fixed

-- a pass of the town after so many halvings, that made no call
pub record IsWhole (n : ℕ) (v : View Terms Entry) : Type 0 where
  pub range : v.range ≡ range_of 0 (half n)
  pub no_book : v.book ≡ []
  pub not_acted : v.acted ≡ []

-- such a pass, in a town where no call was made
abbrev pub IsStart : ℕ → View Terms Entry → Type 0
IsStart n v = IsWhole n v × (v.seen ≡ [])

module _ {T : Type 0} where
  -- the passes of a town after so many halvings of the `opened` ones
  pub record AreHalvedPasses (n : ℕ) (opened ps : List (RawPass T Terms Entry)) : Type 0 where
    pub long : length ps ≡ length opened
    pub start : (i : ℕ) → i < length ps → IsStart n (view_at ps i)
    pub fixed : fixed_at ps ≡ fixed_at opened

module _ {T L : Type 0} (manner : Manner) (tells : L → Meanings) (closed : L → Bool) (uids : List ℕ) where
  -- A worker's passes hold its share of the numbers. Its reports are of connections in its manner, over what its passes have seen, with the readings
  -- of its clock; and its entries are those of the calls in its reports, in order, account by account
  pub record Works (number : ℕ) (ps : List (RawPass T Terms Entry)) (reports : List (LinkReport L)) (start coming : Option (List ℕ)) : Type 0 where
    pub range : (i : ℕ) → i < length ps → (view_at ps i).range ≡ share number
    pub no_book : (i : ℕ) → (view_at ps i).book ≡ []
    pub told : AreReports manner tells closed uids (known_by ps) reports start coming
    pub by : (j : ℕ) (r : LinkReport L) → get_elem? reports j ≡ some r → r.worker ≡ number
    pub own : (i uid : ℕ) → At uids i uid → own_tickets (known_by ps i) ≡ all_calls_to uid reports

module _ {L C T A R : Type 0} {J : Ghosts T Terms Entry A R} where
  abbrev pub sign : (C → Option (List ℕ)) → Worker L C T Terms Entry A R J → Sign
  sign coming w = record { number = w.number; manner = w.manner; room = vec_capacity w.reports; start = coming w.start.value; fixed = fixed_at (passes_of w.passes) }

  -- how many reports the workers have
  abbrev pub count_reports : List (Worker L C T Terms Entry A R J) → ℕ
  count_reports [] = 0
  count_reports (w ∷ ws) = length w.reports.items + count_reports ws

  -- of each response that a worker reports the gate was asked
  abbrev pub IsGatedWorker : (ℕ → ℕ → Bool → Type 0) → Worker L C T Terms Entry A R J → Type 0
  IsGatedWorker says w = AreAllGated says w.reports.items

  module _ {D S : Type 0} (tells : L → Meanings) (closed : L → Bool) (coming : C → Option (List ℕ)) (uids : List ℕ) (desks : List (Desk T Terms Entry D S)) where
    -- a worker's passes are of the town, and its reports say what was done
    pub record HasWorked (w : Worker L C T Terms Entry A R J) : Type 0 where
      pub of : AreOf desks (passes_of w.passes)
      pub works : Works w.manner tells closed uids w.number (passes_of w.passes) w.reports.items (coming w.start.value) (coming w.clock)

    -- and its place at the channel has taken as many links as it has reports
    pub record IsReady {Q M N P : Type 0} (ring : Rows (Badge (Key (Job L))) (Doing (Job L) Tally) Q M (Key (Job L)) N P) (w : Worker L C T Terms Entry A R J) : Type 0 where
      pub worked : HasWorked w
      pub seat : IsSeatAt ring w.place
      pub counted : view w.place ≡ tally 1 0 (length w.reports.items)

    -- the workers of a town that was opened with these passes, each at the place of its number
    pub record Have (opened : List (RawPass T Terms Entry)) (crew : List (Worker L C T Terms Entry A R J)) : Type 0 where
      pub each : (k : ℕ) (w : Worker L C T Terms Entry A R J) → get_elem? crew k ≡ some w → HasWorked w × (w.number ≡ k) × (fixed_at (passes_of w.passes) ≡ fixed_at opened)

module _ {B T : Type 0} (terms : B → Terms) where
  -- the accounts that are handed back are those of the town, in its order, with what no call changes
  pub record AreHandedBack (uids : List ℕ) (ps : List (RawPass T Terms Entry)) (handed : List (ℕ × B)) : Type 0 where
    pub count : length handed ≡ length ps
    pub place : (i uid : ℕ) (b : B) → get_elem? handed i ≡ some (uid, b) → At uids i uid × (fixed_at ps i ≡ Some (terms b))
    pub sorted : IsStrictlyIncreasing (uids_in handed)
