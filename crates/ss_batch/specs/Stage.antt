-- What contracts see of a stage, what its calls make of it, and why they are refused.
use Rattle.std.specs.Prelude.{ℕ, ◌+◌, ◌-◌, ◌^◌, ◌≤◌, ◌≡◌, ◌≢◌, min, Bool, not, ◌||◌, ◌==◌, nat_le, nat_lt, List, []}
use Rattle.std.specs.Prelude.{◌∷◌, ◌++◌, length, take, map, find, bytes_eq, Option, Some, None, Result, Ok, Err, IfErr}
use Rattle.std.specs.Prelude.{if◌then◌else◌}
use Rattle.ss_text.specs.Time.{last_stamp}
use Rattle.ss_bso.specs.declared.parts.Part.{Part}
use Rattle.ss_bso.specs.declared.account.Staged.{Staged}
use Rattle.ss_bso.specs.Limits.{most_batch_bytes, most_batch_records, most_live_batches, part_bytes}
use Rattle.ss_bso.specs.Batches.{grown}
use Rattle.ss_bso.specs.Lists.{Each, Pairs}
use Rattle.ss_batch.specs.declared.faults.StageFault.{StageFault}
use Rattle.ss_batch.specs.declared.faults.StageFault.TheVariants.{NotLive, OtherCollection, TooManyRecords}
use Rattle.ss_batch.specs.declared.faults.StageFault.TheVariants.{TooManyBytes, TooManyBatches, Memory}

-- the live batches, in the order in which they began, and how many were begun
pub record StageView : Type 0 where
  pub counter : ℕ
  pub batches : List Staged

-- a batch's number was given out: it is from 1 to the counter
abbrev pub HasGivenNumber : ℕ → Staged → Type 0
HasGivenNumber counter batch = (1 ≤ batch.number) × (batch.number ≤ counter)

-- two batches have different numbers
abbrev pub IsOther : Staged → Staged → Type 0
IsOther batch other = batch.number ≢ other.number

-- the numbers of batches were given out, and no two batches have one number
pub record HaveOwnNumbers (counter : ℕ) (batches : List Staged) : Type 0 where
  pub given : Each (HasGivenNumber counter) batches
  pub apart : Pairs IsOther batches

-- whether a batch has this number
abbrev pub has_number : ℕ → Staged → Bool
has_number number batch = batch.number == number

-- the batch of this number, where it is live
abbrev pub live_batch : ℕ → List Staged → Option Staged
live_batch number batches = find (has_number number) batches

-- a stage with one more batch, whose number is the next
abbrev pub stage_after_begin : StageView → ℕ → List ℕ → List Part → StageView
stage_after_begin stage now collection parts = record {
  counter = stage.counter + 1;
  batches = stage.batches ++ record { number = stage.counter + 1; collection = collection; begun = now; parts = parts } ∷ [];
}

-- a stage with more parts at the end of a batch
abbrev pub stage_after_append : StageView → ℕ → List Part → StageView
stage_after_append stage number parts = record stage { batches = map (grown number parts) stage.batches }

-- the batches with other parts in the one of this number
abbrev pub with_parts : ℕ → (List Part → List Part) → List Staged → List Staged
with_parts number change batches = map (λ batch. if has_number number batch then record batch { parts = change batch.parts } else batch) batches

-- a stage without the last so many parts of a batch
abbrev pub stage_after_cut : StageView → ℕ → ℕ → StageView
stage_after_cut stage number parts = record stage { batches = with_parts number (λ old. take (length old - parts) old) stage.batches }

-- the parts of the live batch of this number, or why it isn't continued for a collection
abbrev pub reach : List ℕ → Option Staged → Result (List Part) StageFault
reach collection None = Err NotLive
reach collection (Some batch) = if bytes_eq batch.collection collection then Ok batch.parts else Err OtherCollection

abbrev pub live_parts : StageView → ℕ → List ℕ → Result (List Part) StageFault
live_parts stage number collection = reach collection (live_batch number stage.batches)

-- the greatest number that a count holds
abbrev pub most_counted : ℕ
most_counted = 2 ^ 64 - 1

-- why parts are too many for one batch: their number, or else their payload bytes, each with the total
abbrev pub size_fault : List Part → Option StageFault
size_fault parts =
    if nat_lt most_batch_records (length parts) then Some (TooManyRecords (length parts))
    else (if nat_lt most_batch_bytes (part_bytes parts) then Some (TooManyBytes (min (part_bytes parts) most_counted)) else None)

-- why no parts can be appended to a batch for a collection
abbrev pub more : List Part → Result (List Part) StageFault → Option StageFault
more parts (Ok old) = size_fault (old ++ parts)
more parts (Err fault) = Some fault

abbrev pub append_fault : StageView → ℕ → List ℕ → List Part → Option StageFault
append_fault stage number collection parts = more parts (live_parts stage number collection)

-- whether a further batch may begin: fewer are live than may be, and a number is left
abbrev pub has_room : StageView → Bool
has_room stage = not (nat_le most_live_batches (length stage.batches) || nat_le last_stamp stage.counter)

-- why no batch can begin
abbrev pub begin_fault : StageView → List Part → Option StageFault
begin_fault stage parts = if has_room stage then size_fault parts else Some TooManyBatches

-- a call is answered by the fault that a rule gives; where none does, it is done or meets want of memory
abbrev pub FaultIs : {X : Type 0} → Option StageFault → Result X StageFault → Type 0
FaultIs None result = IfErr result (λ fault. fault ≡ Memory)
FaultIs (Some rule) result = result ≡ Err rule
