-- Batches by their numbers: which is there, whether parts fit into one, and what becomes of a list of them.
use Rattle.std.specs.Prelude.{ℕ, Bool, not, ◌&&◌, nat_le, ◌==◌, List, ◌++◌, length, filter, find, bytes_eq, Option}
use Rattle.std.specs.Prelude.{if◌then◌else◌}
use Rattle.ss_bso.specs.declared.parts.Part.{Part}
use Rattle.ss_bso.specs.declared.account.Staged.{Staged}
use Rattle.ss_bso.specs.Limits.{most_batch_records, most_batch_bytes, part_bytes}

-- the batch of this number and collection, where it is among them
abbrev pub batch_in : List ℕ → ℕ → List Staged → Option Staged
batch_in collection number batches = find (λ batch. batch.number == number && bytes_eq batch.collection collection) batches

-- whether parts are within the limits of a batch
abbrev pub fit : List Part → Bool
fit parts = nat_le (length parts) most_batch_records && nat_le (part_bytes parts) most_batch_bytes

-- a batch with more parts at its end, where it has this number
abbrev pub grown : ℕ → List Part → Staged → Staged
grown number parts batch = if batch.number == number then record batch { parts = batch.parts ++ parts } else batch

-- the batches without the one of this number
abbrev pub batches_without : ℕ → List Staged → List Staged
batches_without number batches = filter (λ batch. not (batch.number == number)) batches

-- the batches without those of a collection
abbrev pub batches_elsewhere : List ℕ → List Staged → List Staged
batches_elsewhere collection batches = filter (λ batch. not (bytes_eq batch.collection collection)) batches
