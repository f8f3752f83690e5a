-- Plans of the calls that fail, of objects in memory.
use Rattle.std.specs.Prelude.{ℕ, ◌+◌, ◌-◌, ◌^◌, ◌==◌, min, Bool, false, List, Option, Some, None, if◌then◌else◌}
use Rattle.std.specs.List.{list_any}

-- the numbers of the calls that fail, counted from 1; how many calls were made, and how many of them failed
pub record Plan : Type 0 where
  pub failing : List ℕ
  pub calls : ℕ
  pub faults : ℕ

-- a plan before the first call
abbrev pub fresh_plan : List ℕ → Plan
fresh_plan failing = record { failing = failing; calls = 0; faults = 0 }

-- a count that was raised; it stops at the greatest u64
abbrev pub raised_count : ℕ → ℕ
raised_count count = min (count + 1) (2 ^ 64 - 1)

-- whether the next call fails; without a plan none does
abbrev pub is_failing : Option Plan → Bool
is_failing None = false
is_failing (Some plan) = list_any (λ number. number == raised_count plan.calls) plan.failing

-- the plan after the next call
abbrev pub after_call : Option Plan → Option Plan
after_call None = None
after_call (Some plan) = Some (record {
  failing = plan.failing;
  calls = raised_count plan.calls;
  faults = if is_failing (Some plan) then raised_count plan.faults else plan.faults;
})

-- how many calls failed
abbrev pub fault_count : Option Plan → ℕ
fault_count None = 0
fault_count (Some plan) = plan.faults
