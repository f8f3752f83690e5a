-- Responses that are ready to be written, and what a write of one leaves.
use Rattle.std.specs.Prelude.{◌≡◌, ℕ, Bool, List, ◌++◌, if◌then◌else◌}
use Rattle.ss_outside.specs.Told.{Meanings, HasWritten}
use Rattle.ss_outside.specs.Causes.{Rose}
use Rattle.ss_http.specs.Responses.{memory_response}
use Rattle.ss_route.specs.declared.ready.Response.{Response}
use Rattle.ss_route.specs.declared.ready.Response.TheVariants.{Whole, Short}

-- the bytes of a response that is ready
abbrev pub bytes_of : Response → List ℕ
bytes_of (Whole text) = text.items
bytes_of (Short moment last) = memory_response moment last

-- the bytes, or in their place, for want of memory, the fixed 507 with the time that they would have told
pub record OrMemory (whole : List ℕ) (moment : ℕ) (last : Bool) (bytes : List ℕ) : Type 0 where
  pub rendered : Bool
  pub are : bytes ≡ (if rendered then whole else memory_response moment last)

-- a response was written whole
pub record WasSent (bytes : List ℕ) (sink sink' : Meanings) : Type 0 where
  pub write : HasWritten bytes sink sink'
  pub faults : sink'.write_faults ≡ sink.write_faults

-- of a response only a front was written
pub record WasCut (bytes : List ℕ) (sink sink' : Meanings) : Type 0 where
  pub sent : List ℕ
  pub rest : List ℕ
  pub cut : bytes ≡ sent ++ rest
  pub write : HasWritten sent sink sink'
  pub rose : Rose sink.write_faults sink'.write_faults
