-- A refused message leaves the count of faults as it was.
use Rattle.std.proofs.Common.{◌≡◌, ℕ, Some}
use Rattle.ss_http.specs.declared.fault.MsgFault.{MsgFault}
use Rattle.ss_http.specs.declared.fault.MsgFault.TheVariants as faults
use Rattle.ss_http.specs.Reading.{RisesWith}
use Rattle.ss_route.specs.declared.routed.Local.{Local}
use Rattle.ss_route.specs.Wire.{refusal_of}

-- a fault that is answered is none of the source
pub quiet : (fault : MsgFault) (local : Local) (before now : ℕ) → refusal_of fault ≡ Some local → RisesWith fault before now → now ≡ before
quiet faults.End local before now answered rises = rises
quiet faults.Cut local before now answered rises = rises
quiet faults.BadHead local before now answered rises = rises
quiet faults.HeadTooLong local before now answered rises = rises
quiet faults.Coded local before now answered rises = rises
quiet faults.BadLength local before now answered rises = rises
quiet (faults.TooLarge n) local before now answered rises = rises
quiet faults.ReadFault local before now answered rises = cc
quiet faults.Memory local before now answered rises = rises
