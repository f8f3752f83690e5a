-- What a buffer keeps between two messages.
use Rattle.std.specs.Prelude.{◌≡◌, ℕ, List, ◌++◌, Option, Result, Ok, Err}
use Rattle.ss_outside.specs.Told.{Meanings, HasRead}
use Rattle.ss_http.specs.declared.fault.MsgFault.{MsgFault}

-- the bytes that were read and belong to no message yet, and why no message will come any more, if so
pub record KeptBytes : Type 0 where
  pub bytes : List ℕ
  pub stop : Option MsgFault

-- what reads brought stands behind what was kept
pub record Brings (old new : List ℕ) (before now : Meanings) : Type 0 where
  pub got : List ℕ
  pub kept : new ≡ old ++ got
  pub read : HasRead got before now

-- how many bytes a read brought
abbrev pub count_of : {E : Type 0} → Result ℕ E → ℕ
count_of (Ok n) = n
count_of (Err e) = 0
