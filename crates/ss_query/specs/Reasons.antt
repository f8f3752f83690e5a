-- Why a record fails, as a client is told it.
use Rattle.std.specs.Prelude.{ℕ, List, codes}
use Rattle.ss_bso.specs.declared.parts.Reason.{Reason}
use Rattle.ss_bso.specs.declared.parts.Reason.TheVariants.{Payload, TooLarge, Sortindex, Ttl}

-- the text of a reason (this project; SyncStorage API 1.5 leaves it open)
abbrev pub reason_name : Reason → List ℕ
reason_name Payload = codes "payload"
reason_name TooLarge = codes "payload size"
reason_name Sortindex = codes "sortindex"
reason_name Ttl = codes "ttl"
