-- What `audit` tells of logs (the format is this project's).
use Rattle.std.specs.Prelude.{ℕ, List, [], ◌∷◌, ◌++◌, codes}
use Rattle.serde_json.specs.Data.{Items, array, string}
use Rattle.serde_json.specs.View.{items_of}
use Rattle.serde_json.specs.Written.{compact_text}
use Rattle.ss_lines.specs.Lines.{natural, time}
use Rattle.ss_audit.specs.declared.verdict.Verdict.{Verdict}
use Rattle.ss_audit.specs.declared.verdict.Verdict.TheVariants.{Yes, No}
use Rattle.ss_audit.specs.declared.verdict.Why.{Why}
use Rattle.ss_audit.specs.declared.verdict.Why.TheVariants.{Opening, Follows, Ticket, Limits}

-- why logs aren't sound, in text
abbrev pub why_word : Why → List ℕ
why_word Opening = codes "opening"
why_word Follows = codes "follows"
why_word Ticket = codes "ticket"
why_word Limits = codes "limits"

-- the list that a verdict is: how many logs and entries are sound, and the time of the last write; or the log and the entry, from 1,
-- at which they aren't, and why
abbrev pub verdict_list : Verdict → Items
verdict_list (Yes logs entries store) = items_of (string (codes "yes") ∷ natural logs ∷ natural entries ∷ time store ∷ [])
verdict_list (No log entry why) = items_of (string (codes "no") ∷ natural log ∷ natural entry ∷ string (why_word why) ∷ [])

-- the line of a verdict
unfoldable pub verdict_text : Verdict → List ℕ
verdict_text verdict = compact_text (array (verdict_list verdict)) ++ 10 ∷ []
