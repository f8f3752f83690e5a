use Rattle.std.proofs.Common.{sym, ap, ◌∙◌}
use Rattle.std.proofs.lemmas.Bool.{true≢false}
use Rattle.ss_bso.specs.Members.{json_of}
use Rattle.ss_bso.proofs.Parsing.{json_yes, json_no}
use Rattle.ss_flat.proofs.reading.parse.Goals as goal

pub returns-in-Ok : goal.returns-in-Ok
returns-in-Ok c = json_yes _ _ c.in-Ok.ensures.ok.0 c.in-Ok.ensures.ok.1 ∙ ap json_of c.as_bytes.ensures.value

pub returns-in-Err-2 : goal.returns-in-Err-2
returns-in-Err-2 c = json_no _ (c.in-Err.ensures.err (λ m. true≢false (sym (c.is_memory.ensures.1 m) ∙ c.if-is_memory.false))) ∙ ap json_of c.as_bytes.ensures.value
