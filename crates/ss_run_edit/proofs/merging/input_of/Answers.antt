use Rattle.std.proofs.Common.{◌+◌, inr, ap₂, ◌∙◌}
use Rattle.std.proofs.lemmas.List.{take_rest}
use Rattle.ss_run_edit.proofs.Merges.{bad_rows, bad_tree, more_behind}
use Rattle.ss_run_edit.proofs.merging.input_of.Goals as goal

pub returns-in-Err-device_told-clause-refused : goal.returns-in-Err-device_told-clause-refused
returns-in-Err-device_told-clause-refused c = bad_tree c.args.text.now c.in-Ok.front c.in-Err-device_told.ending c.in-Ok.ensures.front c.in-Err-device_told.ensures.untold

pub returns-in-Err-read_remotes-clause-refused : goal.returns-in-Err-read_remotes-clause-refused
returns-in-Err-read_remotes-clause-refused c =
    bad_rows c.args.text.now c.in-Ok.front c.in-Ok-device_told.device _ c.len-count.result c.in-Err-read_remotes.ending c.in-Ok.ensures.front c.in-Ok-device_told.ensures.told (take_rest c.args.text.now c.in-Ok.front.used)
    (c.len-count.ensures ∙ c.in-Ok.front.lines.ok.0) c.in-Err-read_remotes.ensures.stuck

pub returns-then-remotes-back-clause-refused : goal.returns-then-remotes-back-clause-refused
returns-then-remotes-back-clause-refused c =
    inr (inr (more_behind c.args.text.now c.in-Ok.front c.in-Ok-device_told.device _ c.in-Ok-read_remotes.remotes.rows.items c.in-Ok-read_remotes.remotes.used (c.len-count.result + c.len.result + 2) c.in-Ok.ensures.front c.in-Ok-device_told.ensures.told
    (take_rest c.args.text.now c.in-Ok.front.used) c.in-Ok-read_remotes.ensures.read c.if-remotes-back.true
    (ap₂ (λ a b. a + b + 2) (c.len-count.ensures ∙ c.in-Ok.front.lines.ok.0) (c.len.ensures ∙ c.in-Ok-read_remotes.remotes.rows.ok.0))))
