use Rattle.std.proofs.Common.{◌≡◌, ℕ, List, Some, cond, ap, ◌∙◌}
use Rattle.std.specs.BTreeMap.{get}
use Rattle.std.proofs.lemmas.Result.{IfOk-weaker}
use Rattle.ss_text.specs.Texts.{text_cmp}
use Rattle.ss_record.specs.Ids.{has}
use Rattle.ss_build.specs.Built.{or_else}
use Rattle.ss_device.proofs.Buried.{graves_first}
use Rattle.ss_device.proofs.burials.buried.Goals as goal

pub returns-clause-told : goal.returns-clause-told
returns-clause-told c =
    IfOk-weaker c.with_older.result _ (λ m. (y : List ℕ) → get text_cmp m y ≡ cond (has y c.args.ids.now) (Some c.args.time) (get text_cmp c.args.older.now y))
    (λ m e y. e y ∙ (ap (λ o. or_else o (get text_cmp c.args.older.now y)) (c.in_ok-graves.ensures.told y) ∙ graves_first (has y c.args.ids.now) c.args.time (get text_cmp c.args.older.now y))) c.with_older.ensures.told
