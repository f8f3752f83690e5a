use Rattle.std.proofs.Common.{◌≡◌, ℕ, List, Some, cond, sym, ap, ◌∙◌, subst}
use Rattle.std.specs.BTreeMap.{get}
use Rattle.std.proofs.lemmas.Result.{IfOk-weaker}
use Rattle.ss_text.specs.Texts.{text_cmp}
use Rattle.ss_record.specs.Ids.{has}
use Rattle.ss_tree.specs.Entries.{tree}
use Rattle.ss_device.specs.Edits.{is_within}
use Rattle.ss_device.specs.Removal.{CanGo}
use Rattle.ss_device.proofs.deletions.with_doomed.Goals as goal

pub ids_of-requires-clause-can : goal.ids_of-requires-clause-can
ids_of-requires-clause-can c = subst (CanGo c.args.tree.now c.args.id.now) (sym c.deref.ensures.value) c.requires.can

pub returns-clause-told : goal.returns-clause-told
returns-clause-told c =
    IfOk-weaker c.buried.result _ (λ m. (y : List ℕ) → get text_cmp m y ≡ cond (is_within (tree c.args.tree.now) c.args.id.now y) (Some c.args.time) (get text_cmp c.args.older.now y))
    (λ m e y. e y ∙ ap (λ xs. cond (has y xs) (Some c.args.time) (get text_cmp c.args.older.now y)) c.deref-2.ensures.value ∙ ap (λ b. cond b (Some c.args.time) (get text_cmp c.args.older.now y)) (c.in_ok-ids.ensures y)) c.buried.ensures.told
