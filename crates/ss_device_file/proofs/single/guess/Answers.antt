use Rattle.std.proofs.Common.{◌≡◌, ℕ, true, false, refl, length, List, Option, Some, None, option_map, sym, ap, subst}
use Rattle.std.proofs.Common.{◌∙◌, ◌∷◌, [], ◌++◌}
use Rattle.std.specs.Option.{IfSome}
use Rattle.std.specs.Str.{IsUtf8}
use Rattle.std.proofs.lemmas.Result.{IfOk-weaker}
use Rattle.ss_device_file.specs.declared.lines.Line.{Line}
use Rattle.ss_device_file.specs.declared.lines.Line.TheVariants.{Item}
use Rattle.ss_device_file.specs.Lines.{HasForm, IsLine, line_text}
use Rattle.ss_device_file.specs.Values.{line_in}
use Rattle.ss_device_file.proofs.Tags.{front_utf8, item_said, item_told, some_length, value_said}
use Rattle.ss_device_file.proofs.Written.{form_in}
use Rattle.serde_json.specs.Read.{read}
use Rattle.ss_device_file.proofs.single.guess.Goals as goal
use Rattle.ss_device_file.proofs.single.guess.Goals.{in_default-via-in-Some-split_last+else-last-eq10}
use Rattle.ss_device_file.proofs.single.guess.Goals.{in_default-via-in_default}
use Rattle.ss_text.proofs.Basics.{none_some}

empty : (xs : List ℕ) → length xs ≡ 0 → xs ≡ []
empty [] e = refl
empty (x ∷ xs) e = cc

pub returns-in-Some-clause-all : goal.returns-in-Some-clause-all
returns-in-Some-clause-all c = λ l h is.
    ap (option_map Item) (sym c.in-Some.is) ∙ item_said c.in_ok-item.field-0 _ c.in_ok-item.ensures.all l h is (item_told l _ is true (sym c.if-is_of_item.true ∙ c.is_of_item.ensures))

pub returns-in-None-clause-all : goal.returns-in-None-clause-all
returns-in-None-clause-all c = λ l h is.
    absurd (none_some (ap (option_map Item) (sym c.in-None.is) ∙ item_said c.in_ok-item.field-0 _ c.in_ok-item.ensures.all l h is (item_told l _ is true (sym c.if-is_of_item.true ∙ c.is_of_item.ensures))))

said_form : (text : List ℕ) (o : Option Line) → o ≡ line_in (read text) → IfSome o HasForm
said_form text None e = tt
said_form text (Some l) e = form_in (read text) l (sym e)

pub returns-in-Some-split_last-clause-form : goal.returns-in-Some-split_last-clause-form
returns-in-Some-split_last-clause-form c =
    let whole : c.args.line.now ≡ c.in-Some-split_last.text.now ++ 10 ∷ [] = c.in-Some-split_last.ensures.cases.0 ∙ ap (λ b. c.in-Some-split_last.text.now ++ b ∷ []) c.if-last-eq10.true in
    IfOk-weaker c.line_in.result _ (λ o. IfSome o HasForm)
    (λ o e. said_form c.in-Some-split_last.text.now o (e (front_utf8 c.in-Some-split_last.text.now (subst IsUtf8 whole c.requires))))
    c.line_in.ensures

pub returns-in-Some-split_last-clause-all : goal.returns-in-Some-split_last-clause-all
returns-in-Some-split_last-clause-all c =
    let whole : c.args.line.now ≡ c.in-Some-split_last.text.now ++ 10 ∷ [] = c.in-Some-split_last.ensures.cases.0 ∙ ap (λ b. c.in-Some-split_last.text.now ++ b ∷ []) c.if-last-eq10.true in
    IfOk-weaker c.line_in.result _ (λ o. (l : Line) → IsLine l → line_text l ≡ c.args.line.now → o ≡ Some l)
    (λ o e l h is. e (front_utf8 c.in-Some-split_last.text.now (subst IsUtf8 whole c.requires))
    ∙ (value_said l h (item_told l _ is false (sym c.if-is_of_item.false ∙ c.is_of_item.ensures)) c.in-Some-split_last.text.now 10 (is ∙ whole)).0)
    c.line_in.ensures

pub returns-in_default-clause-all : goal.returns-in_default-clause-all
returns-in_default-clause-all c = λ l h is.
    let other = item_told l _ is false (sym c.if-is_of_item.false ∙ c.is_of_item.ensures) in
    elim c.in_default.branch [
      | in_default-via-in-Some-split_last+else-last-eq10 w ↦ absurd (w.if-last-eq10.false (value_said l h other w.in-Some-split_last.text.now w.in-Some-split_last.last.now (is ∙ w.in-Some-split_last.ensures.cases.0)).1)
      | in_default-via-in_default w ↦ absurd (some_length l (is ∙ empty c.args.line.now w.in_default.ensures.cases))
    ]
