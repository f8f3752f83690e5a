use Rattle.std.proofs.Common.{◌++◌, sym, ap, ◌∙◌}
use Rattle.std.proofs.lemmas.Result.{on_ok_weaker}
use Rattle.ss_record.specs.Ids.{places}
use Rattle.ss_device.specs.Writing.{quoted_string}
use Rattle.ss_run_edit.proofs.Above.{none_above, one_above}
use Rattle.ss_run_edit.proofs.tellings.push_parent.Goals as goal

pub returns-in-Some : goal.returns-in-Some
returns-in-Some c =
    let id = one_above c.args.tree.now c.above_of.ensures.kept c.args.id.now c.in-Some.above c.item.result.now c.in-Some.ensures.node c.item.ensures in
    on_ok_weaker c.push_json_text.result (λ d. d ∙ ap (λ x. c.args.out.now.items ++ quoted_string x) (c.as_str.ensures.text ∙ (c.id.ensures.id ∙ sym id))) c.push_json_text.ensures.ok

pub returns-in-None : goal.returns-in-None
unfolding places
returns-in-None c =
    let id = none_above c.args.tree.now c.above_of.ensures.kept c.args.id.now c.in-None.ensures.node in
    on_ok_weaker c.push_json_text-in-None.result (λ d. d ∙ ap (λ x. c.args.out.now.items ++ quoted_string x) (sym id)) c.push_json_text-in-None.ensures.ok
