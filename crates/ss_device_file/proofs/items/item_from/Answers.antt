use Rattle.std.proofs.Common.{◌≡◌, ap, subst, sym, true, ◌∙◌}
use Rattle.std.specs.Option.{IfSome}
use Rattle.std.proofs.lemmas.Result.{IfOk-weaker}
use Rattle.ss_text.specs.Names.{is_id}
use Rattle.ss_build.specs.Rows.{is_item}
use Rattle.ss_device_file.specs.Records.{item_from, read_item}
use Rattle.ss_device_file.proofs.Said.{line_said}
use Rattle.ss_device_file.proofs.items.item_from.Goals as goal

pub returns-then-is_item : goal.returns-then-is_item
returns-then-is_item c =
    let form : is_id c.in-Some.id ≡ true = subst (λ o. IfSome o (λ x. is_id x ≡ true)) c.in-Some.is c.in_ok-id.ensures in
    IfOk-weaker c.read_item.result _ (λ o. o ≡ item_from c.args.time c.args.text.now)
    (λ o e. e ∙ (ap (read_item c.args.time) c.in_ok-likely.ensures ∙ sym (line_said c.args.time c.in-Some.id c.args.text.now form (ap is_item (sym c.in_ok-likely.ensures) ∙ (sym c.is_item.ensures ∙ c.if-is_item.true)))))
    c.read_item.ensures
