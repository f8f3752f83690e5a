use Rattle.std.proofs.Common.{◌≡◌, ◌≢◌, ◌++◌, Some, sym, ap, ◌∙◌, append-nil}
use Rattle.std.proofs.lemmas.Result.{IfOk-weaker}
use Rattle.ss_record.specs.Records.{record_of}
use Rattle.ss_tree.specs.declared.entries.Entry.{Entry}
use Rattle.ss_tree.specs.Entries.{entry}
use Rattle.ss_device.specs.Forms.{IsItem}
use Rattle.ss_device.specs.Writing.{item_line, node_line}
use Rattle.ss_device.proofs.Formed.{item_formed, some_above}
use Rattle.ss_device.proofs.Lined.{line_is, no_line}
use Rattle.ss_device.proofs.writing.push_node.Goals as goal

pub returns-in_default-clause-line : goal.returns-in_default-clause-line
returns-in_default-clause-line c = sym (append-nil c.args.out.now.items) ∙ ap (λ l. c.args.out.now.items ++ l) (sym (no_line c.args.tree.now c.requires.kept c.args.node c.requires.live (sym c.parent.ensures.node ∙ c.in_default.is)))

pub returns-in_default-clause-formed : goal.returns-in_default-clause-formed
returns-in_default-clause-formed c = λ e ne q. absurd (some_above c.args.tree.now c.requires.kept c.args.node c.requires.live (sym c.parent.ensures.node ∙ c.in_default.is) ne)

pub returns-clause-line : goal.returns-clause-line
returns-clause-line c =
    let i = c.item-item.result.now in
    let f = c.item.result.now in
    let line = line_is c.args.tree.now c.requires.kept c.args.node c.in-Some.above c.time-2.result i f (sym c.parent.ensures.node ∙ c.in-Some.is) c.item-item.ensures c.time-2.ensures c.item.ensures in
    let text = c.in_ok-record.ensures.text ∙ (ap (λ x. record_of i x c.deref.result.now) c.id.ensures.id ∙ ap (record_of i f.id) (c.deref.ensures.value ∙ c.in_ok-children.ensures)) in
    IfOk-weaker c.push_item.result _ (λ _. c.push_item.new.out.items ≡ c.args.out.now.items ++ node_line c.args.tree.now c.args.node)
    (λ _ e. e ∙ ap (λ l. c.args.out.now.items ++ l) (ap (item_line c.time-2.result) text ∙ sym line)) c.push_item.ensures

pub returns-clause-formed : goal.returns-clause-formed
returns-clause-formed c =
    let es = c.args.tree.now in
    let i = c.item-item.result.now in
    let f = c.item.result.now in
    let text = c.in_ok-record.ensures.text ∙ (ap (λ x. record_of i x c.deref.result.now) c.id.ensures.id ∙ ap (record_of i f.id) (c.deref.ensures.value ∙ c.in_ok-children.ensures)) in
    IfOk-weaker c.push_item.result _ (λ _. (e : Entry) → c.args.node ≢ 0 → entry c.args.node es ≡ Some e → IsItem es e)
    (λ _ _. item_formed es c.args.node c.in-Some.above c.time.result i f _ (sym c.parent.ensures.node ∙ c.in-Some.is) c.item-item.ensures c.time.ensures c.item.ensures text c.item_form.ensures.id c.item_form.ensures.fit c.item_form.ensures.time c.item_form.ensures.utf8)
    c.push_item.ensures
