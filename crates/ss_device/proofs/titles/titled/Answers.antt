use Rattle.std.proofs.Common.{◌≡◌, ap, ◌∙◌, codes}
use Rattle.std.proofs.lemmas.Result.{IfOk-weaker}
use Rattle.serde_json.specs.Data.{object, put}
use Rattle.serde_json.specs.View.{members_view}
use Rattle.serde_json.specs.Written.{members_have_float}
use Rattle.ss_record.specs.Marks.{plain_text}
use Rattle.ss_device.specs.Edits.{titled}
use Rattle.ss_device.proofs.Retitled.{no_float_with, retitled_fit, titled_is}
use Rattle.ss_device.proofs.titles.titled.Goals as goal

pub plain_text-requires : goal.plain_text-requires
plain_text-requires c =
    ap members_have_float (c.in_ok-members-2.ensures ∙ ap (λ v. put (codes "title") v (members_view c.in_ok-members.members.entries)) c.in_ok-value.ensures)
    ∙ no_float_with c.args.item.now.content c.args.title.now _ c.in_ok-members.ensures.members

pub returns-clause-text : goal.returns-clause-text
returns-clause-text c =
    IfOk-weaker c.plain_text.result _ (λ text. text ≡ titled c.args.title.now c.args.item.now.content)
    (λ text e. e ∙ (ap (λ m. plain_text (object m)) (c.in_ok-members-2.ensures ∙ ap (λ v. put (codes "title") v (members_view c.in_ok-members.members.entries)) c.in_ok-value.ensures)
    ∙ titled_is c.args.item.now.content c.args.title.now _ c.in_ok-members.ensures.members)) c.plain_text.ensures

pub returns-clause-fit : goal.returns-clause-fit
returns-clause-fit c = retitled_fit c.args.item.now c.args.title.now c.requires c.id-fit.ensures.fit

pub returns-in_err-members-clause-fit : goal.returns-in_err-members-clause-fit
returns-in_err-members-clause-fit c = retitled_fit c.args.item.now c.args.title.now c.requires c.id-fit.ensures.fit

pub returns-in_err-members-2-clause-fit : goal.returns-in_err-members-2-clause-fit
returns-in_err-members-2-clause-fit c = retitled_fit c.args.item.now c.args.title.now c.requires c.id-fit.ensures.fit

pub returns-in_err-value-clause-fit : goal.returns-in_err-value-clause-fit
returns-in_err-value-clause-fit c = retitled_fit c.args.item.now c.args.title.now c.requires c.id-fit.ensures.fit
