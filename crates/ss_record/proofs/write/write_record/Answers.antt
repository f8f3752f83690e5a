use Rattle.std.proofs.Common.{◌≡◌, Some, ap, ◌∙◌, cond, []}
use Rattle.std.proofs.lemmas.Result.{IfOk-weaker}
use Rattle.serde_json.specs.Data.{object}
use Rattle.serde_json.specs.View.{members_view}
use Rattle.serde_json.specs.Written.{members_have_float}
use Rattle.ss_record.specs.declared.readings.Reading.TheVariants.{Item}
use Rattle.ss_record.specs.Kinds.{is_folder}
use Rattle.ss_record.specs.Marks.{plain_text}
use Rattle.ss_record.specs.Records.{reading, record_of}
use Rattle.ss_record.proofs.Fit.{no_float_record, record_text_is, fit_reads_back}
use Rattle.ss_record.proofs.write.write_record.Goals as goal

pub plain_text-requires : goal.plain_text-requires
plain_text-requires c =
    ap members_have_float c.in_ok-members.ensures ∙ no_float_record c.args.item.now (members_view c.in_ok-content.content.entries) c.args.parent.now c.args.children.now c.in_ok-content.ensures.members

pub returns-clause-text : goal.returns-clause-text
returns-clause-text c =
    IfOk-weaker c.plain_text.result _ (λ text. text ≡ record_of c.args.item.now c.args.parent.now c.args.children.now)
    (λ text e. e ∙ (ap (λ m. plain_text (object m)) c.in_ok-members.ensures ∙ record_text_is c.args.item.now (members_view c.in_ok-content.content.entries) c.args.parent.now c.args.children.now c.in_ok-content.ensures.members)) c.plain_text.ensures

pub returns-clause-reads_back : goal.returns-clause-reads_back
returns-clause-reads_back c ne =
    IfOk-weaker c.plain_text.result _ (λ text. reading c.args.item.now.id text ≡ Item c.args.item.now (Some c.args.parent.now) (cond (is_folder c.args.item.now.kind) c.args.children.now []))
    (λ text e. ap (reading c.args.item.now.id) (e ∙ (ap (λ m. plain_text (object m)) c.in_ok-members.ensures ∙ record_text_is c.args.item.now (members_view c.in_ok-content.content.entries) c.args.parent.now c.args.children.now c.in_ok-content.ensures.members))
    ∙ fit_reads_back c.args.item.now c.in_ok-content.ensures.fit ne c.args.parent.now c.args.children.now) c.plain_text.ensures
