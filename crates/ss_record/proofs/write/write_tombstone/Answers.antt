use Rattle.std.proofs.Common.{◌≡◌, ap, ◌∙◌}
use Rattle.std.proofs.lemmas.Result.{IfOk-weaker}
use Rattle.serde_json.specs.Data.{object}
use Rattle.serde_json.specs.Written.{members_have_float}
use Rattle.ss_record.specs.Marks.{plain_text}
use Rattle.ss_record.specs.declared.readings.Reading.TheVariants.{Tombstone}
use Rattle.ss_record.specs.Records.{reading, tombstone_members, tombstone_of}
use Rattle.ss_record.proofs.Tombs.{tombstone_reads}
use Rattle.ss_record.proofs.write.write_tombstone.Goals as goal

pub plain_text-requires : goal.plain_text-requires
unfolding tombstone_members
plain_text-requires c = ap members_have_float c.in_ok-members.ensures

pub returns-clause-text : goal.returns-clause-text
unfolding tombstone_of
returns-clause-text c =
    IfOk-weaker c.plain_text.result _ (λ text. text ≡ tombstone_of c.args.id.now) (λ text e. e ∙ ap (λ m. plain_text (object m)) c.in_ok-members.ensures) c.plain_text.ensures

pub returns-clause-reads_back : goal.returns-clause-reads_back
unfolding tombstone_of
returns-clause-reads_back c ne nr =
    IfOk-weaker c.plain_text.result _ (λ text. reading c.args.id.now text ≡ Tombstone)
    (λ text e. ap (reading c.args.id.now) (e ∙ ap (λ m. plain_text (object m)) c.in_ok-members.ensures) ∙ tombstone_reads c.args.id.now ne nr) c.plain_text.ensures
