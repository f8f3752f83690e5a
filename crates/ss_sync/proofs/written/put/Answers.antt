use Rattle.std.proofs.Common.{ap, ◌∙◌, []}
use Rattle.std.specs.BTreeMap.{get}
use Rattle.ss_text.specs.Texts.{text_cmp}
use Rattle.ss_bso.specs.Put.{field_value}
use Rattle.std.specs.Option.{option_map_or}
use Rattle.ss_sync.specs.declared.written.Told.{Told}
use Rattle.ss_sync.proofs.Putting.{put_part, old_now}
use Rattle.ss_sync.proofs.written.put.Goals as goal

pub returns : goal.returns
returns c =
    put_part (get text_cmp c.args.rows.now) (get text_cmp c.insert.new.self) c.args.stamp c.args.part.now c.in_ok-copy.field-0 c.in_ok-payload.payload c.in_ok-copy.ensures
    (c.in_ok-payload.ensures ∙ ap (λ old. field_value c.args.part.now.fields.payload old [] (λ text. text)) (old_now c.get.result ∙ ap (λ o. option_map_or (λ (t : Told). t.payload) o []) c.get.ensures.value))
    c.in_ok-insert.ensures.updates.0
