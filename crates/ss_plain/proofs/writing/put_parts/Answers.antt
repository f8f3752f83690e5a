use Rattle.std.proofs.Common.{◌≡◌, refl, ap, subst, ◌∙◌}
use Rattle.std.specs.Result.{IfOk}
use Rattle.ss_bso.specs.declared.account.Plain.{Plain}
use Rattle.ss_bso.specs.Write.{write}
use Rattle.ss_query.specs.Effect.{is_over, stamp_in}
use Rattle.ss_plain.proofs.Effects.{written, within-kept}
use Rattle.ss_plain.proofs.writing.put_parts.Goals as goal

pub returns : goal.returns
returns c =
    let account = c.args.account in
    let collection = c.args.collection.now in
    let parts = c.args.parts.now in
    let stamp = c.next_stamp-stamp.result in
    let rows = c.as_slice-rows.result.now in
    let ids = c.as_slice.result.now in
    let after : Plain = write account collection parts (stamp_in account) in
    let over : c.would_be_over.result ≡ is_over after =
    c.would_be_over.ensures stamp
    ∙ ap is_over (written account collection parts parts rows c.as_slice-2.result.now ids c.as_slice-3.result.now stamp refl c.next_stamp-stamp.ensures c.as_slice-rows.ensures
    (c.as_slice-2.ensures.value ∙ c.in_ok-ids.ensures) (c.as_slice.ensures.value ∙ c.in_ok-ids.ensures) (c.as_slice-3.ensures.value ∙ c.in_ok-made.ensures)) in
    let done = written account collection parts parts rows c.as_slice-4.result.now ids c.in_ok-made.made.items stamp refl c.next_stamp-stamp.ensures c.as_slice-rows.ensures
    (c.as_slice-4.ensures.value ∙ c.in_ok-ids.ensures) (c.as_slice.ensures.value ∙ c.in_ok-ids.ensures) c.in_ok-made.ensures in
    subst (λ (left : Plain). IfOk c.replace.result (λ found. found ≡ left)) (done ∙ within-kept account after c.would_be_over.result over c.if-would_be_over.false) c.replace.ensures
