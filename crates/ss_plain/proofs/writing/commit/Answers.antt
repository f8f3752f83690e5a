use Rattle.std.proofs.Common.{◌≡◌, ◌++◌, ap, ◌∙◌}
use Rattle.ss_bso.specs.declared.account.Plain.{Plain}
use Rattle.ss_bso.specs.Batches.{batches_without}
use Rattle.ss_bso.specs.Write.{ids_of, write}
use Rattle.ss_query.specs.Effect.{is_over, stamp_in}
use Rattle.ss_query.specs.Refused.{staged_parts}
use Rattle.ss_plain.proofs.Effects.{written, within-kept, within-passed}
use Rattle.ss_plain.proofs.writing.commit.Goals as goal

pub returns-then-would_be_over : goal.returns-then-would_be_over
returns-then-would_be_over c =
    let account = c.args.account in
    let collection = c.args.collection.now in
    let parts = staged_parts account collection c.args.number ++ c.args.records.now.parts in
    let stamp = c.next_stamp-stamp.result in
    let after : Plain = record (write account collection parts (stamp_in account)) { batches = batches_without c.args.number account.batches } in
    let named = c.in_ok-ids.ensures ∙ ap ids_of (c.as_slice.ensures.value ∙ c.in_ok-parts.ensures) in
    let over : c.would_be_over.result ≡ is_over after =
    c.would_be_over.ensures stamp
    ∙ ap is_over (written account collection parts c.as_slice-3.result.now c.as_slice-rows.result.now c.as_slice-4.result.now c.as_slice-2.result.now c.as_slice-5.result.now stamp
    (c.as_slice-3.ensures.value ∙ c.in_ok-parts.ensures) c.next_stamp-stamp.ensures c.as_slice-rows.ensures
    (c.as_slice-4.ensures.value ∙ named) (c.as_slice-2.ensures.value ∙ named) (c.as_slice-5.ensures.value ∙ c.in_ok-made.ensures)) in
    within-passed account after c.would_be_over.result over c.if-would_be_over.true

pub returns : goal.returns
returns c =
    let account = c.args.account in
    let collection = c.args.collection.now in
    let parts = staged_parts account collection c.args.number ++ c.args.records.now.parts in
    let stamp = c.next_stamp-stamp.result in
    let after : Plain = record (write account collection parts (stamp_in account)) { batches = batches_without c.args.number account.batches } in
    let named = c.in_ok-ids.ensures ∙ ap ids_of (c.as_slice.ensures.value ∙ c.in_ok-parts.ensures) in
    let over : c.would_be_over.result ≡ is_over after =
    c.would_be_over.ensures stamp
    ∙ ap is_over (written account collection parts c.as_slice-3.result.now c.as_slice-rows.result.now c.as_slice-4.result.now c.as_slice-2.result.now c.as_slice-5.result.now stamp
    (c.as_slice-3.ensures.value ∙ c.in_ok-parts.ensures) c.next_stamp-stamp.ensures c.as_slice-rows.ensures
    (c.as_slice-4.ensures.value ∙ named) (c.as_slice-2.ensures.value ∙ named) (c.as_slice-5.ensures.value ∙ c.in_ok-made.ensures)) in
    let done = written account collection parts c.as_slice-3.result.now c.as_slice-rows.result.now c.as_slice-6.result.now c.as_slice-2.result.now c.in_ok-made.made.items stamp
    (c.as_slice-3.ensures.value ∙ c.in_ok-parts.ensures) c.next_stamp-stamp.ensures c.as_slice-rows.ensures
    (c.as_slice-6.ensures.value ∙ named) (c.as_slice-2.ensures.value ∙ named) c.in_ok-made.ensures in
    c.end.ensures
    ∙ ap (λ (left : Plain). record left { batches = batches_without c.args.number left.batches }) (c.in_ok-account.ensures ∙ done)
    ∙ within-kept account after c.would_be_over.result over c.if-would_be_over.false
