use Rattle.std.proofs.Common.{◌≡◌, ◌∙◌, ap, ap₂, length, arith}
use Rattle.std.proofs.lemmas.List.{get_or_read}
use Rattle.ss_record.specs.Ids.{places}
use Rattle.ss_build.specs.Built.{ids}
use Rattle.ss_build.specs.Places.{place}
use Rattle.ss_build.proofs.Valid.{length-ids}
use Rattle.ss_build.proofs.Taking.{child_more, none_listed, listed_all, item_at, parents_length, taken_length}
use Rattle.ss_build.proofs.siblings.take_listed.Goals as goal

pub take_child-requires : goal.take_child-requires
take_child-requires c =
    let a : length c.loop-word.taken ≡ length (ids c.args.claims.now) = taken_length (ids c.args.claims.now) c.loop-word.order.items c.loop-word.taken c.loop-word.invariant.is_taken in
    let b : length c.args.parents.now ≡ length c.args.claims.now = parents_length c.args.claims.now c.args.parents.now c.requires.parents in
    let d : length (ids c.args.claims.now) ≡ length c.args.claims.now = length-ids c.args.claims.now in
    omega arith

pub loop-word-init : goal.loop-word-init
loop-word-init c = none_listed c.args.claims.now c.args.folder c.args.order.now.items c.args.taken.now c.requires.taken

pub loop-word-preserved : goal.loop-word-preserved
loop-word-preserved c =
    child_more c.args.claims.now c.args.parents.now c.args.folder c.args.order.now.items c.loop-word.order.items c.take_child.new.order.items c.loop-word.taken c.take_child.new.taken c.as_slice-word-items.result.now c.loop-word.word-index c.place.result
    c.requires.items c.requires.parents c.requires.folder c.loop-word-test.true
    (c.place.ensures.place ∙ ap₂ place (get_or_read c.as_slice-word-items.result.now c.loop-word.word-index c.word-item.result c.loop-word-test.true c.word-item.is places) c.requires.ids)
    c.in_ok-take_child.ensures.order c.in_ok-take_child.ensures.taken c.loop-word.invariant

pub returns : goal.returns
returns c = record {
  names = listed_all c.args.claims.now c.args.folder c.args.order.now.items c.loop-word.order.items c.loop-word.taken c.as_slice-word-items.result.now c.loop-word.word-index c.loop-word-test.false
      (c.as_slice-word-items.ensures ∙ ap (λ e. e.children) (item_at c.args.claims.now c.args.folder c.index-claims-folder.result c.requires.folder c.index-claims-folder.is)) c.loop-word.invariant;
  taken = c.loop-word.invariant.is_taken;
}
