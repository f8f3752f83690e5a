use Rattle.std.proofs.Common.{◌≡◌, ◌∙◌, ◌<◌, ◌++◌, ap, sym, length, get_or, arith}
use Rattle.std.proofs.lemmas.List.{append-nil, get_or_read, take_all}
use Rattle.ss_record.specs.Ids.{places}
use Rattle.ss_build.specs.Places.{names, place}
use Rattle.ss_build.proofs.Taking.{taken_pushed, taken_more, place_inside, taken_length}
use Rattle.ss_build.proofs.siblings.take_all.Goals as goal

pub take-requires : goal.take-requires
take-requires c =
    let keys = c.args.places.now.keys in
    let e : c.place.result ≡ place (get_or c.args.words.now c.loop-word.word-index places) c.args.places.now.keys =
    c.place.ensures.place ∙ ap (λ w. place w c.args.places.now.keys) (get_or_read c.args.words.now c.loop-word.word-index c.word-item.result c.loop-word-test.true c.word-item.is places) in
    let l : place (get_or c.args.words.now c.loop-word.word-index places) c.args.places.now.keys < length c.args.places.now.keys = place_inside c.args.places.now.keys c.args.words.now c.loop-word.word-index places c.loop-word-test.true c.requires.inside in
    let t : length c.loop-word.taken ≡ length c.args.places.now.keys = taken_length c.args.places.now.keys c.loop-word.order.items c.loop-word.taken c.loop-word.invariant.1 in
    omega arith

pub loop-word-init : goal.loop-word-init
loop-word-init c = (sym (append-nil (names c.args.places.now.keys c.args.order.now.items)), c.requires.taken)

pub loop-word-preserved : goal.loop-word-preserved
loop-word-preserved c =
    let e : c.place.result ≡ place (get_or c.args.words.now c.loop-word.word-index places) c.args.places.now.keys =
    c.place.ensures.place ∙ ap (λ w. place w c.args.places.now.keys) (get_or_read c.args.words.now c.loop-word.word-index c.word-item.result c.loop-word-test.true c.word-item.is places) in
    let l : place (get_or c.args.words.now c.loop-word.word-index places) c.args.places.now.keys < length c.args.places.now.keys = place_inside c.args.places.now.keys c.args.words.now c.loop-word.word-index places c.loop-word-test.true c.requires.inside in (
      ap (names c.args.places.now.keys) c.in_ok-take.ensures.order
          ∙ taken_more c.args.places.now.keys c.args.words.now c.args.order.now.items c.loop-word.order.items c.loop-word.word-index c.place.result c.loop-word-test.true e c.requires.inside c.loop-word.invariant.0,
      taken_pushed c.args.places.now.keys c.loop-word.order.items c.take.new.order.items c.loop-word.taken c.take.new.taken c.place.result c.requires.apart (omega arith) c.in_ok-take.ensures.order c.in_ok-take.ensures.taken c.loop-word.invariant.1,
    )

pub returns : goal.returns
returns c = record {
  names = c.loop-word.invariant.0 ∙ ap (λ w. names c.args.places.now.keys c.args.order.now.items ++ w) (take_all c.loop-word.word-index c.args.words.now c.loop-word-test.false);
  taken = c.loop-word.invariant.1;
}
