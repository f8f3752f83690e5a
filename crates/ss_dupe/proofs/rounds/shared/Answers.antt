use Rattle.std.proofs.Common.{◌<◌, ◌++◌, ◌∷◌, [], length, take, sym, ap, ◌∙◌, inl, inr, arith, bytes_eq, ◌&&◌}
use Rattle.std.proofs.lemmas.List.{take_more}
use Rattle.ss_record.specs.Ids.{has}
use Rattle.ss_dupe.specs.Looks.{is_in}
use Rattle.ss_dupe.specs.Plains.{view}
use Rattle.ss_dupe.proofs.Alike.{shared_more, no_shared}
use Rattle.ss_dupe.proofs.rounds.shared.Goals as goal
use Rattle.ss_dupe.proofs.rounds.shared.Goals.{then-has+in_ok-copy+in_ok-copy-2+in_ok-push, else-has}

pub loop-id-init : goal.loop-id-init
loop-id-init c = λ x y. no_shared (view c.args.plains.now) c.new-pairs.result.items x y c.new-pairs.ensures.items

pub loop-id-preserved : goal.loop-id-preserved
loop-id-preserved c = λ x y.
    let s = view c.args.plains.now in
    let ids = c.deref-id-items.result.now in
    let i = c.loop-id.id-index in
    let lt : c.loop-id.id-index < length c.deref-id-items.result.now = omega arith in
    let more = take_more ids i c.id-item.result lt ∙ ap (λ z. take i ids ++ z ∷ []) (sym c.id-item.is) in
    shared_more s (take i ids) c.id-item.result c.loop-id.pairs.items c.if-has.pairs.items c.loop-id.invariant
    (elim c.if-has.branch [
      | then-has+in_ok-copy+in_ok-copy-2+in_ok-push w ↦
          inl (sym c.has.ensures ∙ w.if-has.true, ap (λ v. v.items) w.pairs-is ∙ w.in_ok-push.ensures.items ∙ (λ j. c.loop-id.pairs.items ++ (w.in_ok-copy.ensures j, w.in_ok-copy-2.ensures j) ∷ []))
      | else-has w ↦ inr (sym c.has.ensures ∙ w.if-has.false, ap (λ v. v.items) w.pairs-is)
    ]) x y
    ∙ ap (λ l. bytes_eq x y && (has x l && is_in s.remote x)) (sym more)
