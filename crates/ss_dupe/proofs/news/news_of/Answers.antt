use Rattle.std.proofs.Common.{◌≡◌, ◌<◌, ◌≤◌, ◌+◌, cond, length, take, take_all, map, filter, bytes_eq, sym, ap, subst}
use Rattle.std.proofs.Common.{◌∙◌, arith, Some, None, unwrap_or}
use Rattle.std.specs.HashMap.{get}
use Rattle.ss_tree.specs.Trees.{PlacedItem}
use Rattle.ss_record.specs.Ids.{Apart}
use Rattle.ss_dupe.specs.Looks.{children_of}
use Rattle.ss_dupe.specs.Sides.{tree_of, is_new}
use Rattle.ss_dupe.specs.Plains.{view, placed_at}
use Rattle.ss_dupe.specs.News.{new_at}
use Rattle.ss_dupe.proofs.Shapes.{at-of, at-of_none}
use Rattle.ss_dupe.proofs.Newness.{Met, passed_over, taken_up, new-inside}
use Rattle.ss_dupe.proofs.news.news_of.Goals as goal
use Rattle.ss_dupe.proofs.news.news_of.Goals.{then-is_new+in_ok-key+in_ok-copy+in_ok-insert+in_ok-copy-2+in_ok-push}
use Rattle.ss_dupe.proofs.news.news_of.Goals.{else-is_new}

pub returns-in_default : goal.returns-in_default
returns-in_default c =
    let s = view c.args.plains.now in
    let none : tree_of s c.args.side c.args.parent.now ≡ None = sym (ap (λ f. f c.args.parent.now) c.of.ensures) ∙ sym c.in_default.ensures in
    c.new-news.ensures.items ∙ ap (λ (n : PlacedItem). map (new_at s c.args.side c.args.parent.now) (filter (is_new s c.args.side) n.children)) (sym (at-of_none (tree_of s c.args.side) c.args.parent.now none))

pub key_on-requires : goal.key_on-requires
key_on-requires c = new-inside (view c.args.plains.now) c.args.side c.child-item.result (sym c.is_new.ensures ∙ c.if-is_new.true)

pub loop-child-preserved : goal.loop-child-preserved
loop-child-preserved c =
    let s = view c.args.plains.now in
    let lt : c.loop-child.child-index < length c.deref-child-items.result.now = omega arith in
    let found : tree_of s c.args.side c.args.parent.now ≡ Some (placed_at c.in-Some.seat.now) = sym (ap (λ f. f c.args.parent.now) c.of.ensures) ∙ sym c.in-Some.ensures in
    let children : c.deref-child-items.result.now ≡ children_of (tree_of s c.args.side) c.args.parent.now =
    c.deref-child-items.ensures.value ∙ ap (λ (n : PlacedItem). n.children) (sym (at-of (tree_of s c.args.side) c.args.parent.now (placed_at c.in-Some.seat.now) found)) in
    elim c.if-is_new.branch [
      | then-is_new+in_ok-key+in_ok-copy+in_ok-insert+in_ok-copy-2+in_ok-push w ↦
          taken_up s c.args.side c.args.parent.now c.deref-child-items.result.now c.loop-child.child-index c.child-item.result lt c.child-item.is
          (subst Apart (sym children) (c.requires.each c.args.side c.args.parent.now)) children c.loop-child.news.items c.if-is_new.news.items (get bytes_eq c.loop-child.counts) (get bytes_eq c.if-is_new.counts)
          (record { id = w.in_ok-copy-2.field-0; mark = record { key = w.in_ok-key.key; rank = w.unwrap_or-rank.result } }) (sym c.is_new.ensures ∙ w.if-is_new.true) c.loop-child.invariant w.in_ok-copy-2.ensures w.in_ok-key.ensures
          (w.unwrap_or-rank.ensures ∙ ap (λ o. unwrap_or o 0) (w.copied.ensures ∙ w.get-then-is_new.ensures.value)) (ap (λ v. v.items) w.news-is ∙ w.in_ok-push.ensures.items)
          (λ k. ap (λ m. get bytes_eq m k) w.counts-is ∙ w.in_ok-insert.ensures.updates.0 k ∙ ap (λ z. cond (bytes_eq z k) (Some (w.unwrap_or-rank.result + 1)) (get bytes_eq c.loop-child.counts k)) w.in_ok-copy.ensures)
      | else-is_new w ↦
          subst (λ n. Met s c.args.side c.args.parent.now (take (c.loop-child.child-index + 1) c.deref-child-items.result.now) n (get bytes_eq c.if-is_new.counts)) (sym (ap (λ v. v.items) w.news-is))
          (subst (λ m. Met s c.args.side c.args.parent.now (take (c.loop-child.child-index + 1) c.deref-child-items.result.now) c.loop-child.news.items (get bytes_eq m)) (sym w.counts-is)
          (passed_over s c.args.side c.args.parent.now c.deref-child-items.result.now c.loop-child.child-index c.child-item.result lt c.child-item.is c.loop-child.news.items (get bytes_eq c.loop-child.counts) (sym c.is_new.ensures ∙ w.if-is_new.false) c.loop-child.invariant))
    ]

pub returns : goal.returns
returns c =
    let s = view c.args.plains.now in
    let le : length c.deref-child-items.result.now ≤ c.loop-child.child-index = omega arith in
    let found : tree_of s c.args.side c.args.parent.now ≡ Some (placed_at c.in-Some.seat.now) = sym (ap (λ f. f c.args.parent.now) c.of.ensures) ∙ sym c.in-Some.ensures in
    c.loop-child.invariant.told
    ∙ ap (λ l. map (new_at s c.args.side c.args.parent.now) (filter (is_new s c.args.side) l))
    (take_all c.loop-child.child-index c.deref-child-items.result.now le ∙ c.deref-child-items.ensures.value ∙ ap (λ (n : PlacedItem). n.children) (sym (at-of (tree_of s c.args.side) c.args.parent.now (placed_at c.in-Some.seat.now) found)))
