use Rattle.std.proofs.Common.{bytes_eq, sym, ap, ◌∙◌, option_map, is_some, not, ◌++◌, ◌∷◌, []}
use Rattle.std.specs.HashMap.{get}
use Rattle.ss_record.specs.Ids.{has}
use Rattle.ss_dupe.specs.Plains.{look_of, placed_at}
use Rattle.ss_dupe.proofs.ReadOut.{look_put, ids_pushed, ids_kept, in_some}
use Rattle.ss_dupe.proofs.plain.PlainTree.put.Goals as goal

pub returns-in_ok-push-clause-ids : goal.returns-in_ok-push-clause-ids
returns-in_ok-push-clause-ids c = λ are x.
    let old = look_of c.args.self.now in
    let g = get bytes_eq c.args.self.now.seats in
    let h = get bytes_eq c.insert.new.self in
    ap (has x) (c.in_ok-push.ensures.items ∙ ap (λ i. c.args.self.now.ids.items ++ i ∷ []) (c.in_ok-id.ensures ∙ sym c.in_ok-key.ensures))
    ∙ ids_pushed old (λ y. option_map placed_at (h y)) c.in_ok-key.key (placed_at c.args.seat) (look_put g h c.in_ok-key.key c.args.seat c.in_ok-insert.ensures.updates.0) c.args.self.now.ids.items are x

pub returns-else-is_none-clause-ids : goal.returns-else-is_none-clause-ids
returns-else-is_none-clause-ids c = λ are x.
    let old = look_of c.args.self.now in
    let g = get bytes_eq c.args.self.now.seats in
    let h = get bytes_eq c.insert.new.self in
    ids_kept old (λ y. option_map placed_at (h y)) c.in_ok-key.key (placed_at c.args.seat) (look_put g h c.in_ok-key.key c.args.seat c.in_ok-insert.ensures.updates.0) c.args.self.now.ids.items
    (in_some g c.in_ok-key.key (ap is_some (sym c.in_ok-insert.ensures.old) ∙ c.is_none.ensures ∙ ap not c.if-is_none.false)) are x
