use Rattle.std.proofs.Common.{◌≡◌, List, ℕ, Some, cond, bytes_eq, ap, ◌∙◌}
use Rattle.indexmap.specs.IndexMap.{get}
use Rattle.ss_index.proofs.Drawers.{none_from_find, put_kept}
use Rattle.ss_index.proofs.drawer.Drawer.append.Goals as goal

pub invariant_of-self : goal.invariant_of-self
invariant_of-self c =
    let none = none_from_find c.self.invariant c.args.row.id (rw (← c.self.view_is) at c.requires.new) in
    let done = rw c.unwrap.ensures at c.insert.ensures.updates in
    let updates : (q : List ℕ) → get bytes_eq c.insert.new.self q ≡ cond (bytes_eq c.args.row.id q) (Some c.push_back-at.result) (get bytes_eq c.self.inside.places q) =
    λ q. done.0 q ∙ ap (λ id. cond (bytes_eq id q) (Some c.push_back-at.result) (get bytes_eq c.self.inside.places q)) c.requires.key in
    rw c.as_str.ensures (put_kept c.self.invariant c.insert.new.self c.push_back-at.new.self c.push_back-at.result c.args.row none c.push_back-at.ensures.fresh c.push_back-at.ensures.nodes c.push_back-at.ensures.value
    c.push_back-at.ensures.others updates (rw (← c.self.view_is) at c.requires.last))
