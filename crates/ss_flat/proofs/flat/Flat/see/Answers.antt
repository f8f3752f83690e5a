use Rattle.std.proofs.Common.{◌≡◌, List, ℕ, ap, bytes_eq, false, subst, ◌∙◌}
use Rattle.ss_flat.specs.declared.reading.Reading.{Reading}
use Rattle.ss_flat.specs.Joining.{Joins, Makes}
use Rattle.ss_flat.specs.Readings.{reading}
use Rattle.ss_flat.specs.States.{State, heard_of}
use Rattle.ss_flat.proofs.Keeping.{seen_state}
use Rattle.ss_flat.proofs.flat.Flat.see.Goals as goal

pub returns-clause-seen : goal.returns-clause-seen
returns-clause-seen c =
    let made = c.in_ok-more.more.heard in
    let said = c.in_ok-reading.ensures ∙ ap (λ (s : State). reading s.kind c.args.row.now) c.self.view_is in
    seen_state c.args.row.now c.args.self.now c.add.new.self made c.add.ensures.kind (subst (λ (r : Reading). Makes c.args.row.now.modified r made) said c.in_ok-more.ensures)
    (subst (λ (id : List ℕ). Joins (heard_of id c.args.self.now) made (heard_of id c.add.new.self)) c.in_ok-id.ensures c.in_ok-add.ensures.joins)
    (subst (λ (id : List ℕ). (other : List ℕ) → bytes_eq id other ≡ false → heard_of other c.add.new.self ≡ heard_of other c.args.self.now) c.in_ok-id.ensures c.add.ensures.others)
