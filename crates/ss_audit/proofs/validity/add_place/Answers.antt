use Rattle.std.proofs.Common.{◌≡◌, not, ◌&&◌, ◌||◌, bytes_eq, sym, ◌∙◌}
use Rattle.ss_keeper.proofs.Sets.{any-put}
use Rattle.ss_audit.specs.Validity.{is_placed}
use Rattle.ss_audit.specs.declared.validity.Place.{Place}
use Rattle.ss_audit.proofs.validity.add_place.Goals as goal
use Rattle.ss_text.proofs.Basics.{both_left, both_right, same_text}

pub returns-clause-places : goal.returns-clause-places
returns-clause-places c = λ collection id.
    let place = c.place_of.result in
    let old = c.args.places.now.keys in
    any-put (λ (one other : Place). bytes_eq one.collection.now other.collection.now && bytes_eq one.id.now other.id.now)
    (λ (held : Place). bytes_eq collection held.collection.now && bytes_eq id held.id.now) place old c.insert.new.self.keys c.in_ok-is_first.is_first
    (λ x t f.
    let name : place.collection.now ≡ x.collection.now = same_text place.collection.now x.collection.now (both_left (bytes_eq place.collection.now x.collection.now) (bytes_eq place.id.now x.id.now) f) in
    let of : place.id.now ≡ x.id.now = same_text place.id.now x.id.now (both_right (bytes_eq place.collection.now x.collection.now) (bytes_eq place.id.now x.id.now) f) in
    (λ i. bytes_eq collection (sym name i) && bytes_eq id (sym of i)) ∙ t)
    c.in_ok-is_first.ensures.added c.in_ok-is_first.ensures.keys
    ∙ (λ i. (bytes_eq collection (c.place_of.ensures.collection i) && bytes_eq id (c.place_of.ensures.id i)) || is_placed old collection id)

pub returns-clause-first : goal.returns-clause-first
returns-clause-first c =
    c.in_ok-is_first.ensures.added ∙ (λ i. not (is_placed c.args.places.now.keys (c.place_of.ensures.collection i) (c.place_of.ensures.id i)))
