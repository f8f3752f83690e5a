use Rattle.std.proofs.Common.{◌≡◌, List, ℕ, sym, ap, subst, ◌∙◌, Some, None, IfOk}
use Rattle.ss_dupe.specs.Looks.{is_in}
use Rattle.ss_dupe.specs.Sides.{tree_of}
use Rattle.ss_dupe.specs.Plains.{view, placed_at}
use Rattle.ss_dupe.proofs.Shapes.{in-of_none}
use Rattle.ss_dupe.proofs.Newness.{key-is}
use Rattle.ss_dupe.proofs.news.key_on.Goals as goal
use Rattle.ss_text.proofs.Basics.{no_way}

pub unreachable-requires : goal.unreachable-requires
unreachable-requires c =
    let none : tree_of (view c.args.plains.now) c.args.side c.args.id.now ≡ None = sym (ap (λ f. f c.args.id.now) c.of.ensures) ∙ sym c.in-None.ensures in
    no_way (is_in (tree_of (view c.args.plains.now) c.args.side) c.args.id.now) c.requires (in-of_none (tree_of (view c.args.plains.now) c.args.side) c.args.id.now none)

pub returns : goal.returns
returns c =
    let s = view c.args.plains.now in
    let found : tree_of s c.args.side c.args.id.now ≡ Some (placed_at c.in-Some.seat.now) = sym (ap (λ f. f c.args.id.now) c.of.ensures) ∙ sym c.in-Some.ensures in
    subst (λ (k : List ℕ). IfOk c.key_of.result (λ key. key ≡ k)) (key-is s c.args.side c.args.id.now (placed_at c.in-Some.seat.now) found) c.key_of.ensures
