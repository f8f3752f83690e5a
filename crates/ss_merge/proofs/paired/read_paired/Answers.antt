use Rattle.std.proofs.Common.{◌≡◌, ◌∙◌, ap, sym, subst, bytes_eq}
use Rattle.std.specs.HashMap.{get}
use Rattle.std.specs.Map.{lookup}
use Rattle.ss_tree.specs.Entries.{tree}
use Rattle.ss_dupe.specs.Looks.{Id}
use Rattle.ss_dupe.specs.Pairs.{ArePairs}
use Rattle.ss_dupe.specs.Sides.{Sides, sides_asked}
use Rattle.ss_dupe.specs.Plains.{look_of, view}
use Rattle.ss_dupe.specs.Shapes.{HaveShapes}
use Rattle.ss_merge.proofs.Naming.{apart_sorted, are_names, renamed_look}
use Rattle.ss_merge.proofs.Reading.{paired_shaped}
use Rattle.ss_merge.proofs.paired.read_paired.Goals as goal

pub names_of-requires : goal.names_of-requires
names_of-requires c =
    apart_sorted _ (subst (ArePairs (view c.in_ok-read.read)) (sym c.deref.ensures.value) c.in_ok-renamed.ensures).in_order

pub rename-requires-clause-names : goal.rename-requires-clause-names
rename-requires-clause-names c =
    let s = c.args.sides.now in
    let pairs = c.in_ok-renamed.renamed.items in
    let are : ArePairs (sides_asked s) c.in_ok-renamed.renamed.items = subst (λ t. ArePairs t c.in_ok-renamed.renamed.items) c.in_ok-read.ensures.same c.in_ok-renamed.ensures in
    are_names (tree s.mirror.now) (tree s.local.now) (tree s.remote.now) s.local_dead.now s.remote_dead.now pairs (look_of c.in_ok-read.read.local) (get bytes_eq c.in_ok-names.names)
    c.in_ok-read.ensures.local_tree c.in_ok-read.ensures.remote_tree are (λ z. ap (λ (w : Sides). w.local z) c.in_ok-read.ensures.same) (λ x. c.in_ok-names.ensures x ∙ ap (lookup (bytes_eq x)) c.deref.ensures.value)

pub returns-clause-renamed : goal.returns-clause-renamed
returns-clause-renamed c = subst (λ t. ArePairs t c.in_ok-renamed.renamed.items) c.in_ok-read.ensures.same c.in_ok-renamed.ensures

pub returns-clause-same : goal.returns-clause-same
returns-clause-same c =
    let s = c.args.sides.now in
    let g = get bytes_eq c.in_ok-names.names in
    let t = look_of c.in_ok-read.read.local in
    let pairs = c.in_ok-renamed.renamed.items in
    let are : ArePairs (sides_asked s) c.in_ok-renamed.renamed.items = subst (λ u. ArePairs u c.in_ok-renamed.renamed.items) c.in_ok-read.ensures.same c.in_ok-renamed.ensures in
    let looks : (z : Id) → t z ≡ _ = λ z. ap (λ (w : Sides). w.local z) c.in_ok-read.ensures.same in
    let named : (x : Id) → g x ≡ lookup (bytes_eq x) pairs = λ x. c.in_ok-names.ensures x ∙ ap (lookup (bytes_eq x)) c.deref.ensures.value in
    let names = are_names (tree s.mirror.now) (tree s.local.now) (tree s.remote.now) s.local_dead.now s.remote_dead.now pairs t g
    c.in_ok-read.ensures.local_tree c.in_ok-read.ensures.remote_tree are looks named in
    λ i. record {
      mirror = (c.in_ok-read.ensures.same i).mirror;
      local = λ q. renamed_look (tree s.local.now) pairs t (look_of c.in_ok-local.local) g looks named names c.in_ok-local.ensures.looks q i;
      remote = (c.in_ok-read.ensures.same i).remote;
      local_dead = (c.in_ok-read.ensures.same i).local_dead;
      remote_dead = (c.in_ok-read.ensures.same i).remote_dead;
    }

pub returns-clause-shaped : goal.returns-clause-shaped
returns-clause-shaped c =
    subst HaveShapes (sym (returns-clause-same c)) (paired_shaped c.in_ok-renamed.renamed.items c.args.sides.now c.in_ok-read.ensures.local_tree c.in_ok-read.ensures.remote_tree (returns-clause-renamed c))
