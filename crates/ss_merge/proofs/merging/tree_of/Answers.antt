use Rattle.std.proofs.Common.{◌∙◌, bytes_eq}
use Rattle.std.specs.HashMap.{get}
use Rattle.ss_tree.specs.Entries.{tree}
use Rattle.ss_dupe.specs.Plains.{view}
use Rattle.ss_merge.proofs.Whole.{claims_items, claims_tree}
use Rattle.ss_merge.proofs.merging.tree_of.Goals as goal

pub build_claims-requires : goal.build_claims-requires
build_claims-requires c =
    record { items = claims_items (view c.args.plains.now) c.args.ids.now c.requires (get bytes_eq c.in_ok-finals.finals) c.in_ok-finals.ensures c.deref.result.now (c.deref.ensures.value ∙ c.in_ok-claims.ensures) }

pub returns-clause-same : goal.returns-clause-same
returns-clause-same c =
    claims_tree (view c.args.plains.now) c.args.ids.now c.requires (get bytes_eq c.in_ok-finals.finals) c.in_ok-finals.ensures c.deref.result.now (tree c.in_ok-build_claims.field-0) (c.deref.ensures.value ∙ c.in_ok-claims.ensures) c.in_ok-build_claims.ensures.same
