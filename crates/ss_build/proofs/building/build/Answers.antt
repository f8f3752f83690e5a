use Rattle.std.proofs.Common.{◌≡◌, ◌≤◌, ◌∙◌, filter_map, ap, length, arith}
use Rattle.ss_tree.specs.Entries.{tree}
use Rattle.ss_build.specs.Rows.{claim_of, rows_of}
use Rattle.ss_build.proofs.Kept.{repaired_is}
use Rattle.ss_build.proofs.Grown.{read_apart, claims_is, are_items, with_longer, built_is, built_back}
use Rattle.ss_build.proofs.building.build.Goals as goal

pub add_roots-requires : goal.add_roots-requires
add_roots-requires c = read_apart c.args.sheets.now c.in_ok-read.read.items c.requires.distinct (c.in_ok-read.ensures ∙ ap (filter_map claim_of) (c.deref.ensures.value ∙ c.in_ok-rows.ensures))

pub grow-requires-clause-items : goal.grow-requires-clause-items
grow-requires-clause-items c =
    are_items c.args.sheets.now c.deref-2.result.now c.requires.distinct
    (c.deref-2.ensures.value ∙ claims_is (rows_of c.args.sheets.now) c.in_ok-read.read.items c.in_ok-claims.claims.items (c.in_ok-read.ensures ∙ ap (filter_map claim_of) (c.deref.ensures.value ∙ c.in_ok-rows.ensures)) c.in_ok-claims.ensures)

pub grow-requires-clause-inside : goal.grow-requires-clause-inside
grow-requires-clause-inside c =
    let l : length c.in_ok-read.read.items ≤ length c.in_ok-claims.claims.items = with_longer c.in_ok-read.read.items c.in_ok-claims.claims.items c.in_ok-claims.ensures in
    let n : length c.deref-2.result.now ≡ length c.in_ok-claims.claims.items = ap length c.deref-2.ensures.value in
    omega arith

pub returns-clause-tree : goal.returns-clause-tree
returns-clause-tree c =
    built_is (rows_of c.args.sheets.now) c.deref-2.result.now (tree c.in_ok-grown.grown.tree)
    (c.deref-2.ensures.value ∙ claims_is (rows_of c.args.sheets.now) c.in_ok-read.read.items c.in_ok-claims.claims.items (c.in_ok-read.ensures ∙ ap (filter_map claim_of) (c.deref.ensures.value ∙ c.in_ok-rows.ensures)) c.in_ok-claims.ensures)
    c.in_ok-grown.ensures.same

pub returns-clause-back : goal.returns-clause-back
returns-clause-back c =
    built_back c.args.sheets.now (tree c.in_ok-grown.grown.tree) c.requires.distinct
    (built_is (rows_of c.args.sheets.now) c.deref-2.result.now (tree c.in_ok-grown.grown.tree)
    (c.deref-2.ensures.value ∙ claims_is (rows_of c.args.sheets.now) c.in_ok-read.read.items c.in_ok-claims.claims.items (c.in_ok-read.ensures ∙ ap (filter_map claim_of) (c.deref.ensures.value ∙ c.in_ok-rows.ensures)) c.in_ok-claims.ensures)
    c.in_ok-grown.ensures.same)

pub returns-clause-repaired : goal.returns-clause-repaired
returns-clause-repaired c =
    let n : c.len-count.result ≡ length c.in_ok-read.read.items = omega arith in
    repaired_is (rows_of c.args.sheets.now) c.deref-2.result.now c.len-count.result c.in_ok-grown.grown.repaired
    (c.deref-2.ensures.value ∙ claims_is (rows_of c.args.sheets.now) c.in_ok-read.read.items c.in_ok-claims.claims.items (c.in_ok-read.ensures ∙ ap (filter_map claim_of) (c.deref.ensures.value ∙ c.in_ok-rows.ensures)) c.in_ok-claims.ensures)
    (n ∙ ap length (c.in_ok-read.ensures ∙ ap (filter_map claim_of) (c.deref.ensures.value ∙ c.in_ok-rows.ensures)))
    c.in_ok-grown.ensures.repaired
