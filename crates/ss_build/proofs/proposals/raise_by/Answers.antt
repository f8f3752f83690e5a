use Rattle.std.proofs.Common.{ap, ap₂, ◌∙◌, map, cond, nat_eq, get_or, arith}
use Rattle.std.specs.List.{list_any}
use Rattle.ss_build.specs.Places.{better, place}
use Rattle.ss_build.proofs.Listers.{folder_raises, leaf_raises}
use Rattle.ss_build.proofs.proposals.raise_by.Goals as goal

pub returns-then-not-is_folder : goal.returns-then-not-is_folder
returns-then-not-is_folder c = λ i l. leaf_raises c.args.claims.now c.args.folder i _ c.index-claims-folder.result c.requires.folder c.index-claims-folder.is (cc)

pub returns : goal.returns
returns c = λ i l.
    folder_raises c.args.claims.now c.args.folder i _ _ c.index-claims-folder.result c.in_ok-seats.seats.items c.requires.apart l c.requires.folder c.index-claims-folder.is (cc)
    (c.in_ok-seats.ensures ∙ ap₂ (λ k w. map (λ x. place x k) w) c.requires.ids c.as_slice.ensures)
    (c.raise_all.ensures i (omega arith) ∙ ap (λ w. cond (list_any (nat_eq i) w) (better c.args.claims.now (get_or c.args.listers.now i 0) c.args.folder) (get_or c.args.listers.now i 0)) c.deref.ensures.value)
