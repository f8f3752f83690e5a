use Rattle.std.proofs.Common.{ap, ap₂, ◌∙◌, map, false, ◌&&◌, ◌||◌, ◌==◌, nat_eq, get_or, arith}
use Rattle.std.specs.List.{list_any}
use Rattle.ss_build.specs.Places.{place}
use Rattle.ss_build.proofs.Chosen.{folder_marks, leaf_marks}
use Rattle.ss_build.proofs.proposals.mark_by.Goals as goal

pub returns-then-not-is_folder : goal.returns-then-not-is_folder
returns-then-not-is_folder c = λ i l. leaf_marks c.args.claims.now c.args.folder i _ _ c.index-claims-folder.result c.requires.folder c.index-claims-folder.is (cc)

pub returns : goal.returns
returns c = λ i l.
    folder_marks c.args.claims.now c.args.folder i _ _ _ c.index-claims-folder.result c.in_ok-seats.seats.items c.requires.apart l c.requires.folder c.index-claims-folder.is (cc)
    (c.in_ok-seats.ensures ∙ ap₂ (λ k w. map (λ x. place x k) w) c.requires.ids c.as_slice.ensures)
    (c.mark_listed.ensures i (omega arith) ∙ ap (λ w. get_or c.args.kept.now i false || ((get_or c.args.claimed.now i 0 == c.args.folder) && list_any (nat_eq i) w)) c.deref.ensures.value)
