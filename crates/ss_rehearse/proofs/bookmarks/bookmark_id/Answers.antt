use Rattle.std.proofs.Common.{ℕ, List, ◌≡◌, true, sym, subst, ◌∙◌}
use Rattle.ss_text.specs.Names.{is_id}
use Rattle.ss_rehearse.proofs.Fit.{id_form}
use Rattle.ss_rehearse.proofs.bookmarks.bookmark_id.Goals as goal

pub id_of-requires : goal.id_of-requires
id_of-requires c = subst (λ (t : List ℕ). is_id t ≡ true) (sym (c.as_slice.ensures.value ∙ c.in_ok-text.ensures)) (id_form c.args.number c.requires)
