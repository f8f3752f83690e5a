use Rattle.std.proofs.Common.{List, ℕ, ap, ◌∙◌}
use Rattle.ss_record.specs.declared.kinds.Kind.TheVariants.{Folder}
use Rattle.ss_record.specs.Items.{ItemView, is_fit}
use Rattle.ss_record.proofs.Fit.{empty_fit}
use Rattle.ss_record.proofs.items.Item.empty_folder.Goals as goal

folder_with : List ℕ → List ℕ → ItemView
folder_with x content = record { id = x; kind = Folder; content = content }

pub fit-requires : goal.fit-requires
unfolding folder_with
fit-requires c = ap (λ w. is_fit (folder_with c.args.id w)) (c.new-content.ensures ∙ c.in_ok-from_str.ensures.ok) ∙ empty_fit c.args.id
