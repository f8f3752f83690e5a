use Rattle.std.proofs.Common.{ℕ, List, ◌≤◌, length, sym, subst, ◌∙◌}
use Rattle.ss_rehearse.proofs.Fit.{few_digits}
use Rattle.ss_rehearse.proofs.bookmarks.push_eleven_digits.Goals as goal

pub zeros_but-requires : goal.zeros_but-requires
zeros_but-requires c = subst (λ (ds : List ℕ). length ds ≤ 11) (sym (c.as_bytes-digits.ensures.value ∙ c.format.ensures.text)) (few_digits c.args.number c.requires)
