use Rattle.std.proofs.Common.{List, ℕ, ap, subst, sym, ◌∙◌}
use Rattle.std.specs.Ordering.{is_lt}
use Rattle.ss_text.specs.Texts.{sorted, text_cmp}
use Rattle.ss_flat.specs.Lists.{AreSkippedIds}
use Rattle.ss_flat.proofs.Listing.{skipped_listed}
use Rattle.ss_flat.proofs.flat.Flat.skipped.Goals as goal

pub returns : goal.returns
returns c = λ rows state.
    subst (λ (ids : List (List ℕ)). AreSkippedIds c.args.self.now.kind rows ids)
    (sym (c.new.ensures ∙ c.in_ok-skipped_by_id.ensures ∙ ap (sorted (λ (a b : List ℕ). is_lt (text_cmp a b))) c.in_ok-all_skipped.ensures.skipped))
    (skipped_listed rows c.args.self.now c.in_ok-all_skipped.ensures.apart state)
