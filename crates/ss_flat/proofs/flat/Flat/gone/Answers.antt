use Rattle.std.proofs.Common.{List, ℕ, ap, subst, sym, ◌∙◌}
use Rattle.std.proofs.lemmas.Result.{IfOk-weaker}
use Rattle.std.specs.Ordering.{is_lt}
use Rattle.ss_text.specs.Texts.{sorted, text_cmp}
use Rattle.ss_flat.specs.Lists.{AreGoneIds}
use Rattle.ss_flat.proofs.Listing.{gone_listed}
use Rattle.ss_flat.proofs.flat.Flat.gone.Goals as goal

pub returns : goal.returns
returns c =
    IfOk-weaker c.gone_by_id.result _ _
    (λ found e rows state. subst (λ (xs : List (List ℕ × ℕ)). AreGoneIds c.args.self.now.kind rows xs) (sym (e ∙ ap (sorted (λ (a b : List ℕ × ℕ). is_lt (text_cmp a.0 b.0))) c.in_ok-all_gone.ensures.gone)) (gone_listed rows c.args.self.now c.in_ok-all_gone.ensures.apart state))
    c.gone_by_id.ensures
