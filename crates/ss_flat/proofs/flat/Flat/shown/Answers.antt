use Rattle.std.proofs.Common.{List, ap, subst, sym, ◌∙◌}
use Rattle.std.proofs.lemmas.Result.{IfOk-weaker}
use Rattle.std.specs.Ordering.{is_lt}
use Rattle.ss_text.specs.Texts.{sorted, text_cmp}
use Rattle.ss_flat.specs.declared.lists.Shown.{Shown}
use Rattle.ss_flat.specs.Lists.{AreShownRecords}
use Rattle.ss_flat.proofs.Listing.{shown_listed}
use Rattle.ss_flat.proofs.flat.Flat.shown.Goals as goal

pub returns : goal.returns
returns c =
    IfOk-weaker c.shown_by_id.result _ _
    (λ found e rows state. subst (λ (xs : List Shown). AreShownRecords c.args.self.now.kind rows xs) (sym (e ∙ ap (sorted (λ (a b : Shown). is_lt (text_cmp a.id b.id))) c.in_ok-all_shown.ensures.shown)) (shown_listed rows c.args.self.now c.in_ok-all_shown.ensures.apart state))
    c.shown_by_id.ensures
