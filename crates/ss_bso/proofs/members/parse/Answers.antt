use Rattle.std.proofs.Common.{◌≡◌, sym, ◌∙◌, option_map}
use Rattle.std.proofs.lemmas.Result.{IfOk-weaker}
use Rattle.serde_json.specs.View.{view}
use Rattle.ss_bso.specs.Members.{parsed_body}
use Rattle.ss_bso.proofs.Parsing.{parsed_is}
use Rattle.ss_bso.proofs.members.parse.Goals as goal

pub returns-then-count_decimals-eq0 : goal.returns-then-count_decimals-eq0
returns-then-count_decimals-eq0 c =
    IfOk-weaker c.read.result _ (λ value. option_map view value ≡ parsed_body c.args.text.now)
    (λ value e. e ∙ parsed_is c.args.text.now c.args.text.now (sym (c.count_decimals.ensures.same c.if-count_decimals-eq0.true))) c.read.ensures

pub returns : goal.returns
returns c =
    IfOk-weaker c.read-2.result _ (λ value. option_map view value ≡ parsed_body c.args.text.now)
    (λ value e. e ∙ parsed_is c.args.text.now c.as_slice.result.now (c.as_slice.ensures.value ∙ c.in_ok-wrapped.ensures.bytes)) c.read-2.ensures
