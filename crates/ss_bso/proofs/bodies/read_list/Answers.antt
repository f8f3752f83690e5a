use Rattle.std.proofs.Common.{subst, sym, ap, ◌∙◌, option_map}
use Rattle.serde_json.specs.View.{view}
use Rattle.serde_json.specs.Find.{as_array}
use Rattle.serde_json.proofs.Views.{view-Array}
use Rattle.ss_bso.specs.Bodies.{GivesRecords}
use Rattle.ss_bso.proofs.Elements.{json_list}
use Rattle.ss_bso.proofs.bodies.read_list.Goals as goal

pub returns-in-Array : goal.returns-in-Array
returns-in-Array c =
    let value = ap (option_map view) (sym c.in_ok-value.ensures.ok_part) ∙ c.in_ok-parse.ensures in
    subst (GivesRecords c.records_in.result) (json_list c.args.body.now _ c.in-Array.values.items value (sym (ap (λ v. as_array (view v)) c.in-Array.is ∙ ap as_array (view-Array c.in-Array.values)))) c.records_in.ensures
