use Rattle.std.proofs.Common.{map, refl}
use Rattle.std.proofs.lemmas.Result.{IfOk-weaker}
use Rattle.std.specs.Map.{values_of}
use Rattle.ss_index.proofs.Pages.{all-answer, newest-answer, oldest-answer}
use Rattle.ss_index.proofs.walk.walked.Goals as goal

pub returns-in-Newest-clause-answer : goal.returns-in-Newest-clause-answer
returns-in-Newest-clause-answer g c =
    IfOk-weaker c.walk.result _ _ (λ found h. newest-answer c.args.query.now (values_of c.args.rows.now.nodes) (map (λ row. row.now) found.items) c.page_end.result c.requires.apart c.in-Newest.is c.page_end.ensures h) c.walk.ensures.rows

pub returns-in-None-clause-answer : goal.returns-in-None-clause-answer
returns-in-None-clause-answer g c =
    IfOk-weaker c.walk_ahead.result _ _
    (λ found h. oldest-answer c.args.query.now (values_of c.args.rows.now.nodes) (map (λ row. row.now) found.items) c.page_end-in-None.result c.requires.apart c.in-Oldest.is c.page_end-in-None.ensures h) c.walk_ahead.ensures.rows

pub returns-in-Some-clause-answer : goal.returns-in-Some-clause-answer
returns-in-Some-clause-answer g c =
    IfOk-weaker c.walk-in-Some.result _ _ (λ found h. all-answer c.args.query.now (values_of c.args.rows.now.nodes) (map (λ row. row.now) found.items) _ c.requires.apart refl h) c.walk-in-Some.ensures.rows

pub returns-in-Index-clause-answer : goal.returns-in-Index-clause-answer
returns-in-Index-clause-answer g c =
    IfOk-weaker c.walk-in-Index.result _ _ (λ found h. all-answer c.args.query.now (values_of c.args.rows.now.nodes) (map (λ row. row.now) found.items) _ c.requires.apart refl h) c.walk-in-Index.ensures.rows
