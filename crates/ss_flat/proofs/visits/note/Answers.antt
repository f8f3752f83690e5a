use Rattle.ss_flat.specs.States.{same_visit}
use Rattle.ss_flat.proofs.Keeping.{apart_keys}
use Rattle.ss_flat.proofs.visits.note.Goals as goal

pub returns-in-Ok-clause-once : goal.returns-in-Ok-clause-once
returns-in-Ok-clause-once c = λ _. apart_keys same_visit _ c.insert.ensures.unique
