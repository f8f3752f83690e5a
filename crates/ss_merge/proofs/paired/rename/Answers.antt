use Rattle.std.proofs.Common.{◌∙◌, ap, sym, bytes_eq}
use Rattle.std.specs.HashMap.{get}
use Rattle.ss_record.specs.Ids.{has}
use Rattle.ss_dupe.specs.Plains.{look_of}
use Rattle.ss_merge.specs.Links.{by_map, look_by}
use Rattle.ss_merge.proofs.Naming.{ids_renamed}
use Rattle.ss_merge.proofs.paired.rename.Goals as goal

pub rename_seats-requires-clause-ids : goal.rename_seats-requires-clause-ids
rename_seats-requires-clause-ids c = λ x. ap (has x) c.deref.ensures.value ∙ c.requires.ids x

pub returns-clause-ids : goal.returns-clause-ids
returns-clause-ids c = λ q. ap (has q) c.in_ok-ids.ensures ∙ ids_renamed (look_of c.args.plain) (by_map (get bytes_eq c.args.names.now)) (look_by (get bytes_eq c.in_ok-seats.seats)) c.args.plain.ids.items c.requires.ids c.in_ok-seats.ensures q
