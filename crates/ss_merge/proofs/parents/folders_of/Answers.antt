use Rattle.ss_dupe.specs.declared.sides.Side.TheVariants.{Local, Remote}
use Rattle.ss_dupe.specs.Plains.{view}
use Rattle.ss_merge.proofs.Folding.{side_stays, are_folders}
use Rattle.ss_merge.proofs.parents.folders_of.Goals as goal

pub nearest_of-requires-clause-inside : goal.nearest_of-requires-clause-inside
nearest_of-requires-clause-inside c = side_stays (view c.args.plains.now) c.args.ids.now c.requires Local

pub nearest_of-requires-2-clause-inside : goal.nearest_of-requires-2-clause-inside
nearest_of-requires-2-clause-inside c = side_stays (view c.args.plains.now) c.args.ids.now c.requires Remote

pub returns : goal.returns
returns c = are_folders (view c.args.plains.now) c.args.ids.now (record { local = c.in_ok-local.local; remote = c.in_ok-remote.remote }) c.in_ok-local.ensures c.in_ok-remote.ensures
