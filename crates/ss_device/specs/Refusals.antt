-- A tree's refusals as those of an edit; the places that an edit names are always there.
use Rattle.ss_tree.specs.declared.faults.TreeFault.{TreeFault}
use Rattle.ss_tree.specs.declared.faults.TreeFault.TheVariants.{NotFolder as NoFolder, Twice as Doubled, BadPlace}
use Rattle.ss_tree.specs.declared.faults.TreeFault.TheVariants.{Memory as NoRoom}
use Rattle.ss_tree.specs.declared.faults.MoveFault.{MoveFault}
use Rattle.ss_tree.specs.declared.faults.MoveFault.TheVariants.{Root as Fixed, NotFolder as MoveNoFolder}
use Rattle.ss_tree.specs.declared.faults.MoveFault.TheVariants.{Under as Below, BadPlace as MoveBadPlace}
use Rattle.ss_device.specs.declared.faults.EditFault.{EditFault}
use Rattle.ss_device.specs.declared.faults.EditFault.TheVariants.{Root, NotFolder, Under, Twice, Memory}

abbrev pub edit_of_tree : TreeFault → EditFault
edit_of_tree NoFolder = NotFolder
edit_of_tree Doubled = Twice
edit_of_tree BadPlace = Memory
edit_of_tree NoRoom = Memory

abbrev pub edit_of_move : MoveFault → EditFault
edit_of_move Fixed = Root
edit_of_move MoveNoFolder = NotFolder
edit_of_move Below = Under
edit_of_move MoveBadPlace = Memory
