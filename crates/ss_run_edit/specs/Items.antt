-- New items, for private clauses.
use Rattle.std.specs.Prelude.{◌≡◌, true, false, Result, Ok, Err, ⊤}
use Rattle.ss_record.specs.Items.{ItemView, is_fit}
use Rattle.ss_run_edit.specs.declared.endings.Ending.{Ending}
use Rattle.ss_run_edit.specs.declared.endings.Ending.TheVariants.{Unfit, Memory}

-- the item was made, and is fit; or it isn't fit, or no memory was found
abbrev pub MakesItem : ItemView → Result ItemView Ending → Type 0
MakesItem i (Ok item) = (item ≡ i) × (is_fit i ≡ true)
MakesItem i (Err Unfit) = is_fit i ≡ false
MakesItem i (Err Memory) = ⊤
MakesItem i (Err ending) = ⊥
