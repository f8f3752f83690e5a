-- What the types of a device's parts say of their values: ids, times and texts have their forms.
use Rattle.std.specs.Prelude.{◌≡◌, ◌≢◌, ◌≤◌, ℕ, List, true, Some}
use Rattle.std.specs.List.{AllByRecursion}
use Rattle.std.specs.Str.{IsUtf8}
use Rattle.ss_text.specs.Names.{is_id}
use Rattle.ss_text.specs.Time.{last_stamp}
use Rattle.ss_record.specs.declared.readings.Sheet.{Sheet}
use Rattle.ss_record.specs.Items.{is_fit}
use Rattle.ss_tree.specs.declared.entries.Entry.{Entry}
use Rattle.ss_tree.specs.Entries.{IsTree, entry}
use Rattle.ss_device.specs.Device.{DeviceView, IsDevice}
use Rattle.ss_device.specs.Writing.{record_at}

-- a row
pub record IsRow (r : Sheet) : Type 0 where
  pub id : is_id r.id ≡ true
  pub time : r.modified ≤ last_stamp
  pub payload : IsUtf8 r.payload

-- an item of a tree other than `places`, whose record is a text
pub record IsItem (es : List Entry) (e : Entry) : Type 0 where
  pub id : is_id e.item.id ≡ true
  pub fit : is_fit e.item ≡ true
  pub time : e.time ≤ last_stamp
  pub record_utf8 : IsUtf8 (record_at es e)

-- each item of a tree other than `places`
abbrev pub AreItems : List Entry → Type 0
AreItems es = (k : ℕ) (e : Entry) → k ≢ 0 → entry k es ≡ Some e → IsItem es e

-- a deleted id, with the time of its deletion
pub record IsDeath (d : List ℕ × ℕ) : Type 0 where
  pub id : is_id d.0 ≡ true
  pub time : d.1 ≤ last_stamp

-- a device: what holds of every one, and the forms of its parts
pub record HasDeviceForm (d : DeviceView) : Type 0 where
  pub device : IsDevice d
  pub valid : IsTree d.tree
  pub items : AreItems d.tree
  pub rows : AllByRecursion IsRow d.mirror
  pub deaths : AllByRecursion IsDeath d.dead
  pub stamp : d.stamp ≤ last_stamp
