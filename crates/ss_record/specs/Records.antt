-- What a record says of the id of its row, and the record of an item.
use Rattle.std.specs.Prelude.{◌≡◌, ◌⊎◌, ◌&&◌, ℕ, List, [], Bool, true, false, not, if◌then◌else◌, Option, Some, None}
use Rattle.std.specs.Prelude.{map, option_map, option_and_then, unwrap_or, codes, bytes_eq}
use Rattle.serde_json.specs.Data.{Data, boolean, string, array, object, Items, Members, no_members, member, put}
use Rattle.serde_json.specs.Read.{read}
use Rattle.serde_json.specs.View.{items_of}
use Rattle.serde_json.specs.Find.{get_member, as_object}
use Rattle.ss_text.specs.Decimals.{marked_text}
use Rattle.ss_record.specs.declared.kinds.Kind.{Kind}
use Rattle.ss_record.specs.declared.kinds.Kind.TheVariants.{Folder}
use Rattle.ss_record.specs.declared.readings.Reading.{Reading}
use Rattle.ss_record.specs.declared.readings.Reading.TheVariants.{Item, Tombstone, Skipped}
use Rattle.ss_record.specs.Ids.{has, places, roots}
use Rattle.ss_record.specs.Kinds.{is_folder, kind_name, kind_of}
use Rattle.ss_record.specs.Marks.{string_of, marked_string, plain_text}
use Rattle.ss_record.specs.Payloads.{payload_members, without, string_list, is_string, is_true}
use Rattle.ss_record.specs.Items.{ItemView, names_of}

-- ---- reading

-- the kind that `type` names
abbrev pub kind_in : Members → Option Kind
kind_in ms = option_and_then kind_of (option_and_then string_of (get_member (codes "type") ms))

-- absent, or a string
abbrev pub parentid_of : Option Data → Option (Option (List ℕ))
parentid_of None = Some None
parentid_of (Some d) = option_map (λ s. Some s) (string_of d)

-- of a folder: absent, or a list of strings
abbrev pub children_of : Bool → Option Data → Option (List (List ℕ))
children_of false d = Some []
children_of true None = Some []
children_of true (Some d) = string_list d

-- the item of an object whose `type`, `parentid` and `children` are in form; a root is a folder
unfoldable pub item_of : List ℕ → Members → Option Reading
item_of id ms =
    option_and_then (λ kind.
    option_and_then (λ parentid.
    option_and_then (λ children.
    if has id roots && not (is_folder kind) then None
    else Some (Item (record { id = id; kind = kind; content = plain_text (object (without (names_of kind) ms)) }) parentid children))
    (children_of (is_folder kind) (get_member (codes "children") ms)))
    (parentid_of (get_member (codes "parentid") ms)))
    (kind_in ms)

-- what an object says of the id of its row
unfoldable pub members_reading : List ℕ → Members → Reading
members_reading id ms =
    if not (is_string id (get_member (codes "id") ms)) then Skipped
    else (if is_true (get_member (codes "deleted") ms) then (if has id roots then Skipped else Tombstone)
    else unwrap_or (item_of id ms) Skipped)

-- what a payload says of the id of its row
unfoldable pub reading : List ℕ → List ℕ → Reading
reading id payload =
    if bytes_eq id places then Skipped
    else unwrap_or (option_map (members_reading id) (payload_members payload)) Skipped

-- ---- writing

-- a list of strings
abbrev pub string_items : List (List ℕ) → Items
string_items ss = items_of (map (λ s. string (marked_string s)) ss)

-- the members of an item's record, over those of its content
unfoldable pub record_members : List ℕ → Kind → Members → List ℕ → List (List ℕ) → Members
record_members id kind ms parent children =
    let told = put (codes "id") (string (marked_string id)) (put (codes "type") (string (kind_name kind)) (put (codes "parentid") (string (marked_string parent)) ms)) in
    if is_folder kind then put (codes "children") (array (string_items children)) told else told

-- the record of an item under a parent and with children; empty where its content is no object
unfoldable pub record_of : ItemView → List ℕ → List (List ℕ) → List ℕ
record_of i parent children =
    unwrap_or (option_map (λ ms. plain_text (object (record_members i.id i.kind ms parent children))) (option_and_then as_object (read (marked_text i.content)))) []

-- the members of a deleted item's record
unfoldable pub tombstone_members : List ℕ → Members
tombstone_members id = member (codes "deleted") (boolean true) (member (codes "id") (string (marked_string id)) no_members)

-- the record of a deleted item
unfoldable pub tombstone_of : List ℕ → List ℕ
tombstone_of id = plain_text (object (tombstone_members id))

-- ---- fitness

-- the record reads back as the item, its parent and its children
abbrev pub ReadsBack : ItemView → List ℕ → List (List ℕ) → Type 0
ReadsBack i parent children = reading i.id (record_of i parent children) ≡ Item i (Some parent) (if is_folder i.kind then children else [])

-- under every parent and with all children; `places` is fit as a folder with no content
abbrev pub IsFit : ItemView → Type 0
IsFit i = (i ≡ record { id = places; kind = Folder; content = codes "{}" }) ⊎ ((parent : List ℕ) (children : List (List ℕ)) → ReadsBack i parent children)
