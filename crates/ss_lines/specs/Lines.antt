-- The lines of a text that tells an account: what each says, and how it is written (the format is this project's). A line is
-- a list in compact JSON, and a newline.
use Rattle.std.specs.Prelude.{◌≡◌, ◌≤◌, ◌<◌, ◌^◌, ◌++◌, ◌∷◌, [], ℕ, ℤ, List, true, Option, Some, None, FitsSigned}
use Rattle.std.specs.Prelude.{codes, length, take, ⊤}
use Rattle.std.specs.Int.{w32}
use Rattle.std.specs.Str.{IsUtf8}
use Rattle.serde_json.specs.Data.{Data, Items, array, item, no_items, null, number, string, unsigned}
use Rattle.serde_json.specs.Find.{of_integer}
use Rattle.serde_json.specs.Written.{compact_text}
use Rattle.ss_text.specs.Names.{is_id, is_name}
use Rattle.ss_text.specs.Time.{last_stamp, stamp_text}
use Rattle.ss_bso.specs.declared.rows.Row.{Row}
use Rattle.ss_bso.specs.declared.parts.Part.{Part}
use Rattle.ss_bso.specs.declared.parts.Field.{Field}
use Rattle.ss_bso.specs.declared.parts.Field.TheVariants.{Keep, Clear, Set}
use Rattle.ss_lines.specs.Digests.{is_digest}
use Rattle.ss_lines.specs.declared.lines.Line.{Line}
use Rattle.ss_lines.specs.declared.lines.Line.TheVariants.{Account, Times, Collection, Row as RowLine, Batch}
use Rattle.ss_lines.specs.declared.lines.Line.TheVariants.{Part as PartLine, Digest, End}

-- ---- what stands in a list

abbrev pub natural : ℕ → Data
natural n = number (unsigned n)

abbrev pub integer : ℤ → Data
integer z = number (of_integer z)

-- a time: its seconds, a point and two digits, as a string
abbrev pub time : ℕ → Data
time t = string (stamp_text t)

-- a value, or `null` for none
abbrev pub optional : {X : Type 0} → (X → Data) → Option X → Data
optional written None = null
optional written (Some x) = written x

-- what a request says of a field: `[]` for nothing, `null` for its default, or the value
abbrev pub field : {X : Type 0} → (X → Data) → Field X → Data
field written Keep = array no_items
field written Clear = null
field written (Set x) = written x

-- ---- the list that a line is

abbrev pub row_list : Row → Items
row_list r =
    item (string (codes "row")) (item (string r.collection) (item (string r.id) (item (time r.modified)
    (item (optional integer r.sortindex) (item (optional natural r.expires) (item (string r.payload) no_items))))))

abbrev pub part_list : Part → Items
part_list p =
    item (string (codes "part")) (item (string p.id) (item (field string p.fields.payload)
    (item (field integer p.fields.sortindex) (item (field natural p.fields.ttl) no_items))))

abbrev pub list_of : Line → Items
list_of Account = item (string (codes "account")) (item (natural 1) no_items)
list_of (Times store last_delete counter) = item (string (codes "times")) (item (time store) (item (time last_delete) (item (natural counter) no_items)))
list_of (Collection name modified) = item (string (codes "collection")) (item (string name) (item (time modified) no_items))
list_of (RowLine r) = row_list r
list_of (Batch counted collection begun) = item (string (codes "batch")) (item (natural counted) (item (string collection) (item (time begun) no_items)))
list_of (PartLine p) = part_list p
list_of (Digest digest) = item (string (codes "digest")) (item (string digest) no_items)
list_of End = item (string (codes "end")) no_items

-- the text of a line, its newline included
unfoldable pub line_text : Line → List ℕ
line_text l = compact_text (array (list_of l)) ++ 10 ∷ []

-- ---- which lines there are: each value has the form of its type

abbrev pub OfOption : {X : Type 0} → (X → Type 0) → Option X → Type 0
OfOption P None = ⊤
OfOption P (Some x) = P x

abbrev pub OfField : {X : Type 0} → (X → Type 0) → Field X → Type 0
OfField P Keep = ⊤
OfField P Clear = ⊤
OfField P (Set x) = P x

-- a row: its name, its id and its time have their forms, and the numbers are within 32 and 64 bits
pub record IsRow (r : Row) : Type 0 where
  pub collection : is_name r.collection ≡ true
  pub id : is_id r.id ≡ true
  pub modified : r.modified ≤ last_stamp
  pub sortindex : OfOption (λ z. FitsSigned w32 z) r.sortindex
  pub expires : OfOption (λ n. n < 2 ^ 64) r.expires
  pub payload : IsUtf8 r.payload

-- a part of a batch
pub record IsPart (p : Part) : Type 0 where
  pub id : is_id p.id ≡ true
  pub payload : OfField IsUtf8 p.fields.payload
  pub sortindex : OfField (λ z. FitsSigned w32 z) p.fields.sortindex
  pub ttl : OfField (λ n. n < 2 ^ 32) p.fields.ttl

abbrev pub IsLine : Line → Type 0
IsLine Account = ⊤
IsLine (Times store last_delete counter) = (store ≤ last_stamp) × (last_delete ≤ last_stamp) × (counter < 2 ^ 64)
IsLine (Collection name modified) = (is_name name ≡ true) × (modified ≤ last_stamp)
IsLine (RowLine r) = IsRow r
IsLine (Batch counted collection begun) = (counted < 2 ^ 64) × (is_name collection ≡ true) × (begun ≤ last_stamp)
IsLine (PartLine p) = IsPart p
IsLine (Digest digest) = is_digest digest ≡ true
IsLine End = ⊤

-- no line stands at the front of a text
abbrev pub NoneBegins : List ℕ → Type 0
NoneBegins text = (l : Line) (back : List ℕ) → IsLine l → line_text l ++ back ≡ text → ⊥

-- the line that stands at the front of a text, of so many bytes
pub record IsFront (text : List ℕ) (l : Line) (used : ℕ) : Type 0 where
  pub line : IsLine l
  pub inside : used ≤ length text
  pub some : 0 < used
  pub text_is : take used text ≡ line_text l
