-- Bookmark items without their places, and which are fit.
use Rattle.std.specs.Prelude.{◌&&◌, ◌||◌, ℕ, List, [], ◌∷◌, Bool, false, not, if◌then◌else◌, option_map, unwrap_or}
use Rattle.std.specs.Prelude.{codes, bytes_eq}
use Rattle.serde_json.specs.Data.{object, Members}
use Rattle.serde_json.specs.Find.{get_member}
use Rattle.ss_record.specs.declared.kinds.Kind.{Kind}
use Rattle.ss_record.specs.declared.kinds.Kind.TheVariants.{Folder}
use Rattle.ss_record.specs.Ids.{has, places, roots}
use Rattle.ss_record.specs.Kinds.{is_folder}
use Rattle.ss_record.specs.Marks.{plain_text}
use Rattle.ss_record.specs.Payloads.{payload_members, lacks, is_true}

-- an item: its id, its kind, and its content as compact JSON, numbers with the characters that they had
pub record ItemView : Type 0 where
  pub id : List ℕ
  pub kind : Kind
  pub content : List ℕ

-- a folder with no content
abbrev pub empty_folder : List ℕ → ItemView
empty_folder x = record { id = x; kind = Folder; content = codes "{}" }

-- the names of the members that tell an item's place and are no content
unfoldable pub names_of : Kind → List (List ℕ)
names_of kind = codes "id" ∷ codes "type" ∷ codes "parentid" ∷ (if is_folder kind then codes "children" ∷ [] else [])

-- the text is the compact one of these members, marked numbers as they were, and with the item's place they read as the item
unfoldable pub are_content : ItemView → Members → Bool
are_content i ms =
    bytes_eq (plain_text (object ms)) i.content
    && (lacks (names_of i.kind) ms
    && (not (is_true (get_member (codes "deleted") ms))
    && (not (has i.id roots) || is_folder i.kind)))

unfoldable pub has_content : ItemView → Bool
has_content i = unwrap_or (option_map (are_content i) (payload_members i.content)) false

-- an item whose record reads back as it (`IsFit` says it so); `places` is fit as a folder with no content
unfoldable pub is_fit : ItemView → Bool
is_fit i = if bytes_eq i.id places then is_folder i.kind && bytes_eq i.content (codes "{}") else has_content i
