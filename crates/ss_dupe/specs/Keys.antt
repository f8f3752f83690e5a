-- What tells new items apart.
use Rattle.std.specs.Prelude.{ℕ, List, [], ◌∷◌, option_map, unwrap_or, codes, ◌++◌}
use Rattle.std.specs.List.{flat_map}
use Rattle.serde_json.specs.Data.{Members, no_members}
use Rattle.serde_json.specs.Find.{get_member}
use Rattle.serde_json.specs.Written.{compact_text}
use Rattle.ss_record.specs.declared.kinds.Kind.{Kind}
use Rattle.ss_record.specs.declared.kinds.Kind.TheVariants.{Bookmark, Query, Folder, Livemark, Separator}
use Rattle.ss_record.specs.Kinds.{kind_name}
use Rattle.ss_record.specs.Payloads.{payload_members}

-- the members of the content that tell items of a kind apart
abbrev pub telling : Kind → List (List ℕ)
telling Bookmark = codes "title" ∷ codes "bmkUri" ∷ []
telling Query = codes "title" ∷ codes "bmkUri" ∷ []
telling Folder = codes "title" ∷ []
telling Livemark = codes "title" ∷ codes "feedUri" ∷ []
telling Separator = []

-- a member as compact JSON on a line of its own; the line is empty where the member is absent. A number with a point is
-- the marked string of its characters, which no string is
unfoldable pub member_line : Members → List ℕ → List ℕ
member_line ms name = 0x0a ∷ unwrap_or (option_map compact_text (get_member name ms)) []

-- the kind's name, and a line for each member that tells items of the kind apart
unfoldable pub key_of : Kind → List ℕ → List ℕ
key_of kind content = kind_name kind ++ flat_map (member_line (unwrap_or (payload_members content) no_members)) (telling kind)
