-- The kinds of bookmark items, and their names in a record's `type`.
use Rattle.std.specs.Prelude.{ℕ, List, Bool, true, false, if◌then◌else◌, Option, Some, None, codes, bytes_eq}
use Rattle.ss_record.specs.declared.kinds.Kind.{Kind}
use Rattle.ss_record.specs.declared.kinds.Kind.TheVariants.{Bookmark, Query, Folder, Livemark, Separator}

-- an item that can have children; a livemark is none
abbrev pub is_folder : Kind → Bool
is_folder Bookmark = false
is_folder Query = false
is_folder Folder = true
is_folder Livemark = false
is_folder Separator = false

abbrev pub same_kind : Kind → Kind → Bool
same_kind Bookmark Bookmark = true
same_kind Query Query = true
same_kind Folder Folder = true
same_kind Livemark Livemark = true
same_kind Separator Separator = true
same_kind _ _ = false

-- what `type` says of an item of this kind
abbrev pub kind_name : Kind → List ℕ
kind_name Bookmark = codes "bookmark"
kind_name Query = codes "query"
kind_name Folder = codes "folder"
kind_name Livemark = codes "livemark"
kind_name Separator = codes "separator"

unfoldable pub kind_of : List ℕ → Option Kind
kind_of s =
    if bytes_eq s (codes "bookmark") then Some Bookmark else
    (if bytes_eq s (codes "query") then Some Query else
    (if bytes_eq s (codes "folder") then Some Folder else
    (if bytes_eq s (codes "livemark") then Some Livemark else
    (if bytes_eq s (codes "separator") then Some Separator else None))))
