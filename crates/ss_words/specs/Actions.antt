-- The actions of the command `edit` (this project's).
use Rattle.std.specs.Prelude.{ℕ, List, [], ◌∷◌, Option, Some, None, codes, bytes_eq, option_map, option_and_then}
use Rattle.std.specs.Prelude.{if◌then◌else◌}
use Rattle.ss_words.specs.declared.actions.Action.{Action}
use Rattle.ss_words.specs.declared.actions.Action.TheVariants.{New, Bookmark, Folder, Separator, Rename, Move, Delete}
use Rattle.ss_text.specs.Names.{id_of}

abbrev pub new_in : List (List ℕ) → Option Action
new_in [] = Some New
new_in (word ∷ words) = None

-- `PARENT ID TITLE URI`
abbrev pub bookmark_in : List (List ℕ) → Option Action
bookmark_in (parent ∷ id ∷ title ∷ uri ∷ []) = option_and_then (λ parent. option_map (λ id. Bookmark parent id title uri) (id_of id)) (id_of parent)
bookmark_in _ = None

-- `PARENT ID TITLE`
abbrev pub folder_in : List (List ℕ) → Option Action
folder_in (parent ∷ id ∷ title ∷ []) = option_and_then (λ parent. option_map (λ id. Folder parent id title) (id_of id)) (id_of parent)
folder_in _ = None

-- `PARENT ID`
abbrev pub separator_in : List (List ℕ) → Option Action
separator_in (parent ∷ id ∷ []) = option_and_then (λ parent. option_map (λ id. Separator parent id) (id_of id)) (id_of parent)
separator_in _ = None

-- `ID TITLE`
abbrev pub rename_in : List (List ℕ) → Option Action
rename_in (id ∷ title ∷ []) = option_map (λ id. Rename id title) (id_of id)
rename_in _ = None

-- `ID PARENT`
abbrev pub move_in : List (List ℕ) → Option Action
move_in (id ∷ parent ∷ []) = option_and_then (λ id. option_map (λ parent. Move id parent) (id_of parent)) (id_of id)
move_in _ = None

-- `ID`
abbrev pub delete_in : List (List ℕ) → Option Action
delete_in (id ∷ []) = option_map (λ id. Delete id) (id_of id)
delete_in _ = None

-- the words behind an action's name
abbrev pub action_named : List ℕ → List (List ℕ) → Option Action
action_named name words =
    if bytes_eq name (codes "new") then new_in words
    else (if bytes_eq name (codes "bookmark") then bookmark_in words
    else (if bytes_eq name (codes "folder") then folder_in words
    else (if bytes_eq name (codes "separator") then separator_in words
    else (if bytes_eq name (codes "rename") then rename_in words
    else (if bytes_eq name (codes "move") then move_in words
    else (if bytes_eq name (codes "delete") then delete_in words else None))))))

unfoldable pub action_in : List (List ℕ) → Option Action
action_in [] = None
action_in (name ∷ words) = action_named name words
