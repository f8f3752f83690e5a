-- The bookmarks of a rehearsal (this project's).
use Rattle.std.specs.Prelude.{ℕ, ◌/◌, ◌%◌, ◌^◌, List, ◌++◌, length, drop, slice_index_or, codes, decimal}
use Rattle.serde_json.specs.Data.{string, object, Members, no_members, member}
use Rattle.ss_record.specs.declared.kinds.Kind.TheVariants.{Bookmark}
use Rattle.ss_record.specs.Ids.{roots}
use Rattle.ss_record.specs.Items.{ItemView}
use Rattle.ss_record.specs.Marks.{plain_text}

-- a number in 11 digits, with the zeros in front that are wanting
abbrev pub eleven_digits : ℕ → List ℕ
eleven_digits k = drop (length (decimal k)) (codes "00000000000") ++ decimal k

-- the id of the bookmark of a number
unfoldable pub bookmark_id : ℕ → List ℕ
bookmark_id k = codes "b" ++ eleven_digits k

-- its address
unfoldable pub address : ℕ → List ℕ
address k = codes "http://h/" ++ decimal k

-- the title that the number drawn for it gives
unfoldable pub title : ℕ → List ℕ
title x = codes "T" ++ decimal (x / 2 ^ 48)

-- the root that the number drawn for it gives: the one at this place, from 0
unfoldable pub root_of : ℕ → List ℕ
root_of x = slice_index_or roots (x / 2 ^ 32 % 4) (codes "menu")

-- the members of the content of a bookmark
abbrev pub members_of : List ℕ → List ℕ → Members
members_of address title = member (codes "bmkUri") (string address) (member (codes "title") (string title) no_members)

-- the bookmark of a number, for which this was drawn
unfoldable pub bookmark : ℕ → ℕ → ItemView
bookmark k x = record { id = bookmark_id k; kind = Bookmark; content = plain_text (object (members_of (address k) (title x))) }

-- the title that the bookmark of a number gets later
unfoldable pub new_title : ℕ → List ℕ
new_title k = codes "R" ++ decimal k
