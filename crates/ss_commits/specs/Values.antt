-- What a JSON value says as a line that no account has, for private clauses; a line may be told that isn't written so.
use Rattle.std.specs.Prelude.{ℕ, List, if◌then◌else◌, Option, Some, None, option_map, option_and_then, bytes_eq, codes}
use Rattle.serde_json.specs.Data.{Data}
use Rattle.ss_lines.specs.Values.{id_at, name_at, natural_at, text_at, time_at}
use Rattle.ss_commits.specs.declared.values.Kind.{Kind}
use Rattle.ss_commits.specs.declared.values.Kind.TheVariants as kind
use Rattle.ss_commits.specs.declared.marks.Mark.{Mark}
use Rattle.ss_commits.specs.declared.marks.Mark.TheVariants.{Now, NoRow, NoCollection, NoBatch, NextParts}

abbrev pub now_from : Data → Option Mark
now_from d = option_map (λ moment. Now moment) (time_at 1 d)

abbrev pub no_row_from : Data → Option Mark
no_row_from d = option_and_then (λ collection. option_map (λ id. NoRow collection id) (id_at 2 d)) (name_at 1 d)

abbrev pub no_collection_from : Data → Option Mark
no_collection_from d = option_map (λ name. NoCollection name) (name_at 1 d)

abbrev pub no_batch_from : Data → Option Mark
no_batch_from d = option_map (λ number. NoBatch number) (natural_at 1 d)

abbrev pub next_parts_from : Data → Option Mark
next_parts_from d = option_map (λ number. NextParts number) (natural_at 1 d)

-- the kind that a first text names
abbrev pub kind_of : List ℕ → Option Kind
kind_of text =
    if bytes_eq text (codes "now") then Some kind.Now
    else (if bytes_eq text (codes "no-row") then Some kind.NoRow
    else (if bytes_eq text (codes "no-collection") then Some kind.NoCollection
    else (if bytes_eq text (codes "no-batch") then Some kind.NoBatch
    else (if bytes_eq text (codes "next-parts") then Some kind.NextParts
    else None))))

abbrev pub of_kind : Kind → Data → Option Mark
of_kind kind.Now d = now_from d
of_kind kind.NoRow d = no_row_from d
of_kind kind.NoCollection d = no_collection_from d
of_kind kind.NoBatch d = no_batch_from d
of_kind kind.NextParts d = next_parts_from d

abbrev pub mark_from : Data → Option Mark
mark_from d = option_and_then (λ found. of_kind found d) (option_and_then kind_of (text_at 0 d))
