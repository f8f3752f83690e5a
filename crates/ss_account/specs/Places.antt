-- Places of rows, gathered in a set.
use Rattle.std.specs.Prelude.{ℕ, Bool, ◌&&◌, List, bytes_eq}
use Rattle.std.specs.List.{list_any}
use Rattle.ss_account.specs.declared.places.Place.{Place}

-- whether a collection and id are among places
abbrev pub is_placed : List Place → List ℕ → List ℕ → Bool
is_placed places collection id = list_any (λ (place : Place). bytes_eq collection place.collection.now && bytes_eq id place.id.now) places
