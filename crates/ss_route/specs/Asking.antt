-- Which method may be asked of which place.
use Rattle.std.specs.Prelude.{ℕ, is_some, List, [], ◌∷◌, map, filter, bytes_eq, Option, Some, None, ok_or, Result, Ok}
use Rattle.std.specs.Prelude.{Err, if◌then◌else◌, codes}
use Rattle.ss_text.specs.Names.{is_id, is_name}
use Rattle.ss_route.specs.declared.methods.Method.{Method}
use Rattle.ss_route.specs.declared.methods.Method.TheVariants.{Get, Put, Post, Delete}
use Rattle.ss_route.specs.declared.routed.Local.{Local}
use Rattle.ss_route.specs.declared.targets.Place.{Place}
use Rattle.ss_route.specs.declared.targets.Place.TheVariants.{Everything, About, Collection, Item}
use Rattle.ss_route.specs.declared.asked.Asked.{Asked}
use Rattle.ss_route.specs.declared.asked.Asked.TheVariants.{DeleteEverything, TellOf, OfCollection, OfItem}
use Rattle.ss_route.specs.declared.asked.CollectionAct.TheVariants as collections
use Rattle.ss_route.specs.declared.asked.ItemAct.TheVariants as items
use Rattle.ss_route.specs.Refusals.{not_allowed, code}

-- the methods, in the order of `Allow`
abbrev pub methods : List Method
methods = Get ∷ Put ∷ Post ∷ Delete ∷ []

abbrev pub name_of : Method → List ℕ
name_of Get = codes "GET"
name_of Put = codes "PUT"
name_of Post = codes "POST"
name_of Delete = codes "DELETE"

-- the method must be one of these
unfoldable pub method_in : List ℕ → Result Method Local
method_in name =
    if bytes_eq name (codes "GET") then Ok Get
    else (if bytes_eq name (codes "PUT") then Ok Put
    else (if bytes_eq name (codes "POST") then Ok Post
    else (if bytes_eq name (codes "DELETE") then Ok Delete else Err (not_allowed (map name_of methods)))))

-- what a method asks of a place, where it may be asked there
abbrev pub asked_of : Place → Method → Option Asked
asked_of Everything Get = None
asked_of Everything Put = None
asked_of Everything Post = None
asked_of Everything Delete = Some DeleteEverything
asked_of (About what) Get = Some (TellOf what)
asked_of (About what) Put = None
asked_of (About what) Post = None
asked_of (About what) Delete = None
asked_of (Collection collection) Get = Some (OfCollection collections.List collection)
asked_of (Collection collection) Put = None
asked_of (Collection collection) Post = Some (OfCollection collections.Post collection)
asked_of (Collection collection) Delete = Some (OfCollection collections.Delete collection)
asked_of (Item collection id) Get = Some (OfItem items.Get collection id)
asked_of (Item collection id) Put = Some (OfItem items.Put collection id)
asked_of (Item collection id) Post = None
asked_of (Item collection id) Delete = Some (OfItem items.Delete collection id)

-- the names of the methods that may be asked of a place
abbrev pub allowed_methods : Place → List (List ℕ)
allowed_methods place = map name_of (filter (λ method. is_some (asked_of place method)) methods)

-- the method must be one that may be asked of the place
unfoldable pub asked_in : Place → Method → Result Asked Local
asked_in place method = ok_or (asked_of place method) (not_allowed (allowed_methods place))

-- a collection must be a name, and an item's id an id
unfoldable pub name_in : List ℕ → Result (List ℕ) Local
name_in text = if is_name text then Ok text else Err (code 13)

unfoldable pub id_in : List ℕ → Result (List ℕ) Local
id_in text = if is_id text then Ok text else Err (code 8)
