-- What a reading that is an item says of its id.
use Rattle.std.proofs.Common.{◌≡◌, ◌≢◌, ℕ, List, Bool, true, false, not, cond, ◌&&◌, refl, sym, ap, ◌∙◌, bytes_eq}
use Rattle.std.proofs.Common.{Option, Some, None, option_map, option_and_then, unwrap_or, codes}
use Rattle.std.proofs.lemmas.Bool.{false≢true}
use Rattle.serde_json.specs.Data.{object, Members}
use Rattle.serde_json.specs.Find.{get_member}
use Rattle.ss_record.specs.Marks.{string_of, plain_text}
use Rattle.ss_record.specs.declared.kinds.Kind.{Kind}
use Rattle.ss_record.specs.declared.kinds.Kind.TheVariants.{Bookmark, Query, Folder, Livemark, Separator}
use Rattle.ss_record.specs.Items.{ItemView, names_of}
use Rattle.ss_record.specs.declared.readings.Reading.{Reading}
use Rattle.ss_record.specs.declared.readings.Reading.TheVariants.{Item, Tombstone, Skipped}
use Rattle.ss_record.specs.Ids.{has, places, roots}
use Rattle.ss_record.specs.Kinds.{is_folder, kind_name, kind_of}
use Rattle.ss_record.specs.Payloads.{without, is_string, is_true, payload_members}
use Rattle.ss_record.specs.Records.{parentid_of, children_of, item_of, members_reading, reading}
use Rattle.ss_text.proofs.Basics.{bytes_eq-same, and_then_some}

-- an item is of its row's id; it is not `places`, and a root is a folder
pub record IsRead (id : List ℕ) (r : Reading) : Type 0 where
  pub same : (i : ItemView) (p : Option (List ℕ)) (cs : List (List ℕ)) → r ≡ Item i p cs → i.id ≡ id
  pub no_places : (i : ItemView) (p : Option (List ℕ)) (cs : List (List ℕ)) → r ≡ Item i p cs → id ≢ places
  pub folder : (i : ItemView) (p : Option (List ℕ)) (cs : List (List ℕ)) → r ≡ Item i p cs → has id roots ≡ true → is_folder i.kind ≡ true

no_item : (id : List ℕ) (r : Reading) → ((i : ItemView) (p : Option (List ℕ)) (cs : List (List ℕ)) → r ≡ Item i p cs → ⊥) → IsRead id r
no_item id r h = record { same = λ i p cs e. absurd (h i p cs e); no_places = λ i p cs e. absurd (h i p cs e); folder = λ i p cs e. absurd (h i p cs e) }

skipped_read : (id : List ℕ) → IsRead id Skipped
skipped_read id = no_item id Skipped (λ i p cs e. cc)

tombstone_read : (id : List ℕ) → IsRead id Tombstone
tombstone_read id = no_item id Tombstone (λ i p cs e. cc)

folder_unless : (r f : Bool) → (r && not f) ≡ false → r ≡ true → f ≡ true
folder_unless true true e h = refl
folder_unless true false e h = absurd (false≢true (sym e))
folder_unless false f e h = absurd (false≢true h)

item_read : (id : List ℕ) (ms : Members) (r : Reading) → id ≢ places → item_of id ms ≡ Some r → IsRead id r
unfolding item_of
item_read id ms r ne e =
    let k = and_then_some _ (option_and_then kind_of (option_and_then string_of (get_member (codes "type") ms))) r e in
    let q = and_then_some _ (parentid_of (get_member (codes "parentid") ms)) r k.2 in
    let c = and_then_some _ (children_of (is_folder k.0) (get_member (codes "children") ms)) r q.2 in
    go k.0 q.0 c.0 (has id roots && not (is_folder k.0)) refl c.2
  where
    go : (kind : Kind) (p : Option (List ℕ)) (cs : List (List ℕ)) (b : Bool) → (has id roots && not (is_folder kind)) ≡ b
        → cond b None (Some (Item (record { id = id; kind = kind; content = plain_text (object (without (names_of kind) ms)) }) p cs)) ≡ Some r → IsRead id r
    go kind p cs true t g = cc
    go kind p cs false t g = record {
      same = λ i q ds f. cc;
      no_places = λ i q ds f. ne;
      folder = λ i q ds f root. let fold : is_folder kind ≡ true = folder_unless (has id roots) (is_folder kind) t root in let same : i.kind ≡ kind = cc in ap is_folder same ∙ fold;
    }

members_read : (id : List ℕ) (ms : Members) → id ≢ places → IsRead id (members_reading id ms)
unfolding members_reading
members_read id ms ne = go (not (is_string id (get_member (codes "id") ms))) (is_true (get_member (codes "deleted") ms)) (has id roots)
  where
    last : (o : Option Reading) → item_of id ms ≡ o → IsRead id (unwrap_or o Skipped)
    last None e = skipped_read id
    last (Some r) e = item_read id ms r ne e

    go : (a b c : Bool) → IsRead id (cond a Skipped (cond b (cond c Skipped Tombstone) (unwrap_or (item_of id ms) Skipped)))
    go true b c = skipped_read id
    go false true true = skipped_read id
    go false true false = tombstone_read id
    go false false c = last (item_of id ms) refl

pub reading_is_read : (id payload : List ℕ) → IsRead id (reading id payload)
unfolding reading
reading_is_read id payload = go (bytes_eq id places) refl
  where
    go : (b : Bool) → bytes_eq id places ≡ b → IsRead id (cond b Skipped (unwrap_or (option_map (members_reading id) (payload_members payload)) Skipped))
    go true e = skipped_read id
    go false e = at (payload_members payload)
      where
        at : (o : Option Members) → IsRead id (unwrap_or (option_map (members_reading id) o) Skipped)
        at None = skipped_read id
        at (Some ms) = members_read id ms (λ p. false≢true (sym e ∙ bytes_eq-same id places p))

pub kind_of-name : (k : Kind) → kind_of (kind_name k) ≡ Some k
unfolding kind_of
kind_of-name Bookmark = refl
kind_of-name Query = refl
kind_of-name Folder = refl
kind_of-name Livemark = refl
kind_of-name Separator = refl
