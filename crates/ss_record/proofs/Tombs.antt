-- The record of a deleted item is read back.
use Rattle.std.proofs.Common.{◌≡◌, ◌≢◌, ℕ, List, ◌∷◌, [], ◌&&◌, true, false, refl, ap, arith, Some}
use Rattle.serde_json.specs.Data.{boolean, string, Members, no_members, member}
use Rattle.ss_record.specs.declared.readings.Reading.TheVariants.{Tombstone}
use Rattle.ss_record.specs.Ids.{has, places, roots}
use Rattle.ss_record.specs.Marks.{marked_string, said_text, members_plain}
use Rattle.ss_record.specs.Payloads.{payload_members}
use Rattle.ss_record.specs.Records.{members_reading, reading, tombstone_members, tombstone_of}
use Rattle.ss_record.proofs.IdLists.{bytes_eq-refl, bytes_eq-apart}
use Rattle.ss_record.proofs.Sorted.{MembersSorted}
use Rattle.ss_record.proofs.Strings.{said_marked, string_plain}
use Rattle.ss_record.proofs.Unmarked.{payload_back}

tomb : List ℕ → Members
tomb id = member (100 ∷ 101 ∷ 108 ∷ 101 ∷ 116 ∷ 101 ∷ 100 ∷ []) (boolean true) (member (105 ∷ 100 ∷ []) (string (marked_string id)) no_members)

tomb_plain : (id : List ℕ) → members_plain (tomb id) ≡ true
unfolding tomb said_text
tomb_plain id = ap (λ b. b && true) (string_plain id)

tomb_sorted : (id : List ℕ) → MembersSorted (tomb id)
unfolding tomb
tomb_sorted id = (tt, refl, (tt, tt, tt))

tomb_members : (id : List ℕ) → payload_members (tombstone_of id) ≡ Some (member (100 ∷ 101 ∷ 108 ∷ 101 ∷ 116 ∷ 101 ∷ 100 ∷ []) (boolean true) (member (105 ∷ 100 ∷ []) (string (marked_string id)) no_members))
unfolding tombstone_of tombstone_members tomb
tomb_members id = payload_back (tomb id) (tomb_sorted id) (tomb_plain id) (omega arith)

pub tombstone_reads : (id : List ℕ) → id ≢ places → has id roots ≡ false → reading id (tombstone_of id) ≡ Tombstone
unfolding reading members_reading
tombstone_reads id ne nr = rw (bytes_eq-apart id places ne, tomb_members id, said_marked id, bytes_eq-refl id, nr)
