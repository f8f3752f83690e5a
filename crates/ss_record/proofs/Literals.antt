-- Worked records, computed from the definitions.
use Rattle.std.proofs.Common.{◌≡◌, [], ◌∷◌, refl, Some, None, true, false, codes}
use Rattle.std.specs.Fmt.{digits}
use Rattle.serde_json.proofs.OnLiterals.{serde_json_on_literals}
use Rattle.ss_record.specs.declared.kinds.Kind.TheVariants.{Bookmark, Folder}
use Rattle.ss_record.specs.declared.readings.Reading.TheVariants.{Item, Skipped}
use Rattle.ss_text.specs.Decimals.{pieces, is_decimal}
use Rattle.ss_record.specs.Ids.{has, roots, places}
use Rattle.ss_record.specs.Kinds.{kind_of}
use Rattle.ss_record.specs.Marks.{marked_string, said_text, is_string_or_decimal, is_plain_number}
use Rattle.ss_record.specs.Payloads.{payload_members}
use Rattle.ss_record.specs.Items.{names_of, are_content, has_content, is_fit}
use Rattle.ss_record.specs.Records.{tombstone_members, tombstone_of, item_of, members_reading, reading, record_members}
use Rattle.ss_record.specs.Records.{record_of}

a_decimal_is_kept : reading (codes "b1") (codes "{\"id\":\"b1\",\"w\":1.50,\"type\":\"bookmark\"}") ≡ Item (record { id = codes "b1"; kind = Bookmark; content = codes "{\"w\":1.50}" }) None []
unfolding reading members_reading item_of kind_of names_of payload_members said_text is_string_or_decimal is_plain_number pieces is_decimal places roots has digits serde_json_on_literals
a_decimal_is_kept = refl

dead_root_is_skipped : reading (codes "menu") (codes "{\"deleted\":true,\"id\":\"menu\"}") ≡ Skipped
unfolding reading members_reading payload_members said_text is_string_or_decimal is_plain_number pieces is_decimal places roots has digits serde_json_on_literals
dead_root_is_skipped = refl

a_bookmark : reading (codes "b1") (codes "{\"type\":\"bookmark\", \"title\":\"T\", \"parentid\":\"menu\", \"id\":\"b1\", \"bmkUri\":\"http://h/\", \"n\":12}") ≡ Item (record { id = codes "b1"; kind = Bookmark; content = codes "{\"bmkUri\":\"http://h/\",\"n\":12,\"title\":\"T\"}" }) (Some (codes "menu")) []
unfolding reading members_reading item_of kind_of names_of payload_members said_text is_string_or_decimal is_plain_number pieces is_decimal places roots has digits serde_json_on_literals
a_bookmark = refl

fit_bookmark : is_fit (record { id = codes "b1"; kind = Bookmark; content = codes "{\"n\":12,\"title\":\"T\"}" }) ≡ true
unfolding is_fit has_content are_content payload_members said_text is_string_or_decimal is_plain_number pieces is_decimal names_of has places roots digits serde_json_on_literals
fit_bookmark = refl

unfit_spaced : is_fit (record { id = codes "b1"; kind = Bookmark; content = codes "{\"n\": 12}" }) ≡ false
unfolding is_fit has_content are_content payload_members said_text is_string_or_decimal is_plain_number pieces is_decimal names_of has places roots digits serde_json_on_literals
unfit_spaced = refl

unfit_root : is_fit (record { id = codes "menu"; kind = Bookmark; content = codes "{}" }) ≡ false
unfolding is_fit has_content are_content payload_members said_text is_string_or_decimal is_plain_number pieces is_decimal names_of has places roots digits serde_json_on_literals
unfit_root = refl

record_of_folder : record_of (record { id = codes "f1"; kind = Folder; content = codes "{\"title\":\"T\"}" }) (codes "menu") (codes "b1" ∷ []) ≡ codes "{\"children\":[\"b1\"],\"id\":\"f1\",\"parentid\":\"menu\",\"title\":\"T\",\"type\":\"folder\"}"
unfolding record_of record_members marked_string names_of pieces is_decimal digits serde_json_on_literals
record_of_folder = refl

tombstone_is : tombstone_of (codes "b1") ≡ codes "{\"deleted\":true,\"id\":\"b1\"}"
unfolding tombstone_of tombstone_members marked_string pieces is_decimal digits serde_json_on_literals
tombstone_is = refl
