-- Ids and names are ASCII, and so UTF-8.
use Rattle.std.proofs.Common.{◌≡◌, ◌<◌, ℕ, Bool, true, ◌&&◌, List, [], ◌∷◌, arith}
use Rattle.std.specs.Cmp.{first_so, second_so}
use Rattle.std.specs.List.{list_all}
use Rattle.std.specs.Prelude.{nat_le, length, IsUtf8}
use Rattle.std.specs.Str.{IsAscii}
use Rattle.std.proofs.lemmas.Str.{IsUtf8-from_ascii}
use Rattle.std.proofs.lemmas.Str.Ascii.{IsAscii-nil, IsAscii-cons}
use Rattle.std.proofs.lemmas.Bool.Decides.{nat_tests}
use Rattle.ss_text.specs.Names.{is_visible, is_id, is_name_byte, is_name}

pub IsAscii-from_list_all :
    (p : ℕ → Bool) → ((b : ℕ) → p b ≡ true → b < 128) → (bs : List ℕ) → list_all p bs ≡ true → IsAscii bs
IsAscii-from_list_all p ascii [] h = IsAscii-nil
IsAscii-from_list_all p ascii (b ∷ bs) h =
    IsAscii-cons b bs (ascii b (first_so (p b) (list_all p bs) h)) (IsAscii-from_list_all p ascii bs (second_so (p b) (list_all p bs) h))

visible_below : (b : ℕ) → is_visible b ≡ true → b < 128
visible_below b h = grind (arith, nat_tests)

name_byte_below : (b : ℕ) → is_name_byte b ≡ true → b < 128
name_byte_below b h = grind (arith, nat_tests)

pub IsUtf8-from_id : (bs : List ℕ) → is_id bs ≡ true → IsUtf8 bs
IsUtf8-from_id bs h =
    IsUtf8-from_ascii bs (IsAscii-from_list_all is_visible visible_below bs (second_so (nat_le 1 (length bs) && nat_le (length bs) 64) (list_all is_visible bs) h))

pub IsUtf8-from_name : (bs : List ℕ) → is_name bs ≡ true → IsUtf8 bs
IsUtf8-from_name bs h =
    IsUtf8-from_ascii bs (IsAscii-from_list_all is_name_byte name_byte_below bs (second_so (nat_le 1 (length bs) && nat_le (length bs) 32) (list_all is_name_byte bs) h))
