-- The plain text of a value is marked into its compact text.
use Rattle.std.proofs.Common.{◌≡◌, ℕ, ◌<◌, List, [], ◌∷◌, ◌++◌, length, Bool, true, false, cond, ◌&&◌, ◌==◌, refl, sym}
use Rattle.std.proofs.Common.{ap, ap₂, ◌∙◌, lit<, append_assoc, append-nil}
use Rattle.std.proofs.lemmas.Bool.{and_parts}
use Rattle.std.specs.List.{flat_map, list_all}
use Rattle.json.specs.Print.{quoted, escape}
use Rattle.json.specs.Word.{after_number}
use Rattle.serde_json.specs.Data.{Data, null, boolean, number, string, array, object, Items, no_items, item, Members}
use Rattle.serde_json.specs.Data.{no_members, member}
use Rattle.serde_json.specs.Written.{compact_text, items_text, members_text, number_text}
use Rattle.ss_text.specs.Decimals.{Piece, run, text, byte, outside, pieces, bytes_of_piece, is_number_byte, is_decimal}
use Rattle.ss_text.specs.Decimals.{marked_text}
use Rattle.ss_text.proofs.Pieces.{begins_run, Cut, recut}
use Rattle.ss_text.proofs.Marks.{all_marked, all_unmarked, marked-unmarked}
use Rattle.ss_text.proofs.Printed.{escape_raw}
use Rattle.ss_text.proofs.WholeTokens.{number_bytes, some_front}
use Rattle.ss_record.specs.Marks.{is_string_or_decimal, is_plain, items_plain, members_plain, plain_text}
use Rattle.ss_record.proofs.Strings.{unmarks, name_plain}
use Rattle.ss_record.proofs.Sorted.{HasNumbers-number}
use Rattle.ss_record.proofs.Numbers.{exact_number}

-- ---- the pieces of a compact text, before others

abbrev pub lead : Bool → List Piece → List Piece
lead later ps = cond later (byte 44 ∷ ps) ps

abbrev mutual
  pub cuts : Data → List Piece → List Piece
  cuts null ps = byte 110 ∷ byte 117 ∷ byte 108 ∷ byte 108 ∷ ps
  cuts (boolean true) ps = byte 116 ∷ byte 114 ∷ byte 117 ∷ run (101 ∷ []) ∷ ps
  cuts (boolean false) ps = byte 102 ∷ byte 97 ∷ byte 108 ∷ byte 115 ∷ run (101 ∷ []) ∷ ps
  cuts (number n) ps = run (number_text n) ∷ ps
  cuts (string s) ps = text (escape s) ∷ ps
  cuts (array ds) ps = byte 91 ∷ items_cuts false ds ps
  cuts (object ms) ps = byte 123 ∷ members_cuts false ms ps

  pub items_cuts : Bool → Items → List Piece → List Piece
  items_cuts later no_items ps = byte 93 ∷ ps
  items_cuts later (item d ds) ps = lead later (cuts d (items_cuts true ds ps))

  pub members_cuts : Bool → Members → List Piece → List Piece
  members_cuts later no_members ps = byte 125 ∷ ps
  members_cuts later (member k d ms) ps = lead later (text (escape k) ∷ byte 58 ∷ cuts d (members_cuts true ms ps))

lead_spelled : (later : Bool) (ps : List Piece) (t : List ℕ) → flat_map bytes_of_piece ps ≡ t → flat_map bytes_of_piece (lead later ps) ≡ cond later (44 ∷ []) [] ++ t
lead_spelled true ps t e = ap (λ l. 44 ∷ l) e
lead_spelled false ps t e = e

lead_append : (later : Bool) (a b : List ℕ) → cond later (44 ∷ []) [] ++ (a ++ b) ≡ (cond later (44 ∷ []) [] ++ a) ++ b
lead_append true a b = refl
lead_append false a b = refl

mutual
  cuts_spelled : (d : Data) (ps : List Piece) → flat_map bytes_of_piece (cuts d ps) ≡ compact_text d ++ flat_map bytes_of_piece ps
  cuts_spelled null ps = refl
  cuts_spelled (boolean true) ps = refl
  cuts_spelled (boolean false) ps = refl
  cuts_spelled (number n) ps = refl
  cuts_spelled (string s) ps = refl
  cuts_spelled (array ds) ps = ap (λ t. 91 ∷ t) (items_spelled false ds ps)
  cuts_spelled (object ms) ps = ap (λ t. 123 ∷ t) (members_spelled false ms ps)

  items_spelled : (later : Bool) (ds : Items) (ps : List Piece) → flat_map bytes_of_piece (items_cuts later ds ps) ≡ items_text later ds ++ flat_map bytes_of_piece ps
  items_spelled later no_items ps = refl
  items_spelled later (item d ds) ps =
      lead_spelled later (cuts d (items_cuts true ds ps)) ((compact_text d ++ items_text true ds) ++ flat_map bytes_of_piece ps)
      (cuts_spelled d (items_cuts true ds ps) ∙ ap (λ t. compact_text d ++ t) (items_spelled true ds ps) ∙ sym (append_assoc (compact_text d) (items_text true ds) (flat_map bytes_of_piece ps)))
      ∙ lead_append later (compact_text d ++ items_text true ds) (flat_map bytes_of_piece ps)

  members_spelled : (later : Bool) (ms : Members) (ps : List Piece) → flat_map bytes_of_piece (members_cuts later ms ps) ≡ members_text later ms ++ flat_map bytes_of_piece ps
  members_spelled later no_members ps = refl
  members_spelled later (member k d ms) ps =
      lead_spelled later (text (escape k) ∷ byte 58 ∷ cuts d (members_cuts true ms ps)) ((quoted k ++ 58 ∷ (compact_text d ++ members_text true ms)) ++ flat_map bytes_of_piece ps)
      (ap (λ t. quoted k ++ 58 ∷ t)
      (cuts_spelled d (members_cuts true ms ps) ∙ ap (λ t. compact_text d ++ t) (members_spelled true ms ps) ∙ sym (append_assoc (compact_text d) (members_text true ms) (flat_map bytes_of_piece ps)))
      ∙ sym (append_assoc (quoted k) (58 ∷ (compact_text d ++ members_text true ms)) (flat_map bytes_of_piece ps)))
      ∙ lead_append later (quoted k ++ 58 ∷ (compact_text d ++ members_text true ms)) (flat_map bytes_of_piece ps)

-- ---- they are pieces of a text, unmarked too, and marked again they are the same

record Begin (ps : List Piece) : Type 0 where
  whole : Cut ps
  cut : Cut (all_unmarked ps)
  back : all_marked (all_unmarked ps) ≡ ps

record Follow (ps : List Piece) : Type 0 where
  begin : Begin ps
  fresh : begins_run ps ≡ false
  fresh_unmarked : begins_run (all_unmarked ps) ≡ false

byte_ok : (b : ℕ) (ps : List Piece) → (b == 34) ≡ false → is_number_byte b ≡ false → Begin ps → Follow (byte b ∷ ps)
byte_ok b ps q n h = record {
  begin = record { whole = (q, n, h.whole); cut = (q, n, h.cut); back = ap (λ l. byte b ∷ l) h.back };
  fresh = refl;
  fresh_unmarked = refl;
}

run_ok : (r : List ℕ) (ps : List Piece) → list_all is_number_byte r ≡ true → 0 < length r → is_decimal r ≡ false → Follow ps → Begin (run r ∷ ps)
run_ok r ps bytes some kept h = record {
  whole = (bytes, some, h.fresh, h.begin.whole);
  cut = (bytes, some, h.fresh_unmarked, h.begin.cut);
  back = ap₂ (λ p l. p ∷ l) (ap (λ b. cond b (text (92 ∷ 117 ∷ 48 ∷ 48 ∷ 48 ∷ 49 ∷ r)) (run r)) kept) h.begin.back;
}

text_ok : (s : List ℕ) (ps : List Piece) → is_string_or_decimal s ≡ true → Follow ps → Begin (text (escape s) ∷ ps)
text_ok s ps h f =
    let u = unmarks s h in
    record {
      whole = (escape_raw s, f.begin.whole);
      cut = u.cut (all_unmarked ps) f.fresh_unmarked f.begin.cut;
      back = ap₂ (λ p l. p ∷ l) u.back f.begin.back;
    }

e_kept : is_decimal (101 ∷ []) ≡ false
unfolding is_decimal after_number
e_kept = refl

lead_ok : (ps : List Piece) → Begin ps → Follow (lead true ps)
lead_ok ps h = byte_ok 44 ps refl refl h

mutual
  value_ok : (d : Data) → is_plain d ≡ true → (ps : List Piece) → Follow ps → Begin (cuts d ps)
  value_ok null h ps f = (byte_ok 110 _ refl refl (byte_ok 117 _ refl refl (byte_ok 108 _ refl refl (byte_ok 108 ps refl refl f.begin).begin).begin).begin).begin
  value_ok (boolean true) h ps f = (byte_ok 116 _ refl refl (byte_ok 114 _ refl refl (byte_ok 117 _ refl refl (run_ok (101 ∷ []) ps refl (lit< tt) e_kept f)).begin).begin).begin
  value_ok (boolean false) h ps f = (byte_ok 102 _ refl refl (byte_ok 97 _ refl refl (byte_ok 108 _ refl refl (byte_ok 115 _ refl refl (run_ok (101 ∷ []) ps refl (lit< tt) e_kept f)).begin).begin).begin).begin
  value_ok (number n) h ps f = let is = HasNumbers-number n h in run_ok (number_text n) ps (number_bytes (number_text n) is) (some_front (number_text n) is) (exact_number n h) f
  value_ok (string s) h ps f = text_ok s ps h f
  value_ok (array ds) h ps f = (byte_ok 91 (items_cuts false ds ps) refl refl (items_first ds h ps f)).begin
  value_ok (object ms) h ps f = (byte_ok 123 (members_cuts false ms ps) refl refl (members_first ms h ps f)).begin

  items_first : (ds : Items) → items_plain ds ≡ true → (ps : List Piece) → Follow ps → Begin (items_cuts false ds ps)
  items_first no_items h ps f = (byte_ok 93 ps refl refl f.begin).begin
  items_first (item d ds) h ps f = let p = and_parts (is_plain d) (items_plain ds) h in value_ok d p.0 (items_cuts true ds ps) (items_rest ds p.1 ps f)

  items_rest : (ds : Items) → items_plain ds ≡ true → (ps : List Piece) → Follow ps → Follow (items_cuts true ds ps)
  items_rest no_items h ps f = byte_ok 93 ps refl refl f.begin
  items_rest (item d ds) h ps f =
      let p = and_parts (is_plain d) (items_plain ds) h in
      lead_ok (cuts d (items_cuts true ds ps)) (value_ok d p.0 (items_cuts true ds ps) (items_rest ds p.1 ps f))

  members_first : (ms : Members) → members_plain ms ≡ true → (ps : List Piece) → Follow ps → Begin (members_cuts false ms ps)
  members_first no_members h ps f = (byte_ok 125 ps refl refl f.begin).begin
  members_first (member k d ms) h ps f =
      let p = and_parts _ (is_plain d && members_plain ms) h in
      let q = and_parts (is_plain d) (members_plain ms) p.1 in
      text_ok k (byte 58 ∷ cuts d (members_cuts true ms ps)) (name_plain k p.0) (byte_ok 58 (cuts d (members_cuts true ms ps)) refl refl (value_ok d q.0 (members_cuts true ms ps) (members_rest ms q.1 ps f)))

  members_rest : (ms : Members) → members_plain ms ≡ true → (ps : List Piece) → Follow ps → Follow (members_cuts true ms ps)
  members_rest no_members h ps f = byte_ok 125 ps refl refl f.begin
  members_rest (member k d ms) h ps f =
      let p = and_parts _ (is_plain d && members_plain ms) h in
      let q = and_parts (is_plain d) (members_plain ms) p.1 in
      lead_ok (text (escape k) ∷ byte 58 ∷ cuts d (members_cuts true ms ps))
      (text_ok k (byte 58 ∷ cuts d (members_cuts true ms ps)) (name_plain k p.0) (byte_ok 58 (cuts d (members_cuts true ms ps)) refl refl (value_ok d q.0 (members_cuts true ms ps) (members_rest ms q.1 ps f))))

nothing_ok : Follow []
nothing_ok = record { begin = record { whole = tt; cut = tt; back = refl }; fresh = refl; fresh_unmarked = refl }

pub plain_cuts : (d : Data) → is_plain d ≡ true → pieces outside (compact_text d) ≡ cuts d []
plain_cuts d h = ap (pieces outside) (sym (cuts_spelled d [] ∙ append-nil (compact_text d))) ∙ recut (cuts d []) (value_ok d h [] nothing_ok).whole

pub marked_plain : (d : Data) → is_plain d ≡ true → marked_text (plain_text d) ≡ compact_text d
marked_plain d h =
    let ok = value_ok d h [] nothing_ok in
    ap (λ ps. marked_text (flat_map bytes_of_piece (all_unmarked ps))) (plain_cuts d h) ∙ marked-unmarked (cuts d []) ok.cut ok.back ∙ cuts_spelled d [] ∙ append-nil (compact_text d)
