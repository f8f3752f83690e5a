-- The plain text of a plain value is JSON.
use Rattle.std.proofs.Common.{◌≡◌, ℕ, ◌≤◌, max, List, [], ◌∷◌, ◌++◌, Bool, true, false, cond, ◌&&◌, ◌||◌, refl, sym, ap}
use Rattle.std.proofs.Common.{ap₂, ◌∙◌, subst, arith, suc, append_assoc, append-nil, Option, Some, None, is_some}
use Rattle.std.proofs.Common.{unwrap_or, drop}
use Rattle.std.specs.Bool.{⊤}
use Rattle.std.specs.List.{flat_map}
use Rattle.std.proofs.lemmas.Bool.{and_parts, false≢true}
use Rattle.json.specs.Token.{Token}
use Rattle.json.specs.Json as json
use Rattle.json.specs.Json.{document}
use Rattle.json.specs.Tree as tree
use Rattle.json.specs.Tree.{json_tokens, items_tokens, members_tokens}
use Rattle.json.specs.Print.{quoted, escape, token_text, print, print_from, IsNumber}
use Rattle.json.proofs.Printed.Trees.{document-print}
use Rattle.serde_json.specs.Data.{Data, null, boolean, number, string, array, object, Items, no_items, item, Members}
use Rattle.serde_json.specs.Data.{no_members, member, depth, items_depth, members_depth}
use Rattle.serde_json.specs.Written.{number_text}
use Rattle.ss_text.specs.Decimals.{Piece, text, bytes_of_piece, is_decimal, unmarked_piece}
use Rattle.ss_text.proofs.Marks.{all_unmarked}
use Rattle.ss_record.specs.Marks.{said_text, is_string_or_decimal, is_plain, items_plain, members_plain, plain_text}
use Rattle.ss_record.specs.Payloads.{is_json}
use Rattle.ss_record.proofs.Sorted.{HasNumbers-number}
use Rattle.ss_record.proofs.Strings.{told_token, unmarks, name_plain, decimal_number}
use Rattle.ss_record.proofs.Back.{lead, cuts, items_cuts, members_cuts, plain_cuts}

-- ---- the value with its marks undone

abbrev told_json : Option (List ℕ) → List ℕ → json.Json
told_json None s = json.number (drop 1 s)
told_json (Some t) s = json.string t

abbrev told_name : Option (List ℕ) → List ℕ
told_name o = unwrap_or o []

abbrev mutual
  plain_json : Data → json.Json
  plain_json null = json.null
  plain_json (boolean b) = json.boolean b
  plain_json (number n) = json.number (number_text n)
  plain_json (string s) = told_json (said_text s) s
  plain_json (array ds) = json.array (items_json ds)
  plain_json (object ms) = json.object (members_json ms)

  items_json : Items → json.Items
  items_json no_items = json.no_items
  items_json (item d ds) = json.item (plain_json d) (items_json ds)

  members_json : Members → json.Members
  members_json no_members = json.no_members
  members_json (member k d ms) = json.member (told_name (said_text k)) (plain_json d) (members_json ms)

told_numbers : (o : Option (List ℕ)) (s : List ℕ) → (is_some o || is_decimal (drop 1 s)) ≡ true → tree.HasNumbers (told_json o s)
told_numbers None s h = decimal_number (drop 1 s) h
told_numbers (Some t) s h = tt

mutual
  unfolding is_string_or_decimal

  json_numbers : (d : Data) → is_plain d ≡ true → tree.HasNumbers (plain_json d)
  json_numbers null h = tt
  json_numbers (boolean b) h = tt
  json_numbers (number n) h = HasNumbers-number n h
  json_numbers (string s) h = told_numbers (said_text s) s h
  json_numbers (array ds) h = items_numbers ds h
  json_numbers (object ms) h = members_numbers ms h

  items_numbers : (ds : Items) → items_plain ds ≡ true → tree.ItemsHaveNumbers (items_json ds)
  items_numbers no_items h = tt
  items_numbers (item d ds) h = let p = and_parts (is_plain d) (items_plain ds) h in (json_numbers d p.0, items_numbers ds p.1)

  members_numbers : (ms : Members) → members_plain ms ≡ true → tree.MembersHaveNumbers (members_json ms)
  members_numbers no_members h = tt
  members_numbers (member k d ms) h = let p = and_parts (is_plain d) (members_plain ms) (and_parts (is_some (said_text k)) (is_plain d && members_plain ms) h).1 in (json_numbers d p.0, members_numbers ms p.1)

told_depth : (o : Option (List ℕ)) (s : List ℕ) → tree.depth (told_json o s) ≡ 0
told_depth None s = refl
told_depth (Some t) s = refl

mutual
  json_depth : (d : Data) → tree.depth (plain_json d) ≡ depth d
  json_depth null = refl
  json_depth (boolean b) = refl
  json_depth (number n) = refl
  json_depth (string s) = told_depth (said_text s) s
  json_depth (array ds) = ap suc (json_items_depth ds)
  json_depth (object ms) = ap suc (json_members_depth ms)

  json_items_depth : (ds : Items) → tree.items_depth (items_json ds) ≡ items_depth ds
  json_items_depth no_items = refl
  json_items_depth (item d ds) = ap₂ max (json_depth d) (json_items_depth ds)

  json_members_depth : (ms : Members) → tree.members_depth (members_json ms) ≡ members_depth ms
  json_members_depth no_members = refl
  json_members_depth (member k d ms) = ap₂ max (json_depth d) (json_members_depth ms)

-- ---- its text

-- the text of pieces with their marks undone
abbrev undone : List Piece → List ℕ
undone ps = flat_map bytes_of_piece (all_unmarked ps)

told_print : (later : Bool) (o : Option (List ℕ)) (s : List ℕ) (ts : List Token) → print_from later (json_tokens (told_json o s) ++ ts) ≡ cond later (44 ∷ []) [] ++ (token_text (told_token o s) ++ print_from true ts)
unfolding print_from
told_print true None s ts = refl
told_print false None s ts = refl
told_print true (Some t) s ts = refl
told_print false (Some t) s ts = refl

-- a string is undone into its token, before others
text_undone : (later : Bool) (s : List ℕ) (ts : List Token) (ps : List Piece) → is_string_or_decimal s ≡ true → print_from true ts ≡ undone ps
    → print_from later (json_tokens (told_json (said_text s) s) ++ ts) ≡ undone (lead later (text (escape s) ∷ ps))
text_undone later s ts ps h e =
    told_print later (said_text s) s ts
    ∙ ap (λ t. cond later (44 ∷ []) [] ++ t) (ap₂ (λ a b. a ++ b) (sym (unmarks s h).told) e)
    ∙ led later
  where
    led : (b : Bool) → cond b (44 ∷ []) [] ++ undone (text (escape s) ∷ ps) ≡ undone (lead b (text (escape s) ∷ ps))
    led true = refl
    led false = refl

-- a name is undone into its key, whose colon is a piece of its own
name_undone : (o : Option (List ℕ)) (k : List ℕ) (a b : List ℕ) → is_some o ≡ true → bytes_of_piece (unmarked_piece (text (escape k))) ≡ token_text (told_token o k) → a ≡ b
    → (quoted (told_name o) ++ 58 ∷ []) ++ a ≡ bytes_of_piece (unmarked_piece (text (escape k))) ++ 58 ∷ b
name_undone None k a b h told e = absurd (false≢true h)
name_undone (Some t) k a b h told e = append_assoc (quoted t) (58 ∷ []) a ∙ ap₂ (λ x y. x ++ 58 ∷ y) (sym told) e

member_print : (k : List ℕ) (d : Data) (ms : Members) (ts : List Token) (ps : List Piece) → is_some (said_text k) ≡ true
    → print_from false (json_tokens (plain_json d) ++ (members_tokens (members_json ms) ++ ts)) ≡ undone (cuts d (members_cuts true ms ps))
    → (quoted (told_name (said_text k)) ++ 58 ∷ []) ++ print_from false ((json_tokens (plain_json d) ++ members_tokens (members_json ms)) ++ ts) ≡ undone (members_cuts false (member k d ms) ps)
member_print k d ms ts ps n e =
    name_undone (said_text k) k _ _ n (unmarks k (name_plain k n)).told
    (ap (print_from false) (append_assoc (json_tokens (plain_json d)) (members_tokens (members_json ms)) ts) ∙ e)

mutual
  unfolding print_from

  value_print : (later : Bool) (d : Data) → is_plain d ≡ true → (ts : List Token) (ps : List Piece) → print_from true ts ≡ undone ps → print_from later (json_tokens (plain_json d) ++ ts) ≡ undone (lead later (cuts d ps))
  value_print true null h ts ps e = ap (λ t. 44 ∷ 110 ∷ 117 ∷ 108 ∷ 108 ∷ t) e
  value_print false null h ts ps e = ap (λ t. 110 ∷ 117 ∷ 108 ∷ 108 ∷ t) e
  value_print true (boolean true) h ts ps e = ap (λ t. 44 ∷ 116 ∷ 114 ∷ 117 ∷ 101 ∷ t) e
  value_print false (boolean true) h ts ps e = ap (λ t. 116 ∷ 114 ∷ 117 ∷ 101 ∷ t) e
  value_print true (boolean false) h ts ps e = ap (λ t. 44 ∷ 102 ∷ 97 ∷ 108 ∷ 115 ∷ 101 ∷ t) e
  value_print false (boolean false) h ts ps e = ap (λ t. 102 ∷ 97 ∷ 108 ∷ 115 ∷ 101 ∷ t) e
  value_print true (number n) h ts ps e = ap (λ t. 44 ∷ (number_text n ++ t)) e
  value_print false (number n) h ts ps e = ap (λ t. number_text n ++ t) e
  value_print later (string s) h ts ps e = text_undone later s ts ps h e
  value_print true (array ds) h ts ps e = ap (λ t. 44 ∷ 91 ∷ t) (items_print false ds h ts ps e)
  value_print false (array ds) h ts ps e = ap (λ t. 91 ∷ t) (items_print false ds h ts ps e)
  value_print true (object ms) h ts ps e = ap (λ t. 44 ∷ 123 ∷ t) (members_print false ms h ts ps e)
  value_print false (object ms) h ts ps e = ap (λ t. 123 ∷ t) (members_print false ms h ts ps e)

  items_print : (later : Bool) (ds : Items) → items_plain ds ≡ true → (ts : List Token) (ps : List Piece) → print_from true ts ≡ undone ps → print_from later (items_tokens (items_json ds) ++ ts) ≡ undone (items_cuts later ds ps)
  items_print true no_items h ts ps e = ap (λ t. 93 ∷ t) e
  items_print false no_items h ts ps e = ap (λ t. 93 ∷ t) e
  items_print later (item d ds) h ts ps e =
      let p = and_parts (is_plain d) (items_plain ds) h in
      ap (print_from later) (append_assoc (json_tokens (plain_json d)) (items_tokens (items_json ds)) ts)
      ∙ value_print later d p.0 (items_tokens (items_json ds) ++ ts) (items_cuts true ds ps) (items_print true ds p.1 ts ps e)

  members_print : (later : Bool) (ms : Members) → members_plain ms ≡ true → (ts : List Token) (ps : List Piece) → print_from true ts ≡ undone ps → print_from later (members_tokens (members_json ms) ++ ts) ≡ undone (members_cuts later ms ps)
  members_print true no_members h ts ps e = ap (λ t. 125 ∷ t) e
  members_print false no_members h ts ps e = ap (λ t. 125 ∷ t) e
  members_print true (member k d ms) h ts ps e =
      let n = and_parts (is_some (said_text k)) (is_plain d && members_plain ms) h in
      let p = and_parts (is_plain d) (members_plain ms) n.1 in
      ap (λ t. 44 ∷ t) (member_print k d ms ts ps n.0 (value_print false d p.0 (members_tokens (members_json ms) ++ ts) (members_cuts true ms ps) (members_print true ms p.1 ts ps e)))
  members_print false (member k d ms) h ts ps e =
      let n = and_parts (is_some (said_text k)) (is_plain d && members_plain ms) h in
      let p = and_parts (is_plain d) (members_plain ms) n.1 in
      member_print k d ms ts ps n.0 (value_print false d p.0 (members_tokens (members_json ms) ++ ts) (members_cuts true ms ps) (members_print true ms p.1 ts ps e))

plain_print : (d : Data) → is_plain d ≡ true → print (json_tokens (plain_json d)) ≡ plain_text d
unfolding print_from
plain_print d h =
    ap print (sym (append-nil (json_tokens (plain_json d)))) ∙ value_print false d h [] [] refl ∙ sym (ap undone (plain_cuts d h))

pub plain_is_json : (d : Data) → is_plain d ≡ true → depth d ≤ 126 → is_json (plain_text d) ≡ true
plain_is_json d h shallow =
    let low : tree.depth (plain_json d) ≤ json.max_depth = let e : tree.depth (plain_json d) ≡ depth d = json_depth d in omega arith in
    ap is_some (ap document (sym (plain_print d h)) ∙ document-print (plain_json d) (json_numbers d h) low)
