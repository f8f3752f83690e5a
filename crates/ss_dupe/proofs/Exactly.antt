-- Keys are equal exactly where the kinds are, and the members that tell.
use Rattle.std.proofs.Common.{◌≡◌, ◌≢◌, ◌↔◌, ℕ, ◌+◌, ◌<◌, ◌≤◌, ◌^◌, ◌&&◌, max, pos, negsuc, true, false, List, [], ◌∷◌}
use Rattle.std.proofs.Common.{◌++◌, Option, Some, None, option_map, unwrap_or, codes, decimal, length, append_assoc}
use Rattle.std.proofs.Common.{refl, sym, ap, ap₂, subst, ◌∙◌, arith, inl, inr, Ordering, Less, Equal, Greater, nat_cmp}
use Rattle.std.specs.List.{flat_map}
use Rattle.std.specs.Ordering.{match_ordering}
use Rattle.std.specs.Cmp.Lexicographic.{slice_cmp}
use Rattle.std.proofs.lemmas.Bool.{and_parts, false≢true}
use Rattle.std.proofs.lemmas.Fmt.{decimal_is_IsNumeral}
use Rattle.json.specs.Tree as tree
use Rattle.serde_json.specs.Data.{Num, unsigned, negative, float, Data, null, boolean, number, string, array, object}
use Rattle.serde_json.specs.Data.{Members, no_members, member, depth, members_depth}
use Rattle.serde_json.specs.Find.{get_member}
use Rattle.serde_json.specs.Read.{read, max_depth}
use Rattle.serde_json.specs.Written.{number_text, outline, compact_text}
use Rattle.ss_record.specs.declared.kinds.Kind.{Kind}
use Rattle.ss_record.specs.declared.kinds.Kind.TheVariants.{Bookmark, Query, Folder, Livemark, Separator}
use Rattle.ss_record.specs.Ids.{has}
use Rattle.ss_record.specs.Kinds.{kind_name, kind_of}
use Rattle.ss_record.specs.Marks.{said_text, is_plain_number, is_plain, members_plain}
use Rattle.ss_record.specs.Payloads.{payload_members}
use Rattle.ss_text.specs.Decimals.{marked_text}
use Rattle.ss_record.proofs.IdLists.{has-nil, has-head, has-tail}
use Rattle.ss_record.proofs.OfId.{kind_of-name}
use Rattle.ss_record.proofs.Texts.{read_compact}
use Rattle.ss_record.proofs.Exact.{payload_parts}
use Rattle.ss_record.proofs.Sorted.{IsSorted, MembersSorted, Sorted-read, plain_below, no_positive, HasNumbers-outline}
use Rattle.ss_record.proofs.Sorted.{depth-outline, of_json-outline}
use Rattle.ss_dupe.specs.Keys.{telling, member_line, key_of}
use Rattle.ss_dupe.proofs.Basics.{has-cases}
use Rattle.ss_record.proofs.OneLine.{NoLine, noline_by, cut, value_noline}
use Rattle.ss_text.proofs.Basics.{no_way}

some_number : (n : Num) → is_plain_number n ≡ true → number_text n ≢ []
unfolding is_plain_number
some_number (unsigned n) h e = let lt : n < 10 ^ 18 = plain_below n h in let long = (decimal_is_IsNumeral n (omega arith)).0.0 in let none : length (decimal n) ≡ 0 = ap length e in omega arith
some_number (negative (pos n)) h e = no_positive n h
some_number (negative (negsuc n)) h e = cc
some_number (float x) h e = false≢true h

-- ---- a member's text tells it

record IsGood (d : Data) : Type 0 where
  plain : is_plain d ≡ true
  sorted : IsSorted d
  low : depth d ≤ 126

good_member : (k : List ℕ) (ms : Members) → members_plain ms ≡ true → MembersSorted ms → members_depth ms ≤ 126 → (d : Data) → get_member k ms ≡ Some d → IsGood d
good_member k no_members h s n d e = cc
good_member k (member l f ms) h s n d e =
    let q = and_parts _ (is_plain f && members_plain ms) h in
    let p = and_parts (is_plain f) (members_plain ms) q.1 in
    cases (slice_cmp nat_cmp k l) e (record { plain = p.0; sorted = s.0; low = omega arith }) (good_member k ms p.1 s.2 (omega arith) d)
  where
    cases : (o : Ordering) → match_ordering o (get_member k ms) (Some f) (get_member k ms) ≡ Some d → IsGood f → (get_member k ms ≡ Some d → IsGood d) → IsGood d
    cases Less q w more = more q
    cases Equal q w more = let same : f ≡ d = cc in subst IsGood same w
    cases Greater q w more = more q

value_back : (d : Data) → IsGood d → read (compact_text d) ≡ Some d
value_back d g =
    let low = g.low in
    let deep : tree.depth (outline d) ≤ max_depth = let e : tree.depth (outline d) ≡ depth d = depth-outline d in omega arith in
    read_compact d (HasNumbers-outline d g.plain) deep ∙ of_json-outline d g.sorted g.plain

abbrev text_of : Option Data → List ℕ
text_of o = unwrap_or (option_map compact_text o) []

some_text : (d : Data) → is_plain d ≡ true → compact_text d ≢ []
some_text null h e = cc
some_text (boolean true) h e = cc
some_text (boolean false) h e = cc
some_text (number n) h e = some_number n h e
some_text (string s) h e = cc
some_text (array ds) h e = cc
some_text (object ms) h e = cc

text_tells : (o p : Option Data) → ((d : Data) → o ≡ Some d → IsGood d) → ((d : Data) → p ≡ Some d → IsGood d) → text_of o ≡ text_of p → o ≡ p
text_tells None None g h e = refl
text_tells None (Some d) g h e = absurd (some_text d (h d refl).plain (sym e))
text_tells (Some d) None g h e = absurd (some_text d (g d refl).plain e)
text_tells (Some d) (Some c) g h e = sym (value_back d (g d refl)) ∙ (ap read e ∙ value_back c (h c refl))

text_noline : (o : Option Data) → ((d : Data) → o ≡ Some d → IsGood d) → NoLine (text_of o)
text_noline None g = tt
text_noline (Some d) g = value_noline d (g d refl).plain

-- ---- lines

-- the lines of some members, each with its end
abbrev lines : Members → List (List ℕ) → List ℕ
lines ms [] = []
lines ms (n ∷ ns) = text_of (get_member n ms) ++ 10 ∷ lines ms ns

ended : (ms : Members) (ns : List (List ℕ)) → flat_map (member_line ms) ns ++ 10 ∷ [] ≡ 10 ∷ lines ms ns
unfolding member_line
ended ms [] = refl
ended ms (n ∷ ns) =
    ap (λ l. 10 ∷ l) (append_assoc (text_of (get_member n ms)) (flat_map (member_line ms) ns) (10 ∷ []) ∙ ap (λ l. text_of (get_member n ms) ++ l) (ended ms ns))

record AreGood (ms : Members) : Type 0 where
  each : (name : List ℕ) (d : Data) → get_member name ms ≡ Some d → IsGood d

lines_tell : (ms ns : Members) → AreGood ms → AreGood ns → (names : List (List ℕ)) → lines ms names ≡ lines ns names → (name : List ℕ) → has name names ≡ true → get_member name ms ≡ get_member name ns
lines_tell ms ns g h [] e name i = no_way (has name []) i (has-nil name)
lines_tell ms ns g h (n ∷ names) e name i =
    let r = cut (text_of (get_member n ms)) (text_of (get_member n ns)) (lines ms names) (lines ns names) (text_noline (get_member n ms) (g.each n)) (text_noline (get_member n ns) (h.each n)) e in
    elim (has-cases name n names i) [
      | inl q ↦ ap (λ w. get_member w ms) q ∙ (text_tells (get_member n ms) (get_member n ns) (g.each n) (h.each n) r.0 ∙ ap (λ w. get_member w ns) (sym q))
      | inr q ↦ lines_tell ms ns g h names r.1 name q
    ]

lines_same : (ms ns : Members) (names : List (List ℕ)) → ((name : List ℕ) → has name names ≡ true → get_member name ms ≡ get_member name ns) → flat_map (member_line ms) names ≡ flat_map (member_line ns) names
unfolding member_line
lines_same ms ns [] same = refl
lines_same ms ns (n ∷ names) same =
    ap₂ (λ o l. (10 ∷ text_of o) ++ l) (same n (has-head n names)) (lines_same ms ns names (λ name i. same name (has-tail name n names i)))

-- ---- keys

good_members : (x : List ℕ) (ms : Members) → payload_members x ≡ Some ms → AreGood ms
good_members x ms e =
    let p = payload_parts x ms e in
    let low : members_depth ms ≤ 126 = let deep = p.1 in omega arith in
    record { each = λ name d f. good_member name ms p.2 (Sorted-read (marked_text x) (object ms) p.0) low d f }

kind_noline : (k : Kind) → NoLine (kind_name k)
kind_noline Bookmark = noline_by (codes "bookmark") refl
kind_noline Query = noline_by (codes "query") refl
kind_noline Folder = noline_by (codes "folder") refl
kind_noline Livemark = noline_by (codes "livemark") refl
kind_noline Separator = noline_by (codes "separator") refl

name_tells : (k l : Kind) → kind_name k ≡ kind_name l → k ≡ l
name_tells k l e = ap (λ o. unwrap_or o k) (sym (kind_of-name k) ∙ (ap kind_of e ∙ kind_of-name l))

key_is : (k : Kind) (x : List ℕ) (ms : Members) → payload_members x ≡ Some ms → key_of k x ≡ kind_name k ++ flat_map (member_line ms) (telling k)
unfolding key_of
key_is k x ms e = ap (λ o. kind_name k ++ flat_map (member_line (unwrap_or o no_members)) (telling k)) e

key_ended : (k : Kind) (x : List ℕ) (ms : Members) → payload_members x ≡ Some ms → key_of k x ++ 10 ∷ [] ≡ kind_name k ++ 10 ∷ lines ms (telling k)
key_ended k x ms e =
    ap (λ l. l ++ 10 ∷ []) (key_is k x ms e) ∙ (append_assoc (kind_name k) (flat_map (member_line ms) (telling k)) (10 ∷ []) ∙ ap (λ l. kind_name k ++ l) (ended ms (telling k)))

pub keys_tell : (k l : Kind) (x y : List ℕ) (ms ns : Members) → payload_members x ≡ Some ms → payload_members y ≡ Some ns → key_of k x ≡ key_of l y
    → (k ≡ l) × ((name : List ℕ) → has name (telling k) ≡ true → get_member name ms ≡ get_member name ns)
keys_tell k l x y ms ns e f h =
    let whole = sym (key_ended k x ms e) ∙ (ap (λ w. w ++ 10 ∷ []) h ∙ key_ended l y ns f) in
    let r = cut (kind_name k) (kind_name l) (lines ms (telling k)) (lines ns (telling l)) (kind_noline k) (kind_noline l) whole in
    let kind : k ≡ l = name_tells k l r.0 in
    (kind, lines_tell ms ns (good_members x ms e) (good_members y ns f) (telling k) (r.1 ∙ ap (λ w. lines ns (telling w)) (sym kind)))

pub keys_same : (k l : Kind) (x y : List ℕ) (ms ns : Members) → payload_members x ≡ Some ms → payload_members y ≡ Some ns → k ≡ l
    → ((name : List ℕ) → has name (telling k) ≡ true → get_member name ms ≡ get_member name ns) → key_of k x ≡ key_of l y
keys_same k l x y ms ns e f kind same =
    key_is k x ms e
    ∙ (ap (λ w. kind_name k ++ w) (lines_same ms ns (telling k) same)
    ∙ (ap (λ w. kind_name w ++ flat_map (member_line ns) (telling w)) kind ∙ sym (key_is l y ns f)))
