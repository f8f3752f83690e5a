-- A plain object is read back from its plain text.
use Rattle.std.proofs.Common.{◌≡◌, ℕ, ◌≤◌, List, [], ◌∷◌, true, not, cond, ◌&&◌, nat_le, refl, sym, ap, ap₂, ◌∙◌, arith}
use Rattle.std.proofs.Common.{Some, None, is_some, option_map, option_and_then, Ordering, Less, Equal, Greater, nat_cmp}
use Rattle.std.specs.Ordering.{match_ordering, is_eq}
use Rattle.std.specs.Cmp.Lexicographic.{slice_cmp}
use Rattle.std.proofs.lemmas.Bool.{and_parts, and_from, le-leb, not-true}
use Rattle.std.proofs.lemmas.Map.Text.{is_eq-slice_cmp}
use Rattle.json.specs.Tree as tree
use Rattle.serde_json.specs.Data.{Data, object, Members, no_members, member, put, depth, items_depth, members_depth}
use Rattle.serde_json.specs.Read.{read, max_depth}
use Rattle.serde_json.specs.Find.{as_object}
use Rattle.serde_json.specs.Written.{outline}
use Rattle.ss_text.specs.Decimals.{marked_text}
use Rattle.ss_record.specs.Ids.{has}
use Rattle.ss_record.specs.Marks.{said_text, is_plain, items_plain, members_plain, plain_text}
use Rattle.ss_record.specs.Payloads.{without, lacks, strings, payload_members}
use Rattle.ss_record.specs.Records.{string_items}
use Rattle.ss_record.proofs.Texts.{read_compact}
use Rattle.ss_record.proofs.Strings.{said_marked, string_plain}
use Rattle.ss_record.proofs.Back.{marked_plain}
use Rattle.ss_record.proofs.PlainJson.{plain_is_json}
use Rattle.ss_record.proofs.Sorted.{MembersSorted, HasNumbers-outline, depth-outline, of_json-outline}
use Rattle.ss_text.proofs.Basics.{same_text}

-- ---- a plain object in order is read back

pub payload_back : (ms : Members) → MembersSorted ms → members_plain ms ≡ true → depth (object ms) ≤ 126 → payload_members (plain_text (object ms)) ≡ Some ms
unfolding payload_members
payload_back ms s h shallow =
    let numbers = HasNumbers-outline (object ms) h in
    let low : tree.depth (outline (object ms)) ≤ max_depth = let e : tree.depth (outline (object ms)) ≡ depth (object ms) = depth-outline (object ms) in omega arith in
    let value : read (marked_text (plain_text (object ms))) ≡ Some (object ms) = ap read (marked_plain (object ms) h) ∙ read_compact (object ms) numbers low ∙ of_json-outline (object ms) s h in
    let few : nat_le (depth (object ms)) 126 ≡ true = le-leb (depth (object ms)) 126 shallow in
    ap (λ b. cond b (option_and_then (λ d. cond (nat_le (depth d) 126 && is_plain d) (as_object d) None) (read (marked_text (plain_text (object ms))))) None) (plain_is_json (object ms) h shallow)
    ∙ ap (option_and_then (λ d. cond (nat_le (depth d) 126 && is_plain d) (as_object d) None)) value
    ∙ ap₂ (λ a b. cond (a && b) (Some ms) None) few h

-- ---- the members of a record

pub lacks-without : (names : List (List ℕ)) (ms : Members) → lacks names ms ≡ true → without names ms ≡ ms
lacks-without names no_members h = refl
lacks-without names (member k d ms) h = let p = and_parts (not (has k names)) (lacks names ms) h in ap (λ b. cond b (without names ms) (member k d (without names ms))) (not-true (has k names) p.0) ∙ ap (member k d) (lacks-without names ms p.1)

pub without-put : (names : List (List ℕ)) (k : List ℕ) (d : Data) (ms : Members) → has k names ≡ true → without names (put k d ms) ≡ without names ms
without-put names k d no_members h = ap (λ b. cond b no_members (member k d no_members)) h
without-put names k d (member l e ms) h = go (slice_cmp nat_cmp k l) refl (without-put names k d ms h)
  where
    go : (o : Ordering) → slice_cmp nat_cmp k l ≡ o → without names (put k d ms) ≡ without names ms
        → without names (match_ordering o (member k d (member l e ms)) (member l d ms) (member l e (put k d ms))) ≡ without names (member l e ms)
    go Less q ih = ap (λ b. cond b (without names (member l e ms)) (member k d (without names (member l e ms)))) h
    go Equal q ih =
        let same : k ≡ l = same_text k l (sym (is_eq-slice_cmp k l) ∙ ap is_eq q) in
        let out : has l names ≡ true = ap (λ w. has w names) (sym same) ∙ h in
        ap (λ b. cond b (without names ms) (member l d (without names ms))) out ∙ sym (ap (λ b. cond b (without names ms) (member l e (without names ms))) out)
    go Greater q ih = ap (λ r. cond (has l names) r (member l e r)) ih

pub plain-put : (k : List ℕ) (d : Data) (ms : Members) → is_some (said_text k) ≡ true → is_plain d ≡ true → members_plain ms ≡ true → members_plain (put k d ms) ≡ true
plain-put k d no_members n p h = and_from (is_some (said_text k)) (is_plain d && true) n (and_from (is_plain d) true p refl)
plain-put k d (member l e ms) n p h = go (slice_cmp nat_cmp k l) (plain-put k d ms n p rest.1)
  where
    parts : (is_some (said_text l) ≡ true) × ((is_plain e && members_plain ms) ≡ true)
    parts = and_parts (is_some (said_text l)) (is_plain e && members_plain ms) h

    rest : (is_plain e ≡ true) × (members_plain ms ≡ true)
    rest = and_parts (is_plain e) (members_plain ms) parts.1

    go : (o : Ordering) → members_plain (put k d ms) ≡ true → members_plain (match_ordering o (member k d (member l e ms)) (member l d ms) (member l e (put k d ms))) ≡ true
    go Less ih = and_from _ _ n (and_from _ _ p h)
    go Equal ih = and_from _ _ parts.0 (and_from _ _ p rest.1)
    go Greater ih = and_from _ _ parts.0 (and_from _ _ rest.0 ih)

pub depth-put : (k : List ℕ) (d : Data) (ms : Members) (n : ℕ) → depth d ≤ n → members_depth ms ≤ n → members_depth (put k d ms) ≤ n
depth-put k d no_members n p q = omega arith
depth-put k d (member l e ms) n p q = go (slice_cmp nat_cmp k l) (depth-put k d ms n p (omega arith))
  where
    go : (o : Ordering) → members_depth (put k d ms) ≤ n → members_depth (match_ordering o (member k d (member l e ms)) (member l d ms) (member l e (put k d ms))) ≤ n
    go Less ih = omega arith
    go Equal ih = omega arith
    go Greater ih = omega arith

pub plain_strings : (ss : List (List ℕ)) → items_plain (string_items ss) ≡ true
plain_strings [] = refl
plain_strings (s ∷ ss) = and_from _ _ (string_plain s) (plain_strings ss)

pub flat_strings : (ss : List (List ℕ)) → items_depth (string_items ss) ≡ 0
flat_strings [] = refl
flat_strings (s ∷ ss) = let e : items_depth (string_items ss) ≡ 0 = flat_strings ss in omega arith

pub strings_back : (ss : List (List ℕ)) → strings (string_items ss) ≡ Some ss
strings_back [] = refl
strings_back (s ∷ ss) = ap₂ (λ o r. option_and_then (λ t. option_map (λ l. t ∷ l) r) o) (said_marked s) (strings_back ss)
