-- A target that is composed of plain segments and plain pairs is read as them.
use Rattle.std.proofs.Common.{◌≡◌, ℕ, ◌<◌, ◌≤◌, ◌≢◌, List, [], ◌∷◌, ◌++◌, length, map, get_or, Bool, true, false, cond}
use Rattle.std.proofs.Common.{Option, Some, None, ◌&&◌, ◌||◌, ◌==◌, refl, sym, ap, ap₂, ◌∙◌, subst, arith, append-nil}
use Rattle.std.proofs.Common.{length-append, inl, inr, ◌⊎◌, lit<, lit≤, lt-ltb, not, leb, ⊎_elim}
use Rattle.std.proofs.lemmas.Bool.{true≢false, and_parts, ne_eqb, cases_lt, or_cases, eqb-true, leb-true}
use Rattle.std.proofs.lemmas.List.{get_or_past}
use Rattle.std.proofs.lemmas.List.Sums.{AllPass-from_list_all}
use Rattle.std.proofs.lemmas.List.Splits.{slice_split_at, slice_split_none}
use Rattle.std.proofs.lemmas.Str.{utf8_lossy-IsUtf8, IsUtf8-from_ascii}
use Rattle.std.specs.List.{join_with_byte, slice_split, list_all, AllByRecursion, All}
use Rattle.std.specs.Char.{is_ascii_alphanumeric}
use Rattle.std.specs.Str.Lossy.{utf8_lossy}
use Rattle.std.specs.Prelude.{bytes_eq}
use Rattle.std.specs.Str.{IsUtf8}
use Rattle.httparse.specs.Grammar.{is_uri_byte}
use Rattle.form_urlencoded.specs.Form.{raw_pairs, decode, split_once, split_pair}
use Rattle.form_urlencoded.proofs.FormLemmas.{raw_pairs-nil, raw_pairs_first, split_once_before_at, split_once_after_at}
use Rattle.form_urlencoded.proofs.FormLemmas.{split_once_before_none, split_once_after_none, decode_plain}
use Rattle.percent_encoding.specs.Percent.{percent_decode}
use Rattle.percent_encoding.proofs.PercentLemmas.{percent_decode-nil, percent_decode_not_percent}
use Rattle.ss_query.specs.Parameters.{parameter, first_in}
use Rattle.ss_route.specs.Targets.{path_of, query_of, without_empty_end, segments_behind, segments_of}
use Rattle.ss_http.proofs.Values.{all_weaker}

-- a name and a value
abbrev pub Pair : Type 0
Pair = List ℕ × List ℕ

abbrev pub pair_text : Pair → List ℕ
pair_text p = p.0 ++ 61 ∷ p.1

abbrev pub query_text : List Pair → List ℕ
query_text pairs = join_with_byte 38 (map pair_text pairs)

-- a question mark stands where there is a pair
abbrev pub behind : List Pair → List ℕ
behind [] = []
behind (p ∷ pairs) = 63 ∷ query_text (p ∷ pairs)

abbrev pub target_text : List (List ℕ) → List Pair → List ℕ
target_text segments pairs = (47 ∷ join_with_byte 47 segments) ++ behind pairs

-- a letter, a digit, or one of - . _
abbrev pub is_plain : ℕ → Bool
is_plain b = is_ascii_alphanumeric b || b == 45 || b == 46 || b == 95

pub record IsPlainSegment (bytes : List ℕ) : Type 0 where
  pub some : 0 < length bytes
  pub plain : list_all is_plain bytes ≡ true

abbrev pub ArePlainSegments : List (List ℕ) → Type 0
ArePlainSegments segments = (0 < length segments) × AllByRecursion IsPlainSegment segments

pub record IsPlainPair (p : Pair) : Type 0 where
  pub name : list_all is_plain p.0 ≡ true
  pub value : list_all is_plain p.1 ≡ true

abbrev pub ArePlainPairs : List Pair → Type 0
ArePlainPairs pairs = AllByRecursion IsPlainPair pairs

-- a byte that is not plain stands nowhere
apart : (s : ℕ) → is_plain s ≡ false → (xs : List ℕ) → list_all is_plain xs ≡ true → All (λ b. b ≢ s) xs
apart s fails xs h k d few e = true≢false (sym (AllPass-from_list_all is_plain xs h k d few) ∙ ap is_plain e ∙ fails)

pub all_append : (p : ℕ → Bool) (a b : List ℕ) → list_all p a ≡ true → list_all p b ≡ true → list_all p (a ++ b) ≡ true
all_append p [] b h g = g
all_append p (x ∷ a) b h g = let parts = and_parts (p x) (list_all p a) h in ap₂ (λ s t. s && t) parts.0 (all_append p a b parts.1 g)

-- ---- the path

decoded : (xs : List ℕ) → list_all is_plain xs ≡ true → percent_decode xs ≡ xs
decoded [] h = percent_decode-nil
decoded (x ∷ xs) h =
    let parts = and_parts (is_plain x) (list_all is_plain xs) h in
    percent_decode_not_percent x xs (λ e. true≢false (sym parts.0 ∙ ap is_plain e)) ∙ ap (λ l. x ∷ l) (decoded xs parts.1)

no_slash : (xs : List ℕ) → list_all is_plain xs ≡ true → All (λ b. (b == 47) ≡ false) xs
no_slash xs h k d few = ne_eqb (get_or xs k d) 47 (apart 47 refl xs h k d few)

split_segments : (segments : List (List ℕ)) → ArePlainSegments segments → slice_split (λ b. b == 47) (join_with_byte 47 segments) ≡ segments
split_segments [] h = let never : ⊥ = omega (arith, h.0) in absurd never
split_segments (s ∷ []) h = slice_split_none (λ b. b == 47) s (no_slash s h.1.0.plain)
split_segments (s ∷ t ∷ more) h =
    slice_split_at (λ b. b == 47) s 47 (join_with_byte 47 (t ∷ more)) (no_slash s h.1.0.plain) refl ∙ ap (λ l. s ∷ l) (split_segments (t ∷ more) (omega arith, h.1.1))

no_empty_end : (segments : List (List ℕ)) → AllByRecursion IsPlainSegment segments → without_empty_end segments ≡ segments
no_empty_end [] h = refl
no_empty_end (s ∷ []) h = ap (λ test. cond test [] (s ∷ [])) (ne_eqb (length s) 0 (λ e. (let some = h.0.some in let never : ⊥ = omega arith in never)))
no_empty_end (s ∷ t ∷ more) h = ap (λ l. s ∷ l) (no_empty_end (t ∷ more) h.1)

all_decoded : (segments : List (List ℕ)) → AllByRecursion IsPlainSegment segments → map percent_decode segments ≡ segments
all_decoded [] h = refl
all_decoded (s ∷ more) h = ap₂ (λ a l. a ∷ l) (decoded s h.0.plain) (all_decoded more h.1)

abbrev is_path : ℕ → Bool
is_path b = is_plain b || b == 47

plain_path : (xs : List ℕ) → list_all is_plain xs ≡ true → list_all is_path xs ≡ true
plain_path [] h = refl
plain_path (x ∷ xs) h =
    let parts = and_parts (is_plain x) (list_all is_plain xs) h in
    ap₂ (λ s t. s && t) (ap (λ b. b || x == 47) parts.0) (plain_path xs parts.1)

all_path : (segments : List (List ℕ)) → AllByRecursion IsPlainSegment segments → list_all is_path (join_with_byte 47 segments) ≡ true
all_path [] h = refl
all_path (s ∷ []) h = plain_path s h.0.plain
all_path (s ∷ t ∷ more) h = all_append is_path s (47 ∷ join_with_byte 47 (t ∷ more)) (plain_path s h.0.plain) (all_path (t ∷ more) h.1)

no_mark : (segments : List (List ℕ)) → AllByRecursion IsPlainSegment segments → All (λ b. b ≢ 63) (47 ∷ join_with_byte 47 segments)
no_mark segments h k d few e =
    true≢false (sym (AllPass-from_list_all is_path (47 ∷ join_with_byte 47 segments) (all_path segments h) k d few) ∙ ap is_path e)

path_there : (segments : List (List ℕ)) (pairs : List Pair) → ArePlainSegments segments → path_of (target_text segments pairs) ≡ 47 ∷ join_with_byte 47 segments
path_there segments [] h = ap (λ t. (split_once 63 t).0) (append-nil (47 ∷ join_with_byte 47 segments)) ∙ split_once_before_none 63 (47 ∷ join_with_byte 47 segments) (no_mark segments h.1)
path_there segments (p ∷ pairs) h = split_once_before_at 63 (47 ∷ join_with_byte 47 segments) (query_text (p ∷ pairs)) (no_mark segments h.1)

pub path_again : (segments : List (List ℕ)) (pairs : List Pair) → ArePlainSegments segments → ArePlainPairs pairs
    → segments_of (path_of (target_text segments pairs)) ≡ Some segments
unfolding segments_of
path_again segments pairs h g =
    ap (λ path. segments_behind (slice_split (λ b. b == 47) path)) (path_there segments pairs h)
    ∙ ap (λ l. Some (map percent_decode (without_empty_end l))) (split_segments segments h)
    ∙ ap (λ l. Some (map percent_decode l)) (no_empty_end segments h.1) ∙ ap Some (all_decoded segments h.1)

-- ---- the query

abbrev Between : ℕ → Type 0
Between x = (38 ≤ x) × (x ≤ 122)

in_range : (low high x : ℕ) → 38 ≤ low → high ≤ 122 → (leb low x && leb x high) ≡ true → Between x
in_range low high x some few e =
    let both = and_parts (leb low x) (leb x high) e in
    let bottom = leb-true low x both.0 in
    let top = leb-true x high both.1 in
    (omega arith, omega arith)

same_byte : (c x : ℕ) → 38 ≤ c → c ≤ 122 → (x == c) ≡ true → Between x
same_byte c x some few k = let same = eqb-true x c k in (omega arith, omega arith)

plain_between : (x : ℕ) → is_plain x ≡ true → Between x
plain_between x h = last (or_cases (is_ascii_alphanumeric x || x == 45 || x == 46) (x == 95) h)
  where
    word : is_ascii_alphanumeric x ≡ true → Between x
    word e = ⊎_elim (λ k. ⊎_elim (λ d. in_range 48 57 x (lit≤ tt) (lit≤ tt) d) (λ d. in_range 65 90 x (lit≤ tt) (lit≤ tt) d) (or_cases (leb 48 x && leb x 57) (leb 65 x && leb x 90) k))
        (λ d. in_range 97 122 x (lit≤ tt) (lit≤ tt) d) (or_cases ((leb 48 x && leb x 57) || (leb 65 x && leb x 90)) (leb 97 x && leb x 122) e)

    dash : (is_ascii_alphanumeric x || x == 45) ≡ true → Between x
    dash e = ⊎_elim word (same_byte 45 x (lit≤ tt) (lit≤ tt)) (or_cases (is_ascii_alphanumeric x) (x == 45) e)

    point : (is_ascii_alphanumeric x || x == 45 || x == 46) ≡ true → Between x
    point e = ⊎_elim dash (same_byte 46 x (lit≤ tt) (lit≤ tt)) (or_cases (is_ascii_alphanumeric x || x == 45) (x == 46) e)

    last : ((is_ascii_alphanumeric x || x == 45 || x == 46) ≡ true) ⊎ ((x == 95) ≡ true) → Between x
    last e = ⊎_elim point (same_byte 95 x (lit≤ tt) (lit≤ tt)) e

plain_small : (x : ℕ) → is_plain x ≡ true → x < 128
plain_small x h = let range = plain_between x h in omega (arith, range.1)

all_small : (xs : List ℕ) → list_all is_plain xs ≡ true → (i : ℕ) → get_or xs i 0 < 128
all_small xs h i = at (cases_lt i (length xs))
  where
    at : (i < length xs) ⊎ (length xs ≤ i) → get_or xs i 0 < 128
    at (inl few) = plain_small (get_or xs i 0) (AllPass-from_list_all is_plain xs h i 0 few)
    at (inr past) = rw (get_or_past xs i 0 past) (lit< tt)

plain_text : (xs : List ℕ) → list_all is_plain xs ≡ true → utf8_lossy (decode xs) ≡ xs
plain_text xs h =
    let same = decode_plain xs (λ k d few. (apart 43 refl xs h k d few, apart 37 refl xs h k d few)) in
    ap utf8_lossy same ∙ utf8_lossy-IsUtf8 xs (IsUtf8-from_ascii xs (all_small xs h))

pair_again : (p : Pair) → IsPlainPair p → split_pair (pair_text p) ≡ p
pair_again p h = λ i. (split_once_before_at 61 p.0 p.1 (apart 61 refl p.0 h.name) i, split_once_after_at 61 p.0 p.1 (apart 61 refl p.0 h.name) i)

abbrev is_pair_byte : ℕ → Bool
is_pair_byte b = is_plain b || b == 61

plain_pair : (xs : List ℕ) → list_all is_plain xs ≡ true → list_all is_pair_byte xs ≡ true
plain_pair [] h = refl
plain_pair (x ∷ xs) h =
    let parts = and_parts (is_plain x) (list_all is_plain xs) h in
    ap₂ (λ s t. s && t) (ap (λ b. b || x == 61) parts.0) (plain_pair xs parts.1)

no_ampersand : (p : Pair) → IsPlainPair p → All (λ b. b ≢ 38) (pair_text p)
no_ampersand p h k d few e =
    let all = all_append is_pair_byte p.0 (61 ∷ p.1) (plain_pair p.0 h.name) (plain_pair p.1 h.value) in
    true≢false (sym (AllPass-from_list_all is_pair_byte (pair_text p) all k d few) ∙ ap is_pair_byte e)

some_text : (p : Pair) → 0 < length (pair_text p)
some_text p = omega (arith, length-append p.0 (61 ∷ p.1))

raw_again : (pairs : List Pair) → ArePlainPairs pairs → raw_pairs (query_text pairs) ≡ pairs
raw_again [] h = raw_pairs-nil
raw_again (p ∷ []) h =
    let t = pair_text p in
    let there = split_once_before_none 38 t (no_ampersand p h.0) in
    raw_pairs_first t (subst (λ l. 0 < length l) (sym there) (some_text p))
    ∙ ap₂ (λ a b. split_pair a ∷ raw_pairs b) there (split_once_after_none 38 t (no_ampersand p h.0)) ∙ ap₂ (λ a l. a ∷ l) (pair_again p h.0) raw_pairs-nil
raw_again (p ∷ q ∷ more) h =
    let t = pair_text p in
    let rest = query_text (q ∷ more) in
    let there = split_once_before_at 38 t rest (no_ampersand p h.0) in
    raw_pairs_first (t ++ 38 ∷ rest) (subst (λ l. 0 < length l) (sym there) (some_text p))
    ∙ ap₂ (λ a b. split_pair a ∷ raw_pairs b) there (split_once_after_at 38 t rest (no_ampersand p h.0)) ∙ ap₂ (λ a l. a ∷ l) (pair_again p h.0) (raw_again (q ∷ more) h.1)

-- the value of the first pair of a name
abbrev pub first_value : List ℕ → List Pair → Option (List ℕ)
first_value name [] = None
first_value name (p ∷ pairs) = cond (bytes_eq p.0 name) (Some p.1) (first_value name pairs)

first_again : (name : List ℕ) (pairs : List Pair) → ArePlainPairs pairs → first_in name pairs ≡ first_value name pairs
first_again name [] h = refl
first_again name (p ∷ pairs) h =
    let here : first_in name (p ∷ pairs) ≡ cond (bytes_eq p.0 name) (Some p.1) (first_in name pairs) =
    ap₂ (λ key value. cond (bytes_eq key name) (Some value) (first_in name pairs)) (plain_text p.0 h.0.name) (plain_text p.1 h.0.value) in
    here ∙ ap (λ rest. cond (bytes_eq p.0 name) (Some p.1) rest) (first_again name pairs h.1)

query_there : (segments : List (List ℕ)) (pairs : List Pair) → ArePlainSegments segments → query_of (target_text segments pairs) ≡ query_text pairs
query_there segments [] h = ap (λ t. (split_once 63 t).1) (append-nil (47 ∷ join_with_byte 47 segments)) ∙ split_once_after_none 63 (47 ∷ join_with_byte 47 segments) (no_mark segments h.1)
query_there segments (p ∷ pairs) h = split_once_after_at 63 (47 ∷ join_with_byte 47 segments) (query_text (p ∷ pairs)) (no_mark segments h.1)

pub parameter_again : (name : List ℕ) (segments : List (List ℕ)) (pairs : List Pair) → ArePlainSegments segments → ArePlainPairs pairs
    → parameter name (query_of (target_text segments pairs)) ≡ first_value name pairs
unfolding parameter
parameter_again name segments pairs h g =
    ap (λ query. first_in name (raw_pairs query)) (query_there segments pairs h) ∙ ap (first_in name) (raw_again pairs g) ∙ first_again name pairs g

-- ---- a target that may be sent

abbrev is_target_byte : ℕ → Bool
is_target_byte b = is_plain b || b == 47 || b == 63 || b == 38 || b == 61

target_between : (x : ℕ) → is_target_byte x ≡ true → Between x
target_between x h = last (or_cases (is_plain x || x == 47 || x == 63 || x == 38) (x == 61) h)
  where
    slash : (is_plain x || x == 47) ≡ true → Between x
    slash e = ⊎_elim (plain_between x) (same_byte 47 x (lit≤ tt) (lit≤ tt)) (or_cases (is_plain x) (x == 47) e)

    mark : (is_plain x || x == 47 || x == 63) ≡ true → Between x
    mark e = ⊎_elim slash (same_byte 63 x (lit≤ tt) (lit≤ tt)) (or_cases (is_plain x || x == 47) (x == 63) e)

    ampersand : (is_plain x || x == 47 || x == 63 || x == 38) ≡ true → Between x
    ampersand e = ⊎_elim mark (same_byte 38 x (lit≤ tt) (lit≤ tt)) (or_cases (is_plain x || x == 47 || x == 63) (x == 38) e)

    last : ((is_plain x || x == 47 || x == 63 || x == 38) ≡ true) ⊎ ((x == 61) ≡ true) → Between x
    last e = ⊎_elim ampersand (same_byte 61 x (lit≤ tt) (lit≤ tt)) e

path_in_target : (x : ℕ) → is_path x ≡ true → is_target_byte x ≡ true
path_in_target x e = ap (λ b. b || x == 63 || x == 38 || x == 61) e

pair_in_target : (x : ℕ) → is_pair_byte x ≡ true → is_target_byte x ≡ true
pair_in_target x e =
    ⊎_elim (λ k. ap (λ b. b || x == 47 || x == 63 || x == 38 || x == 61) k) (λ k. (let same : x ≡ 61 = eqb-true x 61 k in ap is_target_byte same)) (or_cases (is_plain x) (x == 61) e)

pair_bytes : (p : Pair) → IsPlainPair p → list_all is_target_byte (pair_text p) ≡ true
pair_bytes p h =
    all_weaker is_pair_byte is_target_byte pair_in_target (pair_text p) (all_append is_pair_byte p.0 (61 ∷ p.1) (plain_pair p.0 h.name) (plain_pair p.1 h.value))

query_bytes : (pairs : List Pair) → ArePlainPairs pairs → list_all is_target_byte (query_text pairs) ≡ true
query_bytes [] h = refl
query_bytes (p ∷ []) h = pair_bytes p h.0
query_bytes (p ∷ q ∷ more) h = all_append is_target_byte (pair_text p) (38 ∷ query_text (q ∷ more)) (pair_bytes p h.0) (query_bytes (q ∷ more) h.1)

behind_bytes : (pairs : List Pair) → ArePlainPairs pairs → list_all is_target_byte (behind pairs) ≡ true
behind_bytes [] h = refl
behind_bytes (p ∷ pairs) h = query_bytes (p ∷ pairs) h

target_all : (segments : List (List ℕ)) (pairs : List Pair) → ArePlainSegments segments → ArePlainPairs pairs → list_all is_target_byte (target_text segments pairs) ≡ true
target_all segments pairs h g =
    all_append is_target_byte (47 ∷ join_with_byte 47 segments) (behind pairs)
    (all_weaker is_path is_target_byte path_in_target (join_with_byte 47 segments) (all_path segments h.1)) (behind_bytes pairs g)

uri_byte : (x : ℕ) → is_target_byte x ≡ true → is_uri_byte x ≡ true
uri_byte x h =
    let range = target_between x h in
    ap₂ (λ s t. s && not t) (lt-ltb 32 x (omega (arith, range.0))) (ne_eqb x 127 (λ e. (let top = range.1 in let never : ⊥ = omega arith in never)))

pub target_uri : (segments : List (List ℕ)) (pairs : List Pair) → ArePlainSegments segments → ArePlainPairs pairs → list_all is_uri_byte (target_text segments pairs) ≡ true
target_uri segments pairs h g = all_weaker is_target_byte is_uri_byte uri_byte (target_text segments pairs) (target_all segments pairs h g)

target_small : (xs : List ℕ) → list_all is_target_byte xs ≡ true → (i : ℕ) → get_or xs i 0 < 128
target_small xs h i = at (cases_lt i (length xs))
  where
    at : (i < length xs) ⊎ (length xs ≤ i) → get_or xs i 0 < 128
    at (inl few) = let range = target_between (get_or xs i 0) (AllPass-from_list_all is_target_byte xs h i 0 few) in omega (arith, range.1)
    at (inr past) = rw (get_or_past xs i 0 past) (lit< tt)

pub target_utf8 : (segments : List (List ℕ)) (pairs : List Pair) → ArePlainSegments segments → ArePlainPairs pairs → IsUtf8 (target_text segments pairs)
target_utf8 segments pairs h g = IsUtf8-from_ascii (target_text segments pairs) (target_small (target_text segments pairs) (target_all segments pairs h g))
