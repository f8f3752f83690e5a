-- The lines of a key.
use Rattle.std.proofs.Common.{◌≡◌, ℕ, true, false, List, [], ◌∷◌, ◌++◌, Option, Some, None, option_map, unwrap_or, sym}
use Rattle.std.proofs.Common.{ap, ◌∙◌, codes}
use Rattle.std.specs.Ordering.{match_ordering}
use Rattle.std.specs.declared.cmp.Ordering.{Ordering}
use Rattle.std.specs.declared.cmp.Ordering.TheVariants.{Less, Equal, Greater}
use Rattle.std.specs.Cmp.Lexicographic.{slice_cmp}
use Rattle.std.specs.Ordering.{nat_cmp}
use Rattle.serde_json.specs.Data.{Data, Members, no_members, member}
use Rattle.serde_json.specs.Find.{get_member}
use Rattle.serde_json.specs.Written.{compact_text, has_float, members_have_float}
use Rattle.ss_dupe.specs.Keys.{member_line}
use Rattle.std.proofs.lemmas.Bool.{or_parts}

member_whole : (k : List ℕ) (ms : Members) → members_have_float ms ≡ false → (d : Data) → get_member k ms ≡ Some d → has_float d ≡ false
member_whole k no_members h d e = cc
member_whole k (member l f ms) h d e =
    let p = or_parts (has_float f) (members_have_float ms) h in
    cases (slice_cmp nat_cmp k l) e p.0 (member_whole k ms p.1 d)
  where
    cases : (o : Ordering) → match_ordering o (get_member k ms) (Some f) (get_member k ms) ≡ Some d → has_float f ≡ false → (get_member k ms ≡ Some d → has_float d ≡ false) → has_float d ≡ false
    cases Less q w more = more q
    cases Equal q w more = let same : f ≡ d = cc in sym (ap has_float same) ∙ w
    cases Greater q w more = more q

pub some_line : (ms : Members) (name : List ℕ) → members_have_float ms ≡ false → (d : Data) → Some d ≡ get_member name ms → (text : List ℕ) → (has_float d ≡ false → text ≡ compact_text d) → codes "\n" ++ text ≡ member_line ms name
unfolding member_line
some_line ms name h d e text is = ap (λ t. 0x0a ∷ t) (is (member_whole name ms h d (sym e)) ∙ ap (λ o. unwrap_or (option_map compact_text o) []) e)

pub no_line : (ms : Members) (name : List ℕ) → None ≡ get_member name ms → codes "\n" ≡ member_line ms name
unfolding member_line
no_line ms name e = ap (λ o. 0x0a ∷ unwrap_or (option_map compact_text o) []) e
