-- The merged items as claims: each names its final parent and lists its children.
use Rattle.std.specs.Prelude.{◌≡◌, ◌||◌, ℕ, List, None, if◌then◌else◌, length, map, filter}
use Rattle.ss_record.specs.Ids.{Apart, has}
use Rattle.ss_build.specs.declared.claims.Claim.{Claim}
use Rattle.ss_dupe.specs.Looks.{Id, is_in, is_root}
use Rattle.ss_dupe.specs.Shapes.{HaveShapes}
use Rattle.ss_dupe.specs.Sides.{Sides}
use Rattle.ss_merge.specs.Survivors.{content_of, survives}
use Rattle.ss_merge.specs.Parents.{final}
use Rattle.ss_merge.specs.Merged.{is_child, merged_children}

-- ids are those of the two trees, which are valid
pub record AreMerging (s : Sides) (ids : List Id) : Type 0 where
  pub shaped : HaveShapes s
  pub apart : Apart ids
  pub all : (x : Id) → has x ids ≡ (is_in s.local x || is_in s.remote x)

unfoldable pub claim_at : Sides → ℕ → Id → Claim
claim_at s n x = record {
  item = record { id = x; kind = (content_of s x).kind; content = (content_of s x).content };
  parentid = if is_root x then None else final s n x;
  children = filter (is_child s n x) (merged_children s x);
  time = 0;
}

unfoldable pub claims_of : Sides → List Id → List Claim
claims_of s ids = map (claim_at s (length ids)) (filter (survives s) ids)
