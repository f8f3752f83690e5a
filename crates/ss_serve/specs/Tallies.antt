-- The rule of the channel of links: each link that was put was taken by one worker or is left.
use Rattle.std.specs.Prelude.{◌≡◌, ℕ, ◌+◌, List, [], ◌∷◌}
use mathlib.Core.Option.{some}
use lib.ListN.{get_elem?}
use Rattle.ss_desk.specs.Rule.{total}
use Rattle.ss_outside.specs.Told.{Meanings}
use Rattle.ss_links.specs.Links.{IsUnusedLink}
use Rattle.ss_serve.specs.declared.channel.Tally.{Tally}
use Rattle.ss_serve.specs.declared.channel.Job.{Job}
use Rattle.ss_serve.specs.declared.channel.Job.TheVariants.{Link, Stop}

abbrev pub tally : ℕ → ℕ → ℕ → Tally
tally parts put taken = record { parts = parts; put = put; taken = taken }

module _ {L : Type 0} where
  abbrev pub links_in : Job L → ℕ
  links_in (Link l) = 1
  links_in Stop = 0

  abbrev pub links : List (Job L) → ℕ
  links [] = 0
  links (x ∷ xs) = links_in x + links xs

  -- with all parts of the right: what was put is what was taken and what is left
  abbrev pub IsSettledTally : Tally → List (Job L) → Type 0
  IsSettledTally v items = v.parts ≡ 32 → v.put ≡ v.taken + links items

  module _ (told : L → Meanings) where
    -- a link that has taken and written nothing
    abbrev pub IsNew : Job L → Type 0
    IsNew (Link l) = IsUnusedLink (told l)
    IsNew Stop = Unit {0}

    abbrev pub AreNew : List (Job L) → Type 0
    AreNew [] = Unit {0}
    AreNew (x ∷ xs) = IsNew x × AreNew xs

    pub record IsBalancedChannel (items : List (Job L)) (views : List Tally) : Type 0 where
      pub whole : total (λ (v : Tally). v.parts) views ≡ 32
      pub balance : total (λ (v : Tally). v.put) views ≡ total (λ (v : Tally). v.taken) views + links items
      pub idle : (j : ℕ) (v : Tally) → get_elem? views j ≡ some v → v.parts ≡ 0 → (v.put ≡ 0) × (v.taken ≡ 0)
      pub new : AreNew items
