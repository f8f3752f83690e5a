-- Whether the words were refused, or memory was wanting.
use Rattle.std.specs.Prelude.{⊤}
use Rattle.ss_words.specs.declared.refusals.WordsFault.{WordsFault}
use Rattle.ss_words.specs.declared.refusals.WordsFault.TheVariants.{Refused, Memory}

-- the words ask nothing
abbrev pub AsksNothing : WordsFault → Type 0
AsksNothing (Refused refusal) = ⊤
AsksNothing Memory = ⊥
