use Rattle.std.specs.Prelude.{◌≡◌, map, drop, string_bytes}
use Rattle.ss_words.specs.declared.lines.Place.TheVariants.{Between}
use Rattle.ss_words.specs.Reading.{read_from, empty_line}
use Rattle.ss_words.proofs.lines.read_line.Given as goal

-- what is left reads on from here
abbrev pub invariant-loop-word : goal.invariant-loop-word
invariant-loop-word l = read_from l.name Between empty_line (map (λ word. string_bytes word) l.words) ≡ read_from l.name l.place l.line (drop l.word-index (map (λ word. string_bytes word) l.words))
