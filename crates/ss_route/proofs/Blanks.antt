-- Blanks at the end of a text.
use Rattle.std.proofs.Common.{ℕ, List, reverse}
use Rattle.httparse.specs.Grammar.{skip_ows}

-- the text without the blanks at its end
abbrev pub back : List ℕ → List ℕ
back text = reverse (skip_ows (reverse text))
