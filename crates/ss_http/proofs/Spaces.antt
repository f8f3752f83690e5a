-- Spaces at the end of a text.
use Rattle.std.proofs.Common.{ℕ, List, reverse}
use Rattle.ss_http.specs.Fields.{skip_spaces}

-- the text without the spaces at its end
abbrev pub back : List ℕ → List ℕ
back text = reverse (skip_spaces (reverse text))
