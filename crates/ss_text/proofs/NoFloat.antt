-- A wrapped or marked text that serde_json reads holds no float.
use Rattle.std.proofs.Common.{◌≡◌, ℕ, List, [], ◌∷◌, ◌++◌, false, Option, Some, None, option_and_then, refl, subst}
use Rattle.json.specs.Token.{Token}
use Rattle.json.specs.Tree.{json_tokens}
use Rattle.json.specs.Json as json
use Rattle.json.specs.Lex.{tokens}
use Rattle.json.proofs.Unique.Spelling.{value-json_tokens_back}
use Rattle.serde_json.specs.Data.{Data}
use Rattle.serde_json.specs.Read.{read, max_depth, of_json}
use Rattle.serde_json.specs.Written.{has_float}
use Rattle.ss_text.specs.Decimals.{outside, pieces, wrapped_text, marked_text}
use Rattle.ss_text.specs.Tokens.{AreWhole}
use Rattle.ss_text.proofs.WholeTrees.{whole_tree}
use Rattle.ss_text.proofs.WholeTokens.{Kept, tokens_are_whole, kept_wrapped, kept_marked}

from_tree : (ts r : List Token) (j : json.Json) (d : Data) → ts ≡ json_tokens j ++ r → AreWhole ts → option_and_then of_json (json.if_last j r) ≡ Some d → has_float d ≡ false
from_tree ts [] j d e h reads = whole_tree j [] d (subst AreWhole e h) reads
from_tree ts (t ∷ r) j d e h reads = cc

from_value : (ts : List Token) (o : Option (json.Json × List Token)) (d : Data) → json.value max_depth ts ≡ o → AreWhole ts
    → option_and_then of_json (option_and_then (λ p. json.if_last p.0 p.1) o) ≡ Some d → has_float d ≡ false
from_value ts None d e h reads = cc
from_value ts (Some p) d e h reads = from_tree ts p.1 p.0 d (value-json_tokens_back max_depth ts p.1 p.0 e) h reads

read_kept : (text : List ℕ) (d : Data) → Kept (pieces outside text) → read text ≡ Some d → has_float d ≡ false
read_kept text d kept reads = from_value (tokens text) (json.value max_depth (tokens text)) d refl (tokens_are_whole text kept) reads

pub no_float : (text : List ℕ) (d : Data) → read (wrapped_text text) ≡ Some d → has_float d ≡ false
no_float text d reads = read_kept (wrapped_text text) d (kept_wrapped text) reads

pub marked_no_float : (text : List ℕ) (d : Data) → read (marked_text text) ≡ Some d → has_float d ≡ false
marked_no_float text d reads = read_kept (marked_text text) d (kept_marked text) reads
