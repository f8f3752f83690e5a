-- The dump of an account: its lines in order, the digest of these, and the end (the format is this project's).
use Rattle.std.specs.Prelude.{◌++◌, ◌∷◌, ℕ, List, Bool, map}
use Rattle.std.specs.List.{flat_map}
use Rattle.std.specs.declared.cmp.Ordering.{Ordering}
use Rattle.std.specs.Ordering.{is_lt, nat_cmp, ordering_then}
use Rattle.hex.specs.Hex.{encode_lower}
use Rattle.sha2.specs.Sha256.{sha256}
use Rattle.ss_text.specs.Texts.{sorted, text_cmp}
use Rattle.ss_bso.specs.declared.rows.Row.{Row}
use Rattle.ss_bso.specs.declared.account.Staged.{Staged}
use Rattle.ss_bso.specs.declared.changes.Kept.{Kept}
use Rattle.ss_lines.specs.Lines.{line_text}
use Rattle.ss_lines.specs.declared.lines.Line.{Line}
use Rattle.ss_lines.specs.declared.lines.Line.TheVariants.{Account, Times, Collection, Row as RowLine, Batch}
use Rattle.ss_lines.specs.declared.lines.Line.TheVariants.{Part as PartLine, Digest, End}

-- ---- the lines of an account

-- a batch and its parts
abbrev pub batch_lines : Staged → List Line
batch_lines b = Batch b.number b.collection b.begun ∷ map (λ p. PartLine p) b.parts

abbrev pub collection_line : List ℕ × ℕ → Line
collection_line entry = Collection entry.0 entry.1

-- the lines of lists of collections, of rows and of batches
abbrev pub list_lines : List (List ℕ × ℕ) → List Row → List Staged → List Line
list_lines collections rows batches = map collection_line collections ++ (map (λ r. RowLine r) rows ++ flat_map batch_lines batches)

-- the lines of what is kept of an account, as its lists stand
unfoldable pub account_lines : Kept → List Line
account_lines kept = Account ∷ Times kept.store kept.last_delete kept.counter ∷ list_lines kept.collections kept.rows kept.batches

-- ---- their order

-- collections by name
abbrev pub name_cmp : List ℕ × ℕ → List ℕ × ℕ → Ordering
name_cmp entry other = text_cmp entry.0 other.0

-- rows by collection, and then by id
abbrev pub place_cmp : Row → Row → Ordering
place_cmp row other = ordering_then (text_cmp row.collection other.collection) (text_cmp row.id other.id)

-- batches by number
abbrev pub number_cmp : Staged → Staged → Ordering
number_cmp batch other = nat_cmp batch.number other.number

abbrev pub comes_before : {X : Type 0} → (X → X → Ordering) → X → X → Bool
comes_before cmp x y = is_lt (cmp x y)

-- what is kept, each of its lists in order
abbrev pub in_order : Kept → Kept
in_order kept = record {
  rows = sorted (comes_before place_cmp) kept.rows;
  collections = sorted (comes_before name_cmp) kept.collections;
  store = kept.store;
  last_delete = kept.last_delete;
  counter = kept.counter;
  batches = sorted (comes_before number_cmp) kept.batches;
}

-- ---- the dump

abbrev pub text_of : List Line → List ℕ
text_of lines = flat_map line_text lines

-- the text of what is kept of an account, without a digest
unfoldable pub body_text : Kept → List ℕ
body_text kept = text_of (account_lines (in_order kept))

-- the digest of a text
unfoldable pub digest_of : List ℕ → List ℕ
digest_of text = encode_lower (sha256 text)

-- the text with a digest, and the end
abbrev pub closed_by : List ℕ → List ℕ → List ℕ
closed_by digest text = text ++ (line_text (Digest digest) ++ line_text End)

unfoldable pub dump_text : Kept → List ℕ
dump_text kept = closed_by (digest_of (body_text kept)) (body_text kept)
