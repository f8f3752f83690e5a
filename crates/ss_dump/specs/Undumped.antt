-- What a dump gives, and how a text that is none is refused.
use Rattle.std.specs.Prelude.{◌≡◌, ◌≢◌, ℕ, List, true, ⊤}
use Rattle.std.specs.List.{AllByRecursion}
use Rattle.ss_bso.specs.declared.changes.Kept.{Kept}
use Rattle.ss_lines.specs.Digests.{is_digest}
use Rattle.ss_lines.specs.Lines.{IsLine}
use Rattle.ss_account.specs.Opening.{IsFaultOf, IsGood}
use Rattle.ss_account.specs.declared.faults.OpenFault.TheVariants as opening
use Rattle.ss_dump.specs.declared.faults.DumpFault.{DumpFault}
use Rattle.ss_dump.specs.declared.faults.DumpFault.TheVariants.{BadLine, BadDigest, BadCollection, BadRow, BadBatch}
use Rattle.ss_dump.specs.declared.faults.DumpFault.TheVariants.{Memory}
use Rattle.ss_dump.specs.declared.faults.LineFault.{LineFault}
use Rattle.ss_dump.specs.declared.faults.LineFault.TheVariants as line
use Rattle.ss_dump.specs.Dumps.{account_lines, body_text, closed_by, digest_of, dump_text, in_order}
use Rattle.ss_dump.specs.Telling.{IsBadLine}

-- the text is the dump of this, in order, and an account can be opened from it
pub record IsDumpOf (text : List ℕ) (kept : Kept) : Type 0 where
  pub formed : AllByRecursion IsLine (account_lines kept)
  pub ordered : in_order kept ≡ kept
  pub good : IsGood kept
  pub text_is : text ≡ dump_text kept

-- the text tells this, in order, and states a digest
pub record TellsWithDigest (text : List ℕ) (kept : Kept) (digest : List ℕ) : Type 0 where
  pub formed : AllByRecursion IsLine (account_lines kept)
  pub stated_formed : is_digest digest ≡ true
  pub ordered : in_order kept ≡ kept
  pub text_is : text ≡ closed_by digest (body_text kept)

-- it states another digest than that of what stands before it
abbrev pub IsBadDigest : List ℕ → List ℕ → List ℕ → Type 0
IsBadDigest text stated found = (kept : Kept) × TellsWithDigest text kept stated × (found ≡ digest_of (body_text kept)) × (stated ≢ found)

-- the text would be a dump if an account could be opened from what it tells
pub record WouldBeDump (text : List ℕ) (kept : Kept) : Type 0 where
  pub formed : AllByRecursion IsLine (account_lines kept)
  pub ordered : in_order kept ≡ kept
  pub text_is : text ≡ dump_text kept

-- why a text is no dump: its first bad line; else its digest; else the collection, row or batch for which no account can be
-- opened from what it tells
abbrev pub IsWhyNoDump : List ℕ → DumpFault → Type 0
IsWhyNoDump text (BadLine n) = IsBadLine text n
IsWhyNoDump text (BadDigest stated found) = IsBadDigest text stated found
IsWhyNoDump text (BadCollection n) = (kept : Kept) × WouldBeDump text kept × IsFaultOf kept (opening.BadCollection n)
IsWhyNoDump text (BadRow n) = (kept : Kept) × WouldBeDump text kept × IsFaultOf kept (opening.BadRow n)
IsWhyNoDump text (BadBatch n) = (kept : Kept) × WouldBeDump text kept × IsFaultOf kept (opening.BadBatch n)
IsWhyNoDump text Memory = ⊤

-- why a text's lines aren't those of a dump, as why the text is none
abbrev pub of_line : LineFault → DumpFault
of_line (line.BadLine n) = BadLine n
of_line line.Memory = Memory

-- ---- for private clauses

-- what is said of a kept account from which none can be opened
abbrev pub IsUnfit : Kept → DumpFault → Type 0
IsUnfit kept (BadLine n) = ⊥
IsUnfit kept (BadDigest stated found) = ⊥
IsUnfit kept (BadCollection n) = IsFaultOf kept (opening.BadCollection n)
IsUnfit kept (BadRow n) = IsFaultOf kept (opening.BadRow n)
IsUnfit kept (BadBatch n) = IsFaultOf kept (opening.BadBatch n)
IsUnfit kept Memory = ⊤

-- two digests are others
abbrev pub IsOtherDigest : List ℕ → List ℕ → DumpFault → Type 0
IsOtherDigest digest other (BadLine n) = ⊥
IsOtherDigest digest other (BadDigest stated found) = (stated ≡ digest) × (found ≡ other) × (digest ≢ other)
IsOtherDigest digest other (BadCollection n) = ⊥
IsOtherDigest digest other (BadRow n) = ⊥
IsOtherDigest digest other (BadBatch n) = ⊥
IsOtherDigest digest other Memory = ⊤
