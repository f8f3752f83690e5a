-- What is read of a dump, and of a text that is none.
use Rattle.std.proofs.Common.{◌≡◌, ℕ, List, take, Option, Some, None, refl, sym, ap, ◌∙◌, subst}
use Rattle.std.specs.Option.{IfNone, IfSome}
use Rattle.ss_bso.specs.declared.changes.Kept.{Kept}
use Rattle.ss_account.specs.Opening.{IsGood}
use Rattle.ss_dump.specs.declared.faults.DumpFault.{DumpFault}
use Rattle.ss_dump.specs.declared.faults.DumpFault.TheVariants.{BadLine, BadDigest, BadCollection, BadRow, BadBatch}
use Rattle.ss_dump.specs.declared.faults.DumpFault.TheVariants.{Memory}
use Rattle.ss_dump.specs.declared.faults.LineFault.{LineFault}
use Rattle.ss_dump.specs.declared.faults.LineFault.TheVariants as line
use Rattle.ss_dump.specs.Dumps.{account_lines, body_text, closed_by, digest_of, dump_text, text_of}
use Rattle.ss_dump.specs.Telling.{IsToldWith}
use Rattle.ss_dump.specs.Stages.{IsLineFault}
use Rattle.ss_dump.specs.Undumped.{IsBadDigest, IsDumpOf, IsOtherDigest, IsWhyNoDump, TellsWithDigest, IsUnfit}
use Rattle.ss_dump.specs.Undumped.{WouldBeDump}
use Rattle.ss_dump.specs.Undumped.{of_line}
use Rattle.ss_dump.proofs.Told.{text_told}

pub absent : {X : Type 0} (P : Type 0) (o : Option X) → ((x : X) → o ≡ Some x → ⊥) → IfNone o P → P
absent P None h n = n
absent P (Some x) h n = absurd (h x refl)

pub present : {X : Type 0} (P : X → Type 0) (o : Option X) (x : X) → o ≡ Some x → IfSome o P → P x
present P o x e h = let there : IfSome (Some x) P = subst (λ z. IfSome z P) e h in there

-- the digest of the account's lines, which are so many bytes
found_is : (text : List ℕ) (kept : Kept) (digest found : List ℕ) (body : ℕ) → IsToldWith text kept digest → take body text ≡ text_of (account_lines kept) → found ≡ digest_of (take body text)
    → found ≡ digest_of (body_text kept)
found_is text kept digest found body t b f =
    f ∙ ap digest_of (b ∙ sym (text_told text kept digest t).body_is)

other_digest : (text : List ℕ) (kept : Kept) (digest found stated told : List ℕ) (body : ℕ) → IsToldWith text kept digest → take body text ≡ text_of (account_lines kept) → found ≡ digest_of (take body text)
    → stated ≡ digest → told ≡ found → (digest ≡ found → ⊥) → IsBadDigest text stated told
other_digest text kept digest found stated told body t b f s w other =
    let r = text_told text kept digest t in
    let is : TellsWithDigest text kept digest = record { formed = r.formed; stated_formed = r.digest_formed; ordered = r.ordered; text_is = r.text_is } in
    (kept, subst (TellsWithDigest text kept) (sym s) is, w ∙ found_is text kept digest found body t b f, λ e. other (sym s ∙ (e ∙ w)))

pub would_be : (text : List ℕ) (kept : Kept) (digest found : List ℕ) (body : ℕ) → IsToldWith text kept digest → take body text ≡ text_of (account_lines kept) → found ≡ digest_of (take body text)
    → digest ≡ found → WouldBeDump text kept
unfolding dump_text
would_be text kept digest found body t b f same =
    let r = text_told text kept digest t in
    record {
      formed = r.formed;
      ordered = r.ordered;
      text_is = r.text_is ∙ ap (λ d. closed_by d (body_text kept)) (same ∙ found_is text kept digest found body t b f);
    }

pub is_dump : (text : List ℕ) (kept : Kept) → WouldBeDump text kept → IsGood kept → IsDumpOf text kept
is_dump text kept w g = record { formed = w.formed; ordered = w.ordered; good = g; text_is = w.text_is }

pub unfit : (text : List ℕ) (kept : Kept) → WouldBeDump text kept → (fault : DumpFault) → IsUnfit kept fault → IsWhyNoDump text fault
unfit text kept w (BadLine n) h = absurd h
unfit text kept w (BadDigest stated found) h = absurd h
unfit text kept w (BadCollection n) h = (kept, w, h)
unfit text kept w (BadRow n) h = (kept, w, h)
unfit text kept w (BadBatch n) h = (kept, w, h)
unfit text kept w Memory h = tt

pub other : (text : List ℕ) (kept : Kept) (digest found : List ℕ) (body : ℕ) → IsToldWith text kept digest → take body text ≡ text_of (account_lines kept) → found ≡ digest_of (take body text)
    → (fault : DumpFault) → IsOtherDigest digest found fault → IsWhyNoDump text fault
other text kept digest found body t b f (BadLine n) h = absurd h
other text kept digest found body t b f (BadDigest stated told) h = other_digest text kept digest found stated told body t b f h.0 h.1 h.2
other text kept digest found body t b f (BadCollection n) h = absurd h
other text kept digest found body t b f (BadRow n) h = absurd h
other text kept digest found body t b f (BadBatch n) h = absurd h
other text kept digest found body t b f Memory h = tt

pub bad_line : (text : List ℕ) (fault : LineFault) → IsLineFault text fault → IsWhyNoDump text (of_line fault)
bad_line text (line.BadLine n) h = h
bad_line text line.Memory h = tt
