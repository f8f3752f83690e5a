-- What reads and writes of one link make of what it tells and counts.
use Rattle.std.proofs.Common.{◌≡◌, ℕ, List, [], ◌++◌, Option, refl, sym, ◌∙◌, subst, inl, inr}
use Rattle.std.proofs.lemmas.List.{append-nil}
use Rattle.ss_outside.specs.Told.{Meanings, HasRead, HasWritten, Takes, Loses}
use Rattle.ss_outside.specs.Causes.{Rose}
use Rattle.ss_outside.proofs.Telling.{Takes-none, Takes-append, Loses-none, Loses-append, Writes-none, Writes-append}
use Rattle.ss_outside.proofs.Telling.{idle_append}
use Rattle.ss_run_sync.specs.Moves.{RaisesNoFault, Fails}
use Rattle.ss_outside.specs.Told.{Moves}

pub moves_none : (a : Meanings) → Moves [] [] a a
moves_none a = record {
  taken = Takes-none a.taken;
  left = Loses-none a.left;
  written = Writes-none a.written a.written refl;
  idle = λ _. refl;
}

pub moves_then : (got sent more rest : List ℕ) (a b c : Meanings) → Moves got sent a b → Moves more rest b c → Moves (got ++ more) (sent ++ rest) a c
moves_then got sent more rest a b c m n = record {
  taken = Takes-append got more a.taken b.taken c.taken m.taken n.taken;
  left = Loses-append got more a.left b.left c.left m.left n.left;
  written = Writes-append sent rest a.written b.written c.written m.written n.written;
  idle = idle_append sent rest a.written b.written c.written m.idle n.idle;
}

pub moves_read : (got : List ℕ) (a b : Meanings) → HasRead got a b → Moves got [] a b
moves_read got a b r = record {
  taken = r.taken;
  left = r.left;
  written = Writes-none a.written b.written r.written;
  idle = λ _. r.written;
}

pub moves_write : (sent : List ℕ) (a b : Meanings) → HasWritten sent a b → Moves [] sent a b
moves_write sent a b w = record {
  taken = (let P : Option (List ℕ) → Type 0 = λ t. Takes [] a.taken t in subst P (sym w.taken) (Takes-none a.taken));
  left = (let P : Option (List ℕ) → Type 0 = λ l. Loses [] a.left l in subst P (sym w.left) (Loses-none a.left));
  written = w.written;
  idle = w.idle;
}

-- a request was written, and then bytes were read
pub moves_both : (text got : List ℕ) (a b c : Meanings) → HasWritten text a b → HasRead got b c → Moves got text a c
moves_both text got a b c w r =
    let P : List ℕ → Type 0 = λ s. Moves got s a c in
    subst P (append-nil text) (moves_then [] text got [] a b c (moves_write text a b w) (moves_read got b c r))

pub unfaulted_none : (a : Meanings) → RaisesNoFault a a
unfaulted_none a = record { reads = refl; writes = refl }

pub unfaulted_then : (a b c : Meanings) → RaisesNoFault a b → RaisesNoFault b c → RaisesNoFault a c
unfaulted_then a b c u v = record { reads = v.reads ∙ u.reads; writes = v.writes ∙ u.writes }

-- a count that rose from where another one stands
rose_from : (n m k : ℕ) → m ≡ n → Rose m k → Rose n k
rose_from n m k e r = subst (λ x. Rose x k) e r

pub fails_then : (text got sent : List ℕ) (a b c : Meanings) → RaisesNoFault a b → Fails text got sent b c → Fails text got sent a c
fails_then text got sent a b c u (inl f) = inl (rose_from a.write_faults b.write_faults c.write_faults u.writes f.0, f.1 ∙ u.reads, f.2, f.3)
fails_then text got sent a b c u (inr f) = inr (rose_from a.read_faults b.read_faults c.read_faults u.reads f.0, f.1 ∙ u.writes, f.2)
