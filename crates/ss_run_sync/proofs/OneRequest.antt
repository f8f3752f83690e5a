-- What comes of one request.
use Rattle.std.proofs.Common.{◌≡◌, ℕ, List, [], ◌++◌, Ok, Err, refl, ◌∙◌, subst, inl, inr}
use Rattle.ss_outside.specs.Told.{Meanings, HasRead, HasWritten}
use Rattle.ss_outside.specs.Causes.{Rose}
use Rattle.ss_http.specs.declared.heard.Heard.{Heard}
use Rattle.ss_http.specs.declared.heard.HeardFault.{HeardFault}
use Rattle.ss_http.specs.declared.heard.HeardFault.TheVariants as faults
use Rattle.ss_http.specs.Hearing.{Hearing, EndsHearing, RisesHearing}
use Rattle.ss_run_sync.specs.declared.asking.Missed.{Missed}
use Rattle.ss_run_sync.specs.declared.asking.Missed.TheVariants as missed
use Rattle.ss_run_sync.specs.Answers.{IsOfBytes, IsMissOfFault, AsksOnce}
use Rattle.ss_run_sync.proofs.Moving.{moves_none, moves_write, moves_both}

-- no memory for the request
pub unwritten : (text : List ℕ) (a : Meanings) → AsksOnce text (Err missed.Memory) a a
unwritten text a = record {
  got = [];
  sent = [];
  moves = moves_none a;
  says = (inl (refl, refl), record { reads = refl; writes = refl });
}

-- a write failed
pub cut_off : (text sent rest : List ℕ) (a b : Meanings) → text ≡ sent ++ rest → HasWritten sent a b → Rose a.write_faults b.write_faults → AsksOnce text (Err missed.Wire) a b
cut_off text sent rest a b e w r = record {
  got = [];
  sent = sent;
  moves = moves_write sent a b w;
  says = inl (r, w.read_faults, refl, (rest, e));
}

-- a response was heard
pub answered : (text : List ℕ) (h : Heard) (a b c : Meanings) → HasWritten text a b → b.write_faults ≡ a.write_faults
    → (got : List ℕ) × HasRead got b c × Hearing (Ok h) got → c.read_faults ≡ b.read_faults → AsksOnce text (Ok h) a c
answered text h a b c w writes t reads = record {
  got = t.0;
  sent = text;
  moves = moves_both text t.0 a b c w t.1;
  says = (refl, t.2, record { reads = reads ∙ w.read_faults; writes = t.1.write_faults ∙ writes });
}

quiet : (e : HeardFault) (before now : ℕ) → IsOfBytes e → RisesHearing e before now → now ≡ before
quiet faults.Cut before now o r = r
quiet faults.Bad before now o r = r
quiet (faults.TooLarge n) before now o r = r
quiet faults.ReadFault before now o r = absurd o
quiet faults.Memory before now o r = absurd o

rises : (e : HeardFault) (before now : ℕ) → e ≡ faults.ReadFault → RisesHearing e before now → Rose before now
rises e before now is r = subst (λ f. RisesHearing f before now) is r

stays : (e : HeardFault) (before now : ℕ) → e ≡ faults.Memory → RisesHearing e before now → now ≡ before
stays e before now is r = subst (λ f. RisesHearing f before now) is r

-- no response was heard
pub unheard : (text : List ℕ) (e : HeardFault) (m : Missed) (a b c : Meanings) → IsMissOfFault e m → HasWritten text a b → b.write_faults ≡ a.write_faults
    → (got : List ℕ) × HasRead got b c × Hearing (Err e) got → EndsHearing e c → RisesHearing e b.read_faults c.read_faults → AsksOnce text (Err m) a c
unheard text e missed.Unread a b c is w writes t ended r = record {
  got = t.0;
  sent = text;
  moves = moves_both text t.0 a b c w t.1;
  says =
      (refl, record { fault = e; of_bytes = is; cause = t.2; ended = ended }, record { reads = quiet e b.read_faults c.read_faults is r ∙ w.read_faults; writes = t.1.write_faults ∙ writes });
}
unheard text e missed.Wire a b c is w writes t ended r = record {
  got = t.0;
  sent = text;
  moves = moves_both text t.0 a b c w t.1;
  says = inr (subst (λ n. Rose n c.read_faults) w.read_faults (rises e b.read_faults c.read_faults is r), t.1.write_faults ∙ writes, refl);
}
unheard text e missed.Memory a b c is w writes t ended r = record {
  got = t.0;
  sent = text;
  moves = moves_both text t.0 a b c w t.1;
  says = (inr refl, record { reads = stays e b.read_faults c.read_faults is r ∙ w.read_faults; writes = t.1.write_faults ∙ writes });
}
