-- Counts of faults under a plan.
use Rattle.std.proofs.Common.{◌≡◌, ◌≢◌, ◌⊎◌, ◌↔◌, ℕ, Bool, true, false, not, nat_eq, IsTrue, List, [], Option, None}
use Rattle.std.proofs.Common.{Some, refl, sym, ◌∙◌, ap, subst}
use Rattle.std.proofs.lemmas.Bool.Decides.{nat_tests}
use Rattle.ss_outside.specs.Told.{HasWritten}
use Rattle.ss_outside.specs.Plans.{Plan, after_call, is_failing}
use Rattle.ss_outside.proofs.Telling.{Writes-none}
use Rattle.ss_links.specs.Links.{Link, counted_faults, link_tells}

-- a call changes no count by itself
pub counted_same : (plan : Option Plan) (n : ℕ) → counted_faults (after_call plan) n ≡ counted_faults plan n
counted_same None n = refl
counted_same (Some plan) n = refl

-- so what was counted stays so
pub counted_after : (old new : Option Plan) (n : ℕ) → new ≡ after_call old → counted_faults old n ≡ n → counted_faults new n ≡ n
counted_after old new n after was = ap (λ p. counted_faults p n) after ∙ counted_same old n ∙ was

-- where a call fails there is a plan, and each count counts
pub counted_failing : (old new : Option Plan) (n : ℕ) → new ≡ after_call old → is_failing old ≡ true → counted_faults new n ≡ n
counted_failing None new n after fails = absurd (let f : false ≡ true = fails in cc)
counted_failing (Some plan) new n after fails = ap (λ p. counted_faults p n) after

-- a refused write changes nothing but its own count
pub write_refused :
    (old new : Link) → new.source ≡ old.source → new.sink ≡ old.sink → new.plan ≡ after_call old.plan → new.read_faults ≡ old.read_faults
    → HasWritten [] (link_tells old) (link_tells new)
write_refused old new source sink plan faults =
    let written : new.sink.written ≡ old.sink.written = ap (λ s. s.written) sink in record {
      written = Writes-none old.sink.written new.sink.written written;
      idle = λ _. written;
      taken = ap (λ s. Some s.taken) source;
      left = ap (λ s. (link_tells (record { source = s; sink = new.sink; plan = new.plan; read_faults = new.read_faults; write_faults = new.write_faults; is_closed = new.is_closed })).left) source;
      read_faults = ap (λ p. counted_faults p new.read_faults) plan ∙ counted_same old.plan new.read_faults ∙ ap (counted_faults old.plan) faults;
    }
