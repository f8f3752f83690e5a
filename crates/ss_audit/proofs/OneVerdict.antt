-- There is one verdict on logs.
use Rattle.std.specs.Prelude.{◌≡◌, ◌≤◌, ◌<◌, ◌+◌, ◌-◌, ℕ, zero, suc, List, [], ◌∷◌, ◌++◌, length, take, Option, refl}
use Rattle.std.specs.List.Sorted.{IsStrictlyIncreasing}
use Rattle.std.proofs.Common.{subst, sym, ap, ◌∙◌, arith}
use mathlib.Core.Logic.{dite}
use native.Mathlib.Decide.{dec_lt}
use Rattle.ss_bso.specs.declared.account.Plain.{Plain}
use Rattle.ss_laws.specs.Journal.{Journal}
use Rattle.ss_audit.specs.declared.verdict.Verdict.{Verdict}
use Rattle.ss_audit.specs.declared.verdict.Verdict.TheVariants.{Yes, No}
use Rattle.ss_audit.specs.declared.verdict.Why.{Why}
use Rattle.ss_audit.specs.declared.verdict.Why.TheVariants as why
use Rattle.ss_audit.specs.Sound.{AreSound, AreWithin, tickets_of}
use Rattle.ss_audit.specs.Verdicts.{FailsAt, IsFirstFault, IsSoundBefore, IsVerdict, last_closing}
use Rattle.ss_audit.proofs.Verdicts.{fails_not, fault_not, rises_front, sound_own, sound_seam, within_front}

by_order : {P : Type 0} (m n : ℕ) → (m < n → P) → (n < m → P) → (m ≡ n → P) → P
by_order m n less more same = dite (dec_lt m n) less (λ past. dite (dec_lt n m) more (λ reached. same (omega (arith, past, reached))))

take-take : {X : Type 0} (i j : ℕ) (xs : List X) → i ≤ j → take i (take j xs) ≡ take i xs
take-take zero zero [] le = refl
take-take zero zero (x ∷ xs) le = refl
take-take zero (suc j) [] le = refl
take-take zero (suc j) (x ∷ xs) le = refl
take-take (suc i) zero xs le = absurd (omega arith)
take-take (suc i) (suc j) [] le = refl
take-take (suc i) (suc j) (x ∷ xs) le = ap (λ rest. x ∷ rest) (take-take i j xs (omega arith))

-- ---- two places of one list

data Meet {X : Type 0} (xs : List X) (x : X) (ys : List X) (y : X) : Type 0 where
  earlier : (more : List X) → ys ≡ xs ++ x ∷ more → Meet xs x ys y
  later : (more : List X) → xs ≡ ys ++ y ∷ more → Meet xs x ys y
  same : xs ≡ ys → x ≡ y → Meet xs x ys y

behind : {X : Type 0} (z w : X) (xs : List X) (x : X) (ys : List X) (y : X) → z ≡ w → Meet xs x ys y → Meet (z ∷ xs) x (w ∷ ys) y
behind z w xs x ys y e (earlier more is) = earlier more (λ i. sym e i ∷ is i)
behind z w xs x ys y e (later more is) = later more (λ i. e i ∷ is i)
behind z w xs x ys y e (same is at) = same (λ i. e i ∷ is i) at

meet : {X : Type 0} (xs : List X) (x : X) (xs' : List X) (ys : List X) (y : X) (ys' : List X) → xs ++ x ∷ xs' ≡ ys ++ y ∷ ys' → Meet xs x ys y
meet [] x xs' [] y ys' e = same refl (let h : x ≡ y = cc in h)
meet [] x xs' (w ∷ ys) y ys' e = earlier ys (let h : w ≡ x = cc in λ i. h i ∷ ys)
meet (z ∷ xs) x xs' [] y ys' e = later xs (let h : z ≡ y = cc in λ i. h i ∷ xs)
meet (z ∷ xs) x xs' (w ∷ ys) y ys' e =
    let first : z ≡ w = cc in
    let rest : xs ++ x ∷ xs' ≡ ys ++ y ∷ ys' = cc in
    behind z w xs x ys y first (meet xs x xs' ys y ys' rest)

-- ---- one place of a log

module _ (closing : Option Plain) (log : Journal) where
  rises_to : (entry next : ℕ) → entry < next → IsSoundBefore closing log next → IsStrictlyIncreasing (tickets_of (take entry log.entries))
  rises_to entry next lt s =
      let le : entry ≤ next - 1 = omega (arith, lt) in
      subst (λ es. IsStrictlyIncreasing (tickets_of es)) (take-take entry (next - 1) log.entries le) (rises_front (take (next - 1) log.entries) entry s.sound.tickets)

  within_to : (entry next : ℕ) → entry < next → IsSoundBefore closing log next → AreWithin log.most (take entry log.entries)
  within_to entry next lt s =
      let le : entry ≤ next - 1 = omega (arith, lt) in
      subst (λ es. AreWithin log.most es) (take-take entry (next - 1) log.entries le) (within_front log.most (take (next - 1) log.entries) entry s.sound.within)

  record OnePlace (entry other : ℕ) (reason cause : Why) : Type 0 where
    entries : entry ≡ other
    reasons : reason ≡ cause

  one_place : (entry other : ℕ) (reason cause : Why) → FailsAt closing log entry reason → FailsAt closing log other cause → OnePlace entry other reason cause
  one_place entry other why.Opening why.Opening f g = record { entries = f.0 ∙ sym g.0; reasons = refl }
  one_place entry other why.Opening why.Follows f g = absurd (f.1 g.1)
  one_place entry other why.Opening why.Ticket f g = absurd (f.1 g.0.sound.opening)
  one_place entry other why.Opening why.Limits f g = absurd (f.1 g.0.sound.opening)
  one_place entry other why.Follows why.Opening f g = absurd (g.1 f.1)
  one_place entry other why.Follows why.Follows f g = record { entries = f.0 ∙ sym g.0; reasons = refl }
  one_place entry other why.Follows why.Ticket f g = absurd (f.2 g.0.goes_on)
  one_place entry other why.Follows why.Limits f g = absurd (f.2 g.0.goes_on)
  one_place entry other why.Ticket why.Opening f g = absurd (g.1 f.0.sound.opening)
  one_place entry other why.Ticket why.Follows f g = absurd (g.2 f.0.goes_on)
  one_place entry other why.Ticket why.Ticket f g =
      by_order entry other (λ lt. absurd (f.1 (rises_to entry other lt g.0))) (λ lt. absurd (g.1 (rises_to other entry lt f.0))) (λ e. record { entries = e; reasons = refl })
  one_place entry other why.Ticket why.Limits f g =
      by_order entry other (λ lt. absurd (f.1 (rises_to entry other lt g.0))) (λ lt. absurd (g.2 (within_to other entry lt f.0)))
      (λ e. absurd (f.1 (subst (λ k. IsStrictlyIncreasing (tickets_of (take k log.entries))) (sym e) g.1)))
  one_place entry other why.Limits why.Opening f g = absurd (g.1 f.0.sound.opening)
  one_place entry other why.Limits why.Follows f g = absurd (g.2 f.0.goes_on)
  one_place entry other why.Limits why.Ticket f g =
      by_order entry other (λ lt. absurd (f.2 (within_to entry other lt g.0))) (λ lt. absurd (g.1 (rises_to other entry lt f.0)))
      (λ e. absurd (g.1 (subst (λ k. IsStrictlyIncreasing (tickets_of (take k log.entries))) e f.1)))
  one_place entry other why.Limits why.Limits f g =
      by_order entry other (λ lt. absurd (f.2 (within_to entry other lt g.0))) (λ lt. absurd (g.2 (within_to other entry lt f.0))) (λ e. record { entries = e; reasons = refl })

-- ---- one place of logs

record OneFault (number other entry second : ℕ) (reason cause : Why) : Type 0 where
  numbers : number ≡ other
  entries : entry ≡ second
  reasons : reason ≡ cause

-- a fault isn't in front of another
not_earlier : (before : List Journal) (log : Journal) (more others : List Journal) (entry : ℕ) (reason : Why) → others ≡ before ++ log ∷ more → FailsAt (last_closing before) log entry reason → AreSound others → ⊥
not_earlier before log more others entry reason is fails sound =
    let s : AreSound (before ++ log ∷ more) = subst AreSound is sound in
    fails_not (last_closing before) log entry reason fails (sound_own before log more s) (sound_seam before log more s)

one_fault : (logs : List Journal) (number other entry second : ℕ) (reason cause : Why) → IsFirstFault logs number entry reason → IsFirstFault logs other second cause → OneFault number other entry second reason cause
one_fault logs number other entry second reason cause f g = from (meet f.before f.log f.later g.before g.log g.later (sym f.logs_are ∙ g.logs_are))
  where
    from : Meet f.before f.log g.before g.log → OneFault number other entry second reason cause
    from (earlier more is) = absurd (not_earlier f.before f.log more g.before entry reason is f.fails g.sound)
    from (later more is) = absurd (not_earlier g.before g.log more f.before second cause is g.fails f.sound)
    from (same is at) =
        let there : FailsAt (last_closing f.before) f.log second cause =
        subst (λ (log : Journal). FailsAt (last_closing f.before) log second cause) (sym at) (subst (λ (before : List Journal). FailsAt (last_closing before) g.log second cause) (sym is) g.fails) in
        let one = one_place (last_closing f.before) f.log entry second reason cause f.fails there in
        record { numbers = f.number_is ∙ ap (λ (before : List Journal). length before + 1) is ∙ sym g.number_is; entries = one.entries; reasons = one.reasons }

pub one_verdict : (logs : List Journal) (verdict other : Verdict) → IsVerdict logs verdict → IsVerdict logs other → verdict ≡ other
one_verdict logs (Yes n e s) (Yes m f t) v w = λ i. Yes ((v.1 ∙ sym w.1) i) ((v.2 ∙ sym w.2) i) ((v.3 ∙ sym w.3) i)
one_verdict logs (Yes n e s) (No m f r) v w = absurd (fault_not logs m f r w v.0)
one_verdict logs (No n e r) (Yes m f t) v w = absurd (fault_not logs n e r v w.0)
one_verdict logs (No n e r) (No m f q) v w =
    let one = one_fault logs n m e f r q v w in
    λ i. No (one.numbers i) (one.entries i) (one.reasons i)
