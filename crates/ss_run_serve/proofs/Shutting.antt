-- What came of accounts that were open, once the port was shut.
use Rattle.std.specs.Prelude.{◌≡◌, ◌≢◌, ◌⊎◌, ◌≤◌, ℕ, zero, suc, Bool, List, [], length, Option, All, Any, refl}
use Rattle.std.specs.Option.{option_map}
use Rattle.std.specs.List.Sorted.{IsPermutation}
use Rattle.std.proofs.Common.{sym, ap, subst, ◌∙◌, inl, inr, arith}
use Rattle.std.proofs.lemmas.List.Elements.{All-nil}
use Rattle.std.proofs.lemmas.List.Sorted.{IsPermutation-refl}
use Rattle.ss_route.specs.declared.manner.Manner.{Manner}
use Rattle.ss_outside.specs.Told.{Meanings}
use Rattle.ss_outside.specs.Causes.{Rose}
use Rattle.ss_links.specs.Counts.{RoseBy}
use Rattle.ss_links.specs.Ports.{Accepts}
use Rattle.ss_links.specs.Stores.{Files}
use Rattle.ss_site.specs.Sites.{Counts, CountsPort, RoseUnless, Term}
use Rattle.ss_serve.specs.declared.report.LinkReport.{LinkReport}
use Rattle.ss_run_serve.specs.declared.stop.Stop.{Stop}
use Rattle.ss_run_serve.specs.declared.stop.Stop.TheVariants as stops
use Rattle.ss_run_serve.specs.Hosted.{HostedAccount}
use Rattle.ss_run_serve.specs.Retiring.{uids_in}
use Rattle.ss_run_serve.specs.Terms.{links_of, short_of, AreTerms, AreToldTerms, KeeperFailed}
use Rattle.ss_run_serve.specs.Once.{IsUntold}
use Rattle.ss_run_serve.specs.Course.{CameTo, Course, ServedUntil, Stops}
use Rattle.ss_run_serve.specs.Logs.{logs_of, AreLoggedUntil}
use Rattle.ss_run_serve.proofs.Anew.{left_themselves}
use Rattle.ss_run_serve.proofs.Progress.{all_of, told_none}
use Rattle.ss_run_serve.proofs.Retired.{refused_on, untold_refused}
use Rattle.ss_run_serve.proofs.Rising.{rose_by_count, rose_on, rose_after}

port_faults : (n before now : ℕ) → RoseUnless n before now → before ≤ now
port_faults zero before now rose = omega (arith, rose.none refl)
port_faults (suc n) before now rose = (rose.some (omega arith)).later

module _ {L : Type 0} where
  -- the logs of terms were saved, from this number on
  abbrev pub Kept : Stop → ℕ → Option Files → Option Files → List (Term (LinkReport L)) → Type 0
  Kept stop number logs logs' told = AreLoggedUntil stop (logs_of number told) logs logs'

module _ {L : Type 0} (manner : Manner) (tells : L → Meanings) (closed : L → Bool) (says : ℕ → ℕ → Bool → Type 0) where
  -- accounts that were served until the port was shut
  pub came_to : (opened : List (ℕ × HostedAccount)) (coming : List (Option (List ℕ))) (clocks : List (Option (List ℕ))) (connections asked : ℕ) (told told' : Option (List (Term (LinkReport L)))) (old mid new : Counts) (port : Accepts)
      (accounts : List (ℕ × HostedAccount)) (stop : Stop) (number : ℕ) (logs logs' : Option Files) → coming ≡ clocks → Course manner tells closed says opened coming connections asked told told' old mid port accounts stop number logs logs'
      → CountsPort port mid new → CameTo manner tells closed says opened clocks connections asked told told' old new accounts stop (Kept stop number logs logs')
  came_to opened coming clocks connections asked told told' old mid new port accounts stop number logs logs' long course shut = record {
    terms = course.terms;
    told = course.told;
    are_told = course.are_told;
    of = course.of;
    logged = course.logged;
    handed = course.handed;
    served = inr (course.coming', subst (λ (c : List (Option (List ℕ))). AreTerms manner tells closed says opened c course.terms course.handed course.coming') long course.are);
    within = course.within;
    links = subst (λ (n : ℕ). RoseBy (links_of course.terms) n new.links) course.counts.links (rose_by_count (links_of course.terms) port.links mid.links new.links course.links shut.links);
    back = course.back;
    left = course.left;
    failed = course.failed;
    uids = course.uids;
    faults = omega (arith, course.counts.faults, later);
    refused = refused_on stop old.refused mid.refused new.refused shut.refused course.refused;
    until = stopped course.terms stop course.stops;
  }
    where
      later : mid.faults ≤ new.faults
      later = port_faults port.faults mid.faults new.faults shut.faults

      ends : port.ends ≢ 0 → Rose old.ends new.ends
      ends some = subst (λ (n : ℕ). Rose n new.ends) course.counts.ends (shut.ends.some some)

      stopped : (terms : List (Term (LinkReport L))) (stop : Stop) → Stops connections asked terms port old mid stop → ServedUntil connections asked terms old new stop
      stopped terms stops.PortEnded why = (ends why.0, why.1)
      stopped terms stops.Terms why = record {
        stated = why.0;
        count = why.1;
        rested = subst (λ (n : ℕ). RoseBy (short_of connections terms) n new.rests) course.counts.rests (rose_by_count (short_of connections terms) port.rests mid.rests new.rests why.2 shut.rests);
      }
      stopped terms stops.Port why = (rose_after old.faults mid.faults new.faults course.counts.faults (shut.faults.some why.0), why.1)
      stopped terms stops.Site why = rose_on old.faults mid.faults new.faults why later
      stopped terms stops.Memory why = tt
      stopped terms (stops.Damaged uid) why = absurd why
      stopped terms (stops.Keeper uid) why = absurd why
      stopped terms (stops.Account uid fault) why = absurd why
      stopped terms stops.Logs why = tt

  -- accounts that weren't served, since there were no clocks or no port
  pub came_to_none : (opened : List (ℕ × HostedAccount)) (clocks : List (Option (List ℕ))) (connections asked : ℕ) (told : Option (List (Term (LinkReport L)))) (old new : Counts) (stop : Stop) (Logged : List (Term (LinkReport L)) → Type 0) → Logged [] → IsUntold old new stop
      → CameTo manner tells closed says opened clocks connections asked told told old new opened stop Logged
  came_to_none opened clocks connections asked told old new stop Logged none why = record {
    terms = [];
    told = [];
    are_told = told_none manner tells closed says told;
    of = all_of manner tells closed says [] stop;
    logged = none;
    handed = opened;
    served = inl (refl, refl);
    within = record { few = All-nil (λ (term : Term (LinkReport L)). length term.reports ≤ connections); most = λ asks. omega arith };
    links = links stop why;
    back = IsPermutation-refl (uids_in opened);
    left = left_themselves opened;
    failed = λ any. absurd (omega (arith, any.2));
    uids = IsPermutation-refl (uids_in opened);
    faults = later stop why;
    refused = untold_refused stop old new why;
    until = stopped stop why;
  }
    where
      none_more : (a b : ℕ) → b ≡ a → RoseBy 0 a b
      none_more a b same = record { later = omega (arith, same); risen = omega (arith, same); most = omega (arith, same) }

      links : (stop : Stop) → IsUntold old new stop → RoseBy 0 old.links new.links
      links stops.Site why = none_more old.links new.links why.links
      links stops.Memory why = none_more old.links new.links (ap (λ (c : Counts). c.links) why)
      links stops.PortEnded why = absurd why
      links stops.Terms why = absurd why
      links stops.Port why = absurd why
      links (stops.Damaged uid) why = absurd why
      links (stops.Keeper uid) why = absurd why
      links (stops.Account uid fault) why = absurd why
      links stops.Logs why = absurd why

      later : (stop : Stop) → IsUntold old new stop → old.faults ≤ new.faults
      later stops.Site why = why.faults.later
      later stops.Memory why = omega (arith, ap (λ (c : Counts). c.faults) why)
      later stops.PortEnded why = absurd why
      later stops.Terms why = absurd why
      later stops.Port why = absurd why
      later (stops.Damaged uid) why = absurd why
      later (stops.Keeper uid) why = absurd why
      later (stops.Account uid fault) why = absurd why
      later stops.Logs why = absurd why

      stopped : (stop : Stop) → IsUntold old new stop → ServedUntil {L = L} connections asked [] old new stop
      stopped stops.Site why = why.faults
      stopped stops.Memory why = tt
      stopped stops.PortEnded why = absurd why
      stopped stops.Terms why = absurd why
      stopped stops.Port why = absurd why
      stopped (stops.Damaged uid) why = absurd why
      stopped (stops.Keeper uid) why = absurd why
      stopped (stops.Account uid fault) why = absurd why
      stopped stops.Logs why = absurd why

  -- the same after calls that told the site no term
  pub came_to_unserved : (opened : List (ℕ × HostedAccount)) (clocks : List (Option (List ℕ))) (connections asked : ℕ) (told told' : Option (List (Term (LinkReport L)))) (old mid new : Counts) (stop : Stop) (Logged : List (Term (LinkReport L)) → Type 0) → Logged [] → told' ≡ told → mid ≡ old → IsUntold mid new stop
      → CameTo manner tells closed says opened clocks connections asked told told' old new opened stop Logged
  came_to_unserved opened clocks connections asked told told' old mid new stop Logged none same first why =
      subst (λ (t : Option (List (Term (LinkReport L)))). CameTo manner tells closed says opened clocks connections asked told t old new opened stop Logged) (sym same)
      (came_to_none opened clocks connections asked told old new stop Logged none (subst (λ (c : Counts). IsUntold c new stop) first why))

  pub came_to_shut : (opened : List (ℕ × HostedAccount)) (coming : List (Option (List ℕ))) (clocks : List (Option (List ℕ))) (connections asked : ℕ) (told first last told' : Option (List (Term (LinkReport L)))) (old begun mid new : Counts) (port : Accepts)
      (accounts : List (ℕ × HostedAccount)) (stop : Stop) (number : ℕ) (logs logs' : Option Files) → first ≡ told → told' ≡ last → begun ≡ old → coming ≡ clocks
      → Course manner tells closed says opened coming connections asked first last begun mid port accounts stop number logs logs'
      → CountsPort port mid new → CameTo manner tells closed says opened clocks connections asked told told' old new accounts stop (Kept stop number logs logs')
  came_to_shut opened coming clocks connections asked told first last told' old begun mid new port accounts stop number logs logs' same same' counts long course shut =
      let now : Course manner tells closed says opened coming connections asked told told' old mid port accounts stop number logs logs' =
      subst (λ (c : Counts). Course manner tells closed says opened coming connections asked told told' c mid port accounts stop number logs logs') counts
      (subst (λ (t : Option (List (Term (LinkReport L)))). Course manner tells closed says opened coming connections asked t told' begun mid port accounts stop number logs logs') same
      (subst (λ (t : Option (List (Term (LinkReport L)))). Course manner tells closed says opened coming connections asked first t begun mid port accounts stop number logs logs') (sym same') course)) in
      came_to opened coming clocks connections asked told told' old mid new port accounts stop number logs logs' long now shut
