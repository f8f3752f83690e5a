-- A run over links, one after the other.
use Rattle.std.proofs.Common.{◌≡◌, ◌⊎◌, ℕ, List, [], ◌∷◌, ◌++◌, Option, Some, None, Err, refl, sym, ap, ◌∙◌, subst}
use Rattle.std.proofs.Common.{append_assoc, inl, inr, arith}
use Rattle.std.specs.List.{All}
use Rattle.std.proofs.lemmas.List.{append-nil}
use Rattle.std.proofs.lemmas.Grind.{flat_map-append}
use Rattle.std.proofs.lemmas.List.Elements.{All-append, All-cons}
use Rattle.ss_outside.specs.Told.{Meanings}
use Rattle.ss_links.specs.Links.{IsUnusedLink}
use Rattle.ss_links.specs.Dials.{Address, HungLink, IsBehind, HasCause, HasHung, HangUpCounts}
use Rattle.ss_links.specs.declared.dial.DialFault.{DialFault}
use Rattle.ss_links.specs.declared.dial.DialFault.TheVariants.{Fault, Memory}
use Rattle.ss_device.specs.Device.{DeviceView}
use Rattle.ss_client.specs.Runs.{MachineView}
use Rattle.ss_client.specs.Machine.{Next, Send, Stop}
use Rattle.ss_run_sync.specs.declared.talk.Talk.{Talk}
use Rattle.ss_run_sync.specs.declared.talk.Talk.TheVariants as talks
use Rattle.ss_run_sync.specs.Moves.{IsFront, Fails}
use Rattle.ss_run_sync.specs.Course.{Account, request_next, IsCourse}
use Rattle.ss_run_sync.specs.Talks.{EndsIn, IsWhole, IsBadReply, Talks}
use Rattle.ss_run_sync.proofs.Coursing.{course_then}
use Rattle.ss_run_sync.specs.declared.linking.Came.{Came}
use Rattle.ss_run_sync.specs.declared.linking.Leg.{Leg}
use Rattle.ss_run_sync.specs.Links.{UsedLink, Dials, Hangs, missed_address, exchanges_of, IsLeftLink, link_in_list}
use Rattle.ss_run_sync.specs.Links.{EndsOnLink}
use Rattle.ss_run_sync.specs.Links.{IsUnheard, Comes, IsRunOverLinks, leg_of, came_of, Goes, IsLeg}
use Rattle.ss_run_sync.proofs.Hanging.{hangs_none, hangs_then, hangs_one, hung_failed, hung_fine}
use Rattle.ss_run_sync.proofs.Dialling.{dials_none, dials_one, dials_then}

-- ---- fronts of a request

front_of : (text got sent : List ℕ) (a b : Meanings) → Fails text got sent a b → IsFront sent text
front_of text got sent a b (inl f) = f.3
front_of text got sent a b (inr f) = ([], sym f.2 ∙ sym (append-nil sent))

front_none : (text part : List ℕ) → part ≡ [] → IsFront part text
front_none text part e = (text, ap (λ p. p ++ text) (sym e))

front_whole : (text part : List ℕ) → part ≡ text → IsFront part text
front_whole text part e = ([], sym e ∙ sym (append-nil part))

-- ---- one link

one_course : (d : DeviceView) (now : Next) (used : UsedLink) (next : Next) → IsCourse d now used.talked.exchanges next → IsCourse d now (exchanges_of (used ∷ [])) next
one_course d now used next c = subst (λ xs. IsCourse d now xs next) (sym (append-nil used.talked.exchanges)) c

none_left : All IsLeftLink []
none_left = λ k d h. absurd (omega arith)

pub leg_is : (account : Account) (m : MachineView) (talk : Talk) (link link' : Meanings) (f g : ℕ) (a b : Option (List HungLink)) (address : Address) (asked dialled left : Option (List Address))
    → IsUnusedLink link → Talks account m talk link link' → HasHung link' a b → HangUpCounts link' f g → IsBehind address asked dialled → left ≡ dialled → IsLeg account m (leg_of talk) f g a b address asked left
leg_is account m (talks.Done device summary) link link' f g a b address asked dialled left u t h c e same =
    let used : UsedLink = record { talked = t.talked; tells = link' } in
    record {
      before = [];
      last = Some used;
      next = t.next;
      course = one_course m.device (Send m.run m.stage) used t.next t.course;
      left = none_left;
      dials = dials_one address used asked dialled left e same;
      hangs = hangs_one account m.device t.talked link link' a b u t.moves h;
      comes = (t.cause.0, record { used = used; is_last = refl; ends = t.cause.1; whole = t.cause.2 }, hung_fine link link' f g u t.cause.3 c);
    }
leg_is account m (talks.Stop device fault) link link' f g a b address asked dialled left u t h c e same =
    let used : UsedLink = record { talked = t.talked; tells = link' } in
    record {
      before = [];
      last = Some used;
      next = t.next;
      course = one_course m.device (Send m.run m.stage) used t.next t.course;
      left = none_left;
      dials = dials_one address used asked dialled left e same;
      hangs = hangs_one account m.device t.talked link link' a b u t.moves h;
      comes = (by used refl t.cause.1, hung_fine link link' f g u t.cause.2 c);
    }
  where
    by : (used : UsedLink) → used ≡ record { talked = t.talked; tells = link' } → ((t.next ≡ Stop fault) × EndsIn t.talked.exchanges × IsWhole t.talked) ⊎ IsBadReply account m.device t.talked t.next fault link'
        → ((t.next ≡ Stop fault) × EndsOnLink (Some (record { talked = t.talked; tells = link' }))) ⊎ IsUnheard account m.device (Some (record { talked = t.talked; tells = link' })) t.next fault
    by used e (inl s) = inl (s.0, record { used = record { talked = t.talked; tells = link' }; is_last = refl; ends = s.1; whole = s.2 })
    by used e (inr s) = inr (record { used = record { talked = t.talked; tells = link' }; is_last = refl; bad = s })
leg_is account m (talks.Anew machine request) link link' f g a b address asked dialled left u t h c e same =
    let used : UsedLink = record { talked = t.talked; tells = link' } in (
      record {
        before = used ∷ [];
        device = t.cause.0;
        course = subst (λ n. IsCourse m.device (Send m.run m.stage) (exchanges_of (used ∷ [])) n) t.cause.1 (one_course m.device (Send m.run m.stage) used t.next t.course);
        left = All-cons IsLeftLink used [] (record { last = t.cause.3; whole = t.cause.4 }) none_left;
        dials = dials_one address used asked dialled left e same;
        hangs = hangs_one account m.device t.talked link link' a b u t.moves h;
        faultless = hung_fine link link' f g u t.cause.5 c;
      },
      t.cause.2,
    )
leg_is account m (talks.Wire device) link link' f g a b address asked dialled left u t h c e same =
    let used : UsedLink = record { talked = t.talked; tells = link' } in
    let k = t.cause.1 in
    record {
      before = [];
      last = Some used;
      next = t.next;
      course = one_course m.device (Send m.run m.stage) used t.next t.course;
      left = none_left;
      dials = dials_one address used asked dialled left e same;
      hangs = hangs_one account m.device t.talked link link' a b u t.moves h;
      comes = (
        record { run = k.run; stage = k.stage; asks = k.asks; written = (k.goes_on, front_of (request_next account m.device t.next) t.talked.more t.talked.part link link' k.fails) },
        hung_failed (request_next account m.device t.next) t.talked.more t.talked.part link link' f g u k.fails c,
      );
    }
leg_is account m (talks.Memory device) link link' f g a b address asked dialled left u t h c e same =
    let used : UsedLink = record { talked = t.talked; tells = link' } in
    let k = t.cause.1 in
    record {
      before = [];
      last = Some used;
      next = t.next;
      course = one_course m.device (Send m.run m.stage) used t.next t.course;
      left = none_left;
      dials = dials_one address used asked dialled left e same;
      hangs = hangs_one account m.device t.talked link link' a b u t.moves h;
      comes = (record { run = k.run; stage = k.stage; asks = k.asks; written = (k.goes_on, by k.sent) }, hung_fine link link' f g u t.cause.2 c);
    }
  where
    by : IsWhole t.talked ⊎ (t.talked.part ≡ request_next account m.device t.next) → IsFront t.talked.part (request_next account m.device t.next)
    by (inl w) = front_none (request_next account m.device t.next) t.talked.part w.part
    by (inr e) = front_whole (request_next account m.device t.next) t.talked.part e

-- no link was made: why, and the dial's count
unlinked : (L : Type 0) (account : Account) (m : MachineView) (fault : DialFault) (f g : ℕ) (a b : Option (List HungLink)) → b ≡ a → HasCause {L = L} (Err fault) f g → Comes account m.device None (Send m.run m.stage) f g (came_of fault)
unlinked L account m Fault f g a b e r = (record { run = m.run; stage = m.stage; asks = refl; written = tt }, r)
unlinked L account m Memory f g a b e r = (record { run = m.run; stage = m.stage; asks = refl; written = tt }, r)

pub undialled_is : (L : Type 0) (account : Account) (m : MachineView) (fault : DialFault) (f g : ℕ) (a b : Option (List HungLink)) (address : Address) (asked left : Option (List Address))
    → b ≡ a → HasCause {L = L} (Err fault) f g → Dials address [] (missed_address address None (came_of fault)) asked left → IsRunOverLinks account m (came_of fault) f g a b address asked left
undialled_is L account m fault f g a b address asked left e r d = record {
  before = [];
  last = None;
  next = Send m.run m.stage;
  course = refl;
  left = none_left;
  dials = d;
  hangs = hangs_none account m.device a b e;
  comes = unlinked L account m fault f g a b e r;
}

-- a link that was dialled under another name of the same host, and what came of it
pub leg_dialled : (account : Account) (m : MachineView) (leg : Leg) (host named : List ℕ) (port : ℕ) (f g h : ℕ) (a b c : Option (List HungLink)) (p q r : Option (List Address))
    → named ≡ host → IsBehind (record { host = named; port = port }) p q → g ≡ f → b ≡ a
    → ((asked : Option (List Address)) → IsBehind (record { host = host; port = port }) asked q → IsLeg account m leg g h b c (record { host = host; port = port }) asked r)
    → IsLeg account m leg f h a c (record { host = host; port = port }) p r
leg_dialled account m leg host named port f g h a b c p q r e behind fine same over =
    let there : Address = record { host = host; port = port } in
    subst (λ x. IsLeg account m leg x h a c there p r) fine
    (subst (λ x. IsLeg account m leg g h x c there p r) same (over p (subst (λ x. IsBehind (record { host = x; port = port }) p q) e behind)))

-- ---- links behind others

pub no_links : (account : Account) (m : MachineView) (f : ℕ) (a : Option (List HungLink)) (address : Address) (asked : Option (List Address)) → Goes account m m f f a a address asked asked
no_links account m f a address asked = record {
  before = [];
  device = refl;
  course = refl;
  left = none_left;
  dials = dials_none address asked asked refl;
  hangs = hangs_none account m.device a a refl;
  faultless = refl;
}

-- a machine of this device at the same place
abbrev of_device : DeviceView → MachineView → MachineView
of_device d m = record { device = d; run = m.run; stage = m.stage }

exchanges_then : (ks ls : List UsedLink) → exchanges_of (ks ++ ls) ≡ exchanges_of ks ++ exchanges_of ls
exchanges_then ks ls = flat_map-append (λ used. used.talked.exchanges) ks ls

courses_then : (d : DeviceView) (x : Next) (ks : List UsedLink) (y : Next) (ls : List UsedLink) (z : Next) → IsCourse d x (exchanges_of ks) y → IsCourse d y (exchanges_of ls) z → IsCourse d x (exchanges_of (ks ++ ls)) z
courses_then d x ks y ls z f g = subst (λ xs. IsCourse d x xs z) (sym (exchanges_then ks ls)) (course_then d x (exchanges_of ks) y (exchanges_of ls) z f g)

pub goes_then : (account : Account) (m n o : MachineView) (f g h : ℕ) (a b c : Option (List HungLink)) (address : Address) (p q r : Option (List Address))
    → Goes account m n f g a b address p q → Goes account n o g h b c address q r → Goes account m o f h a c address p r
goes_then account m n o f g h a b c address p q r k t = go (subst (λ d. Goes account (of_device d n) o g h b c address q r) k.device t)
  where
    go : Goes account (of_device m.device n) o g h b c address q r → Goes account m o f h a c address p r
    go s = record {
      before = k.before ++ s.before;
      device = s.device;
      course = courses_then m.device (Send m.run m.stage) k.before (Send n.run n.stage) s.before (Send o.run o.stage) k.course s.course;
      left = All-append IsLeftLink k.before s.before k.left s.left;
      dials = dials_then address k.before s.before [] p q r k.dials s.dials;
      hangs = hangs_then account m.device k.before s.before a b c k.hangs s.hangs;
      faultless = s.faultless ∙ k.faultless;
    }

pub run_then : (account : Account) (m n : MachineView) (what : Came) (f g h : ℕ) (a b c : Option (List HungLink)) (address : Address) (p q r : Option (List Address))
    → Goes account m n f g a b address p q → IsRunOverLinks account n what g h b c address q r → IsRunOverLinks account m what f h a c address p r
run_then account m n what f g h a b c address p q r k t = go (subst (λ d. IsRunOverLinks account (of_device d n) what g h b c address q r) k.device t)
  where
    go : IsRunOverLinks account (of_device m.device n) what g h b c address q r → IsRunOverLinks account m what f h a c address p r
    go s = record {
      before = k.before ++ s.before;
      last = s.last;
      next = s.next;
      course = subst (λ ls. IsCourse m.device (Send m.run m.stage) (exchanges_of ls) s.next) (sym (append_assoc k.before s.before (link_in_list s.last)))
          (courses_then m.device (Send m.run m.stage) k.before (Send n.run n.stage) (s.before ++ link_in_list s.last) s.next k.course s.course);
      left = All-append IsLeftLink k.before s.before k.left s.left;
      dials = subst (λ ls. Dials address ls (missed_address address s.last what) p r) (sym (append_assoc k.before s.before (link_in_list s.last)))
          (dials_then address k.before (s.before ++ link_in_list s.last) (missed_address address s.last what) p q r k.dials s.dials);
      hangs = subst (λ ls. Hangs account m.device ls a c) (sym (append_assoc k.before s.before (link_in_list s.last)))
          (hangs_then account m.device k.before (s.before ++ link_in_list s.last) a b c k.hangs s.hangs);
      comes = subst (λ x. Comes account m.device s.last s.next x h what) k.faultless s.comes;
    }
