-- A run over one link, exchange by exchange.
use Rattle.std.proofs.Common.{◌≡◌, ◌⊎◌, ℕ, List, [], ◌∷◌, ◌++◌, Ok, Err, IsFalse, refl, sym, ap, ◌∙◌, subst}
use Rattle.std.proofs.Common.{append_assoc, inl, inr, arith}
use Rattle.std.proofs.lemmas.List.{append-nil}
use Rattle.std.proofs.lemmas.Grind.{flat_map-append}
use Rattle.std.proofs.lemmas.List.Elements.{All-append, All-cons}
use Rattle.ss_outside.specs.Told.{Meanings}
use Rattle.ss_http.specs.declared.heard.Heard.{Heard}
use Rattle.ss_device.specs.Device.{DeviceView}
use Rattle.ss_client.specs.declared.summaries.SyncFault.TheVariants.{BadReply}
use Rattle.ss_client.specs.declared.summaries.SyncFault.{SyncFault}
use Rattle.ss_client.specs.Runs.{MachineView}
use Rattle.ss_client.specs.Machine.{Next, Send, Done, Stop}
use Rattle.ss_run_sync.specs.declared.talk.Talk.{Talk}
use Rattle.ss_run_sync.specs.declared.talk.Talk.TheVariants as talks
use Rattle.ss_run_sync.specs.declared.asking.Missed.{Missed}
use Rattle.ss_run_sync.specs.declared.asking.Missed.TheVariants as missed
use Rattle.ss_run_sync.specs.declared.conversing.Turn.{Turn}
use Rattle.ss_run_sync.specs.declared.conversing.Turn.TheVariants.{On, End}
use Rattle.ss_run_sync.specs.Moves.{RaisesNoFault}
use Rattle.ss_outside.specs.Told.{Moves}
use Rattle.ss_run_sync.specs.Course.{Account, Exchange, request_at, request_next, requests, responses}
use Rattle.ss_run_sync.specs.Answers.{AsksOnce}
use Rattle.ss_run_sync.specs.Talks.{TalkView, taken_of, written_of, GoesOn, EndsIn, IsWhole, IsBadReply, IsWanting}
use Rattle.ss_run_sync.specs.Talks.{Cause, Talks}
use Rattle.ss_run_sync.specs.Turns.{Hearing, Comes, Turns}
use Rattle.ss_run_sync.proofs.Moving.{moves_none, moves_then, unfaulted_none, unfaulted_then, fails_then}
use Rattle.ss_run_sync.proofs.Coursing.{course_then, requests_then, responses_then}

-- ---- before the first exchange

pub nothing_yet : (account : Account) (m : MachineView) (a : Meanings) → Comes account m m a a
nothing_yet account m a = record {
  exchanges = [];
  device = refl;
  course = refl;
  goes_on = λ k d h. absurd (omega arith);
  moves = moves_none a;
  faults = unfaulted_none a;
}

-- ---- one exchange

-- the exchange of a machine whose response was heard
abbrev one : MachineView → List ℕ → Heard → Exchange
one m got heard = record { run = m.run; stage = m.stage; bytes = got; heard = heard }

ends_in_one : (x : Exchange) → EndsIn (x ∷ [])
ends_in_one x = record { before = []; last = x; all = refl; goes_on = λ k d h. absurd (omega arith) }

-- what went over the link with this exchange alone
abbrev alone : Exchange → TalkView
alone x = record { exchanges = x ∷ []; more = []; part = [] }

moves_one : (account : Account) (m : MachineView) (got sent : List ℕ) (heard : Heard) (a b : Meanings) → sent ≡ request_at account m.device m.run m.stage → Moves got sent a b
    → Moves (responses (one m got heard ∷ []) ++ []) (requests account m.device (one m got heard ∷ []) ++ []) a b
moves_one account m got sent heard a b e h =
    let g : (got ++ []) ++ [] ≡ got = append-nil (got ++ []) ∙ append-nil got in
    let r = request_at account m.device m.run m.stage in
    let s : (r ++ []) ++ [] ≡ sent = append-nil (r ++ []) ∙ (append-nil r ∙ sym e) in
    subst (λ x. Moves x ((r ++ []) ++ []) a b) (sym g) (subst (λ x. Moves got x a b) (sym s) h)

goes_on_one : (x : Exchange) → IsFalse x.heard.last → GoesOn (x ∷ [])
goes_on_one x h = All-cons (λ y. IsFalse y.heard.last) x [] h (λ k d h. absurd (omega arith))

whole_alone : (x : Exchange) → IsWhole (alone x)
whole_alone x = record { more = refl; part = refl }

pub turn_heard : (account : Account) (m : MachineView) (heard : Heard) (turn : Turn) (a b : Meanings) → AsksOnce (request_at account m.device m.run m.stage) (Ok heard) a b → Hearing m heard turn → Turns account m turn a b
unfolding ends_in_one
turn_heard account m heard (On machine request) a b k h =
    let x = one m k.got heard in (
      record {
        exchanges = x ∷ [];
        device = h.0;
        course = (refl, k.says.1, Send machine.run machine.stage, h.1, refl);
        goes_on = goes_on_one x h.3;
        moves = subst (λ t. Moves t (requests account m.device (x ∷ [])) a b) (append-nil (k.got ++ []))
            (subst (λ t. Moves ((k.got ++ []) ++ []) t a b) (append-nil (requests account m.device (x ∷ []))) (moves_one account m k.got k.sent heard a b k.says.0 k.moves));
        faults = k.says.2;
      },
      h.2,
    )
turn_heard account m heard (End (talks.Anew machine request)) a b k h =
    let x = one m k.got heard in
    record {
      talked = alone x;
      next = Send machine.run machine.stage;
      course = (refl, k.says.1, Send machine.run machine.stage, h.1, refl);
      moves = moves_one account m k.got k.sent heard a b k.says.0 k.moves;
      cause = (h.0, refl, h.2, (ends_in_one x, h.3), whole_alone x, k.says.2);
    }
turn_heard account m heard (End (talks.Done device summary)) a b k h =
    let x = one m k.got heard in
    record {
      talked = alone x;
      next = Done device summary;
      course = (refl, k.says.1, Done device summary, h, refl);
      moves = moves_one account m k.got k.sent heard a b k.says.0 k.moves;
      cause = (refl, ends_in_one x, whole_alone x, k.says.2);
    }
turn_heard account m heard (End (talks.Stop device fault)) a b k h =
    let x = one m k.got heard in
    record {
      talked = alone x;
      next = Stop fault;
      course = (refl, k.says.1, Stop fault, h.1, refl);
      moves = moves_one account m k.got k.sent heard a b k.says.0 k.moves;
      cause = (h.0, inl (refl, ends_in_one x, whole_alone x), k.says.2);
    }
turn_heard account m heard (End (talks.Memory device)) a b k h = record {
  talked = record { exchanges = []; more = k.got; part = k.sent };
  next = Send m.run m.stage;
  course = refl;
  moves = k.moves;
  cause = (h, record { run = m.run; stage = m.stage; asks = refl; goes_on = λ k d h. absurd (omega arith); sent = inr k.says.0 }, k.says.2);
}
turn_heard account m heard (End (talks.Wire device)) a b k h = absurd h

-- how a link is left where no response was heard
abbrev pub left_by : MachineView → Missed → Talk
left_by m missed.Unread = talks.Stop m.device (BadReply m.run.number)
left_by m missed.Wire = talks.Wire m.device
left_by m missed.Memory = talks.Memory m.device

-- the bytes of an exchange that didn't come to a response
abbrev begun : List ℕ → List ℕ → TalkView
begun got sent = record { exchanges = []; more = got; part = sent }

wanting : (account : Account) (m : MachineView) (got sent : List ℕ) → ((sent ≡ []) × (got ≡ [])) ⊎ (sent ≡ request_at account m.device m.run m.stage)
    → IsWanting account m.device (begun got sent) (Send m.run m.stage)
wanting account m got sent (inl n) = record { run = m.run; stage = m.stage; asks = refl; goes_on = λ k d h. absurd (omega arith); sent = inl (record { more = n.1; part = n.0 }) }
wanting account m got sent (inr e) = record { run = m.run; stage = m.stage; asks = refl; goes_on = λ k d h. absurd (omega arith); sent = inr e }

pub turn_missed : (account : Account) (m : MachineView) (why : Missed) (a b : Meanings) → AsksOnce (request_at account m.device m.run m.stage) (Err why) a b → Talks account m (left_by m why) a b
turn_missed account m missed.Unread a b k = record {
  talked = begun k.got k.sent;
  next = Send m.run m.stage;
  course = refl;
  moves = k.moves;
  cause = (
    refl,
    inr (record { run = m.run; stage = m.stage; asks = refl; goes_on = λ k d h. absurd (omega arith); asked = k.says.0; unread = k.says.1; stops = refl }),
    k.says.2,
  );
}
turn_missed account m missed.Wire a b k = record {
  talked = begun k.got k.sent;
  next = Send m.run m.stage;
  course = refl;
  moves = k.moves;
  cause = (refl, record { run = m.run; stage = m.stage; asks = refl; goes_on = λ k d h. absurd (omega arith); fails = k.says });
}
turn_missed account m missed.Memory a b k = record {
  talked = begun k.got k.sent;
  next = Send m.run m.stage;
  course = refl;
  moves = k.moves;
  cause = (refl, wanting account m k.got k.sent k.says.0, k.says.1);
}

-- ---- one exchange behind others

-- what went over the link with these exchanges before it
abbrev behind : List Exchange → TalkView → TalkView
behind xs t = record { exchanges = xs ++ t.exchanges; more = t.more; part = t.part }

goes_on_then : (xs ys : List Exchange) → GoesOn xs → GoesOn ys → GoesOn (xs ++ ys)
goes_on_then xs ys g h = All-append (λ x. IsFalse x.heard.last) xs ys g h

ends_behind : (xs ys : List Exchange) → GoesOn xs → (e : EndsIn ys) → EndsIn (xs ++ ys)
ends_behind xs ys g e = record {
  before = xs ++ e.before;
  last = e.last;
  all = ap (λ l. xs ++ l) e.all ∙ sym (append_assoc xs e.before (e.last ∷ []));
  goes_on = goes_on_then xs e.before g e.goes_on;
}

whole_behind : (xs : List Exchange) (t : TalkView) → IsWhole t → IsWhole (behind xs t)
whole_behind xs t w = record { more = w.more; part = w.part }

bad_behind : (account : Account) (d : DeviceView) (xs : List Exchange) (t : TalkView) (next : Next) (fault : SyncFault) (c : Meanings) → GoesOn xs → IsBadReply account d t next fault c → IsBadReply account d (behind xs t) next fault c
bad_behind account d xs t next fault c g b = record { run = b.run; stage = b.stage; asks = b.asks; goes_on = goes_on_then xs t.exchanges g b.goes_on; asked = b.asked; unread = b.unread; stops = b.stops }

wanting_behind : (account : Account) (d : DeviceView) (xs : List Exchange) (t : TalkView) (next : Next) → GoesOn xs → IsWanting account d t next → IsWanting account d (behind xs t) next
wanting_behind account d xs t next g w = record { run = w.run; stage = w.stage; asks = w.asks; goes_on = goes_on_then xs t.exchanges g w.goes_on; sent = by w.sent }
  where
    by : IsWhole t ⊎ (t.part ≡ request_next account d next) → IsWhole (behind xs t) ⊎ (t.part ≡ request_next account d next)
    by (inl n) = inl (whole_behind xs t n)
    by (inr e) = inr e

cause_behind : (account : Account) (d : DeviceView) (xs : List Exchange) (t : TalkView) (next : Next) (a b c : Meanings) (talk : Talk) → GoesOn xs → RaisesNoFault a b
    → Cause account d t next b c talk → Cause account d (behind xs t) next a c talk
unfolding ends_behind
cause_behind account d xs t next a b c (talks.Done device summary) g u k = (k.0, ends_behind xs t.exchanges g k.1, whole_behind xs t k.2, unfaulted_then a b c u k.3)
cause_behind account d xs t next a b c (talks.Stop device fault) g u k = (k.0, by k.1, unfaulted_then a b c u k.2)
  where
    by : ((next ≡ Stop fault) × EndsIn t.exchanges × IsWhole t) ⊎ IsBadReply account d t next fault c
        → ((next ≡ Stop fault) × EndsIn (xs ++ t.exchanges) × IsWhole (behind xs t)) ⊎ IsBadReply account d (behind xs t) next fault c
    by (inl s) = inl (s.0, ends_behind xs t.exchanges g s.1, whole_behind xs t s.2)
    by (inr s) = inr (bad_behind account d xs t next fault c g s)
cause_behind account d xs t next a b c (talks.Anew machine request) g u k =
    (k.0, k.1, k.2, (ends_behind xs t.exchanges g k.3.0, k.3.1), whole_behind xs t k.4, unfaulted_then a b c u k.5)
cause_behind account d xs t next a b c (talks.Wire device) g u k =
    let f = k.1 in
    (k.0, record { run = f.run; stage = f.stage; asks = f.asks; goes_on = goes_on_then xs t.exchanges g f.goes_on; fails = fails_then (request_next account d next) t.more t.part a b c u f.fails })
cause_behind account d xs t next a b c (talks.Memory device) g u k = (k.0, wanting_behind account d xs t next g k.1, unfaulted_then a b c u k.2)

-- a machine of the same device at the same place
abbrev of_device : DeviceView → MachineView → MachineView
of_device d m = record { device = d; run = m.run; stage = m.stage }

moves_behind : (account : Account) (d : DeviceView) (xs : List Exchange) (t : TalkView) (a b c : Meanings) → Moves (responses xs) (requests account d xs) a b → Moves (taken_of t) (written_of account d t) b c
    → Moves (taken_of (behind xs t)) (written_of account d (behind xs t)) a c
moves_behind account d xs t a b c m n =
    subst (λ g. Moves g (written_of account d (behind xs t)) a c) (sym (responses_then xs t.exchanges t.more))
    (subst (λ s. Moves (responses xs ++ taken_of t) s a c) (sym (requests_then account d xs t.exchanges t.part))
    (moves_then (responses xs) (requests account d xs) (taken_of t) (written_of account d t) a b c m n))

-- exchanges, and then the end of the link
pub talks_then : (account : Account) (m machine : MachineView) (talk : Talk) (a b c : Meanings) → Comes account m machine a b → Talks account machine talk b c → Talks account m talk a c
talks_then account m machine talk a b c k t = go (subst (λ d. Talks account (of_device d machine) talk b c) k.device t)
  where
    go : Talks account (of_device m.device machine) talk b c → Talks account m talk a c
    go s = record {
      talked = behind k.exchanges s.talked;
      next = s.next;
      course = course_then m.device (Send m.run m.stage) k.exchanges (Send machine.run machine.stage) s.talked.exchanges s.next k.course s.course;
      moves = moves_behind account m.device k.exchanges s.talked a b c k.moves s.moves;
      cause = cause_behind account m.device k.exchanges s.talked s.next a b c talk k.goes_on k.faults s.cause;
    }

-- exchanges, and further ones
pub comes_then : (account : Account) (m n o : MachineView) (a b c : Meanings) → Comes account m n a b → Comes account n o b c → Comes account m o a c
comes_then account m n o a b c k t = go (subst (λ d. Comes account (of_device d n) o b c) k.device t)
  where
    go : Comes account (of_device m.device n) o b c → Comes account m o a c
    go s = record {
      exchanges = k.exchanges ++ s.exchanges;
      device = s.device;
      course = course_then m.device (Send m.run m.stage) k.exchanges (Send n.run n.stage) s.exchanges (Send o.run o.stage) k.course s.course;
      goes_on = goes_on_then k.exchanges s.exchanges k.goes_on s.goes_on;
      moves = subst (λ g. Moves g (requests account m.device (k.exchanges ++ s.exchanges)) a c) (sym (flat_map-append (λ x. x.bytes) k.exchanges s.exchanges))
          (subst (λ r. Moves (responses k.exchanges ++ responses s.exchanges) r a c) (sym (flat_map-append (λ x. request_at account m.device x.run x.stage) k.exchanges s.exchanges))
          (moves_then (responses k.exchanges) (requests account m.device k.exchanges) (responses s.exchanges) (requests account m.device s.exchanges) a b c k.moves s.moves));
      faults = unfaulted_then a b c k.faults s.faults;
    }

-- no memory before the next request
pub gives_up : (account : Account) (m machine : MachineView) (a b : Meanings) → Comes account m machine a b → Talks account m (talks.Memory machine.device) a b
gives_up account m machine a b k = talks_then account m machine (talks.Memory machine.device) a b b k (record {
  talked = begun [] [];
  next = Send machine.run machine.stage;
  course = refl;
  moves = moves_none b;
  cause = (refl, record { run = machine.run; stage = machine.stage; asks = refl; goes_on = λ k d h. absurd (omega arith); sent = inl (record { more = refl; part = refl }) }, unfaulted_none b);
})
