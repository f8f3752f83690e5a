-- What one message more, and an end, make of the progress of a connection.
use Rattle.std.proofs.Common.{◌≡◌, ◌<◌, ◌≤◌, ℕ, ◌+◌, Bool, true, false, List, [], ◌∷◌, ◌++◌, length, length-append, map}
use Rattle.std.proofs.Common.{drop, Option, None, Some, refl, sym, ◌∙◌, ap, subst, append_assoc, inl, inr, arith}
use Rattle.std.specs.Prelude.{IsFalse, IsTrue}
use Rattle.std.specs.List.{flat_map}
use Rattle.std.proofs.lemmas.List.{append-nil, length-map}
use Rattle.std.proofs.lemmas.List.Elements.{All-nil}
use Rattle.std.proofs.Math.Seq.{drop-append_seam}
use Rattle.ss_desk.specs.Journal.{Begins}
use mathlib.Core.Option.{some}
use mathlib.Core.Option as maybe
use lib.ListN.{get_elem?}
use Rattle.ss_outside.specs.Told.{Meanings, HasRead, TakesFirst}
use Rattle.ss_outside.specs.Causes.{Rose}
use Rattle.ss_http.specs.declared.message.Message.{Message}
use Rattle.ss_http.specs.declared.fault.MsgFault.{MsgFault}
use Rattle.ss_http.specs.declared.fault.MsgFault.TheVariants as faults
use Rattle.ss_http.specs.Messages.{Reads, ReadsMessage}
use Rattle.ss_http.specs.Faults.{IsMessageFault}
use Rattle.ss_http.specs.Buffers.{KeptBytes}
use Rattle.ss_http.specs.Reading.{EndsWith, RisesWith}
use Rattle.ss_http.proofs.MessageLemmas.{reads_append}
use Rattle.ss_route.specs.Wire.{refusal_of}
use Rattle.ss_route.specs.declared.manner.Manner.{Manner}
use Rattle.ss_connection.specs.Known.{KnownAccount, KnowsMore}
use Rattle.ss_route.specs.Ready.{WasSent, WasCut}
use Rattle.ss_connection.specs.Turns.{AreGatedTurns, Exchange, SaysEach, SaysTurn, closes, most_messages}
use Rattle.ss_connection.specs.Calls.{turns_added}
use Rattle.ss_connection.specs.Ends.{ReadsExchanges, AreReadings, Cause, IsFewer, IsSparing, RefusesRest, Sends}
use Rattle.ss_connection.specs.Ends.{TakesNoMore}
use Rattle.ss_connection.specs.Ends.{RaisesOnlyEnd, responses, readings, IsServedConnection}
use Rattle.ss_connection.specs.Progress.{Progress, Refuses, Stops, end_of}
use Rattle.ss_connection.specs.declared.notes.End.{End}
use Rattle.ss_connection.specs.declared.notes.End.TheVariants as ends
use Rattle.ss_connection.specs.declared.notes.TurnNote.{TurnNote}
use Rattle.ss_connection.proofs.Later.{each_later}
use Rattle.ss_connection.proofs.Moving.{moves_none, moves_read, moves_write, took_nothing, still_told}
use Rattle.ss_connection.proofs.Exchanges.{message_in, note_in, now_in, response_in, got_in, added_push, gated_push}
use Rattle.ss_connection.proofs.Exchanges.{gets_push, read_push, says_push, readings_push, clock_push, split_push}
use Rattle.ss_connection.proofs.Exchanges.{goes_push, sends_push, noted_push}
use Rattle.ss_route.proofs.Quiet.{quiet}

no_exchange : (x : Exchange) (k : ℕ) → get_elem? {A = Exchange} [] k ≡ some x → ⊥
no_exchange x k e = maybe.some-ne-none x (sym e)

-- the beginning
pub begun : (manner : Manner) (uids : List ℕ) (known : ℕ → KnownAccount) (link : Meanings) (coming : Option (List ℕ)) (turns : List TurnNote)
    → Progress manner uids known link link coming coming (record { bytes = []; stop = None }) turns turns 0
begun manner uids known link coming turns = record {
  exchanges = [];
  taken = [];
  sent = [];
  noted = sym (append-nil turns);
  says = λ k x at. absurd (no_exchange x k at);
  moves = moves_none link;
  split = refl;
  gets = refl;
  sparing = λ bytes told. refl;
  sends = refl;
  clock = refl;
  goes_on = All-nil (λ (x : Exchange). IsFalse x.message.last × IsFalse x.note.closed_by_gate);
  going_on = refl;
  counted = refl;
  within = omega arith;
  read_faults = refl;
  write_faults = refl;
}

-- one message more: what was read, and what its turn says
pub record Answers (manner : Manner) (uids : List ℕ) (known : ℕ → KnownAccount) (link link' : Meanings) (coming coming' : Option (List ℕ)) (kept kept' : KeptBytes) (count : ℕ) (message : Message) (note : TurnNote) (bytes : List ℕ) : Type 0 where
  pub few : count < most_messages
  pub got : List ℕ
  pub read : HasRead got link link'
  pub reads : ReadsMessage (kept.bytes ++ got) message kept'.bytes
  pub going_on : kept'.stop ≡ None
  pub quiet : link'.read_faults ≡ link.read_faults
  pub spare : (m : Message) (rest : List ℕ) → ReadsMessage kept.bytes m rest → link' ≡ link
  pub reading : TakesFirst coming coming' note.now
  pub says : SaysTurn manner uids known message note.now (closes count message note.closed_by_gate) note.turn bytes

abbrev pub exchange : List ℕ → Message → TurnNote → List ℕ → Exchange
exchange got message note bytes = record { got = got; message = message; note = note; response = bytes }

module _ (manner : Manner) (uids : List ℕ) (known known' : ℕ → KnownAccount) (more : KnowsMore known known') (link link' link2 link3 : Meanings) (coming coming' coming2 : Option (List ℕ)) (kept kept' : KeptBytes) (turns turns' : List TurnNote)
    (count : ℕ) (message : Message) (note : TurnNote) (bytes : List ℕ) (p : Progress manner uids known link link' coming coming' kept turns turns' count)
    (a : Answers manner uids known' link' link2 coming' coming2 kept kept' count message note bytes) where
  says_one : SaysEach manner uids known' (p.exchanges ++ exchange a.got message note bytes ∷ [])
  says_one =
      let S : ℕ → Type 0 = λ n. SaysTurn manner uids known' message note.now (closes n message note.closed_by_gate) note.turn bytes in
      says_push manner uids known' p.exchanges (exchange a.got message note bytes) (each_later manner uids known known' more p.exchanges p.says) (subst S p.counted a.says)

  long_one : length (p.exchanges ++ exchange a.got message note bytes ∷ []) ≡ count + 1
  long_one = omega (arith, p.counted, length-append p.exchanges (exchange a.got message note bytes ∷ []))

  few_one : length (p.exchanges ++ exchange a.got message note bytes ∷ []) ≤ most_messages
  few_one = let few = a.few in let e = long_one in omega arith

  read_one : (told : List ℕ) → link.taken ≡ Some told → ReadsExchanges [] (p.exchanges ++ exchange a.got message note bytes ∷ []) kept'.bytes
  read_one told is = read_push [] p.exchanges (exchange a.got message note bytes) kept.bytes kept'.bytes (p.sparing told is) a.reads
      (λ m rest whole. took_nothing a.got (told ++ p.taken) link' link2 (still_told p.taken p.sent told link link' p.moves is) (a.spare m rest whole) a.read.taken)

  sparing_one : (told : List ℕ) → link.taken ≡ Some told → IsSparing (p.exchanges ++ exchange a.got message note bytes ∷ []) kept'.bytes []
  sparing_one told is = record { kept = kept'.bytes; read = read_one told is; behind = sym (append-nil kept'.bytes) }

  gets_one : p.taken ++ a.got ≡ flat_map got_in (p.exchanges ++ exchange a.got message note bytes ∷ [])
  gets_one = gets_push p.taken p.exchanges (exchange a.got message note bytes) p.gets

  added_one : turns_added turns (turns' ++ note ∷ []) ≡ map note_in (p.exchanges ++ exchange a.got message note bytes ∷ [])
  added_one = ap (drop (length turns)) (noted_push turns turns' p.exchanges (exchange a.got message note bytes) p.noted) ∙ drop-append_seam turns (map note_in (p.exchanges ++ exchange a.got message note bytes ∷ []))

  -- it was answered, and the connection goes on
  pub goes_on : WasSent bytes link2 link3 → message.last ≡ false → note.closed_by_gate ≡ false → Progress manner uids known' link link3 coming coming2 kept' turns (turns' ++ note ∷ []) (count + 1)
  goes_on sent stays stands = record {
    exchanges = p.exchanges ++ exchange a.got message note bytes ∷ [];
    taken = p.taken ++ a.got;
    sent = p.sent ++ bytes;
    noted = noted_push turns turns' p.exchanges (exchange a.got message note bytes) p.noted;
    says = says_one;
    moves = moves_write (p.taken ++ a.got) p.sent bytes link link2 link3 (moves_read p.taken p.sent a.got link link' link2 p.moves a.read) sent.write;
    split = split_push p.taken a.got p.exchanges (exchange a.got message note bytes) kept.bytes kept'.bytes p.split a.reads;
    gets = gets_one;
    sparing = read_one;
    sends = sends_push p.sent p.exchanges (exchange a.got message note bytes) p.sends;
    clock = clock_push p.exchanges (exchange a.got message note bytes) coming coming' coming2 p.clock a.reading;
    goes_on = goes_push p.exchanges (exchange a.got message note bytes) p.goes_on stays stands;
    going_on = a.going_on;
    counted = sym long_one;
    within = (let few = a.few in omega arith);
    read_faults = sent.write.read_faults ∙ (a.quiet ∙ p.read_faults);
    write_faults = sent.faults ∙ (a.read.write_faults ∙ p.write_faults);
  }

  -- it was answered whole, and is the last one
  ended_with : (end : End) → Cause end (p.exchanges ++ exchange a.got message note bytes ∷ []) None kept'.bytes link link3 → TakesNoMore end None [] → RaisesOnlyEnd end link link3
      → IsFewer end (length (p.exchanges ++ exchange a.got message note bytes ∷ []))
      → Sends end (p.sent ++ bytes) (responses (p.exchanges ++ exchange a.got message note bytes ∷ []) None)
      → WasSent bytes link2 link3 → IsServedConnection manner uids known' end link link3 coming coming2 (turns_added turns (turns' ++ note ∷ []))
  ended_with end cause no_more faults fewer sends sent = record {
    exchanges = p.exchanges ++ exchange a.got message note bytes ∷ [];
    refusal = None;
    taken = p.taken ++ a.got;
    rest = kept'.bytes;
    sent = p.sent ++ bytes;
    noted = added_one;
    says = says_one;
    moves = moves_write (p.taken ++ a.got) p.sent bytes link link2 link3 (moves_read p.taken p.sent a.got link link' link2 p.moves a.read) sent.write;
    split = split_push p.taken a.got p.exchanges (exchange a.got message note bytes) kept.bytes kept'.bytes p.split a.reads;
    more = [];
    gets = gets_one ∙ sym (append-nil (flat_map got_in (p.exchanges ++ exchange a.got message note bytes ∷ [])));
    sparing = sparing_one;
    no_more = no_more;
    sends = sends;
    clock = (let P : List ℕ → Type 0 = λ rs. AreReadings rs coming coming2 in
        subst P (sym (append-nil (map now_in (p.exchanges ++ exchange a.got message note bytes ∷ [])))) (clock_push p.exchanges (exchange a.got message note bytes) coming coming' coming2 p.clock a.reading));
    cause = cause;
    faults = faults;
    fewer = fewer;
  }

  faults_one : WasSent bytes link2 link3 → (link3.read_faults ≡ link.read_faults) × (link3.write_faults ≡ link.write_faults)
  faults_one sent = (sent.write.read_faults ∙ (a.quiet ∙ p.read_faults), sent.faults ∙ (a.read.write_faults ∙ p.write_faults))

  sends_one : p.sent ++ bytes ≡ responses (p.exchanges ++ exchange a.got message note bytes ∷ []) None
  sends_one = sends_push p.sent p.exchanges (exchange a.got message note bytes) p.sends ∙ sym (append-nil (flat_map response_in (p.exchanges ++ exchange a.got message note bytes ∷ [])))

  -- it had asked to close
  pub ended_asked : WasSent bytes link2 link3 → message.last ≡ true → IsServedConnection manner uids known' ends.Asked link link3 coming coming2 (turns_added turns (turns' ++ note ∷ []))
  ended_asked sent closed = ended_with ends.Asked (record { before = p.exchanges; last = exchange a.got message note bytes; all = refl; goes_on = p.goes_on }, closed, refl) refl (faults_one sent) few_one sends_one sent

  -- it hadn't, and the gate said that its response closes
  pub ended_by_gate : WasSent bytes link2 link3 → message.last ≡ false → note.closed_by_gate ≡ true → IsServedConnection manner uids known' ends.Gate link link3 coming coming2 (turns_added turns (turns' ++ note ∷ []))
  ended_by_gate sent stays closed = ended_with ends.Gate (record { before = p.exchanges; last = exchange a.got message note bytes; all = refl; goes_on = p.goes_on }, stays, closed, refl) refl (faults_one sent) few_one sends_one sent

  -- of its response a front was written
  pub ended_cut : WasCut bytes link2 link3 → IsServedConnection manner uids known' ends.WriteFault link link3 coming coming2 (turns_added turns (turns' ++ note ∷ []))
  ended_cut cut =
      let R : ℕ → Type 0 = λ n. Rose n link3.write_faults in
      record {
        exchanges = p.exchanges ++ exchange a.got message note bytes ∷ [];
        refusal = None;
        taken = p.taken ++ a.got;
        rest = kept'.bytes;
        sent = p.sent ++ cut.sent;
        noted = added_one;
        says = says_one;
        moves = moves_write (p.taken ++ a.got) p.sent cut.sent link link2 link3 (moves_read p.taken p.sent a.got link link' link2 p.moves a.read) cut.write;
        split = split_push p.taken a.got p.exchanges (exchange a.got message note bytes) kept.bytes kept'.bytes p.split a.reads;
        more = [];
        gets = gets_one ∙ sym (append-nil (flat_map got_in (p.exchanges ++ exchange a.got message note bytes ∷ [])));
        sparing = sparing_one;
        no_more = (λ none. refl);
        sends = (
          cut.rest,
          append-nil (flat_map response_in (p.exchanges ++ exchange a.got message note bytes ∷ []))
              ∙ (sym (sends_push p.sent p.exchanges (exchange a.got message note bytes) p.sends)
              ∙ (ap (λ l. p.sent ++ l) cut.cut ∙ sym (append_assoc p.sent cut.sent cut.rest))),
        );
        clock = (let P : List ℕ → Type 0 = λ rs. AreReadings rs coming coming2 in
            subst P (sym (append-nil (map now_in (p.exchanges ++ exchange a.got message note bytes ∷ [])))) (clock_push p.exchanges (exchange a.got message note bytes) coming coming' coming2 p.clock a.reading));
        cause = (
          subst R (a.read.write_faults ∙ p.write_faults) cut.rose,
          inl (record { before = p.exchanges; last = exchange a.got message note bytes; all = refl; goes_on = p.goes_on }, refl),
        );
        faults = cut.write.read_faults ∙ (a.quiet ∙ p.read_faults);
        fewer = few_one;
      }

-- the next bytes have a fault
pub record Faults (link link' : Meanings) (kept : KeptBytes) (count : ℕ) (fault : MsgFault) : Type 0 where
  pub few : count < most_messages
  pub got : List ℕ
  pub read : HasRead got link link'
  pub is : IsMessageFault fault (kept.bytes ++ got)
  pub ended : EndsWith fault link'
  pub rises : RisesWith fault link.read_faults link'.read_faults

module _ (manner : Manner) (uids : List ℕ) (known : ℕ → KnownAccount) (link link' link2 link3 : Meanings) (coming coming' coming2 : Option (List ℕ)) (kept : KeptBytes) (turns turns' : List TurnNote) (count : ℕ) (fault : MsgFault)
    (p : Progress manner uids known link link' coming coming' kept turns turns' count) where
  added_none : turns_added turns turns' ≡ map note_in p.exchanges
  added_none = ap (drop (length turns)) p.noted ∙ drop-append_seam turns (map note_in p.exchanges)

  few_none : count < most_messages → length p.exchanges < most_messages
  few_none few = let e = p.counted in omega arith

  clock_none : AreReadings (readings p.exchanges None) coming coming'
  clock_none = let P : List ℕ → Type 0 = λ rs. AreReadings rs coming coming' in subst P (sym (append-nil (map now_in p.exchanges))) p.clock

  gets_none : p.taken ≡ flat_map got_in p.exchanges ++ []
  gets_none = p.gets ∙ sym (append-nil (flat_map got_in p.exchanges))

  gets_more : (got : List ℕ) → p.taken ++ got ≡ flat_map got_in p.exchanges ++ got
  gets_more got = ap (λ l. l ++ got) p.gets

  sparing_none : (told : List ℕ) → link.taken ≡ Some told → IsSparing p.exchanges kept.bytes []
  sparing_none told is = record { kept = kept.bytes; read = p.sparing told is; behind = sym (append-nil kept.bytes) }

  sparing_more : (got : List ℕ) (told : List ℕ) → link.taken ≡ Some told → IsSparing p.exchanges (kept.bytes ++ got) got
  sparing_more got told is = record { kept = kept.bytes; read = p.sparing told is; behind = refl }

  sends_none : p.sent ≡ responses p.exchanges None
  sends_none = p.sends ∙ sym (append-nil (flat_map response_in p.exchanges))

  module _ (f : Faults link' link2 kept count fault) where
    split_more : Reads (p.taken ++ f.got) (map message_in p.exchanges) (kept.bytes ++ f.got)
    split_more = reads_append p.taken f.got (map message_in p.exchanges) kept.bytes p.split

    module _ (now : ℕ) (bytes : List ℕ) (r : Refuses fault now coming' coming2 bytes) where
      is_refused : RefusesRest (kept.bytes ++ f.got) (record { fault = fault; now = now; response = bytes })
      is_refused = record { cause = f.is; local = r.local; answered = r.answered; response = r.response }

      clock_refused : AreReadings (map now_in p.exchanges ++ now ∷ []) coming coming2
      clock_refused = readings_push (map now_in p.exchanges) now coming coming' coming2 p.clock r.reading

      -- the refusal was sent
      ended_refusing : WasSent bytes link2 link3 → IsServedConnection manner uids known (ends.BadMessage now) link link3 coming coming2 (turns_added turns turns')
      ended_refusing sent = record {
        exchanges = p.exchanges;
        refusal = Some (record { fault = fault; now = now; response = bytes });
        taken = p.taken ++ f.got;
        rest = kept.bytes ++ f.got;
        sent = p.sent ++ bytes;
        noted = added_none;
        says = p.says;
        moves = moves_write (p.taken ++ f.got) p.sent bytes link link2 link3 (moves_read p.taken p.sent f.got link link' link2 p.moves f.read) sent.write;
        split = split_more;
        more = f.got;
        gets = gets_more f.got;
        sparing = sparing_more f.got;
        no_more = tt;
        sends = ap (λ l. l ++ bytes) p.sends;
        clock = clock_refused;
        cause = (record { fault = fault; now = now; response = bytes }, refl, refl, is_refused, p.goes_on);
        faults = (
          sent.write.read_faults ∙ (quiet fault r.local link'.read_faults link2.read_faults r.answered f.rises ∙ p.read_faults),
          sent.faults ∙ (f.read.write_faults ∙ p.write_faults),
        );
        fewer = few_none f.few;
      }

      -- a front of it was
      ended_refusing_in_part : WasCut bytes link2 link3 → IsServedConnection manner uids known ends.WriteFault link link3 coming coming2 (turns_added turns turns')
      ended_refusing_in_part cut =
          let R : ℕ → Type 0 = λ n. Rose n link3.write_faults in
          record {
            exchanges = p.exchanges;
            refusal = Some (record { fault = fault; now = now; response = bytes });
            taken = p.taken ++ f.got;
            rest = kept.bytes ++ f.got;
            sent = p.sent ++ cut.sent;
            noted = added_none;
            says = p.says;
            moves = moves_write (p.taken ++ f.got) p.sent cut.sent link link2 link3 (moves_read p.taken p.sent f.got link link' link2 p.moves f.read) cut.write;
            split = split_more;
            more = f.got;
            gets = gets_more f.got;
            sparing = sparing_more f.got;
            no_more = λ none. cc;
            sends = (
              cut.rest,
              ap (λ l. l ++ bytes) (sym p.sends) ∙ (ap (λ l. p.sent ++ l) cut.cut ∙ sym (append_assoc p.sent cut.sent cut.rest)),
            );
            clock = clock_refused;
            cause = (
              subst R (f.read.write_faults ∙ p.write_faults) cut.rose,
              inr (record { fault = fault; now = now; response = bytes }, refl, is_refused, p.goes_on),
            );
            faults = cut.write.read_faults ∙ (quiet fault r.local link'.read_faults link2.read_faults r.answered f.rises ∙ p.read_faults);
            fewer = (let few : length p.exchanges < most_messages = few_none f.few in let e : length p.exchanges ≤ most_messages = omega arith in e);
          }

-- the input ended or failed, or no memory was found for the message
ended_unanswered : (manner : Manner) (uids : List ℕ) (known : ℕ → KnownAccount) (link link' link2 : Meanings) (coming coming' : Option (List ℕ)) (kept : KeptBytes) (turns turns' : List TurnNote) (count : ℕ) (fault : MsgFault)
    → Progress manner uids known link link' coming coming' kept turns turns' count → Faults link' link2 kept count fault → refusal_of fault ≡ None
    → IsServedConnection manner uids known (end_of fault) link link2 coming coming' (turns_added turns turns')
ended_unanswered manner uids known link link' link2 coming coming' kept turns turns' count faults.End p f none = record {
  exchanges = p.exchanges;
  refusal = None;
  taken = p.taken ++ f.got;
  rest = kept.bytes ++ f.got;
  sent = p.sent;
  noted = added_none manner uids known link link' link2 link2 coming coming' coming' kept turns turns' count faults.End p;
  says = p.says;
  moves = moves_read p.taken p.sent f.got link link' link2 p.moves f.read;
  split = reads_append p.taken f.got (map message_in p.exchanges) kept.bytes p.split;
  more = f.got;
  gets = gets_more manner uids known link link' link2 link2 coming coming' coming' kept turns turns' count faults.End p f.got;
  sparing = sparing_more manner uids known link link' link2 link2 coming coming' coming' kept turns turns' count faults.End p f.got;
  no_more = tt;
  sends = sends_none manner uids known link link' link2 link2 coming coming' coming' kept turns turns' count faults.End p;
  clock = clock_none manner uids known link link' link2 link2 coming coming' coming' kept turns turns' count faults.End p;
  cause = (f.is, f.ended, p.goes_on, refl);
  faults = (f.rises ∙ p.read_faults, f.read.write_faults ∙ p.write_faults);
  fewer = few_none manner uids known link link' link2 link2 coming coming' coming' kept turns turns' count faults.End p f.few;
}
ended_unanswered manner uids known link link' link2 coming coming' kept turns turns' count faults.Cut p f none = record {
  exchanges = p.exchanges;
  refusal = None;
  taken = p.taken ++ f.got;
  rest = kept.bytes ++ f.got;
  sent = p.sent;
  noted = added_none manner uids known link link' link2 link2 coming coming' coming' kept turns turns' count faults.Cut p;
  says = p.says;
  moves = moves_read p.taken p.sent f.got link link' link2 p.moves f.read;
  split = reads_append p.taken f.got (map message_in p.exchanges) kept.bytes p.split;
  more = f.got;
  gets = gets_more manner uids known link link' link2 link2 coming coming' coming' kept turns turns' count faults.Cut p f.got;
  sparing = sparing_more manner uids known link link' link2 link2 coming coming' coming' kept turns turns' count faults.Cut p f.got;
  no_more = tt;
  sends = sends_none manner uids known link link' link2 link2 coming coming' coming' kept turns turns' count faults.Cut p;
  clock = clock_none manner uids known link link' link2 link2 coming coming' coming' kept turns turns' count faults.Cut p;
  cause = (f.is, f.ended, p.goes_on, refl);
  faults = (f.rises ∙ p.read_faults, f.read.write_faults ∙ p.write_faults);
  fewer = few_none manner uids known link link' link2 link2 coming coming' coming' kept turns turns' count faults.Cut p f.few;
}
ended_unanswered manner uids known link link' link2 coming coming' kept turns turns' count faults.ReadFault p f none = record {
  exchanges = p.exchanges;
  refusal = None;
  taken = p.taken ++ f.got;
  rest = kept.bytes ++ f.got;
  sent = p.sent;
  noted = added_none manner uids known link link' link2 link2 coming coming' coming' kept turns turns' count faults.ReadFault p;
  says = p.says;
  moves = moves_read p.taken p.sent f.got link link' link2 p.moves f.read;
  split = reads_append p.taken f.got (map message_in p.exchanges) kept.bytes p.split;
  more = f.got;
  gets = gets_more manner uids known link link' link2 link2 coming coming' coming' kept turns turns' count faults.ReadFault p f.got;
  sparing = sparing_more manner uids known link link' link2 link2 coming coming' coming' kept turns turns' count faults.ReadFault p f.got;
  no_more = tt;
  sends = sends_none manner uids known link link' link2 link2 coming coming' coming' kept turns turns' count faults.ReadFault p;
  clock = clock_none manner uids known link link' link2 link2 coming coming' coming' kept turns turns' count faults.ReadFault p;
  cause = (f.is, (let P : ℕ → Type 0 = λ n. Rose n link2.read_faults in subst P p.read_faults f.rises), p.goes_on, refl);
  faults = f.read.write_faults ∙ p.write_faults;
  fewer = few_none manner uids known link link' link2 link2 coming coming' coming' kept turns turns' count faults.ReadFault p f.few;
}
ended_unanswered manner uids known link link' link2 coming coming' kept turns turns' count faults.Memory p f none = record {
  exchanges = p.exchanges;
  refusal = None;
  taken = p.taken ++ f.got;
  rest = kept.bytes ++ f.got;
  sent = p.sent;
  noted = added_none manner uids known link link' link2 link2 coming coming' coming' kept turns turns' count faults.Memory p;
  says = p.says;
  moves = moves_read p.taken p.sent f.got link link' link2 p.moves f.read;
  split = reads_append p.taken f.got (map message_in p.exchanges) kept.bytes p.split;
  more = f.got;
  gets = gets_more manner uids known link link' link2 link2 coming coming' coming' kept turns turns' count faults.Memory p f.got;
  sparing = sparing_more manner uids known link link' link2 link2 coming coming' coming' kept turns turns' count faults.Memory p f.got;
  no_more = tt;
  sends = sends_none manner uids known link link' link2 link2 coming coming' coming' kept turns turns' count faults.Memory p;
  clock = clock_none manner uids known link link' link2 link2 coming coming' coming' kept turns turns' count faults.Memory p;
  cause = (p.goes_on, refl);
  faults = (f.rises ∙ p.read_faults, f.read.write_faults ∙ p.write_faults);
  fewer = few_none manner uids known link link' link2 link2 coming coming' coming' kept turns turns' count faults.Memory p f.few;
}
ended_unanswered manner uids known link link' link2 coming coming' kept turns turns' count faults.BadHead p f none = cc
ended_unanswered manner uids known link link' link2 coming coming' kept turns turns' count faults.HeadTooLong p f none = cc
ended_unanswered manner uids known link link' link2 coming coming' kept turns turns' count faults.Coded p f none = cc
ended_unanswered manner uids known link link' link2 coming coming' kept turns turns' count faults.BadLength p f none = cc
ended_unanswered manner uids known link link' link2 coming coming' kept turns turns' count (faults.TooLarge n) p f none = cc

-- nothing was written, the clock wasn't read, and the end is the fault's
unanswered : (manner : Manner) (uids : List ℕ) (known : ℕ → KnownAccount) (link link' link2 link3 : Meanings) (coming coming' coming2 : Option (List ℕ)) (kept : KeptBytes) (turns turns' : List TurnNote) (count : ℕ) (fault : MsgFault) (end : End)
    → Progress manner uids known link link' coming coming' kept turns turns' count → Faults link' link2 kept count fault
    → (refusal_of fault ≡ None) × (end ≡ end_of fault) × (link3 ≡ link2) × (coming2 ≡ coming')
    → IsServedConnection manner uids known end link link3 coming coming2 (turns_added turns turns')
unanswered manner uids known link link' link2 link3 coming coming' coming2 kept turns turns' count fault end p f stops =
    let E : End → Type 0 = λ e. IsServedConnection manner uids known e link link3 coming coming2 (turns_added turns turns') in
    let M : Meanings → Type 0 = λ m. IsServedConnection manner uids known (end_of fault) link m coming coming2 (turns_added turns turns') in
    let C : Option (List ℕ) → Type 0 = λ c. IsServedConnection manner uids known (end_of fault) link link2 coming c (turns_added turns turns') in
    subst E (sym stops.1) (subst M (sym stops.2) (subst C (sym stops.3)
    (ended_unanswered manner uids known link link' link2 coming coming' kept turns turns' count fault p f stops.0)))

-- the connection stopped as a message was to be read
pub stopped : (manner : Manner) (uids : List ℕ) (known : ℕ → KnownAccount) (link link' link2 link3 : Meanings) (coming coming' coming2 : Option (List ℕ)) (kept : KeptBytes) (turns turns' : List TurnNote) (count : ℕ) (fault : MsgFault) (end : End)
    → Progress manner uids known link link' coming coming' kept turns turns' count → Faults link' link2 kept count fault
    → Stops end fault link2 link3 coming' coming2 → IsServedConnection manner uids known end link link3 coming coming2 (turns_added turns turns')
stopped manner uids known link link' link2 link3 coming coming' coming2 kept turns turns' count fault (ends.BadMessage now) p f stops =
    ended_refusing manner uids known link link' link2 link3 coming coming' coming2 kept turns turns' count fault p f now stops.0 stops.1 stops.2
stopped manner uids known link link' link2 link3 coming coming' coming2 kept turns turns' count fault ends.WriteFault p f stops =
    ended_refusing_in_part manner uids known link link' link2 link3 coming coming' coming2 kept turns turns' count fault p f stops.1 stops.0 stops.2 stops.3
stopped manner uids known link link' link2 link3 coming coming' coming2 kept turns turns' count fault ends.Closed p f stops =
    unanswered manner uids known link link' link2 link3 coming coming' coming2 kept turns turns' count fault ends.Closed p f stops
stopped manner uids known link link' link2 link3 coming coming' coming2 kept turns turns' count fault ends.Asked p f stops =
    unanswered manner uids known link link' link2 link3 coming coming' coming2 kept turns turns' count fault ends.Asked p f stops
stopped manner uids known link link' link2 link3 coming coming' coming2 kept turns turns' count fault ends.Gate p f stops =
    unanswered manner uids known link link' link2 link3 coming coming' coming2 kept turns turns' count fault ends.Gate p f stops
stopped manner uids known link link' link2 link3 coming coming' coming2 kept turns turns' count fault ends.Count p f stops =
    unanswered manner uids known link link' link2 link3 coming coming' coming2 kept turns turns' count fault ends.Count p f stops
stopped manner uids known link link' link2 link3 coming coming' coming2 kept turns turns' count fault ends.Cut p f stops =
    unanswered manner uids known link link' link2 link3 coming coming' coming2 kept turns turns' count fault ends.Cut p f stops
stopped manner uids known link link' link2 link3 coming coming' coming2 kept turns turns' count fault ends.ReadFault p f stops =
    unanswered manner uids known link link' link2 link3 coming coming' coming2 kept turns turns' count fault ends.ReadFault p f stops
stopped manner uids known link link' link2 link3 coming coming' coming2 kept turns turns' count fault ends.Memory p f stops =
    unanswered manner uids known link link' link2 link3 coming coming' coming2 kept turns turns' count fault ends.Memory p f stops

module _ (manner : Manner) (uids : List ℕ) (known : ℕ → KnownAccount) (link link' : Meanings) (coming coming' : Option (List ℕ)) (kept : KeptBytes) (turns turns' : List TurnNote) (count : ℕ)
    (p : Progress manner uids known link link' coming coming' kept turns turns' count) where
  -- as many messages were answered as may be
  pub ended_counting : most_messages ≤ count → IsServedConnection manner uids known ends.Count link link' coming coming' (turns_added turns turns')
  ended_counting full =
      let most : count ≤ most_messages = p.within in
      let long : length p.exchanges ≡ most_messages = (let e = p.counted in omega arith) in
      record {
        exchanges = p.exchanges;
        refusal = None;
        taken = p.taken;
        rest = kept.bytes;
        sent = p.sent;
        noted = added_none manner uids known link link' link' link' coming coming' coming' kept turns turns' count faults.End p;
        says = p.says;
        moves = p.moves;
        split = p.split;
        more = [];
        gets = gets_none manner uids known link link' link' link' coming coming' coming' kept turns turns' count faults.End p;
        sparing = sparing_none manner uids known link link' link' link' coming coming' coming' kept turns turns' count faults.End p;
        no_more = refl;
        sends = sends_none manner uids known link link' link' link' coming coming' coming' kept turns turns' count faults.End p;
        clock = clock_none manner uids known link link' link' link' coming coming' coming' kept turns turns' count faults.End p;
        cause = (long, p.goes_on, refl);
        faults = (p.read_faults, p.write_faults);
        fewer = omega arith;
      }

  -- no memory was found for one turn more
  pub ended_early : count < most_messages → IsServedConnection manner uids known ends.Memory link link' coming coming' (turns_added turns turns')
  ended_early few = record {
    exchanges = p.exchanges;
    refusal = None;
    taken = p.taken;
    rest = kept.bytes;
    sent = p.sent;
    noted = added_none manner uids known link link' link' link' coming coming' coming' kept turns turns' count faults.End p;
    says = p.says;
    moves = p.moves;
    split = p.split;
    more = [];
    gets = gets_none manner uids known link link' link' link' coming coming' coming' kept turns turns' count faults.End p;
    sparing = sparing_none manner uids known link link' link' link' coming coming' coming' kept turns turns' count faults.End p;
    no_more = tt;
    sends = sends_none manner uids known link link' link' link' coming coming' coming' kept turns turns' count faults.End p;
    clock = clock_none manner uids known link link' link' link' coming coming' coming' kept turns turns' count faults.End p;
    cause = (p.goes_on, refl);
    faults = (p.read_faults, p.write_faults);
    fewer = few_none manner uids known link link' link' link' coming coming' coming' kept turns turns' count faults.End p few;
  }

  -- what the gate was asked of the turns, after one more
  pub gated_more : (says : ℕ → Bool → Type 0) (note : TurnNote) → AreGatedTurns says (turns_added turns turns') → says count note.closed_by_gate → AreGatedTurns says (turns_added turns (turns' ++ note ∷ []))
  gated_more says note each one =
      let long : count ≡ length (turns_added turns turns') = p.counted ∙ (sym (length-map p.exchanges note_in) ∙ ap length (sym (added_none manner uids known link link' link' link' coming coming' coming' kept turns turns' count faults.End p))) in
      subst (AreGatedTurns says) (sym (added_push turns turns' note (map note_in p.exchanges, p.noted)))
      (gated_push says (turns_added turns turns') note each (subst (λ n. says n note.closed_by_gate) long one))

  -- the turns were added to those that were there
  pub begins : Begins turns turns'
  begins = (map note_in p.exchanges, p.noted)

-- no memory was found for the connection
pub unserved : (manner : Manner) (uids : List ℕ) (known : ℕ → KnownAccount) (link : Meanings) (coming : Option (List ℕ)) (turns : List TurnNote) → IsServedConnection manner uids known ends.Memory link link coming coming (turns_added turns turns)
unserved manner uids known link coming turns = ended_early manner uids known link link coming coming (record { bytes = []; stop = None }) turns turns 0 (begun manner uids known link coming turns) (omega arith)
