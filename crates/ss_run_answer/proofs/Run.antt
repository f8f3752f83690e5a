-- What one turn more, and an ending, make of the progress of `answer`.
use Rattle.std.proofs.Common.{◌≡◌, ◌<◌, ◌≤◌, ℕ, ◌+◌, Bool, true, false, List, [], ◌∷◌, ◌++◌, length, map, Option, None}
use Rattle.std.proofs.Common.{Some, Ok, suc, refl, sym, ◌∙◌, ap, subst, append_assoc, length-append, inl, inr, arith}
use Rattle.std.specs.Prelude.{IfSome, IsFalse}
use Rattle.std.proofs.lemmas.List.{append-nil, map-append, length-map}
use Rattle.ss_outside.specs.Told.{Meanings, HasRead}
use Rattle.ss_outside.specs.Causes.{Rose}
use Rattle.ss_outside.proofs.Telling.{HasRead-none, HasRead-append, HasWritten-none, HasWritten-append}
use Rattle.ss_bso.specs.declared.account.Plain.{Plain}
use Rattle.ss_bso.specs.Account.{fresh}
use Rattle.ss_bso.specs.Validity.{IsValid, SameAccount}
use Rattle.ss_query.specs.declared.replies.Reply.{Reply}
use Rattle.ss_laws.proofs.JournalOrder.{marked-same}
use Rattle.ss_text.specs.Texts.{IsReordering}
use Rattle.ss_bso.proofs.Reordering.{length-reordered, same-self, same-back, same-through}
use Rattle.ss_http.specs.declared.message.Message.{Message}
use Rattle.ss_http.specs.declared.fault.MsgFault.{MsgFault}
use Rattle.ss_http.specs.declared.fault.MsgFault.TheVariants as faults
use Rattle.ss_http.specs.Messages.{ReadsMessage, Reads}
use Rattle.ss_http.specs.Faults.{IsMessageFault}
use Rattle.ss_http.specs.Buffers.{KeptBytes}
use Rattle.ss_http.specs.Reading.{ReadsNext, EndsWith, RisesWith}
use Rattle.ss_http.specs.Responses.{memory_response}
use Rattle.ss_http.proofs.MessageLemmas.{reads_append, reads_further}
use Rattle.ss_route.specs.Wire.{wire, refusal_of}
use Rattle.ss_run_answer.specs.declared.endings.Ending.{Ending}
use Rattle.ss_run_answer.specs.declared.endings.Ending.TheVariants as endings
use Rattle.ss_run_answer.specs.Turns.{RequestOrLocal, asks, told, asked_by_message, Course, entered, unread, IsCourseOf}
use Rattle.ss_run_answer.specs.Turns.{left_by}
use Rattle.ss_run_answer.specs.Turns.{response_to, Turn, AreTurns, closes, account_after, responses, RefusesBytes}
use Rattle.ss_route.specs.Ready.{WasSent, WasCut}
use Rattle.ss_run_answer.specs.Turns.{refusal_response, IsReading, AreReadings, GoesOn, AnswersInput, IsTurn}
use Rattle.ss_run_answer.specs.Turns.{Progress, ending_of, Refuses, refusal, Stops, most_messages}
use Rattle.ss_route.proofs.Quiet.{quiet}

-- one turn more
pub courses_further : (uid : ℕ) (turns : List Turn) (t : Turn) → AreTurns uid turns → IsCourseOf t.course (asked_by_message uid t.message) → AreTurns uid (turns ++ t ∷ [])
courses_further uid [] t are one = (one, tt)
courses_further uid (u ∷ turns) t are one = (are.0, courses_further uid turns t are.1 one)

pub goes_further : (turns : List Turn) (t : Turn) → GoesOn turns → IsFalse t.message.last → GoesOn (turns ++ t ∷ [])
goes_further [] t on one = (one, tt)
goes_further (u ∷ turns) t on one = (on.0, goes_further turns t on.1 one)

pub account_further : (uid : ℕ) (account : Plain) (turns : List Turn) (t : Turn)
    → account_after uid account (turns ++ t ∷ []) ≡ left_by t.course (asked_by_message uid t.message) (account_after uid account turns) t.now
account_further uid account [] t = refl
account_further uid account (u ∷ turns) t = account_further uid (left_by u.course (asked_by_message uid u.message) account u.now) turns t

pub responses_further : (uid : ℕ) (account : Plain) (count : ℕ) (turns : List Turn) (t : Turn)
    → responses uid account count (turns ++ t ∷ [])
    ≡ responses uid account count turns ++ response_to t.rendered t.course (asked_by_message uid t.message) (account_after uid account turns) t.now (closes (count + length turns) t.message)
responses_further uid account count [] t =
    append-nil _ ∙ ap (λ n. response_to t.rendered t.course (asked_by_message uid t.message) account t.now (closes n t.message)) (let e : count ≡ count + 0 = omega arith in e)
responses_further uid account count (u ∷ turns) t =
    let next = left_by u.course (asked_by_message uid u.message) account u.now in
    let first = response_to u.rendered u.course (asked_by_message uid u.message) account u.now (closes count u.message) in
    let mid = account_after uid next turns in
    ap (λ z. first ++ z) (responses_further uid next (count + 1) turns t)
    ∙ ap (λ n. first ++ (responses uid next (count + 1) turns ++ response_to t.rendered t.course (asked_by_message uid t.message) mid t.now (closes n t.message))) (let e : count + 1 + length turns ≡ count + suc (length turns) = omega arith in e)
    ∙ sym (append_assoc first (responses uid next (count + 1) turns) _)

-- one reading more
pub readings_further : (at : Option ℕ) (count : ℕ) (rs : List ℕ) (now : ℕ) (coming coming' coming2 : Option (List ℕ))
    → AreReadings at count rs coming coming' → IsReading at (count + length rs) now coming' coming2 → AreReadings at count (rs ++ now ∷ []) coming coming2
readings_further at count [] now coming coming' coming2 are one =
    let P : ℕ → Type 0 = λ n. IsReading at n now coming coming2 in
    let Q : Option (List ℕ) → Type 0 = λ c. IsReading at (count + 0) now c coming2 in
    (coming2, subst P (let e : count + 0 ≡ count = omega arith in e) (subst Q are one), refl)
readings_further at count (r ∷ rs) now coming coming' coming2 are one =
    let P : ℕ → Type 0 = λ n. IsReading at n now coming' coming2 in
    (are.0, are.1, readings_further at (count + 1) rs now are.0 coming' coming2 are.2 (subst P (let e : count + suc (length rs) ≡ count + 1 + length rs = omega arith in e) one))

abbrev pub message_in : Turn → Message
message_in turn = turn.message

abbrev pub now_in : Turn → ℕ
now_in turn = turn.now

pub clock_further : (at : Option ℕ) (turns : List Turn) (count now : ℕ) (coming coming' coming2 : Option (List ℕ))
    → AreReadings at 0 (map now_in turns) coming coming' → count ≡ length turns → IsReading at count now coming' coming2
    → AreReadings at 0 (map now_in turns ++ now ∷ []) coming coming2
clock_further at turns count now coming coming' coming2 are is one =
    let P : ℕ → Type 0 = λ n. IsReading at n now coming' coming2 in
    let same : count ≡ length (map now_in turns) = is ∙ sym (length-map turns now_in) in
    let counted : count ≡ 0 + length (map now_in turns) = omega arith in
    readings_further at 0 (map now_in turns) now coming coming' coming2 are (subst P counted one)

-- the messages behind one more that was read
pub split_further : (taken got : List ℕ) (turns : List Turn) (t : Turn) (kept kept' : List ℕ)
    → Reads taken (map message_in turns) kept → ReadsMessage (kept ++ got) t.message kept' → Reads (taken ++ got) (map message_in (turns ++ t ∷ [])) kept'
split_further taken got turns t kept kept' split reads =
    let P : List Message → Type 0 = λ ms. Reads (taken ++ got) ms kept' in
    subst P (sym (map-append message_in turns (t ∷ [])))
    (reads_further (taken ++ got) (map message_in turns) t.message (kept ++ got) kept' (reads_append taken got (map message_in turns) kept split) reads)

-- accounts that are the same but for the order of their lists give one response, and are left the same
pub same_left : (course : Course) (question : RequestOrLocal) (account other : Plain) (now : ℕ) → IsValid account → SameAccount account other
    → SameAccount (left_by course question account now) (left_by course question other now)
same_left (entered mark) (asks request newlines) account other now valid same = (marked-same account other now request mark valid same).account
same_left (entered mark) (told local) account other now valid same = same
same_left unread question account other now valid same = same

pub same_response : (rendered : Bool) (course : Course) (question : RequestOrLocal) (account other : Plain) (now : ℕ) (last : Bool) → IsValid account → SameAccount account other
    → response_to rendered course question account now last ≡ response_to rendered course question other now last
same_response true (entered mark) (asks request newlines) account other now last valid same =
    ap (λ (reply : Reply). wire reply newlines last) (marked-same account other now request mark valid same).reply
same_response false (entered mark) (asks request newlines) account other now last valid same =
    ap (λ (reply : Reply). memory_response reply.moment last) (marked-same account other now request mark valid same).reply
same_response rendered (entered mark) (told local) account other now last valid same = refl
same_response rendered unread question account other now last valid same = refl

-- the turn that was made for a message
abbrev turn_for : Message → ℕ → {question : RequestOrLocal} {now' : ℕ} {last : Bool} {old new : Plain} {bytes : List ℕ} → IsTurn question now' last old new bytes → Turn
turn_for m now is = record { message = m; now = now; course = is.course; rendered = is.rendered }

-- the responses behind one more
pub answered_further : (uid count : ℕ) (turns : List Turn) (m : Message) (now : ℕ) (account account' : Plain) (sent bytes : List ℕ)
    → sent ≡ responses uid fresh 0 turns → SameAccount (account_after uid fresh turns) account → IsValid account → count ≡ length turns
    → (is : IsTurn (asked_by_message uid m) now (closes count m) account account' bytes)
    → sent ++ bytes ≡ responses uid fresh 0 (turns ++ turn_for m now is ∷ [])
answered_further uid count turns m now account account' sent bytes so_far same valid counted is =
    let before = responses uid fresh 0 turns in
    let model = account_after uid fresh turns in
    let number : count ≡ 0 + length turns = omega arith in
    ap (λ z. z ++ bytes) so_far
    ∙ ap (λ z. before ++ z) (is.sent
    ∙ same_response is.rendered is.course (asked_by_message uid m) account model now (closes count m) valid (same-back model account same)
    ∙ ap (λ n. response_to is.rendered is.course (asked_by_message uid m) model now (closes n m)) number)
    ∙ sym (responses_further uid fresh 0 turns (turn_for m now is))

pub account_is_further : (uid : ℕ) (turns : List Turn) (m : Message) (now : ℕ) (account account' : Plain) {last : Bool} {bytes : List ℕ}
    → SameAccount (account_after uid fresh turns) account → IsValid account
    → (is : IsTurn (asked_by_message uid m) now last account account' bytes)
    → SameAccount (account_after uid fresh (turns ++ turn_for m now is ∷ [])) account'
account_is_further uid turns m now account account' same valid is =
    let model = account_after uid fresh turns in
    let P : Plain → Type 0 = λ a. SameAccount a account' in
    let left = left_by is.course (asked_by_message uid m) account now in
    let left_model = left_by is.course (asked_by_message uid m) model now in
    subst P (sym (account_further uid fresh turns (turn_for m now is)))
    (same-through left_model left account' (same-back left left_model (same_left is.course (asked_by_message uid m) account model now valid (same-back model account same))) is.left)

-- the beginning
pub begun : (uid : ℕ) (at : Option ℕ) (input output : Meanings) (coming : Option (List ℕ)) → IsValid fresh
    → Progress uid at input input output output coming coming (record { bytes = []; stop = None }) fresh 0
begun uid at input output coming valid = record {
  taken = [];
  sent = [];
  turns = [];
  read = HasRead-none input;
  write = HasWritten-none output;
  split = refl;
  clock = refl;
  courses = tt;
  answered = refl;
  account_is = same-self fresh;
  valid = valid;
  count_is = refl;
  within = omega arith;
  goes_on = tt;
  going_on = refl;
  read_faults = refl;
  write_faults = refl;
}

abbrev turns_with : List Turn → Turn → List Turn
turns_with turns t = turns ++ t ∷ []

readings_with : (turns : List Turn) (t : Turn) → map now_in (turns ++ t ∷ []) ≡ map now_in turns ++ t.now ∷ []
readings_with turns t = map-append now_in turns (t ∷ [])

clock_with : (at : Option ℕ) (turns : List Turn) (t : Turn) (coming coming' : Option (List ℕ))
    → AreReadings at 0 (map now_in turns ++ t.now ∷ []) coming coming' → AreReadings at 0 (map now_in (turns ++ t ∷ [])) coming coming'
clock_with at turns t coming coming' are =
    let P : List ℕ → Type 0 = λ rs. AreReadings at 0 rs coming coming' in subst P (sym (readings_with turns t)) are

-- readings and responses of a run without refused bytes
plain_readings : (at : Option ℕ) (rs : List ℕ) (coming coming' : Option (List ℕ)) → AreReadings at 0 rs coming coming' → AreReadings at 0 (rs ++ []) coming coming'
plain_readings at rs coming coming' are =
    let P : List ℕ → Type 0 = λ xs. AreReadings at 0 xs coming coming' in subst P (sym (append-nil rs)) are

-- a message was read, and its response was sent
pub turned : (uid : ℕ) (at : Option ℕ) (input input' input2 output output' output2 : Meanings) (coming coming' coming2 : Option (List ℕ)) (kept kept' : KeptBytes)
    (account account' : Plain) (count now : ℕ) (m : Message) (got bytes : List ℕ)
    → Progress uid at input input' output output' coming coming' kept account count → count < most_messages
    → HasRead got input' input2 → ReadsNext (Ok m) (kept.bytes ++ got) kept' → input2.read_faults ≡ input'.read_faults
    → IsReading at count now coming' coming2 → IsTurn (asked_by_message uid m) now (closes count m) account account' bytes → IsValid account'
    → WasSent bytes output' output2 → m.last ≡ false
    → Progress uid at input input2 output output2 coming coming2 kept' account' (count + 1)
turned uid at input input' input2 output output' output2 coming coming' coming2 kept kept' account account' count now m got bytes p more read answers same reading is valid sent stays =
    let t = turn_for m now is in
    let counted = p.count_is in
    record {
      taken = p.taken ++ got;
      sent = p.sent ++ bytes;
      turns = p.turns ++ t ∷ [];
      read = HasRead-append p.taken got input input' input2 p.read read;
      write = HasWritten-append p.sent bytes output output' output2 p.write sent.write;
      split = split_further p.taken got p.turns t kept.bytes kept'.bytes p.split answers.0;
      clock = clock_with at p.turns t coming coming2 (clock_further at p.turns count now coming coming' coming2 p.clock p.count_is reading);
      courses = courses_further uid p.turns t p.courses is.is;
      answered = answered_further uid count p.turns m now account account' p.sent bytes p.answered p.account_is p.valid p.count_is is;
      account_is = account_is_further uid p.turns m now account account' p.account_is p.valid is;
      valid = valid;
      count_is = omega (arith, length-append p.turns (t ∷ []));
      within = omega arith;
      goes_on = goes_further p.turns t p.goes_on stays;
      going_on = answers.1;
      read_faults = same ∙ p.read_faults;
      write_faults = sent.faults ∙ p.write_faults;
    }

fewer_turns : (turns : List Turn) (count : ℕ) → count ≡ length turns → count < most_messages → length turns < most_messages
fewer_turns turns count is more = omega arith

no_more_turns : (turns : List Turn) (t : Turn) (count : ℕ) → count ≡ length turns → count < most_messages → length (turns ++ t ∷ []) ≤ most_messages
no_more_turns turns t count is more = omega (arith, length-append turns (t ∷ []))

-- a message asked to close, and its response was sent
pub ended_asking : (uid : ℕ) (at : Option ℕ) (input input' input2 output output' output2 : Meanings) (coming coming' coming2 : Option (List ℕ)) (kept kept' : KeptBytes)
    (account account' : Plain) (count now : ℕ) (m : Message) (got bytes : List ℕ)
    → Progress uid at input input' output output' coming coming' kept account count → count < most_messages
    → HasRead got input' input2 → ReadsMessage (kept.bytes ++ got) m kept'.bytes → input2.read_faults ≡ input'.read_faults
    → IsReading at count now coming' coming2 → IsTurn (asked_by_message uid m) now (closes count m) account account' bytes
    → WasSent bytes output' output2 → m.last ≡ true
    → AnswersInput uid at endings.Asked input input2 output output2 coming coming2
ended_asking uid at input input' input2 output output' output2 coming coming' coming2 kept kept' account account' count now m got bytes p more read reads same reading is sent closed =
    let t = turn_for m now is in
    record {
      taken = p.taken ++ got;
      sent = p.sent ++ bytes;
      turns = p.turns ++ t ∷ [];
      refused = None;
      rest = kept'.bytes;
      read = HasRead-append p.taken got input input' input2 p.read read;
      write = HasWritten-append p.sent bytes output output' output2 p.write sent.write;
      split = split_further p.taken got p.turns t kept.bytes kept'.bytes p.split reads;
      clock = plain_readings at (map now_in (p.turns ++ t ∷ [])) coming coming2
          (clock_with at p.turns t coming coming2 (clock_further at p.turns count now coming coming' coming2 p.clock p.count_is reading));
      courses = courses_further uid p.turns t p.courses is.is;
      answered = answered_further uid count p.turns m now account account' p.sent bytes p.answered p.account_is p.valid p.count_is is ∙ sym (append-nil (responses uid fresh 0 (p.turns ++ t ∷ [])));
      cause = (record { before = p.turns; turn = t; all = refl; goes_on = p.goes_on }, closed, refl);
      faults = (same ∙ p.read_faults, sent.faults ∙ p.write_faults);
      fewer = no_more_turns p.turns t count p.count_is more;
    }

-- of a response only a front was sent
pub ended_cut : (uid : ℕ) (at : Option ℕ) (input input' input2 output output' output2 : Meanings) (coming coming' coming2 : Option (List ℕ)) (kept kept' : KeptBytes)
    (account account' : Plain) (count now : ℕ) (m : Message) (got bytes : List ℕ)
    → Progress uid at input input' output output' coming coming' kept account count → count < most_messages
    → HasRead got input' input2 → ReadsMessage (kept.bytes ++ got) m kept'.bytes → input2.read_faults ≡ input'.read_faults
    → IsReading at count now coming' coming2 → IsTurn (asked_by_message uid m) now (closes count m) account account' bytes
    → WasCut bytes output' output2
    → AnswersInput uid at endings.Output input input2 output output2 coming coming2
ended_cut uid at input input' input2 output output' output2 coming coming' coming2 kept kept' account account' count now m got bytes p more read reads same reading is cut =
    let t = turn_for m now is in
    let P : ℕ → Type 0 = λ n. Rose n output2.write_faults in
    record {
      taken = p.taken ++ got;
      sent = p.sent ++ cut.sent;
      turns = p.turns ++ t ∷ [];
      refused = None;
      rest = kept'.bytes;
      read = HasRead-append p.taken got input input' input2 p.read read;
      write = HasWritten-append p.sent cut.sent output output' output2 p.write cut.write;
      split = split_further p.taken got p.turns t kept.bytes kept'.bytes p.split reads;
      clock = plain_readings at (map now_in (p.turns ++ t ∷ [])) coming coming2
          (clock_with at p.turns t coming coming2 (clock_further at p.turns count now coming coming' coming2 p.clock p.count_is reading));
      courses = courses_further uid p.turns t p.courses is.is;
      answered = (
        cut.rest,
        append-nil (responses uid fresh 0 (p.turns ++ t ∷ []))
            ∙ sym (answered_further uid count p.turns m now account account' p.sent bytes p.answered p.account_is p.valid p.count_is is)
            ∙ ap (λ z. p.sent ++ z) cut.cut ∙ sym (append_assoc p.sent cut.sent cut.rest),
      );
      cause = (subst P p.write_faults cut.rose, inl (record { before = p.turns; turn = t; all = refl; goes_on = p.goes_on }, refl));
      faults = same ∙ p.read_faults;
      fewer = no_more_turns p.turns t count p.count_is more;
    }

-- the refused bytes of a run
abbrev refused_for : {fault : MsgFault} {at : Option ℕ} {count : ℕ} {coming coming' : Option (List ℕ)} → (refuses : Refuses fault at count coming coming') → (rest : List ℕ) → IsMessageFault fault rest → RefusesBytes rest (refusal refuses)
refused_for refuses rest cause = record { cause = cause; local = refuses.local; answered = refuses.answered }

-- the bytes behind the messages were refused, and the refusal was sent
ended_refusing : (uid : ℕ) (at : Option ℕ) (input input' input2 output output' output2 : Meanings) (coming coming' coming2 : Option (List ℕ)) (kept : KeptBytes) (account : Plain) (count : ℕ) (fault : MsgFault) (got : List ℕ)
    → Progress uid at input input' output output' coming coming' kept account count → count < most_messages
    → HasRead got input' input2 → IsMessageFault fault (kept.bytes ++ got) → RisesWith fault input'.read_faults input2.read_faults
    → (refuses : Refuses fault at count coming' coming2) → WasSent (refusal_response (refusal refuses)) output' output2
    → AnswersInput uid at endings.Refused input input2 output output2 coming coming2
ended_refusing uid at input input' input2 output output' output2 coming coming' coming2 kept account count fault got p more read cause rises refuses sent = record {
  taken = p.taken ++ got;
  sent = p.sent ++ refusal_response (refusal refuses);
  turns = p.turns;
  refused = Some (refusal refuses);
  rest = kept.bytes ++ got;
  read = HasRead-append p.taken got input input' input2 p.read read;
  write = HasWritten-append p.sent (refusal_response (refusal refuses)) output output' output2 p.write sent.write;
  split = reads_append p.taken got (map message_in p.turns) kept.bytes p.split;
  clock = clock_further at p.turns count refuses.now coming coming' coming2 p.clock p.count_is refuses.reading;
  courses = p.courses;
  answered = ap (λ z. z ++ refusal_response (refusal refuses)) p.answered;
  cause = (refusal refuses, refl, refused_for refuses (kept.bytes ++ got) cause, p.goes_on);
  faults = (quiet fault refuses.local input'.read_faults input2.read_faults refuses.answered rises ∙ p.read_faults, sent.faults ∙ p.write_faults);
  fewer = fewer_turns p.turns count p.count_is more;
}

-- the bytes behind the messages were refused, and of the refusal only a front was sent
ended_refusing_in_part : (uid : ℕ) (at : Option ℕ) (input input' input2 output output' output2 : Meanings) (coming coming' coming2 : Option (List ℕ)) (kept : KeptBytes) (account : Plain) (count : ℕ) (fault : MsgFault) (got : List ℕ)
    → Progress uid at input input' output output' coming coming' kept account count → count < most_messages
    → HasRead got input' input2 → IsMessageFault fault (kept.bytes ++ got) → RisesWith fault input'.read_faults input2.read_faults
    → (refuses : Refuses fault at count coming' coming2) → WasCut (refusal_response (refusal refuses)) output' output2
    → AnswersInput uid at endings.Output input input2 output output2 coming coming2
ended_refusing_in_part uid at input input' input2 output output' output2 coming coming' coming2 kept account count fault got p more read cause rises refuses cut =
    let P : ℕ → Type 0 = λ n. Rose n output2.write_faults in
    record {
      taken = p.taken ++ got;
      sent = p.sent ++ cut.sent;
      turns = p.turns;
      refused = Some (refusal refuses);
      rest = kept.bytes ++ got;
      read = HasRead-append p.taken got input input' input2 p.read read;
      write = HasWritten-append p.sent cut.sent output output' output2 p.write cut.write;
      split = reads_append p.taken got (map message_in p.turns) kept.bytes p.split;
      clock = clock_further at p.turns count refuses.now coming coming' coming2 p.clock p.count_is refuses.reading;
      courses = p.courses;
      answered = (
        cut.rest,
        ap (λ z. z ++ refusal_response (refusal refuses)) (sym p.answered) ∙ ap (λ z. p.sent ++ z) cut.cut ∙ sym (append_assoc p.sent cut.sent cut.rest),
      );
      cause = (subst P p.write_faults cut.rose, inr (refusal refuses, refl, refused_for refuses (kept.bytes ++ got) cause, p.goes_on));
      faults = quiet fault refuses.local input'.read_faults input2.read_faults refuses.answered rises ∙ p.read_faults;
      fewer = (let few : length p.turns < most_messages = fewer_turns p.turns count p.count_is more in let e : length p.turns ≤ most_messages = omega arith in e);
    }

-- the input ended or failed, or no memory was found for the message
ended_unanswered : (uid : ℕ) (at : Option ℕ) (input input' input2 output output' : Meanings) (coming coming' : Option (List ℕ)) (kept : KeptBytes) (account : Plain) (count : ℕ) (fault : MsgFault) (got : List ℕ)
    → Progress uid at input input' output output' coming coming' kept account count → count < most_messages
    → HasRead got input' input2 → IsMessageFault fault (kept.bytes ++ got) → EndsWith fault input2 → RisesWith fault input'.read_faults input2.read_faults
    → refusal_of fault ≡ None
    → AnswersInput uid at (ending_of fault) input input2 output output' coming coming'
ended_unanswered uid at input input' input2 output output' coming coming' kept account count faults.End got p more read cause ends rises none = record {
  taken = p.taken ++ got;
  sent = p.sent;
  turns = p.turns;
  refused = None;
  rest = kept.bytes ++ got;
  read = HasRead-append p.taken got input input' input2 p.read read;
  write = p.write;
  split = reads_append p.taken got (map message_in p.turns) kept.bytes p.split;
  clock = plain_readings at (map now_in p.turns) coming coming' p.clock;
  courses = p.courses;
  answered = p.answered ∙ sym (append-nil (responses uid fresh 0 p.turns));
  cause = (cause, ends, p.goes_on, refl);
  faults = (rises ∙ p.read_faults, p.write_faults);
  fewer = fewer_turns p.turns count p.count_is more;
}
ended_unanswered uid at input input' input2 output output' coming coming' kept account count faults.Cut got p more read cause ends rises none = record {
  taken = p.taken ++ got;
  sent = p.sent;
  turns = p.turns;
  refused = None;
  rest = kept.bytes ++ got;
  read = HasRead-append p.taken got input input' input2 p.read read;
  write = p.write;
  split = reads_append p.taken got (map message_in p.turns) kept.bytes p.split;
  clock = plain_readings at (map now_in p.turns) coming coming' p.clock;
  courses = p.courses;
  answered = p.answered ∙ sym (append-nil (responses uid fresh 0 p.turns));
  cause = (cause, ends, p.goes_on, refl);
  faults = (rises ∙ p.read_faults, p.write_faults);
  fewer = fewer_turns p.turns count p.count_is more;
}
ended_unanswered uid at input input' input2 output output' coming coming' kept account count faults.ReadFault got p more read cause ends rises none = record {
  taken = p.taken ++ got;
  sent = p.sent;
  turns = p.turns;
  refused = None;
  rest = kept.bytes ++ got;
  read = HasRead-append p.taken got input input' input2 p.read read;
  write = p.write;
  split = reads_append p.taken got (map message_in p.turns) kept.bytes p.split;
  clock = plain_readings at (map now_in p.turns) coming coming' p.clock;
  courses = p.courses;
  answered = p.answered ∙ sym (append-nil (responses uid fresh 0 p.turns));
  cause = (cause, (let P : ℕ → Type 0 = λ n. Rose n input2.read_faults in subst P p.read_faults rises), p.goes_on, refl);
  faults = p.write_faults;
  fewer = fewer_turns p.turns count p.count_is more;
}
ended_unanswered uid at input input' input2 output output' coming coming' kept account count faults.Memory got p more read cause ends rises none = record {
  taken = p.taken ++ got;
  sent = p.sent;
  turns = p.turns;
  refused = None;
  rest = kept.bytes ++ got;
  read = HasRead-append p.taken got input input' input2 p.read read;
  write = p.write;
  split = reads_append p.taken got (map message_in p.turns) kept.bytes p.split;
  clock = plain_readings at (map now_in p.turns) coming coming' p.clock;
  courses = p.courses;
  answered = p.answered ∙ sym (append-nil (responses uid fresh 0 p.turns));
  cause = (p.goes_on, refl);
  faults = (rises ∙ p.read_faults, p.write_faults);
  fewer = fewer_turns p.turns count p.count_is more;
}
ended_unanswered uid at input input' input2 output output' coming coming' kept account count faults.BadHead got p more read cause ends rises none = cc
ended_unanswered uid at input input' input2 output output' coming coming' kept account count faults.HeadTooLong got p more read cause ends rises none = cc
ended_unanswered uid at input input' input2 output output' coming coming' kept account count faults.Coded got p more read cause ends rises none = cc
ended_unanswered uid at input input' input2 output output' coming coming' kept account count faults.BadLength got p more read cause ends rises none = cc
ended_unanswered uid at input input' input2 output output' coming coming' kept account count (faults.TooLarge n) got p more read cause ends rises none = cc

-- nothing was written and read of the clock, and the ending is the fault's
unanswered : (uid : ℕ) (at : Option ℕ) (input input' input2 output output' output2 : Meanings) (coming coming' coming2 : Option (List ℕ)) (kept : KeptBytes) (account : Plain) (count : ℕ) (fault : MsgFault) (got : List ℕ) (ending : Ending)
    → Progress uid at input input' output output' coming coming' kept account count → count < most_messages
    → HasRead got input' input2 → IsMessageFault fault (kept.bytes ++ got) → EndsWith fault input2 → RisesWith fault input'.read_faults input2.read_faults
    → (refusal_of fault ≡ None) × (ending ≡ ending_of fault) × (output2 ≡ output') × (coming2 ≡ coming')
    → AnswersInput uid at ending input input2 output output2 coming coming2
unanswered uid at input input' input2 output output' output2 coming coming' coming2 kept account count fault got ending p more read cause ends rises stops =
    let E : Ending → Type 0 = λ e. AnswersInput uid at e input input2 output output2 coming coming2 in
    let O : Meanings → Type 0 = λ o. AnswersInput uid at (ending_of fault) input input2 output o coming coming2 in
    let C : Option (List ℕ) → Type 0 = λ c. AnswersInput uid at (ending_of fault) input input2 output output' coming c in
    subst E (sym stops.1) (subst O (sym stops.2) (subst C (sym stops.3)
    (ended_unanswered uid at input input' input2 output output' coming coming' kept account count fault got p more read cause ends rises stops.0)))

-- the run stopped as a message was to be read
pub stopped : (uid : ℕ) (at : Option ℕ) (input input' input2 output output' output2 : Meanings) (coming coming' coming2 : Option (List ℕ)) (kept : KeptBytes) (account : Plain) (count : ℕ) (fault : MsgFault) (got : List ℕ) (ending : Ending)
    → Progress uid at input input' output output' coming coming' kept account count → count < most_messages
    → HasRead got input' input2 → IsMessageFault fault (kept.bytes ++ got) → EndsWith fault input2 → RisesWith fault input'.read_faults input2.read_faults
    → Stops ending fault at count output' output2 coming' coming2
    → AnswersInput uid at ending input input2 output output2 coming coming2
stopped uid at input input' input2 output output' output2 coming coming' coming2 kept account count fault got endings.Refused p more read cause ends rises stops =
    ended_refusing uid at input input' input2 output output' output2 coming coming' coming2 kept account count fault got p more read cause rises stops.0 stops.1
stopped uid at input input' input2 output output' output2 coming coming' coming2 kept account count fault got endings.Output p more read cause ends rises stops =
    ended_refusing_in_part uid at input input' input2 output output' output2 coming coming' coming2 kept account count fault got p more read cause rises stops.0 stops.1
stopped uid at input input' input2 output output' output2 coming coming' coming2 kept account count fault got endings.End p more read cause ends rises stops =
    unanswered uid at input input' input2 output output' output2 coming coming' coming2 kept account count fault got endings.End p more read cause ends rises stops
stopped uid at input input' input2 output output' output2 coming coming' coming2 kept account count fault got endings.Asked p more read cause ends rises stops =
    unanswered uid at input input' input2 output output' output2 coming coming' coming2 kept account count fault got endings.Asked p more read cause ends rises stops
stopped uid at input input' input2 output output' output2 coming coming' coming2 kept account count fault got endings.Cut p more read cause ends rises stops =
    unanswered uid at input input' input2 output output' output2 coming coming' coming2 kept account count fault got endings.Cut p more read cause ends rises stops
stopped uid at input input' input2 output output' output2 coming coming' coming2 kept account count fault got endings.Count p more read cause ends rises stops =
    unanswered uid at input input' input2 output output' output2 coming coming' coming2 kept account count fault got endings.Count p more read cause ends rises stops
stopped uid at input input' input2 output output' output2 coming coming' coming2 kept account count fault got endings.Input p more read cause ends rises stops =
    unanswered uid at input input' input2 output output' output2 coming coming' coming2 kept account count fault got endings.Input p more read cause ends rises stops
stopped uid at input input' input2 output output' output2 coming coming' coming2 kept account count fault got endings.Memory p more read cause ends rises stops =
    unanswered uid at input input' input2 output output' output2 coming coming' coming2 kept account count fault got endings.Memory p more read cause ends rises stops
stopped uid at input input' input2 output output' output2 coming coming' coming2 kept account count fault got endings.OtherWords p more read cause ends rises stops =
    unanswered uid at input input' input2 output output' output2 coming coming' coming2 kept account count fault got endings.OtherWords p more read cause ends rises stops

-- as many messages were answered as may be
pub ended_counting : (uid : ℕ) (at : Option ℕ) (input input' output output' : Meanings) (coming coming' : Option (List ℕ)) (kept : KeptBytes) (account : Plain) (count : ℕ)
    → Progress uid at input input' output output' coming coming' kept account count → most_messages ≤ count
    → AnswersInput uid at endings.Count input input' output output' coming coming'
ended_counting uid at input input' output output' coming coming' kept account count p full = record {
  taken = p.taken;
  sent = p.sent;
  turns = p.turns;
  refused = None;
  rest = kept.bytes;
  read = p.read;
  write = p.write;
  split = p.split;
  clock = plain_readings at (map now_in p.turns) coming coming' p.clock;
  courses = p.courses;
  answered = p.answered ∙ sym (append-nil (responses uid fresh 0 p.turns));
  cause = (sym p.count_is ∙ (let most : count ≤ most_messages = p.within in let e : count ≡ most_messages = omega arith in e), p.goes_on, refl);
  faults = (p.read_faults, p.write_faults);
  fewer = tt;
}

-- no memory was found for the run
pub ended_early : (uid : ℕ) (at : Option ℕ) (input output : Meanings) (coming : Option (List ℕ)) → AnswersInput uid at endings.Memory input input output output coming coming
ended_early uid at input output coming = record {
  taken = [];
  sent = [];
  turns = [];
  refused = None;
  rest = [];
  read = HasRead-none input;
  write = HasWritten-none output;
  split = refl;
  clock = refl;
  courses = tt;
  answered = refl;
  cause = (tt, refl);
  faults = (refl, refl);
  fewer = omega arith;
}

-- an account that is the same as a fresh one is it
none-left : {X : Type 0} (xs : List X) → IsReordering [] xs → xs ≡ []
none-left [] r = refl
none-left (x ∷ xs) r = absurd (omega (arith, length-reordered r))

pub fresh-alone : (account : Plain) → SameAccount fresh account → account ≡ fresh
fresh-alone account s = λ i. record {
  rows = none-left account.rows s.rows i;
  collections = none-left account.collections s.collections i;
  store = sym s.store i;
  last_delete = sym s.last_delete i;
  moment = sym s.moment i;
  counter = sym s.counter i;
  batches = none-left account.batches s.batches i;
}

-- an account that nothing was asked of is valid
pub valid_fresh : IsValid fresh
valid_fresh = record {
  places = grind arith;
  names = grind arith;
  limits = record { within = refl };
  items = grind arith;
  times = grind arith;
  store = omega arith;
  moment = omega arith;
  few = omega arith;
  numbers = grind arith;
  batches = grind arith;
}

-- a clock that isn't read twice isn't read
pub unread_further : {X : Type 0} (at : Option ℕ) (first second third : X) → IfSome at (λ (n : ℕ). second ≡ first) → IfSome at (λ (n : ℕ). third ≡ second) → IfSome at (λ (n : ℕ). third ≡ first)
unread_further None first second third a b = tt
unread_further (Some n) first second third a b = b ∙ a

pub unread_at_first : {X : Type 0} (at : Option ℕ) (first : X) → IfSome at (λ (n : ℕ). first ≡ first)
unread_at_first None first = tt
unread_at_first (Some n) first = refl
