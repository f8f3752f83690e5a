use Rattle.std.proofs.Common.{◌≡◌, List, [], ℕ, Option, Some, true, sym, ◌∙◌, ap, subst}
use Rattle.std.specs.Prelude.{if◌then◌else◌}
use Rattle.std.specs.Option.{option_map_or}
use Rattle.ss_http.specs.Responses.{memory_response}
use Rattle.ss_route.specs.declared.routed.Local.{Local}
use Rattle.ss_route.specs.Wire.{local_wire, refusal_of}
use Rattle.ss_route.specs.Ready.{WasSent, WasCut, bytes_of}
use Rattle.ss_run_answer.specs.Turns.{InputRefusal, refusal_response}
use Rattle.ss_text.specs.Time.{clamped_reading}
use Rattle.ss_run_answer.proofs.answer.stop.Goals as goal

-- the refusal of a fault that is answered by this local reply
refusal_is : (refused : InputRefusal) (local : Local) (bytes : List ℕ) → refusal_of refused.fault ≡ Some local
    → bytes ≡ (if refused.rendered then local_wire local (clamped_reading refused.now) true else memory_response (clamped_reading refused.now) true) → bytes ≡ refusal_response refused
refusal_is refused local bytes answered is =
    is ∙ ap (λ (o : Option Local). if refused.rendered then option_map_or (λ local. local_wire local (clamped_reading refused.now) true) o [] else memory_response (clamped_reading refused.now) true) (sym answered)

pub returns-in-Ok-clause-stops : goal.returns-in-Ok-clause-stops
returns-in-Ok-clause-stops g c =
    let answered : refusal_of c.args.fault ≡ Some c.in-Some.local = sym c.refused.ensures ∙ c.in-Some.is in
    let now = c.reading-now.result in
    let rendered = c.to_local.ensures.rendered in
    let W : List ℕ → Type 0 = λ bytes. WasSent bytes (g.T.Told.told c.args.output.now) (g.T.Told.told c.write.new.output) in (
      record { now = now; rendered = rendered; local = c.in-Some.local; answered = answered; reading = c.reading-now.ensures.reading },
      subst W (refusal_is (record { fault = c.args.fault; now = now; rendered = rendered }) c.in-Some.local (bytes_of c.to_local.result) answered c.to_local.ensures.are) c.in-Ok.ensures.sent,
    )

pub returns-clause-stops : goal.returns-clause-stops
returns-clause-stops g c =
    let answered : refusal_of c.args.fault ≡ Some c.in-Some.local = sym c.refused.ensures ∙ c.in-Some.is in
    let now = c.reading-now.result in
    let rendered = c.to_local.ensures.rendered in
    let W : List ℕ → Type 0 = λ bytes. WasCut bytes (g.T.Told.told c.args.output.now) (g.T.Told.told c.write.new.output) in (
      record { now = now; rendered = rendered; local = c.in-Some.local; answered = answered; reading = c.reading-now.ensures.reading },
      subst W (refusal_is (record { fault = c.args.fault; now = now; rendered = rendered }) c.in-Some.local (bytes_of c.to_local.result) answered c.to_local.ensures.are) c.in-Err.ensures.cut,
    )
