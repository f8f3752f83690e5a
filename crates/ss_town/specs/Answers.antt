-- What an answer of a town says.
use Rattle.std.specs.Prelude.{◌≡◌, ℕ, List, Option}
use Rattle.ss_desk.specs.declared.pass.RawPass.{RawPass}
use Rattle.ss_desk.specs.declared.journaled.Full.{Full}
use Rattle.ss_desk.specs.Calls.{EntersCall, DeniesCall}
use Rattle.ss_desk.specs.Passes.{view_at, SameOthers}
use Rattle.ss_town.specs.declared.town.Answer.{Answer}
use Rattle.ss_town.specs.declared.town.Answer.TheVariants.{Reply, NoAccount}
use Rattle.ss_town.specs.declared.town.Answer.TheVariants as answer
use Rattle.ss_town.specs.Places.{At}

module _ {T F E A R : Type 0} (ticket_of pass_of : E → ℕ) (ask_of : E → A) (legal : F → List E → Type 0) (replies : F → List E → R → Type 0) (full : F → List E → Option Full) where
  -- A reply, or `Full`, is what the desk of the uid answered, and what the other passes know is as before. `NoAccount` is
  -- said of a uid that is not listed, and nothing changed. So it comes exactly there.
  abbrev pub AnswerSays : List ℕ → List (RawPass T F E) → List (RawPass T F E) → ℕ → A → Answer R → Type 0
  AnswerSays uids ps qs uid ask (Reply t r) = (i : ℕ) × At uids i uid × SameOthers i ps qs × EntersCall ticket_of pass_of ask_of legal replies full (view_at ps i) (view_at qs i) t ask r
  AnswerSays uids ps qs uid ask (answer.Full f) = (i : ℕ) × At uids i uid × SameOthers i ps qs × DeniesCall ticket_of pass_of legal full (view_at ps i) (view_at qs i) f
  AnswerSays uids ps qs uid ask NoAccount = (qs ≡ ps) × ((i : ℕ) → At uids i uid → ⊥)
