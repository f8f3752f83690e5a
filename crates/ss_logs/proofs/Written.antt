-- The log of a journal tells this journal.
use Rattle.std.proofs.Common.{◌≡◌, ℕ, ◌∷◌, ◌++◌, [], List, append-nil, refl, sym, ap, ◌∙◌, subst}
use Rattle.std.specs.List.{AllByRecursion}
use Rattle.ss_bso.specs.Changes.{kept_of}
use Rattle.ss_bso.specs.Validity.{SameAccount}
use Rattle.ss_laws.specs.Journal.{Journal}
use Rattle.ss_laws.specs.declared.journal.Entry.{Entry}
use Rattle.ss_query.specs.Fit.{IsFitRequest}
use Rattle.ss_dump.specs.Dumps.{in_order}
use Rattle.ss_dump.proofs.Moved.{dump_in_order, formed_same}
use Rattle.ss_dump.proofs.Orders.{in_order_again, same_in_order}
use Rattle.ss_log_lines.specs.LogLines.{IsCall, IsEntry, log_line_text}
use Rattle.ss_log_lines.specs.declared.lines.LogLine.TheVariants.{Log, Account}
use Rattle.ss_lines.specs.declared.lines.Line.TheVariants.{End}
use Rattle.ss_logs.specs.declared.faults.LogFault.{LogFault}
use Rattle.ss_logs.specs.declared.faults.LogFault.TheVariants.{Memory}
use Rattle.ss_logs.specs.Logs.{AreLogs, HasJournalForm, IsLog, IsWhyNoLogs, call_lines, log_of, log_text, text_of}
use Rattle.ss_logs.proofs.ToTheEnd.{not_refused, one_text}

-- one text, whatever the order of the opening's lists
text_in_order : (journal : Journal) → log_text journal ≡ log_text (log_of journal)
unfolding log_text
text_in_order journal =
    ap (λ t. log_line_text (Log journal.opening.moment journal.most) ++ (t ++ (text_of (call_lines journal) ++ log_line_text (Account End)))) (dump_in_order (kept_of journal.opening))

is_log : (journal : Journal) → HasJournalForm journal → IsLog (log_of journal)
is_log journal h = record {
  moment = h.moment;
  most = h.most;
  opening = record {
    formed = formed_same (kept_of journal.opening) (in_order (kept_of journal.opening)) (same_in_order (kept_of journal.opening)) h.opening;
    ordered = in_order_again (kept_of journal.opening);
  };
  entries = h.entries;
}

pub told : (journal : Journal) → HasJournalForm journal → AreLogs (log_text journal) (log_of journal ∷ [])
told journal h = record { are = (is_log journal h, tt); text_is = text_in_order journal ∙ sym (append-nil (log_text (log_of journal))) }

pub told_one : (journal : Journal) (logs : List Journal) → HasJournalForm journal → AreLogs (log_text journal) logs → logs ≡ log_of journal ∷ []
told_one journal logs h are = one_text (log_text journal) logs (log_of journal ∷ []) are (told journal h)

-- what is read from the text of a journal
pub read_again : (journal : Journal) (text : List ℕ) (logs : List Journal) → HasJournalForm journal → text ≡ log_text journal → AreLogs text logs → logs ≡ log_of journal ∷ []
read_again journal text logs h e are = told_one journal logs h (subst (λ t. AreLogs t logs) e are)

pub refused_again : (journal : Journal) (text : List ℕ) (fault : LogFault) → HasJournalForm journal → text ≡ log_text journal → IsWhyNoLogs text fault → fault ≡ Memory
refused_again journal text fault h e r = not_refused (log_text journal) (log_of journal ∷ []) fault (told journal h) (subst (λ t. IsWhyNoLogs t fault) e r)

pub same_opening : (journal : Journal) → SameAccount journal.opening (log_of journal).opening
same_opening journal =
    let s = same_in_order (kept_of journal.opening) in
    record { rows = s.rows; collections = s.collections; batches = s.batches; store = refl; last_delete = refl; moment = refl; counter = refl }

-- entries whose requests are within the limits of one
pub calls_formed : (es : List Entry) → AllByRecursion IsEntry es → AllByRecursion (λ e. IsFitRequest e.request) es → AllByRecursion IsCall es
calls_formed [] h k = tt
calls_formed (e ∷ es) h k = (record { entry = h.0; fit = k.0 }, calls_formed es h.1 k.1)
