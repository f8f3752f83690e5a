use Rattle.std.proofs.Common.{◌≡◌, ℕ, List, length, take, drop, ◌+◌, ◌-◌, ap, ◌∙◌, subst}
use Rattle.std.proofs.lemmas.List.{take_rest}
use Rattle.ss_record.specs.declared.readings.Sheet.{Sheet}
use Rattle.ss_run_edit.specs.declared.remotes.Found.{Found}
use Rattle.ss_run_edit.specs.declared.remotes.Found.TheVariants as found
use Rattle.ss_run_edit.specs.Remotes.{IsNextRemote, IsStuckBy}
use Rattle.ss_run_edit.proofs.Rows.{all_read, none_yet, one_more, stops}
use Rattle.ss_run_edit.proofs.remotes.read_remotes.Goals as goal

pub rows-init : goal.rows-init
rows-init c = none_yet c.args.text.now c.new-rows.result.items c.new-rows.ensures.items

found_so : (text : List ℕ) (used : ℕ) (rows told : List Sheet) (f g : Found) → told ≡ rows → f ≡ g → IsNextRemote told (take (length text - used) (drop used text)) f → IsNextRemote rows (drop used text) g
found_so text used rows told f g e q h =
    subst (λ (x : Found). IsNextRemote rows (drop used text) x) q (subst (λ (rs : List Sheet). IsNextRemote rs (drop used text) f) e (subst (λ (t : List ℕ). IsNextRemote told t f) (take_rest text used) h))

pub rows-preserved : goal.rows-preserved
rows-preserved c =
    one_more c.args.text.now c.rows.rows.items c.keep.new.rows.items c.rows.used c.in-Ok-Row.long c.in-Ok-Row.row c.rows.invariant
    (found_so c.args.text.now c.rows.used c.rows.rows.items c.deref.result.now c.in-Ok-Row.field-0 (found.Row c.in-Ok-Row.row c.in-Ok-Row.long) c.deref.ensures.value c.in-Ok-Row.field-0-is c.in-Ok-Row.ensures.found)
    c.in-Ok.ensures

pub returns-in-Ok-End-clause-read : goal.returns-in-Ok-End-clause-read
returns-in-Ok-End-clause-read c =
    all_read c.args.text.now c.rows.rows.items c.rows.used c.in-Ok-End.long c.rows.invariant
    (found_so c.args.text.now c.rows.used c.rows.rows.items c.deref.result.now c.in-Ok-End.field-0 (found.End c.in-Ok-End.long) c.deref.ensures.value c.in-Ok-End.field-0-is c.in-Ok-End.ensures.found)

pub returns-in-Err-clause-stuck : goal.returns-in-Err-clause-stuck
returns-in-Err-clause-stuck c =
    stops c.args.text.now c.rows.rows.items c.rows.used c.args.before (c.args.before + c.len.result + 1) c.in-Err.ending c.rows.invariant (ap (λ k. c.args.before + k + 1) (c.len.ensures ∙ c.rows.rows.ok.0))
    (subst (λ (t : List ℕ). IsStuckBy c.rows.rows.items t (c.args.before + c.len.result + 1) c.in-Err.ending) (take_rest c.args.text.now c.rows.used)
    (subst (λ (rs : List Sheet). IsStuckBy rs (take (length c.args.text.now - c.rows.used) (drop c.rows.used c.args.text.now)) (c.args.before + c.len.result + 1) c.in-Err.ending) c.deref.ensures.value c.in-Err.ensures.stuck))
