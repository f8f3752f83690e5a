use Rattle.std.proofs.Common.{◌≡◌, ℕ, List, length, take, drop, ◌-◌, subst}
use Rattle.std.proofs.lemmas.List.{take_rest}
use Rattle.ss_run_flat.specs.declared.files.Found.{Found}
use Rattle.ss_run_flat.specs.declared.files.Found.TheVariants as found
use Rattle.ss_run_flat.specs.Files.{IsNextFound, IsStuckBy}
use Rattle.ss_run_flat.proofs.SeenRows.{all_seen, none_yet, one_more, stops}
use Rattle.ss_run_flat.proofs.files.see_rows.Goals as goal

pub rows-init : goal.rows-init
rows-init c = none_yet c.args.kind c.args.text.now c.new-flat.result c.new-flat.ensures.kind c.new-flat.ensures.none

found_so : (text : List ℕ) (used : ℕ) (f g : Found) → f ≡ g → IsNextFound (take (length text - used) (drop used text)) f → IsNextFound (drop used text) g
found_so text used f g q h = subst (λ (x : Found). IsNextFound (drop used text) x) q (subst (λ (t : List ℕ). IsNextFound t f) (take_rest text used) h)

pub rows-preserved : goal.rows-preserved
rows-preserved c =
    one_more c.args.kind c.args.text.now c.rows.flat c.see.new.flat c.rows.line c.rows.used c.in-Ok-Row.long c.in-Ok-Row.row c.rows.invariant
    (found_so c.args.text.now c.rows.used c.in-Ok-Row.field-0 (found.Row c.in-Ok-Row.row c.in-Ok-Row.long) c.in-Ok-Row.field-0-is c.in-Ok-Row.ensures.found)
    c.in-Ok.ensures.kind c.in-Ok.ensures.seen

pub returns-in-Ok-End-clause-seen : goal.returns-in-Ok-End-clause-seen
returns-in-Ok-End-clause-seen c =
    all_seen c.args.kind c.args.text.now c.rows.flat c.rows.line c.rows.used c.in-Ok-End.long c.rows.invariant
    (found_so c.args.text.now c.rows.used c.in-Ok-End.field-0 (found.End c.in-Ok-End.long) c.in-Ok-End.field-0-is c.in-Ok-End.ensures.found)

pub returns-in-Err-clause-stopped : goal.returns-in-Err-clause-stopped
returns-in-Err-clause-stopped c =
    stops c.args.kind c.args.text.now c.rows.flat c.rows.line c.rows.used c.in-Err.ending c.rows.invariant
    (subst (λ (t : List ℕ). IsStuckBy t c.rows.line c.in-Err.ending) (take_rest c.args.text.now c.rows.used) c.in-Err.ensures.stuck)
