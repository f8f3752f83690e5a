-- Why nothing is made of a text that is to be merged.
use Rattle.std.proofs.Common.{◌≡◌, ◌<◌, ℕ, ◌+◌, List, ◌++◌, length, drop, inl, inr, sym, ap, subst, ◌∙◌}
use Rattle.std.proofs.lemmas.List.{take-append-drop}
use Rattle.ss_record.specs.declared.readings.Sheet.{Sheet}
use Rattle.ss_device.specs.Device.{DeviceView}
use Rattle.ss_device_file.specs.declared.front.Front.{Front}
use Rattle.ss_device_file.specs.Files.{IsFront, TellsDevice}
use Rattle.ss_run_edit.specs.declared.endings.Ending.{Ending}
use Rattle.ss_run_edit.specs.declared.endings.Ending.TheVariants as ending
use Rattle.ss_run_edit.specs.Files.{IsUntold}
use Rattle.ss_run_edit.specs.Remotes.{ReadsRemotes, IsStuckAt, Stops}
use Rattle.ss_run_edit.specs.Merging.{HasBadRows, HasExcess, RefusesMerge}
use Rattle.ss_run_edit.proofs.FrontOf.{begins, some_behind}

pub bad_tree : (text : List ℕ) (f : Front) (e : Ending) → IsFront text f → IsUntold f.lines.items e → RefusesMerge text e
bad_tree text f (ending.BadTree id) h u = record { lines = f.lines.items; back = drop f.used text; begins = begins text f h; unseated = u }
bad_tree text f ending.Memory h u = tt
bad_tree text f ending.Done h u = absurd u
bad_tree text f ending.OtherWords h u = absurd u
bad_tree text f ending.Unfit h u = absurd u
bad_tree text f ending.Input h u = absurd u
bad_tree text f ending.Output h u = absurd u
bad_tree text f (ending.Cut n) h u = absurd u
bad_tree text f (ending.BadLine n) h u = absurd u
bad_tree text f (ending.Refused r) h u = absurd u
bad_tree text f ending.TooLong h u = absurd u

stuck_so : (text : List ℕ) (f : Front) (d : DeviceView) (back : List ℕ) (n : ℕ) (e : Ending) → IsFront text f → TellsDevice f.lines.items d → back ≡ drop f.used text → n ≡ length f.lines.items → IsStuckAt back n e → HasBadRows text e
stuck_so text f d back n e h t is count s = record {
  lines = f.lines.items;
  back = drop f.used text;
  device = d;
  begins = begins text f h;
  told = t;
  stuck = subst (λ m. IsStuckAt (drop f.used text) m e) count (subst (λ b. IsStuckAt b n e) is s);
}

pub bad_rows : (text : List ℕ) (f : Front) (d : DeviceView) (back : List ℕ) (n : ℕ) (e : Ending) → IsFront text f → TellsDevice f.lines.items d → back ≡ drop f.used text → n ≡ length f.lines.items → Stops back n e → RefusesMerge text e
bad_rows text f d back n (ending.Cut m) h t is count s = inr (stuck_so text f d back n (ending.Cut m) h t is count s)
bad_rows text f d back n (ending.BadLine m) h t is count s = inr (inl (stuck_so text f d back n (ending.BadLine m) h t is count s))
bad_rows text f d back n ending.Memory h t is count s = tt
bad_rows text f d back n ending.Done h t is count s = absurd s
bad_rows text f d back n ending.OtherWords h t is count s = absurd s
bad_rows text f d back n ending.Unfit h t is count s = absurd s
bad_rows text f d back n ending.Input h t is count s = absurd s
bad_rows text f d back n ending.Output h t is count s = absurd s
bad_rows text f d back n (ending.BadTree id) h t is count s = absurd s
bad_rows text f d back n (ending.Refused r) h t is count s = absurd s
bad_rows text f d back n ending.TooLong h t is count s = absurd s

pub more_behind : (text : List ℕ) (f : Front) (d : DeviceView) (back : List ℕ) (rows : List Sheet) (used n : ℕ) → IsFront text f → TellsDevice f.lines.items d → back ≡ drop f.used text → ReadsRemotes back rows used → used < length back
    → n ≡ length f.lines.items + length rows + 2 → HasExcess text n
more_behind text f d back rows used n h t is r less number = record {
  lines = f.lines.items;
  back = drop f.used text;
  device = d;
  rows = rows;
  rest = drop used back;
  begins = begins text f h;
  told = t;
  rows_are = r.rows_are;
  back_is = sym is ∙ (sym (take-append-drop used back) ∙ ap (λ x. x ++ drop used back) r.text_is);
  more = some_behind back used less;
  number = number;
}
