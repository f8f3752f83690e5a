-- The device's file at the front of a text.
use Rattle.std.proofs.Common.{◌≡◌, ◌≢◌, ℕ, ◌+◌, ◌-◌, ◌<◌, List, [], ◌++◌, length, drop, sym, ap, ◌∙◌, arith}
use Rattle.std.proofs.Common.{length-drop}
use Rattle.std.proofs.lemmas.List.{take-append-drop}
use Rattle.ss_device_file.specs.declared.front.Front.{Front}
use Rattle.ss_device_file.specs.Files.{IsFront}
use Rattle.ss_run_edit.specs.Files.{BeginsWith, IsExcess}

pub begins : (text : List ℕ) (f : Front) → IsFront text f → BeginsWith text f.lines.items (drop f.used text)
begins text f front = record {
  are = front.lines;
  ended = front.ended;
  text_is = sym (take-append-drop f.used text) ∙ ap (λ t. t ++ drop f.used text) front.text_is;
}

pub some_behind : (text : List ℕ) (used : ℕ) → used < length text → drop used text ≢ []
some_behind text used less nil = let l : length text - used ≡ 0 = sym (length-drop used text) ∙ ap length nil in absurd (omega arith)

pub excess : (text : List ℕ) (f : Front) (n : ℕ) → IsFront text f → f.used < length text → n ≡ length f.lines.items → IsExcess text (n + 1)
excess text f n front less number = record {
  lines = f.lines.items;
  back = drop f.used text;
  begins = begins text f front;
  more = some_behind text f.used less;
  number = ap (λ k. k + 1) number;
}
