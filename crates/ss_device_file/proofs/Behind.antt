-- Text behind the end of a file.
use Rattle.std.proofs.Common.{◌≡◌, ◌≢◌, ℕ, ◌+◌, ◌-◌, ◌≤◌, true, false, List, ◌++◌, length, drop, Option, Some, None}
use Rattle.std.proofs.Common.{refl, sym, ap, ◌∙◌, arith, length-drop}
use Rattle.std.proofs.lemmas.Bool.{and_parts, false≢true}
use Rattle.std.proofs.lemmas.List.{take-append-drop}
use Rattle.ss_device_file.specs.declared.lines.Line.{Line}
use Rattle.ss_device_file.specs.declared.lines.Line.TheVariants.{Head, Synced, Row, Item, Dead, End}
use Rattle.ss_device_file.specs.declared.front.Front.{Front}
use Rattle.ss_device_file.specs.Lines.{NoneComes, follows, is_end, is_ended, last_of, may_come, suits, version_in}
use Rattle.ss_device_file.specs.Files.{IsBadLine, IsFront}

none_follows : (o : Option Line) (l : Line) → is_end o ≡ true → follows o l ≡ false
none_follows None l e = absurd (false≢true e)
none_follows (Some (Head v)) l e = absurd (false≢true e)
none_follows (Some (Synced t)) l e = absurd (false≢true e)
none_follows (Some (Row r)) l e = absurd (false≢true e)
none_follows (Some (Item i)) l e = absurd (false≢true e)
none_follows (Some (Dead x t)) l e = absurd (false≢true e)
none_follows (Some End) (Head v) e = refl
none_follows (Some End) (Synced t) e = refl
none_follows (Some End) (Row r) e = refl
none_follows (Some End) (Item i) e = refl
none_follows (Some End) (Dead x t) e = refl
none_follows (Some End) End e = refl

pub none_behind : (ls : List Line) (rest : List ℕ) → is_ended ls ≡ true → NoneComes ls rest
unfolding may_come
none_behind ls rest e l back may line is = false≢true (sym (none_follows (last_of ls) l e) ∙ (and_parts (follows (last_of ls) l) (suits (version_in ls) l) may).0)

pub bad_behind : (text : List ℕ) (f : Front) (n : ℕ) → IsFront text f → f.used ≢ length text → n ≡ length f.lines.items → IsBadLine text (n + 1)
bad_behind text f n front more number = record {
  lines = f.lines.items;
  rest = drop f.used text;
  are = front.lines;
  text_is = sym (take-append-drop f.used text) ∙ ap (λ t. t ++ drop f.used text) front.text_is;
  none = none_behind f.lines.items (drop f.used text) front.ended;
  more = λ e nil. let l : length text - f.used ≡ 0 = sym (length-drop f.used text) ∙ ap length nil in let i : f.used ≤ length text = front.inside in more (omega arith);
  number = ap (λ k. k + 1) number;
}
