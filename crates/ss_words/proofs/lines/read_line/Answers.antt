use Rattle.std.specs.Prelude.{◌≡◌, ◌+◌, [], map, drop, string_bytes, Some, None}
use Rattle.std.proofs.Common.{sym, ap, ◌∙◌, inl, inr}
use Rattle.ss_words.specs.declared.lines.Place.TheVariants.{Between}
use Rattle.ss_words.specs.Reading.{at, step, read_from, empty_line}
use Rattle.ss_words.proofs.Written.{line_is_written, no_line, next_word, no_more_words, after_step, no_step}
use Rattle.ss_words.proofs.lines.read_line.Goals as goal

pub loop-word-preserved : goal.loop-word-preserved
loop-word-preserved c =
    let here = next_word (λ word. string_bytes word) c.args.words.now c.loop-word.word-index c.word-item.result c.loop-word-test.true c.word-item.is in
    let rest = drop (c.loop-word.word-index + 1) (map (λ word. string_bytes word) c.args.words.now) in
    let taken : step c.args.name c.loop-word.place c.loop-word.line (string_bytes c.word-item.result) ≡ Some (at c.in-Ok.next c.take.new.self) =
    ap (step c.args.name c.loop-word.place c.loop-word.line) (sym c.as_str.ensures.value) ∙ c.in-Ok.ensures.ok in
    c.loop-word.invariant ∙ ap (read_from c.args.name c.loop-word.place c.loop-word.line) here
    ∙ after_step c.args.name c.loop-word.place c.loop-word.line (string_bytes c.word-item.result) rest (at c.in-Ok.next c.take.new.self) taken

pub returns-in-Err : goal.returns-in-Err
returns-in-Err c =
    let here = next_word (λ word. string_bytes word) c.args.words.now c.loop-word.word-index c.word-item.result c.loop-word-test.true c.word-item.is in
    let rest = drop (c.loop-word.word-index + 1) (map (λ word. string_bytes word) c.args.words.now) in
    record {
      ok = tt;
      refused = λ refused line is. (let stopped : step c.args.name c.loop-word.place c.loop-word.line (string_bytes c.word-item.result) ≡ None =
          ap (step c.args.name c.loop-word.place c.loop-word.line) (sym c.as_str.ensures.value) ∙ c.in-Err.ensures.refused refused in
          no_line c.args.name (map (λ word. string_bytes word) c.args.words.now) line
          (c.loop-word.invariant ∙ ap (read_from c.args.name c.loop-word.place c.loop-word.line) here
          ∙ no_step c.args.name c.loop-word.place c.loop-word.line (string_bytes c.word-item.result) rest stopped)
          is);
    }

pub returns-in-Between : goal.returns-in-Between
returns-in-Between c =
    let over = no_more_words (λ word. string_bytes word) c.args.words.now c.loop-word.word-index c.loop-word-test.false in
    let texts = map (λ word. string_bytes word) c.args.words.now in
    let read : read_from c.args.name Between empty_line texts ≡ Some c.loop-word.line =
    c.loop-word.invariant ∙ ap (read_from c.args.name c.loop-word.place c.loop-word.line) over
    ∙ elim c.in-Between.is [
      | inl between ↦ ap (λ place. read_from c.args.name place c.loop-word.line []) between
      | inr behind ↦ ap (λ place. read_from c.args.name place c.loop-word.line []) behind
    ] in
    record { ok = line_is_written c.args.name texts c.loop-word.line read; refused = tt }

pub returns-clause-refused : goal.returns-clause-refused
returns-clause-refused c = λ refused line is.
    let over = no_more_words (λ word. string_bytes word) c.args.words.now c.loop-word.word-index c.loop-word-test.false in
    no_line c.args.name (map (λ word. string_bytes word) c.args.words.now) line
    (c.loop-word.invariant ∙ ap (read_from c.args.name c.loop-word.place c.loop-word.line) over ∙ ap (λ place. read_from c.args.name place c.loop-word.line []) c.in-Value.is)
    is
