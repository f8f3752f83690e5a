use Rattle.std.proofs.Common.{codes, option_and_then, sym, ap, ap₂, ◌∙◌, arith}
use Rattle.httparse.specs.Spans.{span_bytes}
use Rattle.ss_text.specs.Time.{stamp_of}
use Rattle.ss_http.specs.Fields.{first_named, ends}
use Rattle.ss_http.specs.Hearing.{size_of, coded, unsized}
use Rattle.ss_http.proofs.AnswerLemmas.{parsed_answers, none_there, some_there}
use Rattle.ss_http.proofs.answer.answer_of.Goals as goal

pub returns-then-is_some : goal.returns-then-is_some
returns-then-is_some c =
    let h = c.requires.found in (
      tt,
      coded (record {
        head = h.0;
        begins = parsed_answers c.args.buf.now c.args.headers.now c.args.spans h.0 h.1 c.requires.room c.requires.count;
        coded = some_there (span_bytes c.args.buf.now) c.find.result _ _ (c.find.ensures.value ∙ ap (first_named (codes "Transfer-Encoding")) h.1.fields) c.is_some.ensures c.if-is_some.true;
      }),
    )

pub returns-in-None : goal.returns-in-None
returns-in-None c =
    let h = c.requires.found in (
      tt,
      unsized (record {
        head = h.0;
        begins = parsed_answers c.args.buf.now c.args.headers.now c.args.spans h.0 h.1 c.requires.room c.requires.count;
        plain = ap (first_named (codes "Transfer-Encoding")) (sym h.1.fields) ∙ none_there (span_bytes c.args.buf.now) c.find.result _ _ c.find.ensures.value c.is_some.ensures c.if-is_some.false;
        sizeless = ap₂ size_of (sym h.1.code) (sym h.1.fields) ∙ sym c.size_in.ensures ∙ c.in-None.is;
      }),
    )

pub returns-then-size-gt-HEARD_ROOM : goal.returns-then-size-gt-HEARD_ROOM
returns-then-size-gt-HEARD_ROOM c =
    let h = c.requires.found in (
      tt,
      record {
        head = h.0;
        begins = parsed_answers c.args.buf.now c.args.headers.now c.args.spans h.0 h.1 c.requires.room c.requires.count;
        sized = record {
          plain = ap (first_named (codes "Transfer-Encoding")) (sym h.1.fields) ∙ none_there (span_bytes c.args.buf.now) c.find.result _ _ c.find.ensures.value c.is_some.ensures c.if-is_some.false;
          size = ap₂ size_of (sym h.1.code) (sym h.1.fields) ∙ sym c.size_in.ensures ∙ c.in-Some.is;
        };
        above = omega arith;
      },
    )

pub returns : goal.returns
returns c =
    let h = c.requires.found in
    record {
      tree = h.0;
      begins = parsed_answers c.args.buf.now c.args.headers.now c.args.spans h.0 h.1 c.requires.room c.requires.count;
      sized = record {
        plain = ap (first_named (codes "Transfer-Encoding")) (sym h.1.fields) ∙ none_there (span_bytes c.args.buf.now) c.find.result _ _ c.find.ensures.value c.is_some.ensures c.if-is_some.false;
        size = ap₂ size_of (sym h.1.code) (sym h.1.fields) ∙ sym c.size_in.ensures ∙ c.in-Some.is;
      };
      limit = omega arith;
      status = h.1.code;
      modified = c.modified_in.ensures ∙ ap (λ v. option_and_then stamp_of (first_named (codes "X-Last-Modified") v)) h.1.fields;
      next = c.in_ok-next_in.ensures ∙ ap (first_named (codes "X-Weave-Next-Offset")) h.1.fields;
      last = c.ends.ensures ∙ ap₂ ends h.1.version h.1.fields;
    }
