use Rattle.std.proofs.Common.{◌∙◌, codes, sym, ap, ap₂, arith}
use Rattle.httparse.specs.Spans.{span_bytes}
use Rattle.ss_http.specs.Fields.{announced, ends, first_named}
use Rattle.ss_http.proofs.HeadLemmas.{parsed_begins}
use Rattle.ss_http.proofs.AnswerLemmas.{none_there, some_there}
use Rattle.ss_http.proofs.head.head_of.Goals as goal

pub returns-then-is_some : goal.returns-then-is_some
returns-then-is_some c =
    let h = c.requires.found in (
      tt,
      record {
        head = h.0;
        begins = parsed_begins c.args.buf.now c.args.headers.now c.args.spans h.0 h.1 c.requires.room c.requires.count;
        coded = some_there (span_bytes c.args.buf.now) c.find.result _ _ (c.find.ensures.value ∙ ap (first_named (codes "Transfer-Encoding")) h.1.fields) c.is_some.ensures c.if-is_some.true;
      },
    )

pub returns-in-None : goal.returns-in-None
returns-in-None c =
    let h = c.requires.found in (
      tt,
      record {
        head = h.0;
        begins = parsed_begins c.args.buf.now c.args.headers.now c.args.spans h.0 h.1 c.requires.room c.requires.count;
        plain = ap (first_named (codes "Transfer-Encoding")) (sym h.1.fields) ∙ none_there (span_bytes c.args.buf.now) c.find.result _ _ c.find.ensures.value c.is_some.ensures c.if-is_some.false;
        unmeasured = ap announced (sym h.1.fields) ∙ sym c.announced.ensures ∙ c.in-None.is;
      },
    )

pub returns-then-body-gt-BODY_ROOM : goal.returns-then-body-gt-BODY_ROOM
returns-then-body-gt-BODY_ROOM c =
    let h = c.requires.found in (
      tt,
      record {
        head = h.0;
        begins = parsed_begins c.args.buf.now c.args.headers.now c.args.spans h.0 h.1 c.requires.room c.requires.count;
        announces = record {
          plain = ap (first_named (codes "Transfer-Encoding")) (sym h.1.fields) ∙ none_there (span_bytes c.args.buf.now) c.find.result _ _ c.find.ensures.value c.is_some.ensures c.if-is_some.false;
          size = ap announced (sym h.1.fields) ∙ sym c.announced.ensures ∙ c.in-Some.is;
        };
        above = omega arith;
      },
    )

pub returns : goal.returns
returns c =
    let h = c.requires.found in
    record {
      tree = h.0;
      begins = parsed_begins c.args.buf.now c.args.headers.now c.args.spans h.0 h.1 c.requires.room c.requires.count;
      announces = record {
        plain = ap (first_named (codes "Transfer-Encoding")) (sym h.1.fields) ∙ none_there (span_bytes c.args.buf.now) c.find.result _ _ c.find.ensures.value c.is_some.ensures c.if-is_some.false;
        size = ap announced (sym h.1.fields) ∙ sym c.announced.ensures ∙ c.in-Some.is;
      };
      limit = omega arith;
      size = h.1.len;
      method = c.in_ok-from_slice.ensures ∙ c.of.ensures ∙ h.1.method;
      target = c.in_ok-from_slice-2.ensures ∙ c.of-2.ensures ∙ h.1.path;
      fields = c.in_ok-fields_at.ensures ∙ h.1.fields;
      last = c.ends.ensures ∙ ap₂ ends h.1.version h.1.fields;
    }
