-- The lines of remote rows, and of the rows of a device's file.
use Rattle.std.proofs.Common.{◌≡◌, ◌≢◌, ℕ, ◌+◌, ◌==◌, List, [], ◌∷◌, ◌++◌, length, take, Option, Some, None, codes}
use Rattle.std.proofs.Common.{position, append_assoc, refl, sym, ap, ap₂, subst, ◌∙◌, length-append, option_and_then}
use Rattle.std.proofs.lemmas.List.{append_cancel_left, append_cancel_right}
use Rattle.std.proofs.Math.Seq.{take-append_seam}
use Rattle.ss_text.specs.Time.{stamp_text}
use Rattle.ss_record.specs.declared.readings.Sheet.{Sheet}
use Rattle.ss_device.specs.Writing.{quoted_string, row_line}
use Rattle.ss_device_file.specs.declared.lines.Line.{Line}
use Rattle.ss_device_file.specs.declared.lines.Line.TheVariants.{Head, Synced, Row, Item, Dead, End}
use Rattle.ss_device_file.specs.Files.{row_in}
use Rattle.ss_device_file.proofs.Bodies.{HasBody, break_at, line_body}
use Rattle.ss_run_edit.specs.Remotes.{IsRow, remote_line}
use Rattle.ss_record.proofs.OneLine.{NoLine, noline_by, noline_append}

-- a line behind its tag, without its line break, and with it
abbrev inner : Sheet → List ℕ
inner r = stamp_text r.modified ++ codes "\"," ++ quoted_string r.id ++ codes "," ++ quoted_string r.payload ++ codes "]"

abbrev tail : Sheet → List ℕ
tail r = stamp_text r.modified ++ codes "\"," ++ quoted_string r.id ++ codes "," ++ quoted_string r.payload ++ codes "]\n"

tail_is : (r : Sheet) → tail r ≡ inner r ++ 10 ∷ []
tail_is r = sym (append_assoc (stamp_text r.modified ++ codes "\"," ++ quoted_string r.id ++ codes "," ++ quoted_string r.payload) (93 ∷ []) (10 ∷ []))

remote_is : (r : Sheet) → remote_line r ≡ codes "[\"remote\",\"" ++ tail r
unfolding remote_line
remote_is r = refl

row_is : (r : Sheet) → row_line r ≡ codes "[\"row\",\"" ++ tail r
unfolding row_line
row_is r = refl

-- ---- a remote line has one line break, at its end

row_body : (r : Sheet) (body : List ℕ) → row_line r ≡ body ++ 10 ∷ [] → codes "[\"row\",\"" ++ inner r ≡ body
row_body r body is = append_cancel_right (codes "[\"row\",\"" ++ inner r) body (10 ∷ []) (ap (λ t. codes "[\"row\",\"" ++ t) (sym (tail_is r)) ∙ (sym (row_is r) ∙ is))

pub remote_body : (r : Sheet) → IsRow r → HasBody (remote_line r)
remote_body r is =
    let b = line_body (Row r) is.form in
    let h : NoLine (codes "[\"row\",\"" ++ inner r) = subst NoLine (sym (row_body r b.body b.text_is)) b.one in
    record {
      body = codes "[\"remote\",\"" ++ inner r;
      text_is = remote_is r ∙ ap (λ t. codes "[\"remote\",\"" ++ t) (tail_is r);
      one = noline_append (codes "[\"remote\",\"") (inner r) (noline_by (codes "[\"remote\",\"") refl) h.1.1.1.1.1.1.1.1;
    }

-- a text that goes on with a line has its first line break at that line's end
pub goes_on_with : (text : List ℕ) → HasBody text → (rest back : List ℕ) → rest ≡ text ++ back → (k : ℕ) × (Some k ≡ position (λ b. b == 10) rest) × (take (k + 1) rest ≡ text)
goes_on_with text b rest back is =
    let shape : rest ≡ b.body ++ 10 ∷ back = is ∙ (ap (λ t. t ++ back) b.text_is ∙ append_assoc b.body (10 ∷ []) back) in (
      length b.body,
      sym (ap (position (λ x. x == 10)) shape ∙ break_at b.body back b.one),
      let n : length (b.body ++ 10 ∷ []) ≡ length b.body + 1 = length-append b.body (10 ∷ []) in
          ap₂ take (sym n) (is ∙ ap (λ t. t ++ back) b.text_is) ∙ (take-append_seam (b.body ++ 10 ∷ []) back ∙ sym b.text_is),
    )

-- ---- reading one

-- a row of a device's file, with the tag of a remote row
pub remote_of_row : (r : Sheet) (back line : List ℕ) → row_line r ≡ codes "[\"row\",\"" ++ back → line ≡ codes "[\"remote\",\"" ++ back → remote_line r ≡ line
remote_of_row r back line row is =
    let same : tail r ≡ back = append_cancel_left (codes "[\"row\",\"") (tail r) back (sym (row_is r) ∙ row) in
    remote_is r ∙ (ap (λ t. codes "[\"remote\",\"" ++ t) same ∙ sym is)

pub row_of_remote : (r : Sheet) (back line : List ℕ) → remote_line r ≡ line → line ≡ codes "[\"remote\",\"" ++ back → row_line r ≡ codes "[\"row\",\"" ++ back
row_of_remote r back line remote is =
    let same : tail r ≡ back = append_cancel_left (codes "[\"remote\",\"") (tail r) back (sym (remote_is r) ∙ (remote ∙ is)) in
    row_is r ∙ ap (λ t. codes "[\"row\",\"" ++ t) same

pub not_remote : (r : Sheet) (line : List ℕ) → ((back : List ℕ) → line ≢ codes "[\"remote\",\"" ++ back) → remote_line r ≡ line → ⊥
not_remote r line none is = none (tail r) (sym is ∙ remote_is r)

-- what a line says as a row
pub row_said : (o : Option Line) (r : Sheet) → option_and_then row_in o ≡ Some r → o ≡ Some (Row r)
row_said (Some (Row q)) r e = cc
row_said (Some (Head v)) r e = cc
row_said (Some (Synced t)) r e = cc
row_said (Some (Item i)) r e = cc
row_said (Some (Dead x t)) r e = cc
row_said (Some End) r e = cc
row_said None r e = cc
