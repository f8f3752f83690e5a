-- The orders of times, faces, visits and ids.
use Rattle.std.proofs.Common.{◌≡◌, refl, sym}
use Rattle.std.proofs.lemmas.Cmp.{nat_cmp_total, nat_list_cmp_total, on_total, then_total, back_total}
use Rattle.std.proofs.lemmas.Map.Lookups.{exact_unsigned, exact_bytes}
use Rattle.std.specs.Cmp.{IsTotalOrder}
use Rattle.std.specs.declared.cmp.Ordering.{Ordering}
use Rattle.std.specs.declared.cmp.Ordering.TheVariants.{Less, Equal, Greater}
use Rattle.std.specs.Ordering.{nat_cmp, ordering_then}
use Rattle.ss_text.specs.Texts.{text_cmp}
use Rattle.ss_flat.specs.declared.visits.Visit.{Visit}
use Rattle.ss_flat.specs.declared.face.Face.{Face}
use Rattle.ss_flat.specs.States.{face_cmp}
use Rattle.ss_flat.specs.Lists.{visit_cmp}

then_left : (o p : Ordering) → ordering_then o p ≡ Equal → o ≡ Equal
then_left Less p e = e
then_left Equal p e = refl
then_left Greater p e = e

then_right : (o p : Ordering) → ordering_then o p ≡ Equal → p ≡ Equal
then_right Less p e = cc
then_right Equal p e = e
then_right Greater p e = cc

pub face_total : IsTotalOrder face_cmp
face_total =
    then_total (on_total (λ (f : Face). f.time) nat_cmp_total)
    (then_total (on_total (λ (f : Face). f.first) nat_list_cmp_total) (on_total (λ (f : Face). f.second) nat_list_cmp_total))

pub face_exact : (a b : Face) → face_cmp a b ≡ Equal → a ≡ b
face_exact a b e =
    let texts : ordering_then (text_cmp a.first b.first) (text_cmp a.second b.second) ≡ Equal =
    then_right (nat_cmp a.time b.time) (ordering_then (text_cmp a.first b.first) (text_cmp a.second b.second)) e in
    let time : a.time ≡ b.time = exact_unsigned a.time b.time (then_left (nat_cmp a.time b.time) (ordering_then (text_cmp a.first b.first) (text_cmp a.second b.second)) e) in
    let first : a.first ≡ b.first = exact_bytes a.first b.first (then_left (text_cmp a.first b.first) (text_cmp a.second b.second) texts) in
    let second : a.second ≡ b.second = exact_bytes a.second b.second (then_right (text_cmp a.first b.first) (text_cmp a.second b.second) texts) in
    λ i. record { time = time i; first = first i; second = second i }

pub visit_total : IsTotalOrder visit_cmp
visit_total = then_total (on_total (λ (v : Visit). v.date) (back_total nat_cmp_total)) (on_total (λ (v : Visit). v.kind) nat_cmp_total)

pub visit_exact : (v w : Visit) → visit_cmp v w ≡ Equal → v ≡ w
visit_exact v w e =
    let date : v.date ≡ w.date = sym (exact_unsigned w.date v.date (then_left (nat_cmp w.date v.date) (nat_cmp v.kind w.kind) e)) in
    let kind : v.kind ≡ w.kind = exact_unsigned v.kind w.kind (then_right (nat_cmp w.date v.date) (nat_cmp v.kind w.kind) e) in
    λ i. record { date = date i; kind = kind i }
