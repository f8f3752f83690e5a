-- What a write makes of the rows that are shown.
use Rattle.std.specs.Prelude.{◌≡◌, ◌⊎◌, ◌+◌, ◌*◌, ℕ, true, false, not, ◌&&◌, cond, List, [], ◌∷◌, map, filter_map, fold}
use Rattle.std.specs.Prelude.{Option, Some, None, option_map, bytes_eq, refl}
use Rattle.std.proofs.Common.{sym, ap, subst, ◌∙◌, inl, inr}
use Rattle.ss_record.specs.declared.readings.Sheet.{Sheet}
use Rattle.ss_record.specs.Ids.{Apart as IdsApart}
use Rattle.ss_bso.specs.declared.rows.Row.{Row}
use Rattle.ss_bso.specs.declared.parts.Part.{Part}
use Rattle.ss_bso.specs.Account.{is_at, row_at}
use Rattle.ss_bso.specs.Lists.{Each, Pairs, Apart}
use Rattle.ss_bso.specs.Put.{field_value, row_after_put}
use Rattle.ss_bso.specs.Write.{ids_of, is_among, parts_of, put_all, rows_without, rows_written}
use Rattle.ss_bso.proofs.Lists.{Each-any, Each-append, Each-filter, Each-filter_map, Each-find}
use Rattle.ss_laws.proofs.Reading.{write_law}
use Rattle.ss_laws.proofs.Written.{made, places-written, row_at-named}
use Rattle.ss_route.specs.Sending.{IsUpload}
use Rattle.ss_plan.specs.Written.{AreRowsAfter, sheet_after, sheet_put}
use Rattle.ss_serving.specs.Bookmarks.{bookmarks, sheet_of, sheets_of}
use Rattle.ss_serving.specs.Good.{Lasts}
use Rattle.ss_serving.proofs.Seen.{sheet-shown, sheets-apart}
use Rattle.ss_text.proofs.Basics.{bytes_eq-same}

sheet-put : (stamp : ℕ) (old : Option Row) (part : Part) → sheet_of (row_after_put old bookmarks part stamp) ≡ sheet_put stamp (option_map sheet_of old) part
unfolding sheet_put
sheet-put stamp None part = refl
sheet-put stamp (Some row) part = refl

sheet-put_all : (stamp : ℕ) (parts : List Part) (old : Option Row) → option_map sheet_of (put_all bookmarks parts stamp old) ≡ fold (λ row part. Some (sheet_put stamp row part)) (option_map sheet_of old) parts
sheet-put_all stamp [] old = refl
sheet-put_all stamp (part ∷ parts) old =
    sheet-put_all stamp parts (Some (row_after_put old bookmarks part stamp)) ∙ ap (λ s. fold (λ row p. Some (sheet_put stamp row p)) (Some s) parts) (sheet-put stamp old part)

-- the rows that are shown after a write are those that the parts leave
pub written : (rows : List Row) → Pairs Apart rows → (parts : List Part) (stamp : ℕ) → AreRowsAfter (sheets_of rows) parts stamp (sheets_of (rows_written bookmarks parts stamp rows))
unfolding sheet_after
written rows places parts stamp = record {
  apart = sheets-apart (rows_written bookmarks parts stamp rows) (places-written bookmarks parts stamp rows places);
  each = λ x.
      sheet-shown (rows_written bookmarks parts stamp rows) (places-written bookmarks parts stamp rows places) x
      ∙ (ap (option_map sheet_of) ((write_law bookmarks parts stamp rows).here x)
      ∙ (sheet-put_all stamp (parts_of x parts) (row_at bookmarks x rows)
      ∙ ap (λ o. fold (λ row part. Some (sheet_put stamp row part)) o (parts_of x parts)) (sym (sheet-shown rows places x))));
}

-- without parts nothing changes
pub nothing_written : (sheets : List Sheet) (stamp : ℕ) → IdsApart (map (λ s. s.id) sheets) → AreRowsAfter sheets [] stamp sheets
unfolding sheet_after
nothing_written sheets stamp apart = record { apart = apart; each = λ x. refl }

-- a row after parts is the old one, or has their stamp
aged : (stamp : ℕ) (parts : List Part) (old : Option Sheet) (s : Sheet) → fold (λ row part. Some (sheet_put stamp row part)) old parts ≡ Some s → (old ≡ Some s) ⊎ (s.modified ≡ stamp)
unfolding sheet_put
aged stamp [] old s e = inl e
aged stamp (part ∷ parts) old s e = elim (aged stamp parts (Some (sheet_put stamp old part)) s e) [
  | inl same ↦ inr (stamped (sheet_put stamp old part) refl same)
  | inr new ↦ inr new
]
  where
    stamped : (new : Sheet) → new.modified ≡ stamp → Some new ≡ Some s → s.modified ≡ stamp
    stamped new is same = let eq : new ≡ s = cc in sym (ap (λ (r : Sheet). r.modified) eq) ∙ is

pub after-aged : (stamp : ℕ) (parts : List Part) (x : List ℕ) (old : Option Sheet) (s : Sheet) → sheet_after stamp parts x old ≡ Some s → (old ≡ Some s) ⊎ (s.modified ≡ stamp)
unfolding sheet_after
after-aged stamp parts x old s e = aged stamp (parts_of x parts) old s e

-- ---- no expiry comes

abbrev LastsIn : Option Row → Type 0
LastsIn None = Unit {0}
LastsIn (Some row) = row.expires ≡ None

put-lasts : (stamp : ℕ) (part : Part) (old : Option Row) → IsUpload part → LastsIn old → LastsIn (Some (row_after_put old bookmarks part stamp))
put-lasts stamp part None up h = ap (λ f. field_value f None None (λ seconds. Some (stamp + 100 * seconds))) up.ttl
put-lasts stamp part (Some row) up h = ap (λ f. field_value f row.expires None (λ seconds. Some (stamp + 100 * seconds))) up.ttl ∙ h

put_all-lasts : (stamp : ℕ) (x : List ℕ) (parts : List Part) (old : Option Row) → Each IsUpload parts → LastsIn old → LastsIn (put_all bookmarks (parts_of x parts) stamp old)
put_all-lasts stamp x [] old ups h = h
put_all-lasts stamp x (part ∷ parts) old ups h =
    elim (bytes_eq part.id x) as (λ v. LastsIn (put_all bookmarks (cond v (part ∷ parts_of x parts) (parts_of x parts)) stamp old)) [
      | true ↦ put_all-lasts stamp x parts (Some (row_after_put old bookmarks part stamp)) ups.1 (put-lasts stamp part old ups.0 h)
      | false ↦ put_all-lasts stamp x parts old ups.1 h
    ]

found-lasts : (rows : List Row) (id : List ℕ) (o : Option Row) → row_at bookmarks id rows ≡ o → Each Lasts rows → LastsIn o
found-lasts rows id None e all = tt
found-lasts rows id (Some row) e all = Each-find Lasts (is_at bookmarks id) rows row e all (bytes_eq-same row.collection bookmarks (row_at-named bookmarks id rows row e).named)

pub lasting-written : (rows : List Row) (parts : List Part) (stamp : ℕ) → Each IsUpload parts → Each Lasts rows → Each Lasts (rows_written bookmarks parts stamp rows)
lasting-written rows parts stamp ups all =
    Each-append Lasts (rows_without bookmarks (ids_of parts) rows) (filter_map (made bookmarks parts stamp rows) (ids_of parts))
    (Each-filter Lasts (λ row. not (bytes_eq row.collection bookmarks && is_among (ids_of parts) row.id)) rows all)
    (Each-filter_map (λ (id : List ℕ). Unit {0}) Lasts (made bookmarks parts stamp rows)
    (λ id row _ e here. subst LastsIn e (put_all-lasts stamp id parts (row_at bookmarks id rows) ups (found-lasts rows id (row_at bookmarks id rows) refl all))) (ids_of parts) (Each-any (ids_of parts)))
