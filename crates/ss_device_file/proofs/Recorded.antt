-- What a record that is written for an item says.
use Rattle.std.proofs.Common.{◌≡◌, ◌≢◌, ℕ, Bool, true, false, not, cond, ◌&&◌, ◌||◌, leb, ne_eqb, decimal, List, []}
use Rattle.std.proofs.Common.{◌∷◌, Option, Some, None, option_map, option_and_then, unwrap_or, codes, bytes_eq, ◌≤◌}
use Rattle.std.proofs.Common.{refl, sym, ap, ap₂, subst, ◌∙◌, arith}
use Rattle.std.specs.List.{list_all}
use Rattle.std.proofs.lemmas.Bool.{and_parts, false≢true, leb-true}
use Rattle.serde_json.specs.Data.{Data, Members, object}
use Rattle.serde_json.specs.Find.{as_object, get_member}
use Rattle.ss_text.specs.Names.{is_id}
use Rattle.ss_text.specs.Time.{last_stamp}
use Rattle.std.specs.Char.{is_ascii_digit}
use Rattle.ss_device.specs.Writing.{item_line}
use Rattle.ss_device_file.specs.declared.cuts.ItemCut.{ItemCut}
use Rattle.ss_device_file.specs.Cuts.{NoComma, digits_and_record, item_front, item_pieces}
use Rattle.ss_record.specs.declared.kinds.Kind.{Kind}
use Rattle.ss_record.specs.declared.readings.Reading.{Reading}
use Rattle.ss_record.specs.declared.readings.Reading.TheVariants.{Item, Tombstone, Skipped}
use Rattle.ss_record.specs.Ids.{has, places, roots}
use Rattle.ss_record.specs.Items.{ItemView, names_of, has_content, is_fit}
use Rattle.ss_record.specs.Kinds.{is_folder, kind_of}
use Rattle.ss_record.specs.Marks.{string_of, plain_text}
use Rattle.ss_record.specs.Payloads.{is_string, is_true, without}
use Rattle.ss_record.specs.Records.{parentid_of, children_of, item_of, members_reading, reading}
use Rattle.ss_record.proofs.Exact.{payload_parts, item_parts, members_parts, reading_parts}
use Rattle.ss_record.proofs.Fit.{fit_reads_back, read_is_content, differ}
use Rattle.ss_record.proofs.OfId.{reading_is_read}
use Rattle.ss_device_file.specs.declared.lines.ItemLine.{ItemLine}
use Rattle.ss_device_file.specs.Lines.{IsItemLine, record_in}
use Rattle.ss_device_file.specs.Records.{all_ids, id_told, in_place, item_from, item_line_of, read_item, record_id}
use Rattle.ss_device_file.specs.Records.{record_parts}
use Rattle.ss_text.specs.Names.{id_of}
use Rattle.ss_text.proofs.Basics.{same_text, and_then_some, map_some}
use Rattle.ss_text.proofs.StampTexts.{decimal_digits}

-- ---- reading says the item, its parent and its children

pub record_back : (i : ItemLine) → IsItemLine i → reading i.item.id (record_in i) ≡ Item i.item (Some i.parent) i.children
unfolding record_in
record_back i h =
    fit_reads_back i.item h.fit (differ i.item.id places h.inner) i.parent i.children
    ∙ ap (λ cs. Item i.item (Some i.parent) cs) (go (is_folder i.item.kind) refl)
  where
    go : (b : Bool) → is_folder i.item.kind ≡ b → cond b i.children [] ≡ i.children
    go true q = refl
    go false q = sym (h.leaf q)

-- the children of what is no folder aren't told
pub leaf_read : (id text : List ℕ) (i : ItemView) (p : Option (List ℕ)) (cs : List (List ℕ)) → reading id text ≡ Item i p cs → is_folder i.kind ≡ false → cs ≡ []
unfolding item_of
leaf_read id text i p cs e leaf =
    let r = reading_parts id text i p cs e in
    let m = members_parts id r.0 i p cs r.2 in
    let k = and_then_some _ (option_and_then kind_of (option_and_then string_of (get_member (codes "type") r.0))) (Item i p cs) m.1 in
    let q = and_then_some _ (parentid_of (get_member (codes "parentid") r.0)) (Item i p cs) k.2 in
    let c = and_then_some _ (children_of (is_folder k.0) (get_member (codes "children") r.0)) (Item i p cs) q.2 in
    go r.0 k.0 q.0 c.0 (has id roots && not (is_folder k.0)) c.1 c.2
  where
    none : (d : Option Data) (found : List (List ℕ)) → children_of false d ≡ Some found → found ≡ []
    none d found f = cc

    go : (ms : Members) (kind : Kind) (p2 : Option (List ℕ)) (c2 : List (List ℕ)) (b : Bool) → children_of (is_folder kind) (get_member (codes "children") ms) ≡ Some c2
        → cond b None (Some (Item (record { id = id; kind = kind; content = plain_text (object (without (names_of kind) ms)) }) p2 c2)) ≡ Some (Item i p cs) → cs ≡ []
    go ms kind p2 c2 true t f = cc
    go ms kind p2 c2 false t f =
        let same : i.kind ≡ kind = cc in
        let told : cs ≡ c2 = cc in
        told ∙ none (get_member (codes "children") ms) c2 (ap (λ b. children_of b (get_member (codes "children") ms)) (sym leaf ∙ ap is_folder same) ∙ t)

-- ---- the id that it says

string_is : (id : List ℕ) (o : Option Data) → is_string id o ≡ true → option_and_then string_of o ≡ Some id
string_is id None h = absurd (false≢true h)
string_is id (Some d) h = go (string_of d) h
  where
    go : (o : Option (List ℕ)) → unwrap_or (option_map (bytes_eq id) o) false ≡ true → o ≡ Some id
    go None q = absurd (false≢true q)
    go (Some s) q = ap Some (sym (same_text id s q))

id_there : (id : List ℕ) (ms : Members) (i : ItemView) (p : Option (List ℕ)) (cs : List (List ℕ)) → members_reading id ms ≡ Item i p cs → is_string id (get_member (codes "id") ms) ≡ true
unfolding members_reading
id_there id ms i p cs e = go (is_string id (get_member (codes "id") ms)) e
  where
    go : (b : Bool) → cond (not b) Skipped (cond (is_true (get_member (codes "deleted") ms)) (cond (has id roots) Skipped Tombstone) (unwrap_or (item_of id ms) Skipped)) ≡ Item i p cs → b ≡ true
    go true f = refl
    go false f = cc

id_said : (id : List ℕ) → is_id id ≡ true → id_of id ≡ Some id
id_said id h = ap (λ b. cond b (Some id) None) h

pub id_back : (id text : List ℕ) (i : ItemView) (p : Option (List ℕ)) (cs : List (List ℕ)) → reading id text ≡ Item i p cs → is_id id ≡ true → record_id text ≡ Some id
unfolding record_id
id_back id text i p cs e h =
    let r = reading_parts id text i p cs e in
    let m = payload_parts text r.0 r.1 in
    ap (λ o. option_and_then id_told (option_and_then as_object o)) m.0
    ∙ (ap (option_and_then id_of) (string_is id (get_member (codes "id") r.0) (id_there id r.0 i p cs r.2)) ∙ id_said id h)

-- ---- ids that are told

pub ids_said : (xs : List (List ℕ)) → list_all is_id xs ≡ true → all_ids xs ≡ Some xs
ids_said [] h = refl
ids_said (x ∷ xs) h = let p = and_parts (is_id x) (list_all is_id xs) h in ap₂ (λ a b. option_and_then (λ y. option_map (λ ys. y ∷ ys) b) a) (id_said x p.0) (ids_said xs p.1)

id_form : (x y : List ℕ) → id_of x ≡ Some y → is_id y ≡ true
id_form x y = go (is_id x) refl
  where
    go : (b : Bool) → is_id x ≡ b → cond b (Some x) None ≡ Some y → is_id y ≡ true
    go true q e = let same : x ≡ y = cc in subst (λ z. is_id z ≡ true) same q
    go false q e = cc

pub ids_form : (xs ys : List (List ℕ)) → all_ids xs ≡ Some ys → list_all is_id ys ≡ true
ids_form [] ys h = let same : [] ≡ ys = cc in subst (λ zs. list_all is_id zs ≡ true) same refl
ids_form (x ∷ xs) ys h =
    let r = and_then_some (λ y. option_map (λ zs. y ∷ zs) (all_ids xs)) (id_of x) ys h in
    let q = map_some (λ zs. r.0 ∷ zs) (all_ids xs) ys r.2 in
    subst (λ zs. list_all is_id zs ≡ true) q.2 (ap₂ (λ a b. a && b) (id_form x r.0 r.1) (ids_form xs q.0 q.1))

-- ---- what is read is in form, and what is written is read

-- the time, the id and the fitness come from the types of the code
pub record IsReadSo (time : ℕ) (text : List ℕ) (i : ItemLine) : Type 0 where
  pub time_is : i.time ≡ time
  pub id : is_id i.item.id ≡ true
  pub inner : bytes_eq i.item.id places ≡ false
  pub parent : is_id i.parent ≡ true
  pub children : list_all is_id i.children ≡ true
  pub leaf : is_folder i.item.kind ≡ false → i.children ≡ []
  pub read : (p : Option (List ℕ)) × (cs : List (List ℕ)) × (reading i.item.id text ≡ Item i.item p cs)

nil_ids : (xs ys : List (List ℕ)) → all_ids xs ≡ Some ys → xs ≡ [] → ys ≡ []
nil_ids xs ys e z = let r : all_ids [] ≡ Some ys = ap all_ids (sym z) ∙ e in cc

pub read_so : (time : ℕ) (text : List ℕ) (i : ItemLine) → item_from time text ≡ Some i → IsReadSo time text i
unfolding item_from in_place record_id
read_so time text i e =
    let r = and_then_some (λ id. read_item time (reading id text)) (record_id text) i e in
    let m = and_then_some id_told (record_parts text) r.0 r.1 in
    let s = and_then_some id_of (option_and_then string_of (get_member (codes "id") m.0)) r.0 m.2 in
    go r.0 (id_form s.0 r.0 s.2) (reading r.0 text) refl r.2
  where
    placed : (id : List ℕ) → is_id id ≡ true → (v : ItemView) (p : List ℕ) (cs : List (List ℕ)) → reading id text ≡ Item v (Some p) cs → (b : Bool) → bytes_eq v.id places ≡ b
        → cond b None (option_and_then (λ q. option_map (λ ds. item_line_of time v q ds) (all_ids cs)) (id_of p)) ≡ Some i → IsReadSo time text i
    placed id h v p cs q true t f = cc
    placed id h v p cs q false t f =
        let a = and_then_some (λ w. option_map (λ ds. item_line_of time v w ds) (all_ids cs)) (id_of p) i f in
        let b = map_some (λ ds. item_line_of time v a.0 ds) (all_ids cs) i a.2 in
        let same : v.id ≡ id = (reading_is_read id text).same v (Some p) cs q in
        subst (IsReadSo time text) b.2 (record {
          time_is = refl;
          id = ap is_id same ∙ h;
          inner = t;
          parent = id_form p a.0 a.1;
          children = ids_form cs b.0 b.1;
          leaf = λ leaf. nil_ids cs b.0 b.1 (leaf_read id text v (Some p) cs q leaf);
          read = (Some p, cs, ap (λ x. reading x text) same ∙ q);
        })

    go : (id : List ℕ) → is_id id ≡ true → (d : Reading) → reading id text ≡ d → read_item time d ≡ Some i → IsReadSo time text i
    go id h (Item v None cs) q f = cc
    go id h (Item v (Some p) cs) q f = placed id h v p cs q (bytes_eq v.id places) refl f
    go id h Tombstone q f = cc
    go id h Skipped q f = cc

pub written_read : (i : ItemLine) → IsItemLine i → item_from i.time (record_in i) ≡ Some i
unfolding item_from in_place
written_read i h =
    ap (option_and_then (λ id. read_item i.time (reading id (record_in i)))) (id_back i.item.id (record_in i) i.item (Some i.parent) i.children (record_back i h) h.id)
    ∙ (ap (read_item i.time) (record_back i h)
    ∙ (ap (λ b. cond b None (option_and_then (λ p. option_map (λ cs. item_line_of i.time i.item p cs) (all_ids i.children)) (id_of i.parent))) h.inner
    ∙ ap₂ (λ a b. option_and_then (λ p. option_map (λ cs. item_line_of i.time i.item p cs) b) a) (id_said i.parent h.parent) (ids_said i.children h.children)))

read_fit : (id text : List ℕ) (i : ItemView) (p : Option (List ℕ)) (cs : List (List ℕ)) → reading id text ≡ Item i p cs → bytes_eq i.id places ≡ false → is_fit i ≡ true
unfolding is_fit
read_fit id text i p cs e inner =
    let r = reading_parts id text i p cs e in
    let m = members_parts id r.0 i p cs r.2 in
    let c = item_parts id r.0 i p cs m.1 in
    let same : i.id ≡ id = (reading_is_read id text).same i p cs e in
    ap (λ b. cond b (is_folder i.kind && bytes_eq i.content (codes "{}")) (has_content i)) inner
    ∙ read_is_content text r.0 i r.1 m.0 c.0 (ap (λ x. not (has x roots) || is_folder i.kind) same ∙ c.1)

pub read_is_line : (time : ℕ) (text : List ℕ) (i : ItemLine) → time ≤ last_stamp → item_from time text ≡ Some i → IsItemLine i
read_is_line time text i h e =
    let s = read_so time text i e in
    record {
      time = subst (λ t. t ≤ last_stamp) (sym s.time_is) h;
      id = s.id;
      fit = read_fit i.item.id text i.item s.read.0 s.read.1 s.read.2 s.inner;
      inner = s.inner;
      parent = s.parent;
      children = s.children;
      leaf = s.leaf;
    }

-- ---- the line of an item, in its pieces

no_comma_digit : (ds : List ℕ) → list_all is_ascii_digit ds ≡ true → NoComma ds
no_comma_digit [] h = refl
no_comma_digit (d ∷ ds) h =
    let p = and_parts (is_ascii_digit d) (list_all is_ascii_digit ds) h in
    let low = leb-true 48 d (and_parts (leb 48 d) (leb d 57) p.0).0 in
    ap₂ (λ a b. a || b) (ne_eqb d 44 (λ e. omega arith)) (no_comma_digit ds p.1)

pub time_nocomma : (time : ℕ) → time ≤ last_stamp → NoComma (decimal time)
time_nocomma time h = no_comma_digit (decimal time) (decimal_digits time (omega arith))

pub item_cut : (o : Option (List ℕ × List ℕ)) (line : List ℕ) → ((digits text : List ℕ) → NoComma digits → item_pieces digits text ≡ line → o ≡ Some (digits, text))
    → (i : ItemLine) → IsItemLine i → item_line i.time (record_in i) ≡ line → o ≡ Some (decimal i.time, record_in i)
unfolding item_line item_pieces item_front
item_cut o line all i h is = all (decimal i.time) (record_in i) (time_nocomma i.time h.time) is

pub record IsOfParts (cut : ItemCut) (i : ItemLine) : Type 0 where
  pub digits : decimal i.time ≡ cut.digits.now
  pub text : cut.text.now ≡ record_in i

pub parts_are : (cut : ItemCut) (i : ItemLine) → option_map digits_and_record (Some cut) ≡ Some (decimal i.time, record_in i) → IsOfParts cut i
parts_are cut i e =
    let q : digits_and_record cut ≡ (decimal i.time, record_in i) = cc in
    record { digits = sym (ap (λ p. p.0) q); text = ap (λ p. p.1) q }
