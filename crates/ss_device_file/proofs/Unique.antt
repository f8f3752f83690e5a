-- A text has one reading as lines.
use Rattle.std.proofs.Common.{◌≡◌, ◌≢◌, ◌⊎◌, ℕ, ◌+◌, ◌≤◌, Bool, true, false, List, [], ◌∷◌, ◌++◌, length, take, drop}
use Rattle.std.proofs.Common.{codes, decimal, append_assoc, append-nil, refl, sym, ap, ap₂, subst, ◌∙◌, arith, inl, inr}
use Rattle.std.proofs.lemmas.Fmt.{decimal_injective}
use Rattle.std.proofs.lemmas.List.{append_cancel_left, append_cancel_right}
use Rattle.serde_json.specs.Data.{array}
use Rattle.serde_json.specs.Written.{compact_text}
use Rattle.ss_text.specs.Time.{last_stamp}
use Rattle.ss_device.specs.Writing.{item_line}
use Rattle.ss_device_file.specs.declared.lines.Line.{Line}
use Rattle.ss_device_file.specs.declared.lines.Line.TheVariants.{Item}
use Rattle.ss_device_file.specs.declared.lines.ItemLine.{ItemLine}
use Rattle.ss_device_file.specs.Cuts.{NoComma, begins_as_item}
use Rattle.ss_device_file.specs.Lines.{AreLines, ComeAfter, IsItemLine, IsLine, NoneComes, line_text, may_come}
use Rattle.ss_device_file.specs.Lines.{record_in, text_of}
use Rattle.ss_device_file.specs.Records.{item_from}
use Rattle.ss_device_file.specs.Values.{is_item, parts_of}
use Rattle.ss_device_file.proofs.Bodies.{line_body}
use Rattle.ss_device_file.proofs.Recorded.{time_nocomma, written_read}
use Rattle.ss_device_file.proofs.Sliced.{cut_is}
use Rattle.ss_device_file.proofs.Tags.{begins_is, of_item, some_length, value_said}
use Rattle.ss_device_file.proofs.Written.{json_line}
use Rattle.ss_record.proofs.OneLine.{cut}
use Rattle.ss_text.proofs.Basics.{some_same}

-- ---- a line has one text, and a text one line

-- the pieces of an item's line
pieces_same : (d e t u : List ℕ) → NoComma d → NoComma e → d ++ 44 ∷ [] ++ t ++ 93 ∷ 10 ∷ [] ≡ e ++ 44 ∷ [] ++ u ++ 93 ∷ 10 ∷ [] → (d ≡ e) × (t ≡ u)
pieces_same d e t u nd ne is =
    let a = cut_is d t (e ++ 44 ∷ [] ++ u ++ 93 ∷ 10 ∷ []) nd is in
    let b = cut_is e u (e ++ 44 ∷ [] ++ u ++ 93 ∷ 10 ∷ []) ne refl in
    let long : length d ≡ length e = some_same (sym a.at ∙ b.at) in (
      sym a.front ∙ (ap (λ n. take n (e ++ 44 ∷ [] ++ u ++ 93 ∷ 10 ∷ [])) long ∙ b.front),
      append_cancel_right t u (93 ∷ 10 ∷ []) (sym a.rest ∙ (ap (λ n. drop (n + 1) (e ++ 44 ∷ [] ++ u ++ 93 ∷ 10 ∷ [])) long ∙ b.rest)),
    )

item_shape : (front d t : List ℕ) → front ++ d ++ 44 ∷ [] ++ t ++ 93 ∷ 10 ∷ [] ≡ front ++ (d ++ 44 ∷ [] ++ t ++ 93 ∷ 10 ∷ [])
item_shape front d t = simp append_assoc

item_same : (i j : ItemLine) → IsItemLine i → IsItemLine j → item_line i.time (record_in i) ≡ item_line j.time (record_in j) → i ≡ j
unfolding item_line
item_same i j h k is =
    let front : List ℕ = codes "[\"item\"," in
    let p = pieces_same (decimal i.time) (decimal j.time) (record_in i) (record_in j) (time_nocomma i.time h.time) (time_nocomma j.time k.time)
    (append_cancel_left front _ _ (sym (item_shape front (decimal i.time) (record_in i)) ∙ (is ∙ item_shape front (decimal j.time) (record_in j)))) in
    let a : i.time ≤ last_stamp = h.time in
    let b : j.time ≤ last_stamp = k.time in
    let time : i.time ≡ j.time = decimal_injective i.time j.time (omega arith) (omega arith) p.0 in
    some_same (sym (written_read i h) ∙ (ap₂ item_from time p.1 ∙ written_read j k))

text_same : (l m : Line) → IsLine l → IsLine m → line_text l ≡ line_text m → l ≡ m
text_same l m h k is = go (is_item l) refl
  where
    kind : is_item l ≡ is_item m
    kind = sym (begins_is l) ∙ (ap begins_as_item is ∙ begins_is m)

    go : (b : Bool) → is_item l ≡ b → l ≡ m
    go true e =
        let i = of_item l e in
        let j = of_item m (sym kind ∙ e) in
        let hi : IsLine (Item i.0) = subst IsLine i.1 h in
        let kj : IsLine (Item j.0) = subst IsLine j.1 k in
        i.1 ∙ (ap Item (item_same i.0 j.0 hi.form kj.form (ap line_text (sym i.1) ∙ (is ∙ ap line_text j.1))) ∙ sym j.1)
    go false e =
        let body : List ℕ = compact_text (array (parts_of l)) in
        let a = value_said l h e body 10 (json_line l h.form e) in
        let b = value_said m k (sym kind ∙ e) body 10 (sym is ∙ json_line l h.form e) in
        some_same (sym a.0 ∙ b.0)

-- of two texts that begin with a line the line is the same where the texts are
pub front_same : (l m : Line) → IsLine l → IsLine m → (a b : List ℕ) → line_text l ++ a ≡ line_text m ++ b → (l ≡ m) × (a ≡ b)
front_same l m h k a b is =
    let p = line_body l h.form in
    let q = line_body m k.form in
    let both : p.body ++ 10 ∷ a ≡ q.body ++ 10 ∷ b =
    sym (append_assoc p.body (10 ∷ []) a) ∙ (ap (λ t. t ++ a) (sym p.text_is) ∙ (is ∙ (ap (λ t. t ++ b) q.text_is ∙ append_assoc q.body (10 ∷ []) b))) in
    let r = cut p.body q.body a b p.one q.one both in
    (text_same l m h k (p.text_is ∙ (ap (λ t. t ++ 10 ∷ []) r.0 ∙ sym q.text_is)), r.1)

-- ---- of two readings one goes on from the other

abbrev pub Each : List Line → Type 0
Each [] = Unit {0}
Each (l ∷ ls) = IsLine l × Each ls

each_after : (front ls : List Line) → ComeAfter front ls → Each ls
each_after front [] h = tt
each_after front (l ∷ ls) h = (h.1, each_after (front ++ l ∷ []) ls h.2)

pub each_line : (ls : List Line) → AreLines ls → Each ls
unfolding AreLines
each_line ls h = each_after [] ls h

pub record LinesGoOn (ls ms : List Line) (a b : List ℕ) : Type 0 where
  pub more : List Line
  pub lines_are : ms ≡ ls ++ more
  pub text_is : a ≡ text_of more ++ b

pub meet : (ls ms : List Line) (a b : List ℕ) → Each ls → Each ms → text_of ls ++ a ≡ text_of ms ++ b → LinesGoOn ls ms a b ⊎ LinesGoOn ms ls b a
meet [] ms a b h k is = inl (record { more = ms; lines_are = refl; text_is = is })
meet (l ∷ ls) [] a b h k is = inr (record { more = l ∷ ls; lines_are = refl; text_is = sym is })
meet (l ∷ ls) (m ∷ ms) a b h k is =
    let r = front_same l m h.0 k.0 (text_of ls ++ a) (text_of ms ++ b) (sym (append_assoc (line_text l) (text_of ls) a) ∙ (is ∙ append_assoc (line_text m) (text_of ms) b)) in
    elim (meet ls ms a b h.1 k.1 r.1) [
      | inl g ↦ inl (record { more = g.more; lines_are = ap₂ (λ x xs. x ∷ xs) (sym r.0) g.lines_are; text_is = g.text_is })
      | inr g ↦ inr (record { more = g.more; lines_are = ap₂ (λ x xs. x ∷ xs) r.0 g.lines_are; text_is = g.text_is })
    ]

-- what comes behind a front
come_split : (front ls : List Line) (l : Line) (ms : List Line) → ComeAfter front (ls ++ l ∷ ms) → (may_come (front ++ ls) l ≡ true) × IsLine l
come_split front [] l ms h = (ap (λ f. may_come f l) (append-nil front) ∙ h.0, h.1)
come_split front (x ∷ ls) l ms h =
    let r = come_split (front ++ x ∷ []) ls l ms h.2 in
    (ap (λ f. may_come f l) (sym (append_assoc front (x ∷ []) ls)) ∙ r.0, r.1)

pub next_of : (ls : List Line) (l : Line) (ms : List Line) → AreLines (ls ++ l ∷ ms) → (may_come ls l ≡ true) × IsLine l
unfolding AreLines
next_of ls l ms h = come_split [] ls l ms h

-- where none may come that the text goes on with, the lines go on no further
pub no_further : (ls ms : List Line) (a b : List ℕ) → NoneComes ls a → AreLines ms → LinesGoOn ls ms a b → (ls ≡ ms) × (a ≡ b)
no_further ls ms a b none h g = go g.more g.lines_are g.text_is
  where
    go : (more : List Line) → ms ≡ ls ++ more → a ≡ text_of more ++ b → (ls ≡ ms) × (a ≡ b)
    go [] e t = (sym (append-nil ls) ∙ sym e, t)
    go (l ∷ more) e t =
        let n = next_of ls l more (subst AreLines e h) in
        absurd (none l (text_of more ++ b) n.0 n.1 (t ∙ append_assoc (line_text l) (text_of more) b))

-- text to the end is gone with no further line
pub no_more : (ls ms : List Line) → LinesGoOn ls ms [] [] → ls ≡ ms
no_more ls ms g = go g.more g.lines_are g.text_is
  where
    go : (more : List Line) → ms ≡ ls ++ more → [] ≡ text_of more ++ [] → ls ≡ ms
    go [] e t = sym (append-nil ls) ∙ sym e
    go (l ∷ more) e t = absurd (front_nil (line_text l) (text_of more ++ []) (t ∙ append_assoc (line_text l) (text_of more) []) (some_length l))
      where
        front_nil : (xs ys : List ℕ) → [] ≡ xs ++ ys → xs ≢ [] → ⊥
        front_nil [] ys q ne = ne refl
        front_nil (x ∷ xs) ys q ne = cc
