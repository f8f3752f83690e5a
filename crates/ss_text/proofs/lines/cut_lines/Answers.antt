use Rattle.std.proofs.Common.{◌≡◌, ℕ, ◌+◌, ◌<◌, List, [], ◌∷◌, ◌++◌, length, take, map, get_or, sym, ap₂, ◌∙◌, arith}
use Rattle.std.proofs.lemmas.List.{map_more, take-map}
use Rattle.ss_text.proofs.lines.cut_lines.Goals as goal

one_more : {X Y : Type 0} (f : X → Y) (xs : List X) (i : ℕ) (d : X) (y : Y) (out new : List Y)
    → i < length xs → y ≡ f (get_or xs i d) → out ≡ take i (map f xs) → new ≡ out ++ y ∷ [] → new ≡ take (i + 1) (map f xs)
one_more f xs i d y out new within is gone pushed =
    pushed ∙ ap₂ (λ l z. l ++ z ∷ []) (gone ∙ take-map f i xs) is ∙ sym (map_more f xs i d within) ∙ sym (take-map f (i + 1) xs)

pub loop-line-preserved : goal.loop-line-preserved
loop-line-preserved c =
    one_more (λ line. line.now) c.deref-line-items.result.now c.loop-line.line-index _ c.in_ok-from_slice.field-0 c.loop-line.cut.items c.push.new.self.items
    (omega arith) c.in_ok-from_slice.ensures c.loop-line.invariant c.in_ok-push.ensures.items
