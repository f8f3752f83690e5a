use Rattle.std.proofs.Common.{◌≡◌, ◌++◌, codes, subst, w32}
use Rattle.std.proofs.lemmas.Int.{to_z-of_z}
use Rattle.std.specs.Fmt.{signed_decimal}
use Rattle.std.specs.Prelude.{OnOk}
use Rattle.ss_route.proofs.Appending.{both_or_err}
use Rattle.ss_route.proofs.texts.put_index.Goals as goal

pub returns : goal.returns
returns c =
    subst (λ index. OnOk c.put_signed.result (c.put_signed.new.out.items ≡ c.args.out.now.items ++ (codes ",\"sortindex\":" ++ signed_decimal index)))
    (to_z-of_z w32 c.args.index c.ranges.index) (both_or_err _ _ _ _ _ _ c.in_ok-put.ensures c.put_signed.ensures)
