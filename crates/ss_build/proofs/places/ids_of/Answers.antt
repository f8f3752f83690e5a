use Rattle.std.proofs.Common.{◌≡◌, ◌∙◌, ap, sym, length, arith}
use Rattle.std.proofs.lemmas.List.{take_all}
use Rattle.ss_build.specs.Built.{ids}
use Rattle.ss_build.proofs.Valid.{length-ids}
use Rattle.ss_build.proofs.Seats.{id_at}
use Rattle.ss_build.proofs.Taking.{item_at}
use Rattle.ss_build.proofs.Kept.{keys_more}
use Rattle.ss_build.proofs.places.ids_of.Goals as goal

pub loop-claim-preserved : goal.loop-claim-preserved
loop-claim-preserved c =
    let n : length (ids c.args.claims.now) ≡ length c.args.claims.now = length-ids c.args.claims.now in
    keys_more (ids c.args.claims.now) c.loop-claim.places.keys c.insert.new.self.keys c.loop-claim.claim-index c.in_ok-word_of.field-0 c.requires (omega arith) c.loop-claim.invariant
    (c.in_ok-word_of.ensures ∙ (c.as_str.ensures.text ∙ (c.id.ensures.id ∙ (ap (λ e. e.item.id) (item_at c.args.claims.now c.loop-claim.claim-index c.claim-item.result c.loop-claim-test.true c.claim-item.is) ∙ sym (id_at c.args.claims.now c.loop-claim.claim-index)))))
    c.in_ok-insert.ensures.keys

pub returns : goal.returns
returns c =
    let n : length (ids c.args.claims.now) ≡ length c.args.claims.now = length-ids c.args.claims.now in
    c.loop-claim.invariant ∙ take_all c.loop-claim.claim-index (ids c.args.claims.now) (omega arith)
