use Rattle.std.proofs.Common.{◌≡◌, ◌∙◌, ◌-◌, ◌==◌, ap, ap₂, sym, map, length, arith}
use Rattle.std.proofs.lemmas.List.{append-nil, take_all}
use Rattle.ss_record.specs.Ids.{roots}
use Rattle.ss_build.specs.Places.{lists_as_told}
use Rattle.ss_build.proofs.Taking.{front_more, told_more, item_at, front_all}
use Rattle.ss_build.proofs.siblings.take_front.Goals as goal

pub loop-folder-init : goal.loop-folder-init
loop-folder-init c = record { names_are = c.requires.roots ∙ sym (append-nil roots); is_taken = c.requires.taken; told = c.requires.none }

pub loop-folder-preserved : goal.loop-folder-preserved
loop-folder-preserved c =
    let f = front_more c.args.claims.now c.loop-folder.order.items c.take_listed.new.order.items c.loop-folder.folder c.requires.items c.loop-folder-test.true c.loop-folder.invariant.names_are c.in_ok-take_listed.ensures.names in
    let n : c.len.result ≡ length c.take_listed.new.order.items = omega arith in
    let m : c.len-before.result ≡ length c.loop-folder.order.items = omega arith in
    record {
      names_are = f.1;
      is_taken = c.in_ok-take_listed.ensures.taken;
      told = c.in_ok-push.ensures.items
          ∙ told_more c.args.claims.now c.loop-folder.as_told.items c.loop-folder.order.items c.take_listed.new.order.items c.loop-folder.folder _ (length c.as_slice.result.now) c.loop-folder-test.true
          (ap length (c.as_slice.ensures ∙ ap (λ e. e.children) (sym c.index-claims-folder.is ∙ item_at c.args.claims.now c.loop-folder.folder c.index-claims-folder.result c.loop-folder-test.true c.index-claims-folder.is)))
          f.0 (ap₂ (λ a b. (a - b) == length c.as_slice.result.now) n m) c.loop-folder.invariant.told;
    }

pub returns : goal.returns
returns c = record {
  names = front_all c.args.claims.now c.loop-folder.order.items c.loop-folder.folder c.loop-folder-test.false c.loop-folder.invariant.names_are;
  taken = c.loop-folder.invariant.is_taken;
  as_told = c.loop-folder.invariant.told ∙ ap (map (lists_as_told c.args.claims.now)) (take_all c.loop-folder.folder c.args.claims.now c.loop-folder-test.false);
}
