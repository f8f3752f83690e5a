use Rattle.std.proofs.Common.{◌≡◌, ◌≤◌, ◌+◌, ◌*◌, ◌++◌, ◌∷◌, [], sym, ap, ap₂, ◌∙◌, refl, arith}
use Rattle.ss_rehearse.specs.Draws.{drawn_number, drawn_after}
use Rattle.ss_rehearse.specs.Bookmarks.{bookmark, root_of}
use Rattle.ss_world.specs.declared.events.Edit.TheVariants as edit
use Rattle.ss_rehearse.specs.Scripts.{addition, additions}
use Rattle.ss_rehearse.proofs.Changes.{additions_more, change_idle, changed_none, drawn_more, more}
use Rattle.ss_rehearse.proofs.changing.add_all.Goals as goal

pub loop-at-init : goal.loop-at-init
loop-at-init c = record { last = refl; changed = ([], changed_none 0 c.args.now c.args.world.now); early = let z : c.args.now ≤ c.args.now + 100 * 0 = omega arith in z; idle = c.requires.idle }

pub loop-at-preserved : goal.loop-at-preserved
loop-at-preserved c =
    let k = c.loop-at.at + 1 in
    let last : c.drawn_after-drawn.result ≡ drawn_number c.args.seed k = c.drawn_after-drawn.ensures ∙ (ap drawn_after c.loop-at.invariant.last ∙ sym (drawn_more c.args.seed c.loop-at.at)) in
    let new = edit.Add c.in_ok-parent.parent c.in_ok-item.item in
    let is : new ≡ addition c.args.seed k = ap₂ edit.Add (c.in_ok-parent.ensures ∙ ap root_of last) (c.in_ok-item.ensures ∙ ap (bookmark k) last) in
    let low : c.loop-at.next ≤ c.args.now + 100 * c.loop-at.at = c.loop-at.invariant.early in
    record {
      last = last;
      changed = more 0 c.args.now c.args.world.now (additions c.loop-at.at c.args.seed) (additions k c.args.seed) c.loop-at.world c.loop-at.next new c.change.new.world
          (additions_more c.args.seed c.loop-at.at ∙ ap (λ e. additions c.loop-at.at c.args.seed ++ e ∷ []) (sym is)) c.loop-at.invariant.changed c.in_ok-change.ensures;
      early = let z : c.loop-at.next + 100 ≤ c.args.now + 100 * (c.loop-at.at + 1) = omega (arith, low) in z;
      idle = change_idle c.loop-at.world c.change.new.world 0 c.loop-at.next new c.loop-at.invariant.idle c.in_ok-change.ensures;
    }
