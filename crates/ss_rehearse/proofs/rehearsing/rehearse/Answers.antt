use Rattle.std.specs.Prelude.{[], ◌∷◌, ◌++◌}
use Rattle.ss_rehearse.specs.Scripts.{filling, meeting, parting}
use Rattle.ss_rehearse.proofs.Playing.{played_on, summary_ends}
use Rattle.ss_rehearse.proofs.rehearsing.rehearse.Goals as goal

pub returns : goal.returns
returns c = record {
  summary =
      let w = c.in_ok-world.world in
      let end = c.meet.new.world in
      let t1 = c.in_ok-filled.filled.next in
      let t2 = c.in_ok-parted.parted in
      let t3 = c.in_ok-met.met.next in
      let first = c.in_ok-filled.filled.first ∷ c.in_ok-filled.filled.second ∷ [] in
      let last = c.in_ok-met.met.first ∷ c.in_ok-met.met.second ∷ c.in_ok-met.met.third ∷ [] in
      let played =
      played_on w c.fill.new.world end 100 t1 t3 (filling c.args.items c.args.seed) (parting c.args.items ++ meeting) first last c.in_ok-filled.ensures.played
      (played_on c.fill.new.world c.part.new.world end t1 t2 t3 (parting c.args.items) meeting [] last c.in_ok-parted.ensures.played c.in_ok-met.ensures.played) in
      summary_ends c.args.items c.args.seed w end (first ++ last) t3 c.told_summary.result (λ t. t.items) c.in_ok-world.ensures.fresh c.in_ok-world.ensures.reached played c.told_summary.ensures;
}
