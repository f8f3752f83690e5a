use Rattle.std.proofs.Common.{rules, subst, sym, ap, ◌∙◌, ◌≡◌, ◌+◌, ◌++◌, ◌∷◌, [], All, map, List, length, arith}
use Rattle.std.specs.Prelude.{reverse}
use Rattle.std.proofs.lemmas.List.{map-append}
use Rattle.crossbeam_channel.specs.Ends.{sends_on}
use Rattle.ss_desk.proofs.Beside.{last_long}
use Rattle.ss_town.specs.Town.{uids_of, desks_of, passes_of}
use Rattle.ss_serve.specs.Crew.{IsReady, Sign, AreWorkerSigns, AreHalvedPasses, count_reports, fixed_at, sign, starts}
use Rattle.ss_serve.proofs.Crews.{all_end, begun_next, long_map, signed_more}
use Rattle.ss_serve.proofs.Gatherings.{count_end}
use Rattle.ss_serve.proofs.Tying.{left_next}
use Rattle.ss_serve.proofs.crew.recruit_all.Goals as goal

pub loop-clock-preserved : goal.loop-clock-preserved
loop-clock-preserved g c =
    let j = c.loop-clock.invariant in let e = c.in-Ok.ensures in let tells = g.L.Told.told in let closed = g.L.Closable.closed in let coming = g.C.Clock.coming in
    let js = c.loop-clock.jobs.items in let w = c.in-Ok.worker in let items = c.push_reserved.ensures.items in let opened = passes_of c.args.passes.now in
    let more : length c.push_reserved.new.self.items ≡ length js + 1 = ap length items ∙ last_long js w in
    let n : c.len.result ≡ length js = search (c.len.ensures, rules) in
    let long : c.len.result + 1 ≡ length c.push_reserved.new.self.items = omega (arith, more, n) in
    let none : length w.reports.items ≡ 0 = ap length e.none in
    let signs : map (sign coming) c.push_reserved.new.self.items ≡ map (sign coming) js ++ sign coming w ∷ [] = ap (map (sign coming)) items ∙ map-append (sign coming) js (w ∷ []) in
    let number : w.number ≡ length (map (sign coming) js) = e.signed.0 ∙ (n ∙ sym (long_map (sign coming) js)) in
    record {
      of = c.recruit.ensures.of;
      left = subst (λ k. AreHalvedPasses k opened (passes_of c.recruit.new.passes)) long
          (left_next (length js) (c.len.result + 1) opened (passes_of c.loop-clock.passes) (passes_of c.recruit.new.passes) j.left c.recruit.ensures.long c.recruit.ensures.fixed e.start);
      seat = c.recruit.ensures.seat;
      parts = omega (arith, more, ap (λ v. v.parts) e.place, j.parts, j.count, c.requires.few, c.in-Some.ensures.len);
      idle = (ap (λ v. v.put) e.place ∙ j.idle.0, ap (λ v. v.taken) e.place ∙ j.idle.1);
      ready = subst (λ ws. All (λ w. IsReady tells closed coming (uids_of c.args.town.now) (desks_of c.args.town.now) (sends_on c.args.sender.now) w) ws) (sym items)
          (all_end (λ w. IsReady tells closed coming (uids_of c.args.town.now) (desks_of c.args.town.now) (sends_on c.args.sender.now) w) js w j.ready e.ready);
      signed = subst (λ (l : List Sign). AreWorkerSigns c.args.connections (fixed_at opened) c.args.manner l) (sym signs)
          (signed_more c.args.connections (fixed_at opened) c.args.manner (map (sign coming) js) (sign coming w) j.signed number e.signed.1 (e.signed.3 ∙ j.left.fixed) e.manner);
      none = ap count_reports items ∙ (count_end js w ∙ (let a = j.none in omega (arith, a, none)));
      begun = ap (λ (l : List Sign). starts l ++ map coming (reverse c.pop.new.self.items)) signs
          ∙ begun_next coming (map (sign coming) js) (sign coming w) c.pop.new.self.items c.loop-clock.clocks.items c.in-Some.clock _ c.in-Some.ensures.items e.signed.2 j.begun;
      count = search rules;
      jobs_room = search rules;
    }
