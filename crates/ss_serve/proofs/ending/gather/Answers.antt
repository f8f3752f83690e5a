use Rattle.std.proofs.Common.{rules, refl, subst, sym, ap, ◌∙◌, ◌∷◌, [], ◌≡◌, arith, length, length-append, reverse}
use Rattle.std.proofs.lemmas.List.{reverse-append}
use Rattle.ss_town.specs.Town.{uids_of, desks_of, passes_of}
use Rattle.ss_serve.specs.Crew.{Works, count_reports}
use Rattle.ss_serve.specs.Gathering.{IsGathering}
use Rattle.ss_serve.proofs.Gatherings.{gather_first, gather_next, place_of, count_end}
use Rattle.ss_serve.proofs.ending.gather.Goals as goal

pub loop-worker-init : goal.loop-worker-init
loop-worker-init g c = record {
  of = c.requires.of;
  gathered = gather_first (length (uids_of c.args.town.now)) (passes_of c.args.passes.now) c.args.crew.items c.args.reports.now.items (reverse c.args.clocks.now.items) c.requires.none.0 (ap reverse c.requires.none.1) c.requires.whole;
  room = (let e : length c.args.reports.now.items ≡ 0 = ap length c.requires.none.0 in omega (arith, e, c.requires.room));
  clocks = (let e : length c.args.clocks.now.items ≡ 0 = ap length c.requires.none.1 in omega (arith, e, c.requires.clocks));
  kept = refl;
}

pub back-requires-clause-other : goal.back-requires-clause-other
back-requires-clause-other g c = let rest = c.pop.new.self.items in let x = c.in-Some.worker in let n = length (uids_of c.args.town.now) in let ps = passes_of c.args.passes.now in let l = c.loop-worker in
    let h = subst (λ ws. IsGathering n ps c.args.crew.items ws (passes_of l.passes) l.reports.items (reverse l.clocks.items)) c.in-Some.ensures.items l.invariant.gathered in
    (c.requires.crew.each (length rest) x (place_of n ps (passes_of l.passes) c.args.crew.items rest x l.reports.items (reverse l.clocks.items) h)).0.of

pub move_all-requires : goal.move_all-requires
move_all-requires g c = let rest = c.pop.new.self.items in let x = c.in-Some.worker in
    let e = ap count_reports c.in-Some.ensures.items ∙ count_end rest x in
    omega (arith, e, c.loop-worker.invariant.room)

pub loop-worker-preserved : goal.loop-worker-preserved
loop-worker-preserved g c = let rest = c.pop.new.self.items in let x = c.in-Some.worker in let town = c.args.town.now in let n = length (uids_of town) in let ps = passes_of c.args.passes.now in let l = c.loop-worker in
    let tells = g.L.Told.told in let closed = g.L.Closable.closed in let coming = g.C.Clock.coming in
    let h = subst (λ ws. IsGathering n ps c.args.crew.items ws (passes_of l.passes) l.reports.items (reverse l.clocks.items)) c.in-Some.ensures.items l.invariant.gathered in
    let k = c.requires.crew.each (length rest) x (place_of n ps (passes_of l.passes) c.args.crew.items rest x l.reports.items (reverse l.clocks.items) h) in
    let e = ap count_reports c.in-Some.ensures.items ∙ count_end rest x in
    let works = subst (λ m. Works x.manner tells closed (uids_of town) m (passes_of x.passes) x.reports.items (coming x.start.value) (coming x.clock)) k.1 k.0.works in
    let q : length (uids_of town) ≡ length (desks_of town) = omega (arith, town.alike, town.uids.ok.0, town.desks.ok.0) in
    let turned : reverse c.push_reserved.new.self.items ≡ x.clock ∷ reverse l.clocks.items = ap reverse c.push_reserved.ensures.items ∙ reverse-append l.clocks.items (x.clock ∷ []) in
    record {
      of = c.back.ensures.of;
      gathered = gather_next x.manner tells closed (uids_of town) n ps (passes_of l.passes) (passes_of c.back.new.into) c.args.crew.items rest x l.reports.items c.move_all.new.into.items (reverse l.clocks.items) (reverse c.push_reserved.new.self.items)
          (coming x.start.value) (coming x.clock) h works (q ∙ sym k.0.of.0) c.back.ensures.joined c.move_all.ensures.items turned;
      room = omega (arith, e, l.invariant.room, ap length c.move_all.ensures.items, length-append l.reports.items x.reports.items, c.move_all.ensures.room);
      clocks = search rules;
      kept = search rules;
    }
