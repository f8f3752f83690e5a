use Rattle.std.proofs.Common.{rules, refl, subst, sym, ap, ◌≡◌, length, [], List}
use Rattle.crossbeam_channel.specs.Claims.{view}
use Rattle.ss_serve.specs.Tallies.{tally}
use Rattle.ss_serve.proofs.Giving.{forks}
use Rattle.ss_town.specs.Town.{uids_of, passes_of}
use Rattle.ss_serve.specs.Crew.{Works}
use Rattle.ss_serve.specs.declared.report.LinkReport.{LinkReport}
use Rattle.ss_serve.proofs.Shares.{many, starts_low, fixed_low, fixed_high, works_high}
use Rattle.ss_serve.proofs.crew.recruit.Goals as goal

pub split-requires-clause-many : goal.split-requires-clause-many
split-requires-clause-many g c = λ i lt. many c.args.number _ c.requires.few (c.requires.start i lt)

pub another-theirs_at-requires-clause-rule : goal.another-theirs_at-requires-clause-rule
another-theirs_at-requires-clause-rule g c = let p = c.args.place.now in forks g.L.Told.told p.id (view p) c.requires.parts

pub returns-clause-start : goal.returns-clause-start
returns-clause-start g c = λ i lt. starts_low c.args.number (passes_of c.args.passes.now) (passes_of c.split.new.self) (passes_of c.in-Ok-split.theirs) c.requires.start c.in-Ok-split.ensures.halves i lt

pub returns-clause-fixed : goal.returns-clause-fixed
returns-clause-fixed g c = fixed_low c.args.number (passes_of c.args.passes.now) (passes_of c.split.new.self) (passes_of c.in-Ok-split.theirs) c.requires.start c.in-Ok-split.ensures.halves

pub returns-clause-ready : goal.returns-clause-ready
returns-clause-ready g c =
    let tells = g.L.Told.told in let closed = g.L.Closable.closed in let coming = g.C.Clock.coming in let u = uids_of c.args.town.now in let rs = passes_of c.in-Ok-split.theirs in let now = coming c.args.clock in
    let none = c.in-Ok.ensures.items in
    record {
      worked = record {
        of = c.in-Ok-split.ensures.new;
        works = subst (λ (l : List (LinkReport _)). Works c.args.manner tells closed u c.args.number rs l (coming c.of-start.result.value) now) (sym none)
            (subst (λ x. Works c.args.manner tells closed u c.args.number rs [] (coming x) now) (sym c.of-start.ensures)
            (works_high c.args.number (passes_of c.args.passes.now) (passes_of c.split.new.self) rs c.requires.start c.in-Ok-split.ensures.halves c.args.manner tells closed u now));
      };
      seat = c.another-theirs_at.ensures.channel.2;
      counted = subst (λ (l : List (LinkReport _)). view c.another-theirs_at.result ≡ tally 1 0 (length l)) (sym none) c.another-theirs_at.ensures.rule.1;
    }

pub returns-clause-signed : goal.returns-clause-signed
returns-clause-signed g c = (
  refl,
  search rules,
  ap g.C.Clock.coming c.of-start.ensures,
  fixed_high c.args.number (passes_of c.args.passes.now) (passes_of c.split.new.self) (passes_of c.in-Ok-split.theirs) c.requires.start c.in-Ok-split.ensures.halves,
)
