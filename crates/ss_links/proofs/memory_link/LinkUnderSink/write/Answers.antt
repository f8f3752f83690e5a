use Rattle.std.proofs.Common.{rules, refl, ap, ◌∙◌}
use Rattle.ss_outside.specs.Plans.{after_call}
use Rattle.ss_links.specs.Links.{Link}
use Rattle.ss_links.proofs.Counting.{write_refused}
use Rattle.ss_links.proofs.memory_link.LinkUnderSink.write.Goals as goal

pub returns-then-fails-clause-bytes : goal.returns-then-fails-clause-bytes
returns-then-fails-clause-bytes g c =
    let is = c.self.view_is in
    write_refused c.args.self.now (record {
      source = c.self.inside.source;
      sink = c.self.inside.sink;
      plan = g.F.Faults.plan c.fails.new.self;
      read_faults = c.self.inside.read_faults;
      write_faults = c.saturating_add-self-inside.result;
      is_closed = c.self.inside.is_closed;
    })
    (ap (λ (l : Link). l.source) is) (ap (λ (l : Link). l.sink) is)
    (c.fails.ensures.after ∙ ap (λ (l : Link). after_call l.plan) is) (ap (λ (l : Link). l.read_faults) is)
