use Rattle.std.proofs.Common.{ap, sym, ◌∙◌}
use Rattle.ss_outside.specs.Plans.{fault_count}
use Rattle.ss_world.proofs.serving.ask.Goals as goal
use Rattle.ss_account.proofs.Rising.{never-rose}

pub unreachable-requires : goal.unreachable-requires
unreachable-requires c =
    never-rose (ap (λ keeper. fault_count keeper.plan) (sym c.keeper.ensures) ∙ c.never_fails.ensures) (c.step-reply.ensures.cause (sym c.mark.ensures ∙ c.in-Keeper.is))
