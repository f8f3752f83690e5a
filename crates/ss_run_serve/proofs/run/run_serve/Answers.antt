use Rattle.std.specs.Prelude.{ℕ, List, refl, map, string_bytes}
use Rattle.std.proofs.Common.{inl, inr, sym, subst}
use Rattle.ss_words.specs.declared.commands.Command.TheVariants.{Serve}
use Rattle.ss_words.specs.Refused.{AsksNothing}
use Rattle.ss_words.specs.Commands.{Asks}
use Rattle.ss_words.specs.declared.commands.ServeCommand.{ServeCommand}
use Rattle.ss_words.proofs.Asked.{one_command}
use Rattle.ss_site.specs.Sites.{LentParts}
use Rattle.ss_run_serve.specs.Lending.{ListensAsAsked, ListensAt}
use Rattle.ss_run_serve.specs.Serving.{serves, asks_nothing, out_of_memory}
use Rattle.ss_run_serve.proofs.run.run_serve.Goals as goal

pub returns-in-Err-Refused-clause-runs : goal.returns-in-Err-Refused-clause-runs
returns-in-Err-Refused-clause-runs g c =
    asks_nothing (λ command asks. c.in-Err-Refused.ensures.refused (subst AsksNothing (sym c.in-Err-Refused.field-0-is) tt) (Serve command) asks) refl refl

pub returns-clause-runs : goal.returns-clause-runs
returns-clause-runs g c =
    serves c.in-Serve.command c.serve-stop.result (subst (λ command. Asks (map (λ word. string_bytes word) c.args.words.now) command) c.in-Serve.is c.in-Ok.ensures.asks) refl c.serve-stop.ensures.served

pub returns-in_default-clause-runs : goal.returns-in_default-clause-runs
returns-in_default-clause-runs g c =
    asks_nothing (λ command asks. c.in_default.not-Serve command (one_command (map (λ word. string_bytes word) c.args.words.now) c.in-Ok.command (Serve command) c.in-Ok.ensures.asks asks)) refl refl

as_asked : (words : List (List ℕ)) (command : ServeCommand) (old new : LentParts) → Asks words (Serve command) → ListensAt command.address old new → ListensAsAsked words old new
as_asked words command old new asks (inl none) = inl none
as_asked words command old new asks (inr one) = inr (command, asks, one)

pub returns-clause-listens : goal.returns-clause-listens
returns-clause-listens g c =
    as_asked (map (λ word. string_bytes word) c.args.words.now) c.in-Serve.command (g.X.Site.lent c.args.site.now) (g.X.Site.lent c.serve-stop.new.site)
    (subst (λ command. Asks (map (λ word. string_bytes word) c.args.words.now) command) c.in-Serve.is c.in-Ok.ensures.asks) c.serve-stop.ensures.listens

pub returns-in-Err-Refused-clause-listens : goal.returns-in-Err-Refused-clause-listens
returns-in-Err-Refused-clause-listens g c = inl refl

pub returns-in-Err-Memory-clause-listens : goal.returns-in-Err-Memory-clause-listens
returns-in-Err-Memory-clause-listens g c = inl refl

pub returns-in_default-clause-listens : goal.returns-in_default-clause-listens
returns-in_default-clause-listens g c = inl refl

pub returns-clause-opens : goal.returns-clause-opens
returns-clause-opens g c =
    inr (c.in-Serve.command, subst (λ command. Asks (map (λ word. string_bytes word) c.args.words.now) command) c.in-Serve.is c.in-Ok.ensures.asks, c.serve-stop.ensures.opens)

pub returns-in-Err-Refused-clause-opens : goal.returns-in-Err-Refused-clause-opens
returns-in-Err-Refused-clause-opens g c = inl refl

pub returns-in-Err-Memory-clause-opens : goal.returns-in-Err-Memory-clause-opens
returns-in-Err-Memory-clause-opens g c = inl refl

pub returns-in_default-clause-opens : goal.returns-in_default-clause-opens
returns-in_default-clause-opens g c = inl refl
