-- A step of an account over a keeper, as one of an account with what its keeper tells (this project).
use Rattle.std.specs.Prelude.{ℕ, Option, IfSome}
use Rattle.ss_bso.specs.declared.account.Plain.{Plain}
use Rattle.ss_bso.specs.declared.changes.Kept.{Kept}
use Rattle.ss_query.specs.declared.replies.Mark.{Mark}
use Rattle.ss_query.specs.declared.replies.Mark.TheVariants.{Done, Keeper, Memory}
use Rattle.ss_query.specs.declared.requests.Request.{Request}
use Rattle.ss_serving.specs.Bookmarks.{Server}
use Rattle.ss_serving.specs.Steps.{Answers, Ticks}

-- an account, with what its keeper tells
abbrev pub server : Plain → Kept → Server
server account kept = record { account = account; kept = kept }

-- a request that is done is answered; one that isn't, for want of memory or since the keeper failed, is a reading of the clock
abbrev pub IsStep : Mark → Server → ℕ → Request → Server → Type 0
IsStep Done before now request after = Answers before now request after
IsStep Keeper before now request after = Ticks before now after
IsStep Memory before now request after = Ticks before now after

-- the same, where the keeper tells what it holds, before and after
abbrev pub IsStepBy : Mark → Option Kept → Plain → ℕ → Request → Option Kept → Plain → Type 0
IsStepBy mark told before now request told' after = IfSome told (λ kept. IfSome told' (λ kept'. IsStep mark (server before kept) now request (server after kept')))
