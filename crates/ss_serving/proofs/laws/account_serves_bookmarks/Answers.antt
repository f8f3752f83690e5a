use Rattle.ss_serving.proofs.Seen.{sheets-apart}
use Rattle.ss_serving.proofs.Keeping.{opens-steady, answers-steady, others-steady, ticks-steady, reopens-steady}
use Rattle.ss_serving.proofs.laws.account_serves_bookmarks.Goals as goal

pub returns-clause-opens : goal.returns-clause-opens
returns-clause-opens c = λ server v s k lasting below. opens-steady server v s k lasting below

pub returns-clause-serves : goal.returns-clause-serves
returns-clause-serves c = λ first before after now ask h ok s. answers-steady before h now ask after ok s

pub returns-clause-others : goal.returns-clause-others
returns-clause-others c = λ first before after now request h e s. others-steady before h now request after e s

pub returns-clause-ticks : goal.returns-clause-ticks
returns-clause-ticks c = λ first before after now h s. ticks-steady before h now after s

pub returns-clause-reopens : goal.returns-clause-reopens
returns-clause-reopens c = λ first before after h s. reopens-steady before h after s

pub returns-clause-apart : goal.returns-clause-apart
returns-clause-apart c = λ first server h. sheets-apart server.account.rows h.good.places
