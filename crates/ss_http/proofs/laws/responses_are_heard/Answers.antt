use Rattle.ss_http.proofs.AnswerLemmas.{always_heard, heard_once}
use Rattle.ss_http.proofs.Replies.{hears_response}
use Rattle.ss_http.proofs.laws.responses_are_heard.Goals as goal

pub returns-clause-said : goal.returns-clause-said
returns-clause-said c = hears_response

pub returns-clause-once : goal.returns-clause-once
returns-clause-once c = heard_once

pub returns-clause-always : goal.returns-clause-always
returns-clause-always c = always_heard
