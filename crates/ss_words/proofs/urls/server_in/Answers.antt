use Rattle.ss_words.proofs.Hosts.{hosted}
use Rattle.ss_words.proofs.urls.server_in.Goals as goal

pub returns-in_ok-copied-in-Some-uid_in_path-clause-host : goal.returns-in_ok-copied-in-Some-uid_in_path-clause-host
returns-in_ok-copied-in-Some-uid_in_path-clause-host c =
    hosted c.args.url.now c.in-Some.host.now _ c.path.ensures.valid c.in-Some.ensures c.in_ok-copied-in-Some-uid_in_path.ensures c.if-host-gt-LONGEST_HOST.false
