use Rattle.std.proofs.Common.{◌≡◌, ℕ, List, ◌++◌, codes, decimal, string_bytes, sym, ap, ◌∙◌, subst}
use Rattle.std.proofs.lemmas.Result.{IfOk-weaker}
use Rattle.ss_route.specs.Sending.{IsHost}
use Rattle.ss_run_sync.specs.Naming.{host_named}
use Rattle.ss_run_sync.proofs.HostName.{named_host, named_else}
use Rattle.ss_run_sync.proofs.naming.host_named.Goals as goal

pub returns-else-server-eq-HTTP-clause-name : goal.returns-else-server-eq-HTTP-clause-name
returns-else-server-eq-HTTP-clause-name c =
    IfOk-weaker c.with_port.result _ (λ t. string_bytes t ≡ host_named c.args.server.now)
    (λ t e. e ∙ (ap (λ (h : List ℕ). h ++ (codes ":" ++ decimal c.args.server.now.port)) c.as_str-host.ensures ∙ sym (named_else c.args.server.now c.if-server-eq-HTTP.false))) c.with_port.ensures.text

pub returns-else-server-eq-HTTP-clause-host : goal.returns-else-server-eq-HTTP-clause-host
returns-else-server-eq-HTTP-clause-host c =
    IfOk-weaker c.with_port.result _ (λ t. IsHost (string_bytes t))
    (λ t e. subst IsHost (sym (e ∙ (ap (λ (h : List ℕ). h ++ (codes ":" ++ decimal c.args.server.now.port)) c.as_str-host.ensures ∙ sym (named_else c.args.server.now c.if-server-eq-HTTP.false)))) (named_host c.args.server.now c.requires c.with_port.ensures.port)) c.with_port.ensures.text
