use Rattle.std.proofs.Common.{◌≡◌}
use Rattle.ss_links.proofs.tcp_port.TcpPort.next_link.Given as goal

abbrev pub invariant-loop : goal.invariant-loop
invariant-loop g l = l.self ≡ l.initial.self
