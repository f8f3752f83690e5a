use Rattle.std.proofs.Common.{rules}
use Rattle.ss_links.proofs.memory_link.LinkUnder.has_failed.Goals as goal
