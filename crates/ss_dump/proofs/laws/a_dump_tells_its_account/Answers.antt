use Rattle.ss_dump.proofs.Moved.{dump_of, dump_of_one, opened_same}
use Rattle.ss_dump.proofs.Orders.{same_in_order}
use Rattle.ss_dump.proofs.laws.a_dump_tells_its_account.Goals as goal

pub returns : goal.returns
returns c = record { dump = dump_of; no_other = dump_of_one; same = same_in_order; opened = opened_same }
