use Rattle.ss_dump.proofs.Moved.{same_accounts, same_dump}
use Rattle.ss_dump.proofs.laws.no_order_is_dumped.Goals as goal

pub returns : goal.returns
returns c = record { kept = same_dump; accounts = same_accounts }
