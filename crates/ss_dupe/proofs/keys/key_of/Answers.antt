use Rattle.ss_record.proofs.Exact.{no_float}
use Rattle.ss_dupe.proofs.keys.key_of.Goals as goal

pub push_lines-requires : goal.push_lines-requires
push_lines-requires c = no_float c.args.item.now.content _ c.in_ok-members.ensures.members
