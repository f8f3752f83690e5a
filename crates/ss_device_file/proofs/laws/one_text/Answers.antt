use Rattle.ss_device_file.proofs.Alike.{fresh_is, text_once}
use Rattle.ss_device_file.proofs.laws.one_text.Goals as goal

pub returns : goal.returns
returns c = record { same = text_once; fresh = fresh_is }
