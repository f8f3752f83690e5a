use Rattle.ss_device_file.proofs.Fronts.{front_lines, front_used, not_stopped, stopped_once}
use Rattle.ss_device_file.proofs.laws.one_front.Goals as goal

pub returns : goal.returns
returns c = record { lines = front_lines; used = front_used; unstopped = not_stopped; stopped = stopped_once }
