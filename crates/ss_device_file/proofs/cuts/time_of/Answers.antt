use Rattle.ss_device_file.proofs.Numbers.{time_is, no_time}
use Rattle.ss_device_file.proofs.cuts.time_of.Goals as goal

pub returns-in-Some-clause-all : goal.returns-in-Some-clause-all
returns-in-Some-clause-all c = λ time h is. time_is c.new.result c.in-Some.time time _ c.new.ensures c.in-Some.ensures.value h is

pub returns-in-None-clause-all : goal.returns-in-None-clause-all
returns-in-None-clause-all c = λ time h is. absurd (no_time time _ c.in-None.ensures.value h is)
