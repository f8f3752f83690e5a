use Rattle.ss_http.proofs.request.push_cond.Goals as goal

pub returns-in-IfModified : goal.returns-in-IfModified
returns-in-IfModified c = rw c.in-IfModified.is c.push_stamp_line.ensures

pub returns-in-IfUnmodified : goal.returns-in-IfUnmodified
returns-in-IfUnmodified c = rw c.in-IfUnmodified.is c.push_stamp_line-in-IfUnmodified.ensures
