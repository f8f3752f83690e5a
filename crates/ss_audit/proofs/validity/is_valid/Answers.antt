use Rattle.ss_audit.proofs.Lists.{never}
use Rattle.ss_audit.proofs.Valid.{names_not_valid, parts_not, places_not_valid, valid_by_items}
use Rattle.ss_audit.proofs.validity.is_valid.Goals as goal

pub returns-then-not-has_valid_parts : goal.returns-then-not-has_valid_parts
returns-then-not-has_valid_parts c = never (parts_not c.args.account.now c.has_valid_parts.result c.has_valid_parts.ensures c.if-not-has_valid_parts.true)

pub returns-then-not-apart : goal.returns-then-not-apart
returns-then-not-apart c = never (places_not_valid c.args.account.now c.as_slice.result.now c.in_ok-apart.apart c.as_slice.ensures c.in_ok-apart.ensures c.if-not-apart.true)

pub returns-in-Some : goal.returns-in-Some
returns-in-Some c =
    valid_by_items c.args.account.now c.has_valid_parts.result c.in_ok-apart.apart c.are_items.result c.as_slice.result.now c.as_slice-2.result.now c.in_ok-times.field-0 c.in-Some.times
    c.has_valid_parts.ensures c.if-not-has_valid_parts.false c.as_slice.ensures c.in_ok-apart.ensures c.if-not-apart.false c.as_slice-2.ensures c.in_ok-times.ensures.apart c.in-Some.is c.are_items.ensures

pub returns-in-None : goal.returns-in-None
returns-in-None c = never (names_not_valid c.args.account.now c.as_slice-2.result.now c.in_ok-times.field-0 c.as_slice-2.ensures c.in_ok-times.ensures.apart c.in-None.is)
