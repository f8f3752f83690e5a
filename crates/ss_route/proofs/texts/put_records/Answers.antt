use Rattle.std.proofs.Common.{◌++◌, map, codes}
use Rattle.ss_route.specs.Texts.{json_text, list_text, object_text, failure_text, records_text}
use Rattle.ss_route.proofs.Appending.{both, both_or_err}
use Rattle.ss_route.proofs.texts.put_records.Goals as goal

pub returns : goal.returns
unfolding records_text
returns c =
    let old = c.args.out.now.items in
    let begin = codes ",\"success\":" in
    let success = list_text (map json_text c.as_slice.result.now) in
    let between = codes ",\"failed\":" in
    let failed = object_text (map failure_text c.as_slice-2.result.now) in
    let first = both old c.put.new.out.items c.put_list.new.out.items begin success c.in_ok-put.ensures c.in_ok-put_list.ensures in
    let second = both old c.put_list.new.out.items c.put-2.new.out.items (begin ++ success) between first c.in_ok-put-2.ensures in
    let third = both old c.put-2.new.out.items c.put_object.new.out.items (begin ++ success ++ between) failed second c.in_ok-put_object.ensures in
    rw (← c.as_slice.ensures, ← c.as_slice-2.ensures)
    (both_or_err c.put-3.result old c.put_object.new.out.items c.put-3.new.out.items (begin ++ success ++ between ++ failed) (codes "}") third c.put-3.ensures)
