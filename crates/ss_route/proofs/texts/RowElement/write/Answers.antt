use Rattle.std.proofs.Common.{◌++◌, codes}
use Rattle.ss_text.specs.Time.{stamp_text}
use Rattle.ss_route.specs.Texts.{json_text, row_text, sortindex_text}
use Rattle.ss_route.proofs.Appending.{both, both_or_err}
use Rattle.ss_route.proofs.texts.RowElement.write.Goals as goal

pub returns : goal.returns
unfolding row_text
returns c =
    let old = c.args.out.now.items in
    let row = c.args.self.now in
    let a = codes "{\"id\":" in
    let b = a ++ json_text c.as_str.result.now in
    let d = b ++ codes ",\"modified\":" in
    let e = d ++ stamp_text row.modified in
    let f = e ++ codes ",\"payload\":" in
    let h = f ++ json_text c.as_str-2.result.now in
    let id = both old c.put.new.out.items c.put_json.new.out.items a (json_text c.as_str.result.now) c.in_ok-put.ensures c.in_ok-put_json.ensures in
    let named = both old c.put_json.new.out.items c.put-2.new.out.items b (codes ",\"modified\":") id c.in_ok-put-2.ensures in
    let modified = both old c.put-2.new.out.items c.push_stamp.new.out.items d (stamp_text row.modified) named c.in_ok-push_stamp.ensures.ok in
    let began = both old c.push_stamp.new.out.items c.put-3.new.out.items e (codes ",\"payload\":") modified c.in_ok-put-3.ensures in
    let payload = both old c.put-3.new.out.items c.put_json-2.new.out.items f (json_text c.as_str-2.result.now) began c.in_ok-put_json-2.ensures in
    let sortindex = both old c.put_json-2.new.out.items c.put_sortindex.new.out.items h (sortindex_text row.sortindex) payload c.in_ok-put_sortindex.ensures in
    rw (← c.as_str.ensures.text, ← c.as_str-2.ensures)
    (both_or_err c.put-4.result old c.put_sortindex.new.out.items c.put-4.new.out.items (h ++ sortindex_text row.sortindex) (codes "}") sortindex c.put-4.ensures)
