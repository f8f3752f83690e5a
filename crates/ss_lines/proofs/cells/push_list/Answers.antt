use Rattle.ss_lines.proofs.Written.{list_is}
use Rattle.ss_lines.proofs.cells.push_list.Goals as goal

pub returns : goal.returns
returns c = cc (list_is c.args.out.now.items c.args.tag.now c.args.cells.now, c.in_ok-push.ensures.items, c.in_ok-push_json_text.ensures.ok, c.in_ok-push_cells.ensures, c.in_ok-extend_from_slice.ensures.items)
